-- Which facts stand, according to the rows that change and strike them.
use Rattle.std.specs.Prelude.{◌&&◌, ◌||◌, All, filter_map, map, not, position, if◌then◌else◌}
use Rattle.std.specs.Cmp.Lexicographic.{bytes_decides}
use Rattle.std.specs.List.{cons_option, list_any}
use Rattle.std.proofs.Common.{◌≡◌, ◌∙◌, ◌<◌, ℕ, suc, List, [], ◌∷◌, ◌++◌, get_or, length, Bool, true, false, Option, Some, None, refl, sym, ap, ap₂, subst, arith, inl, inr}
use Rattle.std.proofs.lemmas.Bool.{and_parts, cases_Bool, cases_lt, or_parts}
use Rattle.std.proofs.lemmas.List.{append-nil}
use Rattle.std.proofs.lemmas.List.Elements.{filter_map-append}
use Rattle.std.proofs.lemmas.List.Folds.{list_any-append, list_any_none}
use Rattle.std.proofs.lemmas.List.Sums.{fold_push}
use Rattle.pb_rows.specs.Name.{same_name}
use Rattle.pb_site.specs.Site.{version_of}
use Rattle.pb_facts.specs.declared.fact.Change.{Change}
use Rattle.pb_facts.specs.declared.fact.Change.TheVariants.{Amount, Level}
use Rattle.pb_facts.specs.declared.fact.Fact.{Fact}
use Rattle.pb_facts.specs.declared.fact.Fact.TheVariants.{Reading, Transfer, Dip}
use Rattle.pb_facts.specs.declared.facts.KeptFact.{KeptFact}
use Rattle.pb_facts.specs.Changes.{changed, fits}
use Rattle.pb_facts.specs.Fact.{id_of}
use Rattle.pb_facts.specs.Facts.{NoRepeats, has_id, is_duplicate_fact, is_live_with, is_repeat, is_repeat_by_day, live_facts}
use Rattle.pb_kinds.specs.declared.rows.Effect.{Effect}
use Rattle.pb_kinds.specs.declared.rows.Edit.TheVariants as edits
use Rattle.pb_kinds.specs.declared.rows.Effect.TheVariants.{Declares, Opens, Books, Edits, Closes, Assays}
use Rattle.pb_book.specs.Accepted.{IsAcceptable}
use Rattle.pb_book.specs.Live.{LiveLaw, change_in, is_struck_in, last_change, later_of, live_in, live_of, strikes, values_by}
use Rattle.pb_kinds.specs.declared.rows.StoredRow.{StoredRow}
use Rattle.pb_book.specs.Assays.{assays_of}
use Rattle.pb_book.specs.Rows.{declared_of, facts_after, facts_of, live, periods_of}
use Rattle.pb_book.proofs.AcceptedLemmas.{by_accepted}
use Rattle.pb_book.proofs.ConsistentLemmas.{amended_one, fine, struck_one}
use Rattle.pb_book.proofs.KeptLemmas.{facts_more}
use Rattle.pb_periods.proofs.NameLemmas.{any_map}
use Rattle.pb_periods.proofs.PeriodLemmas.{fails_at, none_at_first, position_at_first}
use Rattle.pb_book.proofs.PlainLemmas.{AreWellIn, none_well, well_step}
use Rattle.pb_book.specs.Causes.{is_misfit}

-- a fact that came with a row, as the rows leave it
abbrev kept_of : List StoredRow → Fact → KeptFact
kept_of rows fact = record { fact = values_by (last_change rows (id_of fact)) fact; struck = is_struck_in rows (id_of fact) }

abbrev kept_in : List StoredRow → Effect → Option KeptFact
kept_in rows (Books fact late) = Some (kept_of rows fact)
kept_in rows effect = None

abbrev kept_all : List StoredRow → List StoredRow → List KeptFact
kept_all rows over = filter_map (λ (stored : StoredRow). kept_in rows stored.effect) over

-- ---- one more row

struck_more : (rows : List StoredRow) (stored : StoredRow) (id : List ℕ) → is_struck_in (rows ++ stored ∷ []) id ≡ (is_struck_in rows id || (strikes id stored.effect || false))
struck_more rows stored id = list_any-append (λ (s : StoredRow). strikes id s.effect) rows (stored ∷ [])

change_more : (rows : List StoredRow) (stored : StoredRow) (id : List ℕ) → last_change (rows ++ stored ∷ []) id ≡ later_of (change_in id stored.effect) (last_change rows id)
change_more rows stored id = fold_push (λ (last : Option Change) (s : StoredRow). later_of (change_in id s.effect) last) None rows stored

none_more : (b : Bool) → (b || (false || false)) ≡ b
none_more true = refl
none_more false = refl

-- a row that neither amends the fact nor strikes it
untouched : (rows : List StoredRow) (stored : StoredRow) (fact : Fact) → strikes (id_of fact) stored.effect ≡ false → change_in (id_of fact) stored.effect ≡ None
    → kept_of (rows ++ stored ∷ []) fact ≡ kept_of rows fact
untouched rows stored fact spared same =
    let struck : is_struck_in (rows ++ stored ∷ []) (id_of fact) ≡ is_struck_in rows (id_of fact) =
    struck_more rows stored (id_of fact) ∙ ap (λ (b : Bool). is_struck_in rows (id_of fact) || (b || false)) spared ∙ none_more (is_struck_in rows (id_of fact)) in
    let change : last_change (rows ++ stored ∷ []) (id_of fact) ≡ last_change rows (id_of fact) =
    change_more rows stored (id_of fact) ∙ ap (λ (o : Option Change). later_of o (last_change rows (id_of fact))) same in
    ap₂ (λ (o : Option Change) (b : Bool). let k : KeptFact = record { fact = values_by o fact; struck = b } in k) change struck

-- a fact keeps its id, whatever its values
same_id : (change : Change) (fact : Fact) → id_of (changed change fact) ≡ id_of fact
same_id (Amount grams variance) (Reading id stream day old_grams old_variance) = refl
same_id (Amount grams variance) (Transfer id stream first last old_grams old_variance) = refl
same_id (Amount grams variance) (Dip id tank day mm density old_variance) = refl
same_id (Level mm density variance) (Reading id stream day grams old_variance) = refl
same_id (Level mm density variance) (Transfer id stream first last grams old_variance) = refl
same_id (Level mm density variance) (Dip id tank day old_mm old_density old_variance) = refl

id_by : (change : Option Change) (fact : Fact) → id_of (values_by change fact) ≡ id_of fact
id_by None fact = refl
id_by (Some change) fact = same_id change fact

-- a second change leaves nothing of the first
changed_twice : (change before : Change) (fact : Fact) → fits change (changed before fact) ≡ true → changed change (changed before fact) ≡ changed change fact
changed_twice (Amount g v) (Amount grams variance) (Reading id stream day old_grams old_variance) fit = refl
changed_twice (Amount g v) (Amount grams variance) (Transfer id stream first last old_grams old_variance) fit = refl
changed_twice (Amount g v) (Amount grams variance) (Dip id tank day mm density old_variance) fit = refl
changed_twice (Amount g v) (Level mm density variance) (Reading id stream day grams old_variance) fit = refl
changed_twice (Amount g v) (Level mm density variance) (Transfer id stream first last grams old_variance) fit = refl
changed_twice (Amount g v) (Level mm density variance) (Dip id tank day old_mm old_density old_variance) fit = cc fit
changed_twice (Level m r v) (Amount grams variance) (Reading id stream day old_grams old_variance) fit = cc fit
changed_twice (Level m r v) (Amount grams variance) (Transfer id stream first last old_grams old_variance) fit = cc fit
changed_twice (Level m r v) (Amount grams variance) (Dip id tank day mm density old_variance) fit = refl
changed_twice (Level m r v) (Level mm density variance) (Reading id stream day grams old_variance) fit = refl
changed_twice (Level m r v) (Level mm density variance) (Transfer id stream first last grams old_variance) fit = refl
changed_twice (Level m r v) (Level mm density variance) (Dip id tank day old_mm old_density old_variance) fit = refl

changed_by : (change : Change) (before : Option Change) (fact : Fact) → fits change (values_by before fact) ≡ true → changed change (values_by before fact) ≡ changed change fact
changed_by change None fact fit = refl
changed_by change (Some before) fact fit = changed_twice change before fact fit

-- a strike
strike_kept : (rows : List StoredRow) (at : ℕ) (id reason : List ℕ) (fact : Fact) → kept_of (rows ++ record { at = at; effect = Edits id edits.Strike reason } ∷ []) fact ≡ struck_one id (kept_of rows fact)
strike_kept rows at id reason fact = elim (cases_Bool (same_name (id_of fact) id)) [
  | inl is ↦
      let own : has_id id (kept_of rows fact) ≡ true = ap (λ (name : List ℕ). same_name name id) (id_by (last_change rows (id_of fact)) fact) ∙ is in
      let struck : is_struck_in (rows ++ stored ∷ []) (id_of fact) ≡ true = struck_more rows stored (id_of fact) ∙ ap (λ (b : Bool). is_struck_in rows (id_of fact) || (b || false)) is ∙ up (is_struck_in rows (id_of fact)) in
      ap₂ (λ (o : Option Change) (b : Bool). let k : KeptFact = record { fact = values_by o fact; struck = b } in k) (change_more rows stored (id_of fact)) struck
      ∙ sym (ap (λ (b : Bool). if b then (let k : KeptFact = record { fact = (kept_of rows fact).fact; struck = true } in k) else kept_of rows fact) own)
  | inr other ↦
      let own : has_id id (kept_of rows fact) ≡ false = ap (λ (name : List ℕ). same_name name id) (id_by (last_change rows (id_of fact)) fact) ∙ other in
      untouched rows stored fact other refl
      ∙ sym (ap (λ (b : Bool). if b then (let k : KeptFact = record { fact = (kept_of rows fact).fact; struck = true } in k) else kept_of rows fact) own)
]
  where
    stored : StoredRow
    stored = record { at = at; effect = Edits id edits.Strike reason }

    up : (b : Bool) → (b || (true || false)) ≡ true
    up true = refl
    up false = refl

-- a live fact of the id that the change fits, or one of another id
abbrev IsAmendable : List ℕ → Change → KeptFact → Type 0
IsAmendable id change k = has_id id k ≡ true → (k.struck ≡ false) × (fits change k.fact ≡ true)

-- an amendment
amend_kept : (rows : List StoredRow) (at : ℕ) (id : List ℕ) (change : Change) (reason : List ℕ) (fact : Fact) → IsAmendable id change (kept_of rows fact)
    → kept_of (rows ++ record { at = at; effect = Edits id (edits.Change change) reason } ∷ []) fact ≡ amended_one id change (kept_of rows fact)
amend_kept rows at id change reason fact can = elim (cases_Bool (same_name (id_of fact) id)) [
  | inl is ↦
      let own : has_id id (kept_of rows fact) ≡ true = ap (λ (name : List ℕ). same_name name id) (id_by (last_change rows (id_of fact)) fact) ∙ is in
      let alive = (can own).0 in
      let live_with : is_live_with id (kept_of rows fact) ≡ true = rw (alive, own) refl in
      let struck : is_struck_in (rows ++ stored ∷ []) (id_of fact) ≡ false = struck_more rows stored (id_of fact) ∙ none_more (is_struck_in rows (id_of fact)) ∙ alive in
      let last : last_change (rows ++ stored ∷ []) (id_of fact) ≡ Some change =
      change_more rows stored (id_of fact) ∙ ap (λ (b : Bool). later_of (if b then Some change else None) (last_change rows (id_of fact))) is in
      let values : changed change (values_by (last_change rows (id_of fact)) fact) ≡ changed change fact = changed_by change (last_change rows (id_of fact)) fact (can own).1 in
      ap₂ (λ (o : Option Change) (b : Bool). let k : KeptFact = record { fact = values_by o fact; struck = b } in k) last struck
      ∙ ap (λ (f : Fact). live f) (sym values)
      ∙ sym (ap (λ (b : Bool). if b then (let k : KeptFact = record { fact = changed change (kept_of rows fact).fact; struck = false } in k) else kept_of rows fact) live_with)
  | inr other ↦
      let own : has_id id (kept_of rows fact) ≡ false = ap (λ (name : List ℕ). same_name name id) (id_by (last_change rows (id_of fact)) fact) ∙ other in
      let dead : is_live_with id (kept_of rows fact) ≡ false = not_both (not (kept_of rows fact).struck) own in
      untouched rows stored fact refl (ap (λ (b : Bool). if b then Some change else None) other)
      ∙ sym (ap (λ (b : Bool). if b then (let k : KeptFact = record { fact = changed change (kept_of rows fact).fact; struck = false } in k) else kept_of rows fact) dead)
]
  where
    stored : StoredRow
    stored = record { at = at; effect = Edits id (edits.Change change) reason }

    not_both : (a : Bool) {b : Bool} → b ≡ false → (a && b) ≡ false
    not_both true is = is
    not_both false is = refl

-- all facts that came with some rows, with one more row
all_more : (rows : List StoredRow) (stored : StoredRow) (g : KeptFact → KeptFact) (G : KeptFact → Type 0) (over : List StoredRow)
    → ((fact : Fact) → G (kept_of rows fact) → kept_of (rows ++ stored ∷ []) fact ≡ g (kept_of rows fact)) → All G (kept_all rows over)
    → kept_all (rows ++ stored ∷ []) over ≡ map g (kept_all rows over)
all_more rows stored g G [] step all = refl
all_more rows stored g G (s ∷ over) step all = by (λ rest. all_more rows stored g G over step rest) s.effect refl
  where
    tail : (k : KeptFact) → All G (k ∷ kept_all rows over) → All G (kept_all rows over)
    tail k everyone = λ i e lt. everyone (suc i) e (omega (arith, lt))

    of_fact : (fact : Fact) → (All G (kept_all rows over) → kept_all (rows ++ stored ∷ []) over ≡ map g (kept_all rows over)) → All G (kept_of rows fact ∷ kept_all rows over)
        → kept_of (rows ++ stored ∷ []) fact ∷ kept_all (rows ++ stored ∷ []) over ≡ g (kept_of rows fact) ∷ map g (kept_all rows over)
    of_fact fact go everyone =
        ap₂ (λ (k : KeptFact) (ks : List KeptFact). k ∷ ks) (step fact (everyone 0 (kept_of rows fact) (omega arith))) (go (tail (kept_of rows fact) everyone))

    by : (All G (kept_all rows over) → kept_all (rows ++ stored ∷ []) over ≡ map g (kept_all rows over)) → (effect : Effect) → s.effect ≡ effect
        → kept_all (rows ++ stored ∷ []) (s ∷ over) ≡ map g (kept_all rows (s ∷ over))
    by go (Books fact late) is = rw is (of_fact fact go (rw is at all))
    by go (Declares declared) is = rw is (go (rw is at all))
    by go (Opens name first last) is = rw is (go (rw is at all))
    by go (Edits id how reason) is = rw is (go (rw is at all))
    by go (Closes name) is = rw is (go (rw is at all))
    by go (Assays assay) is = rw is (go (rw is at all))

-- ---- all rows

same_map : {X : Type 0} (xs : List X) → map (λ x. x) xs ≡ xs
same_map [] = refl
same_map (x ∷ xs) = ap (λ ys. x ∷ ys) (same_map xs)

any_same : {X : Type 0} (p q : X → Bool) (xs : List X) → ((x : X) → p x ≡ q x) → list_any p xs ≡ list_any q xs
any_same p q [] same = refl
any_same p q (x ∷ xs) same = ap₂ (λ (a b : Bool). a || b) (same x) (any_same p q xs same)

-- the facts are those that came with the rows, as the rows leave them; and no row speaks of an id that no fact has
record IsMeant (rows : List StoredRow) : Type 0 where
  well : AreWellIn rows
  facts : facts_of rows ≡ kept_all rows rows
  fresh : (id : List ℕ) → list_any (has_id id) (facts_of rows) ≡ false → (is_struck_in rows id ≡ false) × (last_change rows id ≡ None)

-- the facts that came with the rows and one more
split_more : (rows : List StoredRow) (stored : StoredRow) → kept_all (rows ++ stored ∷ []) (rows ++ stored ∷ []) ≡ kept_all (rows ++ stored ∷ []) rows ++ kept_all (rows ++ stored ∷ []) (stored ∷ [])
split_more rows stored = filter_map-append (λ (s : StoredRow). kept_in (rows ++ stored ∷ []) s.effect) rows (stored ∷ [])

-- a row without a strike or a change doesn't change the facts before it
left : (rows : List StoredRow) (stored : StoredRow) → ((id : List ℕ) → strikes id stored.effect ≡ false) → ((id : List ℕ) → change_in id stored.effect ≡ None)
    → kept_all (rows ++ stored ∷ []) rows ≡ kept_all rows rows
left rows stored spared same =
    all_more rows stored (λ k. k) (λ k. Unit {0}) rows (λ fact any. untouched rows stored fact (spared (id_of fact)) (same (id_of fact))) (λ i e lt. tt) ∙ same_map (kept_all rows rows)

-- no row speaks of an id, and still none does if a row without a strike or a change joins them
still_fresh : (rows : List StoredRow) (stored : StoredRow) (id : List ℕ) → strikes id stored.effect ≡ false → change_in id stored.effect ≡ None
    → (is_struck_in rows id ≡ false) × (last_change rows id ≡ None) → (is_struck_in (rows ++ stored ∷ []) id ≡ false) × (last_change (rows ++ stored ∷ []) id ≡ None)
still_fresh rows stored id spared same before = (
  struck_more rows stored id ∙ ap₂ (λ (a b : Bool). a || (b || false)) before.0 spared,
  change_more rows stored id ∙ ap₂ later_of same before.1,
)

-- a row without a fact, a strike or a change
meant_same : (rows : List StoredRow) (stored : StoredRow) → AreWellIn (rows ++ stored ∷ []) → facts_after (facts_of rows) stored.effect ≡ facts_of rows → kept_in (rows ++ stored ∷ []) stored.effect ≡ None
    → ((id : List ℕ) → strikes id stored.effect ≡ false) → ((id : List ℕ) → change_in id stored.effect ≡ None) → IsMeant rows → IsMeant (rows ++ stored ∷ [])
meant_same rows stored well_now unchanged none spared same right = record {
  well = well_now;
  facts = facts_now ∙ right.facts ∙ sym (split_more rows stored ∙ ap₂ (λ (xs : List KeptFact) (o : Option KeptFact). xs ++ cons_option o []) (left rows stored spared same) none ∙ append-nil (kept_all rows rows));
  fresh = λ id missing. still_fresh rows stored id (spared id) (same id) (right.fresh id (ap (list_any (has_id id)) (sym facts_now) ∙ missing));
}
  where
    facts_now : facts_of (rows ++ stored ∷ []) ≡ facts_of rows
    facts_now = facts_more rows stored ∙ unchanged

-- a row with a new fact
meant_fact : (rows : List StoredRow) (stored : StoredRow) (fact : Fact) → AreWellIn (rows ++ stored ∷ []) → facts_after (facts_of rows) stored.effect ≡ facts_of rows ++ live fact ∷ []
    → kept_in (rows ++ stored ∷ []) stored.effect ≡ Some (kept_of (rows ++ stored ∷ []) fact) → ((id : List ℕ) → strikes id stored.effect ≡ false) → ((id : List ℕ) → change_in id stored.effect ≡ None)
    → is_duplicate_fact (facts_of rows) fact ≡ false → IsMeant rows → IsMeant (rows ++ stored ∷ [])
meant_fact rows stored fact well_now added here spared same new right = record {
  well = well_now;
  facts = facts_now ∙ ap (λ (ks : List KeptFact). ks ++ live fact ∷ []) right.facts
      ∙ sym (split_more rows stored ∙ ap₂ (λ (xs : List KeptFact) (o : Option KeptFact). xs ++ cons_option o []) (left rows stored spared same) (here ∙ ap Some own));
  fresh = λ id missing.
      let all : (list_any (has_id id) (facts_of rows) || (has_id id (live fact) || false)) ≡ false =
      sym (list_any-append (has_id id) (facts_of rows) (live fact ∷ [])) ∙ ap (list_any (has_id id)) (sym facts_now) ∙ missing in
      still_fresh rows stored id (spared id) (same id) (right.fresh id (or_parts (list_any (has_id id) (facts_of rows)) (has_id id (live fact) || false) all).0);
}
  where
    facts_now : facts_of (rows ++ stored ∷ []) ≡ facts_of rows ++ live fact ∷ []
    facts_now = facts_more rows stored ∙ added

    unused : list_any (has_id (id_of fact)) (facts_of rows) ≡ false
    unused = list_any_none (has_id (id_of fact)) (facts_of rows) (λ k d lt.
        (or_parts (has_id (id_of fact) (get_or (facts_of rows) k d)) (is_repeat_by_day fact (get_or (facts_of rows) k d)) (fails_at (is_repeat fact) (facts_of rows) k d new lt)).0)

    own : kept_of (rows ++ stored ∷ []) fact ≡ live fact
    own =
        let before = right.fresh (id_of fact) unused in
        untouched rows stored fact (spared (id_of fact)) (same (id_of fact))
        ∙ ap₂ (λ (o : Option Change) (b : Bool). let k : KeptFact = record { fact = values_by o fact; struck = b } in k) before.1 before.0

-- an id that a live fact has
used : (id other : List ℕ) (kept : List KeptFact) → list_any (is_live_with other) kept ≡ true → list_any (has_id id) kept ≡ false → same_name id other ≡ false
used id other kept some none = elim (cases_Bool (same_name id other)) [
  | inl same ↦
      let is : id ≡ other = (bytes_decides id other).0 same in
      let nobody : list_any (has_id other) kept ≡ false = rw is at none in
      let nobody_lives : list_any (is_live_with other) kept ≡ false = list_any_none (is_live_with other) kept (λ k d lt. not_both (not (get_or kept k d).struck) (fails_at (has_id other) kept k d nobody lt)) in
      cc (sym nobody_lives ∙ some)
  | inr apart_from ↦ apart_from
]
  where
    not_both : (a : Bool) {b : Bool} → b ≡ false → (a && b) ≡ false
    not_both true is = is
    not_both false is = refl

up : (b : Bool) → not b ≡ false → b ≡ true
up true is = refl
up false is = cc is

-- two kept facts with the same id repeat each other
same_ids : (id : List ℕ) (a b : KeptFact) → has_id id a ≡ true → has_id id b ≡ true → is_repeat b.fact a ≡ true
same_ids id a b first second =
    let a_is : id_of a.fact ≡ id = (bytes_decides (id_of a.fact) id).0 first in
    let b_is : id_of b.fact ≡ id = (bytes_decides (id_of b.fact) id).0 second in
    let same : has_id (id_of b.fact) a ≡ true = (bytes_decides (id_of a.fact) (id_of b.fact)).1 (a_is ∙ sym b_is) in
    rw same refl

-- if a live fact has the id, each fact of the id is that one
all_amendable : (id : List ℕ) (change : Change) (kept : List KeptFact) → NoRepeats kept → list_any (is_live_with id) kept ≡ true → list_any (is_misfit id change) kept ≡ false
    → All (IsAmendable id change) kept
all_amendable id change kept apart some fit = λ i d lt own. by (position (is_live_with id) kept) refl i d lt own
  where
    down : (b : Bool) → not b ≡ true → b ≡ false
    down false is = refl
    down true is = cc is

    fitting : (b : Bool) → (true && not b) ≡ false → b ≡ true
    fitting true is = refl
    fitting false is = cc is

    by : (o : Option ℕ) → position (is_live_with id) kept ≡ o → (i : ℕ) (d : KeptFact) → i < length kept → has_id id (get_or kept i d) ≡ true
        → ((get_or kept i d).struck ≡ false) × (fits change (get_or kept i d).fact ≡ true)
    by None none i d lt own = cc (sym (none_at_first (is_live_with id) kept (sym none)) ∙ some)
    by (Some j) at i d lt own =
        let found = position_at_first (is_live_with id) kept j d (sym at) in
        let live_j = and_parts (not (get_or kept j d).struck) (has_id id (get_or kept j d)) found.1 in
        let same : i ≡ j = elim (cases_lt i j) [
          | inl before ↦ cc (sym (apart i j d before found.0) ∙ same_ids id (get_or kept i d) (get_or kept j d) own live_j.1)
          | inr from ↦ elim (cases_lt j i) [
            | inl behind ↦ cc (sym (apart j i d behind lt) ∙ same_ids id (get_or kept j d) (get_or kept i d) live_j.1 own)
            | inr to ↦ omega (arith, from, to)
          ]
        ] in
        let alive : is_live_with id (get_or kept i d) ≡ true = rw same found.1 in
        let misfit : is_misfit id change (get_or kept i d) ≡ false = fails_at (is_misfit id change) kept i d fit lt in
        (down (get_or kept i d).struck (and_parts (not (get_or kept i d).struck) (has_id id (get_or kept i d)) alive).0, fitting (fits change (get_or kept i d).fact) (rw alive at misfit))

struck_same_id : (id other : List ℕ) (k : KeptFact) → has_id id (struck_one other k) ≡ has_id id k
struck_same_id id other k = elim (cases_Bool (has_id other k)) [ inl is ↦ rw is refl | inr apart_from ↦ rw apart_from refl ]

amended_same_id : (id other : List ℕ) (change : Change) (k : KeptFact) → has_id id (amended_one other change k) ≡ has_id id k
amended_same_id id other change k = elim (cases_Bool (is_live_with other k)) [
  | inl is ↦ rw is (ap (λ (name : List ℕ). same_name name id) (same_id change k.fact))
  | inr apart_from ↦ rw apart_from refl
]

meant_strike : (rows : List StoredRow) (at : ℕ) (id reason : List ℕ) → AreWellIn (rows ++ record { at = at; effect = Edits id edits.Strike reason } ∷ []) → list_any (is_live_with id) (facts_of rows) ≡ true
    → IsMeant rows → IsMeant (rows ++ record { at = at; effect = Edits id edits.Strike reason } ∷ [])
meant_strike rows at id reason well_now known right = record {
  well = well_now;
  facts = facts_now ∙ ap (map (struck_one id)) right.facts
      ∙ sym (split_more rows stored ∙ append-nil (kept_all (rows ++ stored ∷ []) rows)
      ∙ all_more rows stored (struck_one id) (λ k. Unit {0}) rows (λ fact any. strike_kept rows at id reason fact) (λ i e lt. tt));
  fresh = λ other missing.
      let before : list_any (has_id other) (facts_of rows) ≡ false =
      sym (any_map (has_id other) (struck_one id) (facts_of rows) ∙ any_same (λ (k : KeptFact). has_id other (struck_one id k)) (has_id other) (facts_of rows) (struck_same_id other id))
      ∙ ap (list_any (has_id other)) (sym facts_now) ∙ missing in
      still_fresh rows stored other (used other id (facts_of rows) known before) refl (right.fresh other before);
}
  where
    stored : StoredRow
    stored = record { at = at; effect = Edits id edits.Strike reason }

    facts_now : facts_of (rows ++ stored ∷ []) ≡ map (struck_one id) (facts_of rows)
    facts_now = facts_more rows stored

meant_amend : (rows : List StoredRow) (at : ℕ) (id : List ℕ) (change : Change) (reason : List ℕ) → AreWellIn (rows ++ record { at = at; effect = Edits id (edits.Change change) reason } ∷ [])
    → list_any (is_live_with id) (facts_of rows) ≡ true → list_any (is_misfit id change) (facts_of rows) ≡ false → IsMeant rows → IsMeant (rows ++ record { at = at; effect = Edits id (edits.Change change) reason } ∷ [])
meant_amend rows at id change reason well_now known fit right = record {
  well = well_now;
  facts = facts_now ∙ ap (map (amended_one id change)) right.facts
      ∙ sym (split_more rows stored ∙ append-nil (kept_all (rows ++ stored ∷ []) rows)
      ∙ all_more rows stored (amended_one id change) (IsAmendable id change) rows (λ fact can. amend_kept rows at id change reason fact can)
      (subst (All (IsAmendable id change)) right.facts (all_amendable id change (facts_of rows) right.well.apart known fit)));
  fresh = λ other missing.
      let before : list_any (has_id other) (facts_of rows) ≡ false =
      sym (any_map (has_id other) (amended_one id change) (facts_of rows) ∙ any_same (λ (k : KeptFact). has_id other (amended_one id change k)) (has_id other) (facts_of rows) (amended_same_id other id change))
      ∙ ap (list_any (has_id other)) (sym facts_now) ∙ missing in
      still_fresh rows stored other refl (ap (λ (b : Bool). if b then Some change else None) (used other id (facts_of rows) known before)) (right.fresh other before);
}
  where
    stored : StoredRow
    stored = record { at = at; effect = Edits id (edits.Change change) reason }

    facts_now : facts_of (rows ++ stored ∷ []) ≡ map (amended_one id change) (facts_of rows)
    facts_now = facts_more rows stored

meant_step : (rows : List StoredRow) (at : ℕ) (effect : Effect) → IsMeant rows → IsAcceptable rows effect → IsMeant (rows ++ record { at = at; effect = effect } ∷ [])
meant_step rows at (Declares declared) right accepted =
    let stored : StoredRow = record { at = at; effect = Declares declared } in
    meant_same rows stored (well_step rows at (Declares declared) right.well accepted) refl refl (λ id. refl) (λ id. refl) right
meant_step rows at (Opens name first last) right accepted =
    let stored : StoredRow = record { at = at; effect = Opens name first last } in
    meant_same rows stored (well_step rows at (Opens name first last) right.well accepted) refl refl (λ id. refl) (λ id. refl) right
meant_step rows at (Closes name) right accepted =
    let stored : StoredRow = record { at = at; effect = Closes name } in
    meant_same rows stored (well_step rows at (Closes name) right.well accepted) refl refl (λ id. refl) (λ id. refl) right
meant_step rows at (Assays assay) right accepted =
    let stored : StoredRow = record { at = at; effect = Assays assay } in
    meant_same rows stored (well_step rows at (Assays assay) right.well accepted) refl refl (λ id. refl) (λ id. refl) right
meant_step rows at (Books fact late) right accepted =
    let stored : StoredRow = record { at = at; effect = Books fact late } in
    let good = fine (version_of (declared_of rows)) (declared_of rows) (facts_of rows) (periods_of rows) (assays_of rows) (Books fact late) accepted.no_cause in
    meant_fact rows stored fact (well_step rows at (Books fact late) right.well accepted) refl refl (λ id. refl) (λ id. refl) good.new right
meant_step rows at (Edits id (edits.Change change) reason) right accepted =
    let good = fine (version_of (declared_of rows)) (declared_of rows) (facts_of rows) (periods_of rows) (assays_of rows) (Edits id (edits.Change change) reason) accepted.no_cause in
    meant_amend rows at id change reason (well_step rows at (Edits id (edits.Change change) reason) right.well accepted) (up (list_any (is_live_with id) (facts_of rows)) good.known) good.matching right
meant_step rows at (Edits id edits.Strike reason) right accepted =
    let good = fine (version_of (declared_of rows)) (declared_of rows) (facts_of rows) (periods_of rows) (assays_of rows) (Edits id edits.Strike reason) accepted.no_cause in
    meant_strike rows at id reason (well_step rows at (Edits id edits.Strike reason) right.well accepted) (up (list_any (is_live_with id) (facts_of rows)) good.known) right

-- the live ones among them
live_all : (rows over : List StoredRow) → live_facts (kept_all rows over) ≡ filter_map (λ (s : StoredRow). live_in rows s.effect) over
live_all rows [] = refl
live_all rows (s ∷ over) = by (live_all rows over) s.effect refl
  where
    by : live_facts (kept_all rows over) ≡ filter_map (λ (q : StoredRow). live_in rows q.effect) over → (effect : Effect) → s.effect ≡ effect
        → live_facts (kept_all rows (s ∷ over)) ≡ filter_map (λ (q : StoredRow). live_in rows q.effect) (s ∷ over)
    by go (Books fact late) is = rw is (ap (cons_option (live_of rows fact)) go)
    by go (Declares declared) is = rw is go
    by go (Opens name first last) is = rw is go
    by go (Edits id how reason) is = rw is go
    by go (Closes name) is = rw is go
    by go (Assays assay) is = rw is go

pub live_law : LiveLaw
live_law rows accepted =
    let meant = by_accepted IsMeant (record { well = none_well; facts = refl; fresh = λ id none. (refl, refl) }) (λ before stored right own. meant_step before stored.at stored.effect right own) rows accepted in
    ap live_facts meant.facts ∙ live_all rows rows
