-- What follows from accepted rows.
use Rattle.std.specs.Prelude.{◌||◌, All, filter_map, map, is_none, not, if◌then◌else◌}
use Rattle.std.specs.Cmp.Lexicographic.{bytes_decides}
use Rattle.std.specs.List.{list_any}
use Rattle.std.proofs.Common.{◌≡◌, ◌∙◌, ℕ, ℤ, List, [], ◌∷◌, ◌++◌, ◌<◌, get_or, length, Bool, true, false, Option, Some, None, refl, sym, ap, subst, arith, inl, inr}
use Rattle.std.proofs.lemmas.Bool.{cases_Bool, or_parts}
use Rattle.std.proofs.lemmas.Int.{ints}
use Rattle.std.proofs.lemmas.List.{append-nil, get_or-map, length-map}
use Rattle.std.proofs.lemmas.List.Elements.{All-push, filter_map-append}
use Rattle.std.proofs.lemmas.List.Folds.{list_any-append}
use Rattle.std.proofs.lemmas.List.Quantifiers.{all_pairs_push}
use Rattle.pb_rows.specs.Name.{same_name}
use Rattle.pb_strap.specs.declared.strap.Point.{Point}
use Rattle.pb_strap.specs.Table.{rises, volume_of}
use Rattle.pb_strap.proofs.VolumeLemmas.{table_grows}
use Rattle.pb_site.specs.declared.declared.Declared.{Declared}
use Rattle.pb_site.specs.declared.declared.Declared.TheVariants.{Version2, Boundary, Tank, Strap, Stream, CritGlobal, CritNodal, CritMeasure}
use Rattle.pb_site.specs.declared.declared.Version.{Version}
use Rattle.pb_site.specs.Row.{declares_tank, point_of}
use Rattle.pb_site.specs.Site.{is_tank, points_of_tank, table_of, version_of, service_in}
use Rattle.pb_site.specs.Faults.{is_declaration_out_of_order}
use Rattle.pb_facts.specs.declared.fact.Fact.{Fact}
use Rattle.pb_facts.specs.declared.fact.Fact.TheVariants.{Reading, Transfer, Dip}
use Rattle.pb_facts.specs.declared.facts.KeptFact.{KeptFact}
use Rattle.pb_facts.specs.declared.fact.Change.{Change}
use Rattle.pb_facts.specs.declared.fact.Change.TheVariants.{Amount, Level}
use Rattle.pb_facts.specs.Changes.{IsChangeInRange, amended, changed, struck}
use Rattle.pb_facts.specs.Fact.{IsFactInRange, is_too_long, named_by}
use Rattle.pb_facts.specs.Facts.{has_id, is_live_with}
use Rattle.pb_book.specs.declared.answer.Refused.TheVariants.{Unknown, Duplicate, Order, Mismatch, Sealed, Closed, Range, Full}
use Rattle.pb_facts.specs.declared.assays.Assay.{Assay}
use Rattle.pb_kinds.specs.declared.rows.Effect.{Effect}
use Rattle.pb_kinds.specs.declared.rows.Edit.TheVariants as edits
use Rattle.pb_kinds.specs.declared.rows.Effect.TheVariants.{Declares, Opens, Books, Edits, Closes, Assays}
use Rattle.pb_periods.specs.declared.period.Period.{Period}
use Rattle.pb_book.specs.Accepted.{AreAccepted, AreConsistent, IsAcceptable}
use Rattle.pb_periods.specs.Apart.{IsApartFrom, is_named, shares_a_day}
use Rattle.pb_kinds.specs.Ranges.{IsEffectInRange}
use Rattle.pb_periods.specs.Ranges.{IsPeriod}
use Rattle.pb_book.specs.Assays.{assays_of}
use Rattle.pb_book.specs.Refusals.{is_book_full, is_closed, is_duplicate, is_mismatch, is_out_of_order, is_out_of_range, is_out_of_service, is_outside_table, is_sealed, is_unknown, refusal_behind}
use Rattle.pb_kinds.specs.declared.rows.StoredRow.{StoredRow}
use Rattle.pb_periods.specs.Closing.{closed_if_named}
use Rattle.pb_book.specs.Rows.{declared_of, facts_after, facts_of, live, open_period, periods_after, periods_of}
use Rattle.pb_book.proofs.AcceptedLemmas.{by_accepted}
use Rattle.pb_book.proofs.KeptLemmas.{declared_more, declared_same, facts_more, periods_more_of}
use Rattle.pb_periods.proofs.PeriodLemmas.{closed_apart, closed_days, fails_at}
use Rattle.pb_book.specs.Causes.{is_moved_outside}

-- no cause holds for a row
pub record IsFine (version : Version) (declared : List Declared) (kept : List KeptFact) (periods : List Period) (assays : List Assay) (effect : Effect) : Type 0 where
  pub known : is_unknown declared kept periods effect ≡ false
  pub new : is_duplicate declared kept periods assays effect ≡ false
  pub order : is_out_of_order declared effect ≡ false
  pub matching : is_mismatch declared kept periods effect ≡ false
  pub sealed : is_sealed version periods effect ≡ false
  pub opened : is_closed version declared periods effect ≡ false
  pub range : is_out_of_range version declared kept periods effect ≡ false
  pub room : is_book_full version declared kept periods assays effect ≡ false

pub fine : (version : Version) (declared : List Declared) (kept : List KeptFact) (periods : List Period) (assays : List Assay) (effect : Effect) → refusal_behind version declared kept periods assays effect ≡ None
    → IsFine version declared kept periods assays effect
fine version declared kept periods assays effect none =
    by (is_unknown declared kept periods effect) (is_duplicate declared kept periods assays effect) (is_out_of_order declared effect) (is_mismatch declared kept periods effect) (is_sealed version periods effect)
    (is_closed version declared periods effect) (is_out_of_range version declared kept periods effect) (is_book_full version declared kept periods assays effect) refl refl refl refl refl refl refl refl none
  where
    by : (a b c d e f g h : Bool) → is_unknown declared kept periods effect ≡ a → is_duplicate declared kept periods assays effect ≡ b → is_out_of_order declared effect ≡ c
        → is_mismatch declared kept periods effect ≡ d → is_sealed version periods effect ≡ e → is_closed version declared periods effect ≡ f → is_out_of_range version declared kept periods effect ≡ g
        → is_book_full version declared kept periods assays effect ≡ h
        → (if a then Some Unknown else if b then Some Duplicate else if c then Some Order else if d then Some Mismatch else if e then Some Sealed else if f then Some Closed
        else if g then Some Range else if h then Some Full else None) ≡ None → IsFine version declared kept periods assays effect
    by true b c d e f g h known new order matching sealed opened range room none = cc none
    by false true c d e f g h known new order matching sealed opened range room none = cc none
    by false false true d e f g h known new order matching sealed opened range room none = cc none
    by false false false true e f g h known new order matching sealed opened range room none = cc none
    by false false false false true f g h known new order matching sealed opened range room none = cc none
    by false false false false false true g h known new order matching sealed opened range room none = cc none
    by false false false false false false true h known new order matching sealed opened range room none = cc none
    by false false false false false false false true known new order matching sealed opened range room none = cc none
    by false false false false false false false false known new order matching sealed opened range room none =
        record { known = known; new = new; order = order; matching = matching; sealed = sealed; opened = opened; range = range; room = room }

-- a fact in its range
pub record IsFactInside (version : Version) (declared : List Declared) (fact : Fact) : Type 0 where
  pub serving : is_out_of_service (service_in version declared (named_by fact)) fact ≡ false
  pub short : is_too_long fact ≡ false
  pub inside : is_outside_table declared fact ≡ false

pub range_parts : (version : Version) (declared : List Declared) (kept : List KeptFact) (periods : List Period) (fact : Fact) (late : Bool) → is_out_of_range version declared kept periods (Books fact late) ≡ false
    → IsFactInside version declared fact
range_parts version declared kept periods fact late range =
    let parts = or_parts (is_out_of_service (service_in version declared (named_by fact)) fact) (is_too_long fact || is_outside_table declared fact) range in
    let others = or_parts (is_too_long fact) (is_outside_table declared fact) parts.1 in
    record { serving = parts.0; short = others.0; inside = others.1 }

-- ---- tables that grow

-- a tank's table with one more declaration
table_more : (declared : List Declared) (row : Declared) (tank : List ℕ) → is_tank declared tank ≡ true
    → table_of (declared ++ row ∷ []) tank ≡ Some (points_of_tank declared tank ++ filter_map (point_of tank) (row ∷ []))
table_more declared row tank is =
    let there : is_tank (declared ++ row ∷ []) tank ≡ true = list_any-append (declares_tank tank) declared (row ∷ []) ∙ rw is refl in
    rw there (ap (λ (points : List Point). Some points) (filter_map-append (point_of tank) declared (row ∷ [])))

-- a volume by the old table is a volume by the table with one more declaration
volume_more : (declared : List Declared) (row : Declared) (tank : List ℕ) (level volume : ℤ) → is_declaration_out_of_order declared row ≡ false
    → volume_of (points_of_tank declared tank) level ≡ Some volume → volume_of (points_of_tank declared tank ++ filter_map (point_of tank) (row ∷ [])) level ≡ Some volume
volume_more declared (Strap name mm ml) tank level volume order at = elim (cases_Bool (same_name name tank)) [
  | inl same ↦
      let is : name ≡ tank = (bytes_decides name tank).0 same in
      let rising : rises (points_of_tank declared tank) mm ml ≡ true = up (rises (points_of_tank declared tank) mm ml) (subst (λ (t : List ℕ). not (rises (points_of_tank declared t) mm ml) ≡ false) is order) in
      rw same (table_grows (points_of_tank declared tank) mm ml level volume rising at)
  | inr other ↦ rw (other, append-nil (points_of_tank declared tank)) at
]
  where
    up : (b : Bool) → not b ≡ false → b ≡ true
    up true e = refl
    up false e = cc e
volume_more declared Version2 tank level volume order at = rw (append-nil (points_of_tank declared tank)) at
volume_more declared (Boundary name) tank level volume order at = rw (append-nil (points_of_tank declared tank)) at
volume_more declared (Declared.Unit name) tank level volume order at = rw (append-nil (points_of_tank declared tank)) at
volume_more declared (Tank name base service) tank level volume order at = rw (append-nil (points_of_tank declared tank)) at
volume_more declared (Stream name from to kind base service) tank level volume order at = rw (append-nil (points_of_tank declared tank)) at
volume_more declared (CritGlobal dof value) tank level volume order at = rw (append-nil (points_of_tank declared tank)) at
volume_more declared (CritNodal value) tank level volume order at = rw (append-nil (points_of_tank declared tank)) at
volume_more declared (CritMeasure value) tank level volume order at = rw (append-nil (points_of_tank declared tank)) at

-- a dip that lies in its table stays there
stays_in_table : (declared : List Declared) (row : Declared) (fact : Fact) → is_declaration_out_of_order declared row ≡ false → is_outside_table declared fact ≡ false
    → is_outside_table (declared ++ row ∷ []) fact ≡ false
stays_in_table declared row (Reading id stream day grams variance) order inside = refl
stays_in_table declared row (Transfer id stream first last grams variance) order inside = refl
stays_in_table declared row (Dip id tank day mm density variance) order inside = elim (cases_Bool (is_tank declared tank)) [
  | inl is ↦ by is (volume_of (points_of_tank declared tank) mm) refl (rw is at inside)
  | inr none ↦ cc (rw none at inside)
]
  where
    by : is_tank declared tank ≡ true → (o : Option ℤ) → volume_of (points_of_tank declared tank) mm ≡ o → is_none o ≡ false → is_outside_table (declared ++ row ∷ []) (Dip id tank day mm density variance) ≡ false
    by is None at inside = cc inside
    by is (Some volume) at inside = rw (table_more declared row tank is, volume_more declared row tank mm volume order at) refl

-- what an amendment and a strike make of one fact
abbrev pub amended_one : List ℕ → Change → KeptFact → KeptFact
amended_one id change k = if is_live_with id k then record { fact = changed change k.fact; struck = false } else k

abbrev pub struck_one : List ℕ → KeptFact → KeptFact
struck_one id k = if has_id id k then record { fact = k.fact; struck = true } else k

-- ---- one more row

more_declared : (version : Version) (declared : List Declared) (kept : List KeptFact) (periods : List Period) (assays : List Assay) (row : Declared) → AreConsistent declared kept periods
    → IsFine version declared kept periods assays (Declares row) → AreConsistent (declared ++ row ∷ []) kept periods
more_declared version declared kept periods assays row right good = record {
  days = right.days;
  apart = right.apart;
  ranges = right.ranges;
  in_tables = λ i d lt. stays_in_table declared row _ good.order (right.in_tables i d lt);
}

more_periods : (version : Version) (declared : List Declared) (kept : List KeptFact) (periods : List Period) (assays : List Assay) (name : List ℕ) (first last : ℤ) → AreConsistent declared kept periods
    → IsFine version declared kept periods assays (Opens name first last) → IsEffectInRange (Opens name first last)
    → AreConsistent declared kept (periods ++ open_period name first last ∷ [])
more_periods version declared kept periods assays name first last right good range =
    let period = open_period name first last in
    let days : IsPeriod period = record { begins = range.0; ends = range.1; rises = omega (arith, ints, good.order); few = omega (arith, ints, good.range) } in record {
      days = All-push IsPeriod periods period right.days days;
      apart = all_pairs_push IsApartFrom periods period right.apart
          (λ k d lt. record { names = fails_at (is_named name) periods k d good.new lt; days = fails_at (shares_a_day first last) periods k d good.matching lt });
      ranges = right.ranges;
      in_tables = right.in_tables;
    }

-- one more fact that is in order, with a level that lies in its table
more_facts : (declared : List Declared) (kept : List KeptFact) (periods : List Period) (fact : Fact) → AreConsistent declared kept periods
    → IsFactInRange fact → is_outside_table declared fact ≡ false → AreConsistent declared (kept ++ live fact ∷ []) periods
more_facts declared kept periods fact right range good = record {
  days = right.days;
  apart = right.apart;
  ranges = All-push (λ (k : KeptFact). IsFactInRange k.fact) kept (live fact) right.ranges range;
  in_tables = All-push (λ (k : KeptFact). is_outside_table declared k.fact ≡ false) kept (live fact) right.in_tables
      good;
}

-- what holds for each item's image
pub all_images : {X Y : Type 0} (P : X → Type 0) (Q : Y → Type 0) (f : X → Y) (xs : List X) → All P xs
    → ((k : ℕ) (d : X) → k < length xs → P (get_or xs k d) → Q (f (get_or xs k d))) → All Q (map f xs)
all_images P Q f [] all step = λ i e lt. absurd (omega (arith, lt))
all_images P Q f (x ∷ xs) all step = λ i e lt.
    let within : i < length (x ∷ xs) = omega (arith, lt, length-map (x ∷ xs) f) in
    subst Q (sym (get_or-map f (x ∷ xs) i x e within)) (step i x within (all i x within))

-- a fact with other values in their ranges
changed_in_range : (change : Change) (fact : Fact) → IsChangeInRange change → IsFactInRange fact → IsFactInRange (changed change fact)
changed_in_range (Amount grams variance) (Reading id stream day old_grams old_variance) new old = (old.0, new.0, new.1)
changed_in_range (Amount grams variance) (Transfer id stream first last old_grams old_variance) new old = (old.0, old.1, new.0, new.1)
changed_in_range (Amount grams variance) (Dip id tank day mm density old_variance) new old = old
changed_in_range (Level mm density variance) (Reading id stream day grams old_variance) new old = old
changed_in_range (Level mm density variance) (Transfer id stream first last grams old_variance) new old = old
changed_in_range (Level mm density variance) (Dip id tank day old_mm old_density old_variance) new old = (old.0, new.0, new.1, new.2)

-- one fact with other values
amended_facts : (declared : List Declared) (kept : List KeptFact) (periods : List Period) (id : List ℕ) (change : Change) → AreConsistent declared kept periods
    → IsChangeInRange change → list_any (is_moved_outside declared id change) kept ≡ false → AreConsistent declared (amended id change kept) periods
amended_facts declared kept periods id change right range good = record {
  days = right.days;
  apart = right.apart;
  ranges = all_images (λ (k : KeptFact). IsFactInRange k.fact) (λ (k : KeptFact). IsFactInRange k.fact) (amended_one id change) kept right.ranges (λ k d lt old. in_range (get_or kept k d) old);
  in_tables = all_images (λ (k : KeptFact). is_outside_table declared k.fact ≡ false) (λ (k : KeptFact). is_outside_table declared k.fact ≡ false) (amended_one id change) kept right.in_tables
      (λ k d lt old. in_table (get_or kept k d) (fails_at (is_moved_outside declared id change) kept k d good lt) old);
}
  where
    in_range : (k : KeptFact) → IsFactInRange k.fact → IsFactInRange (amended_one id change k).fact
    in_range k old = elim (cases_Bool (is_live_with id k)) [
      | inl is ↦ rw is (changed_in_range change k.fact range old)
      | inr other ↦ rw other old
    ]

    in_table : (k : KeptFact) → is_moved_outside declared id change k ≡ false → is_outside_table declared k.fact ≡ false → is_outside_table declared (amended_one id change k).fact ≡ false
    in_table k moved old = elim (cases_Bool (is_live_with id k)) [
      | inl is ↦ rw is (rw is at moved)
      | inr other ↦ rw other old
    ]

-- one fact struck
struck_facts : (declared : List Declared) (kept : List KeptFact) (periods : List Period) (id : List ℕ) → AreConsistent declared kept periods → AreConsistent declared (struck id kept) periods
struck_facts declared kept periods id right = record {
  days = right.days;
  apart = right.apart;
  ranges = all_images (λ (k : KeptFact). IsFactInRange k.fact) (λ (k : KeptFact). IsFactInRange k.fact) (struck_one id) kept right.ranges
      (λ k d lt old. subst IsFactInRange (sym (same_fact (get_or kept k d))) old);
  in_tables = all_images (λ (k : KeptFact). is_outside_table declared k.fact ≡ false) (λ (k : KeptFact). is_outside_table declared k.fact ≡ false) (struck_one id) kept right.in_tables
      (λ k d lt old. ap (is_outside_table declared) (same_fact (get_or kept k d)) ∙ old);
}
  where
    same_fact : (k : KeptFact) → (struck_one id k).fact ≡ k.fact
    same_fact k = elim (cases_Bool (has_id id k)) [ inl is ↦ rw is refl | inr other ↦ rw other refl ]

-- one period closed
closed_periods : (declared : List Declared) (kept : List KeptFact) (periods : List Period) (name : List ℕ) → AreConsistent declared kept periods
    → AreConsistent declared kept (map (closed_if_named name) periods)
closed_periods declared kept periods name right = record {
  days = closed_days name periods right.days;
  apart = closed_apart name periods right.apart;
  ranges = right.ranges;
  in_tables = right.in_tables;
}

abbrev AreSound : List StoredRow → Type 0
AreSound rows = AreConsistent (declared_of rows) (facts_of rows) (periods_of rows)

-- the parts with one more row
sound_by : (rows : List StoredRow) (at : ℕ) (effect : Effect) → declared_of (record { at = at; effect = effect } ∷ []) ≡ []
    → AreConsistent (declared_of rows) (facts_after (facts_of rows) effect) (periods_after (periods_of rows) effect) → AreSound (rows ++ record { at = at; effect = effect } ∷ [])
sound_by rows at effect none right =
    let stored : StoredRow = record { at = at; effect = effect } in
    rw (declared_same rows stored none, facts_more rows stored, periods_more_of rows stored) right

one_more : (rows : List StoredRow) (at : ℕ) (effect : Effect) → AreSound rows → IsAcceptable rows effect → AreSound (rows ++ record { at = at; effect = effect } ∷ [])
one_more rows at (Declares row) right accepted =
    let stored : StoredRow = record { at = at; effect = Declares row } in
    rw (declared_more rows stored, facts_more rows stored, periods_more_of rows stored)
    (more_declared (version_of (declared_of rows)) (declared_of rows) (facts_of rows) (periods_of rows) (assays_of rows) row right (fine _ _ _ _ _ _ accepted.no_cause))
one_more rows at (Opens name first last) right accepted =
    sound_by rows at (Opens name first last) refl
    (more_periods (version_of (declared_of rows)) (declared_of rows) (facts_of rows) (periods_of rows) (assays_of rows) name first last right (fine _ _ _ _ _ _ accepted.no_cause) accepted.in_range)
one_more rows at (Books fact late) right accepted =
    let good = fine (version_of (declared_of rows)) (declared_of rows) (facts_of rows) (periods_of rows) (assays_of rows) (Books fact late) accepted.no_cause in
    let inside = (range_parts (version_of (declared_of rows)) (declared_of rows) (facts_of rows) (periods_of rows) fact late good.range).inside in
    sound_by rows at (Books fact late) refl (more_facts (declared_of rows) (facts_of rows) (periods_of rows) fact right accepted.in_range inside)
one_more rows at (Edits id (edits.Change change) reason) right accepted =
    sound_by rows at (Edits id (edits.Change change) reason) refl
    (amended_facts (declared_of rows) (facts_of rows) (periods_of rows) id change right accepted.in_range (fine (version_of (declared_of rows)) (declared_of rows) (facts_of rows) (periods_of rows) (assays_of rows) (Edits id (edits.Change change) reason) accepted.no_cause).range)
one_more rows at (Edits id edits.Strike reason) right accepted = sound_by rows at (Edits id edits.Strike reason) refl (struck_facts (declared_of rows) (facts_of rows) (periods_of rows) id right)
one_more rows at (Closes name) right accepted = sound_by rows at (Closes name) refl (closed_periods (declared_of rows) (facts_of rows) (periods_of rows) name right)
one_more rows at (Assays assay) right accepted = sound_by rows at (Assays assay) refl right

pub consistent : (rows : List StoredRow) → AreAccepted rows → AreConsistent (declared_of rows) (facts_of rows) (periods_of rows)
consistent rows accepted =
    by_accepted AreSound
    (record { days = λ i d lt. absurd (omega (arith, lt)); apart = λ i j d before lt. absurd (omega (arith, lt)); ranges = λ i d lt. absurd (omega (arith, lt)); in_tables = λ i d lt. absurd (omega (arith, lt)) })
    (λ before stored right own. one_more before stored.at stored.effect right own) rows accepted
