-- The plain rows of accepted rows: none is refused.
use Rattle.std.specs.Prelude.{is_none, ◌||◌, ◌&&◌, All, filter_map, find, map, nat_le, not, option_and_then}
use Rattle.std.specs.List.{cons_option, list_any}
use Rattle.std.specs.Option.{option_map}
use Rattle.std.proofs.Common.{◌≡◌, ◌∙◌, ◌+◌, ◌<◌, ◌≤◌, ℕ, ℤ, List, [], ◌∷◌, ◌++◌, get_or, length, Bool, true, false, Option, Some, None, refl, sym, ap, subst, arith, inl, inr, append_assoc, length-append}
use Rattle.std.proofs.lemmas.Bool.{cases_Bool, leb-false, leb-true, or_parts}
use Rattle.std.proofs.lemmas.List.{append-nil, get_or-map, length-map, map-append}
use Rattle.std.proofs.lemmas.List.Elements.{All-push, filter_map-append}
use Rattle.std.proofs.lemmas.List.Folds.{list_any_none}
use Rattle.std.proofs.lemmas.List.Quantifiers.{all_pairs_push}
use Rattle.std.proofs.Math.ListN.{get_or-append}
use Rattle.std.proofs.Math.Seq.{get_or-append_seam}
use Rattle.pb_limits.specs.Limits.{most_facts, most_periods}
use Rattle.pb_rows.specs.Name.{same_name}
use Rattle.pb_site.specs.declared.declared.Arc.{Arc}
use Rattle.pb_site.specs.declared.declared.ArcKind.{ArcKind}
use Rattle.pb_site.specs.declared.declared.Declared.{Declared}
use Rattle.pb_site.specs.declared.declared.Declared.TheVariants.{Version2, Boundary, Tank, Strap, Stream, CritGlobal, CritNodal, CritMeasure}
use Rattle.pb_site.specs.declared.declared.Service.{Service}
use Rattle.pb_site.specs.declared.declared.Version.{Version}
use Rattle.pb_site.specs.declared.declared.Version.TheVariants.{One, Two}
use Rattle.pb_site.specs.Row.{arc_in}
use Rattle.pb_site.specs.Site.{arc_named, boundary_names, kind_of, node_names, service_in, version_of}
use Rattle.pb_facts.specs.declared.fact.Change.{Change}
use Rattle.pb_facts.specs.declared.fact.Change.TheVariants.{Amount, Level}
use Rattle.pb_facts.specs.declared.fact.Fact.{Fact}
use Rattle.pb_facts.specs.declared.fact.Fact.TheVariants.{Reading, Transfer, Dip}
use Rattle.pb_facts.specs.declared.facts.KeptFact.{KeptFact}
use Rattle.pb_facts.specs.Changes.{changed}
use Rattle.pb_facts.specs.Fact.{IsFactInRange, id_of, is_fact_out_of_order, is_too_long, named_by}
use Rattle.pb_facts.specs.Facts.{NoRepeats, are_facts_full, has_id, is_duplicate_fact, is_live_with, is_repeat, live_fact, live_facts}
use Rattle.pb_facts.specs.declared.assays.Assay.{Assay}
use Rattle.pb_kinds.specs.declared.rows.Effect.{Effect}
use Rattle.pb_kinds.specs.declared.rows.Edit.TheVariants as edits
use Rattle.pb_kinds.specs.declared.rows.Effect.TheVariants.{Declares, Opens, Books, Edits, Closes, Assays}
use Rattle.pb_periods.specs.declared.period.Period.{Period}
use Rattle.pb_book.specs.Accepted.{AreAccepted, AreInTables, IsAcceptable}
use Rattle.pb_periods.specs.Apart.{is_named, shares_a_day}
use Rattle.pb_book.specs.Assays.{assays_of}
use Rattle.pb_book.specs.Plain.{PlainLaw, booked, numbered, opened, plain_stored, settled, settled_rows}
use Rattle.pb_kinds.specs.Ranges.{IsEffectInRange}
use Rattle.pb_kinds.specs.Versions.{may_declare, may_do}
use Rattle.pb_book.specs.Refusals.{is_of_other_kind, is_of_plant, is_out_of_service, is_outside_table, is_sealed_by, names_other, refusal_behind, refusal_of}
use Rattle.pb_periods.specs.Closing.{closed_if_named, is_closed_named, is_unserved_in}
use Rattle.pb_kinds.specs.declared.rows.StoredRow.{StoredRow}
use Rattle.pb_book.specs.Rows.{declared_of, facts_after, facts_of, live, open_period, periods_after, periods_of, version_at}
use Rattle.pb_periods.specs.Touching.{is_closed_in_service, some_closed, touches_in, some_closed_with}
use Rattle.pb_book.proofs.AcceptedLemmas.{accepted_more, by_accepted, none_accepted}
use Rattle.pb_book.proofs.ConsistentLemmas.{IsFine, amended_one, consistent, fine, range_parts, struck_one}
use Rattle.pb_book.proofs.KeptLemmas.{assays_more, assays_same, declared_more, declared_same, facts_more, periods_more_of}
use Rattle.pb_periods.proofs.NameLemmas.{any_map}
use Rattle.pb_periods.proofs.PeriodLemmas.{fails_at}

-- ---- the kind of what a fact names, and its service, stay the same if more is declared

-- the kind and the service of an arc
abbrev kind_and_service : Arc → ArcKind × Option Service
kind_and_service arc = (arc.kind, arc.service)

-- an arc that is found has this kind and this service
record IsSeen (kind : ArcKind) (service : Option Service) (found : Option Arc) : Type 0 where
  arc : Arc
  there : found ≡ Some arc
  kind_is : arc.kind ≡ kind
  service_is : arc.service ≡ service

seen_arc : (x : ArcKind × Option Service) (found : Option Arc) → option_map kind_and_service found ≡ Some x → IsSeen x.0 x.1 found
seen_arc x None is = cc is
seen_arc x (Some arc) is =
    let same : kind_and_service arc ≡ x = cc is in
    record { arc = arc; there = refl; kind_is = ap (λ (p : ArcKind × Option Service). p.0) same; service_is = ap (λ (p : ArcKind × Option Service). p.1) same }

abbrev seen_by : List (List ℕ) → List (List ℕ) → List ℕ → List Declared → Option (ArcKind × Option Service)
seen_by boundaries nodes name declared = option_map kind_and_service (find (λ (arc : Arc). same_name name arc.name) (filter_map (arc_in boundaries nodes) declared))

seen_stays : (bs ns more_bs more_ns : List (List ℕ)) (name : List ℕ) (x : ArcKind × Option Service) (declared more : List Declared) → seen_by bs ns name declared ≡ Some x
    → seen_by more_bs more_ns name (declared ++ more) ≡ Some x
seen_stays bs ns more_bs more_ns name x [] more is = cc is
seen_stays bs ns more_bs more_ns name x (Tank own base days ∷ declared) more is = elim (cases_Bool (same_name name own)) [
  | inl same ↦ rw same (rw same at is)
  | inr other ↦ rw other (seen_stays bs ns more_bs more_ns name x declared more (rw other at is))
]
seen_stays bs ns more_bs more_ns name x (Stream own from to sort base days ∷ declared) more is = elim (cases_Bool (same_name name own)) [
  | inl same ↦ rw same (rw same at is)
  | inr other ↦ rw other (seen_stays bs ns more_bs more_ns name x declared more (rw other at is))
]
seen_stays bs ns more_bs more_ns name x (Version2 ∷ declared) more is = seen_stays bs ns more_bs more_ns name x declared more is
seen_stays bs ns more_bs more_ns name x (Declared.Unit own ∷ declared) more is = seen_stays bs ns more_bs more_ns name x declared more is
seen_stays bs ns more_bs more_ns name x (Boundary own ∷ declared) more is = seen_stays bs ns more_bs more_ns name x declared more is
seen_stays bs ns more_bs more_ns name x (Strap tank mm ml ∷ declared) more is = seen_stays bs ns more_bs more_ns name x declared more is
seen_stays bs ns more_bs more_ns name x (CritGlobal dof value ∷ declared) more is = seen_stays bs ns more_bs more_ns name x declared more is
seen_stays bs ns more_bs more_ns name x (CritNodal value ∷ declared) more is = seen_stays bs ns more_bs more_ns name x declared more is
seen_stays bs ns more_bs more_ns name x (CritMeasure value ∷ declared) more is = seen_stays bs ns more_bs more_ns name x declared more is

-- the version stays once something is declared
version_stays : (declared more : List Declared) → 1 ≤ length declared → version_of (declared ++ more) ≡ version_of declared
version_stays [] more some = absurd (omega (arith, some))
version_stays (Version2 ∷ declared) more some = refl
version_stays (d ∷ declared) more some = refl

-- what a fact names is declared, of its kind, and in service
pub record IsFactOf (declared : List Declared) (fact : Fact) : Type 0 where
  known : names_other fact (kind_of declared (named_by fact)) ≡ false
  matching : is_of_other_kind fact (kind_of declared (named_by fact)) ≡ false
  order : is_fact_out_of_order fact ≡ false
  short : is_too_long fact ≡ false
  serving : is_out_of_service (service_in (version_of declared) declared (named_by fact)) fact ≡ false

names_other_none : (fact : Fact) → names_other fact None ≡ true
names_other_none (Reading id stream day grams variance) = refl
names_other_none (Transfer id stream first last grams variance) = refl
names_other_none (Dip id tank day mm density variance) = refl

-- an arc of a name is declared
some_declared : (declared : List Declared) (name : List ℕ) (arc : Arc) → arc_named declared name ≡ Some arc → 1 ≤ length declared
some_declared [] name arc is = cc is
some_declared (d ∷ declared) name arc is = omega arith

service_stays : (version : Version) (declared grown : List Declared) (name : List ℕ) (service : Option Service) (arc more : Arc) → arc_named declared name ≡ Some arc → arc.service ≡ service
    → arc_named grown name ≡ Some more → more.service ≡ service → service_in version grown name ≡ service_in version declared name
service_stays One declared grown name service arc more at own there other = refl
service_stays Two declared grown name service arc more at own there other =
    ap (option_and_then (λ (a : Arc). a.service)) there ∙ other ∙ sym own ∙ sym (ap (option_and_then (λ (a : Arc). a.service)) at)

fact_of_more : (declared more : List Declared) (fact : Fact) → IsFactOf declared fact → IsFactOf (declared ++ more) fact
fact_of_more declared more fact right = by (arc_named declared (named_by fact)) refl
  where
    by : (found : Option Arc) → arc_named declared (named_by fact) ≡ found → IsFactOf (declared ++ more) fact
    by None is =
        let none : kind_of declared (named_by fact) ≡ None = ap (option_map (λ (arc : Arc). arc.kind)) is in
        cc (sym (names_other_none fact) ∙ sym (ap (names_other fact) none) ∙ right.known)
    by (Some arc) is =
        let grown = declared ++ more in
        let seen : option_map kind_and_service (arc_named declared (named_by fact)) ≡ Some (kind_and_service arc) = ap (option_map kind_and_service) is in
        let grown_seen =
        seen_stays (boundary_names declared) (node_names declared) (boundary_names grown) (node_names grown) (named_by fact) (kind_and_service arc) declared more seen in
        let stays : IsSeen arc.kind arc.service (arc_named grown (named_by fact)) = seen_arc (kind_and_service arc) (arc_named grown (named_by fact)) grown_seen in
        let kind : kind_of grown (named_by fact) ≡ kind_of declared (named_by fact) =
        ap (option_map (λ (a : Arc). a.kind)) stays.there ∙ ap Some stays.kind_is ∙ sym (ap (option_map (λ (a : Arc). a.kind)) is) in
        let version = version_stays declared more (some_declared declared (named_by fact) arc is) in
        let service : service_in (version_of grown) grown (named_by fact) ≡ service_in (version_of declared) declared (named_by fact) =
        ap (λ (v : Version). service_in v grown (named_by fact)) version
        ∙ service_stays (version_of declared) declared grown (named_by fact) arc.service arc stays.arc is refl stays.there stays.service_is in
        record {
          known = ap (names_other fact) kind ∙ right.known;
          matching = ap (is_of_other_kind fact) kind ∙ right.matching;
          order = right.order;
          short = right.short;
          serving = ap (λ (o : Option Service). is_out_of_service o fact) service ∙ right.serving;
        }

-- a fact with other values is of the same
changed_fact : (declared : List Declared) (change : Change) (fact : Fact) → IsFactOf declared fact → IsFactOf declared (changed change fact)
changed_fact declared (Amount grams variance) (Reading id stream day old_grams old_variance) right = record { known = right.known; matching = right.matching; order = refl; short = refl; serving = right.serving }
changed_fact declared (Amount grams variance) (Transfer id stream first last old_grams old_variance) right =
    record { known = right.known; matching = right.matching; order = right.order; short = right.short; serving = right.serving }
changed_fact declared (Amount grams variance) (Dip id tank day mm density old_variance) right = right
changed_fact declared (Level mm density variance) (Reading id stream day grams old_variance) right = right
changed_fact declared (Level mm density variance) (Transfer id stream first last grams old_variance) right = right
changed_fact declared (Level mm density variance) (Dip id tank day old_mm old_density old_variance) right = record { known = right.known; matching = right.matching; order = refl; short = refl; serving = right.serving }

-- ---- kept facts repeat none before them

-- a fact with other values repeats what it repeated before, and is repeated by the same facts
changed_later : (change : Change) (fact : Fact) (k : KeptFact) → is_repeat (changed change fact) k ≡ is_repeat fact k
changed_later (Amount grams variance) (Reading id stream day old_grams old_variance) k = refl
changed_later (Amount grams variance) (Transfer id stream first last old_grams old_variance) k = refl
changed_later (Amount grams variance) (Dip id tank day mm density old_variance) k = refl
changed_later (Level mm density variance) (Reading id stream day grams old_variance) k = refl
changed_later (Level mm density variance) (Transfer id stream first last grams old_variance) k = refl
changed_later (Level mm density variance) (Dip id tank day old_mm old_density old_variance) k = refl

changed_earlier : (change : Change) (later fact : Fact) → is_repeat later (live (changed change fact)) ≡ is_repeat later (live fact)
changed_earlier change (Reading i s d g v) fact = by change fact
  where
    by : (change : Change) (fact : Fact) → is_repeat (Reading i s d g v) (live (changed change fact)) ≡ is_repeat (Reading i s d g v) (live fact)
    by (Amount grams variance) (Reading id stream day old_grams old_variance) = refl
    by (Amount grams variance) (Transfer id stream first last old_grams old_variance) = refl
    by (Amount grams variance) (Dip id tank day mm density old_variance) = refl
    by (Level mm density variance) (Reading id stream day grams old_variance) = refl
    by (Level mm density variance) (Transfer id stream first last grams old_variance) = refl
    by (Level mm density variance) (Dip id tank day old_mm old_density old_variance) = refl
changed_earlier change (Transfer i s f l g v) fact = by change fact
  where
    by : (change : Change) (fact : Fact) → is_repeat (Transfer i s f l g v) (live (changed change fact)) ≡ is_repeat (Transfer i s f l g v) (live fact)
    by (Amount grams variance) (Reading id stream day old_grams old_variance) = refl
    by (Amount grams variance) (Transfer id stream first last old_grams old_variance) = refl
    by (Amount grams variance) (Dip id tank day mm density old_variance) = refl
    by (Level mm density variance) (Reading id stream day grams old_variance) = refl
    by (Level mm density variance) (Transfer id stream first last grams old_variance) = refl
    by (Level mm density variance) (Dip id tank day old_mm old_density old_variance) = refl
changed_earlier change (Dip i t d m r v) fact = by change fact
  where
    by : (change : Change) (fact : Fact) → is_repeat (Dip i t d m r v) (live (changed change fact)) ≡ is_repeat (Dip i t d m r v) (live fact)
    by (Amount grams variance) (Reading id stream day old_grams old_variance) = refl
    by (Amount grams variance) (Transfer id stream first last old_grams old_variance) = refl
    by (Amount grams variance) (Dip id tank day mm density old_variance) = refl
    by (Level mm density variance) (Reading id stream day grams old_variance) = refl
    by (Level mm density variance) (Transfer id stream first last grams old_variance) = refl
    by (Level mm density variance) (Dip id tank day old_mm old_density old_variance) = refl

-- what doesn't repeat a fact doesn't repeat it amended
amended_earlier : (id : List ℕ) (change : Change) (later : Fact) (k : KeptFact) → is_repeat later k ≡ false → is_repeat later (amended_one id change k) ≡ false
amended_earlier id change later k none = elim (cases_Bool (is_live_with id k)) [
  | inl is ↦ rw is (changed_earlier change later k.fact ∙ lives k is ∙ none)
  | inr other ↦ rw other none
]
  where
    lives : (k : KeptFact) → is_live_with id k ≡ true → is_repeat later (live k.fact) ≡ is_repeat later k
    lives k is = by k.struck refl
      where
        by : (b : Bool) → k.struck ≡ b → is_repeat later (live k.fact) ≡ is_repeat later k
        by false alive = rw alive refl
        by true gone = cc (rw gone at is)

amended_later : (id : List ℕ) (change : Change) (k earlier : KeptFact) → is_repeat k.fact earlier ≡ false → is_repeat (amended_one id change k).fact earlier ≡ false
amended_later id change k earlier none = elim (cases_Bool (is_live_with id k)) [
  | inl is ↦ rw is (changed_later change k.fact earlier ∙ none)
  | inr other ↦ rw other none
]

-- nor does it if the fact is struck
struck_earlier : (id : List ℕ) (later : Fact) (k : KeptFact) → is_repeat later k ≡ false → is_repeat later (struck_one id k) ≡ false
struck_earlier id later k none = elim (cases_Bool (has_id id k)) [
  | inl is ↦ rw is (only_id (has_id (id_of later) k) _ none)
  | inr other ↦ rw other none
]
  where
    only_id : (a b : Bool) → (a || b) ≡ false → (a || false) ≡ false
    only_id false b none = refl
    only_id true b none = cc none

struck_later : (id : List ℕ) (k earlier : KeptFact) → is_repeat k.fact earlier ≡ false → is_repeat (struck_one id k).fact earlier ≡ false
struck_later id k earlier none = elim (cases_Bool (has_id id k)) [ inl is ↦ rw is none | inr other ↦ rw other none ]

-- what is needed of the facts so that they can be added again
pub record AreWell (declared : List Declared) (kept : List KeptFact) : Type 0 where
  pub facts : All (λ (k : KeptFact). IsFactOf declared k.fact) kept
  pub apart : NoRepeats kept
  pub few : length kept ≤ most_facts

below : (a b : ℕ) → nat_le a b ≡ false → b < a
below a b is = omega (arith, leb-false a b is)

not_le : (a b : ℕ) → b < a → nat_le a b ≡ false
not_le a b lt = elim (cases_Bool (nat_le a b)) [ inl le ↦ absurd (omega (arith, leb-true a b le, lt)) | inr is ↦ is ]

well_more : (declared : List Declared) (kept : List KeptFact) (fact : Fact) → AreWell declared kept → IsFactOf declared fact → is_duplicate_fact kept fact ≡ false → are_facts_full kept ≡ false
    → AreWell declared (kept ++ live fact ∷ [])
well_more declared kept fact right own new room = record {
  facts = All-push (λ (k : KeptFact). IsFactOf declared k.fact) kept (live fact) right.facts own;
  apart = all_pairs_push (λ (a b : KeptFact). is_repeat b.fact a ≡ false) kept (live fact) right.apart (λ k d lt. fails_at (is_repeat fact) kept k d new lt);
  few = omega (arith, below most_facts (length kept) room, length-append kept (live fact ∷ []));
}

-- facts whose images are each of the same, and repeat what the fact repeated
well_images : (declared : List Declared) (kept : List KeptFact) (f : KeptFact → KeptFact) → AreWell declared kept
    → ((k : KeptFact) → IsFactOf declared k.fact → IsFactOf declared (f k).fact)
    → ((a b : KeptFact) → is_repeat b.fact a ≡ false → is_repeat (f b).fact (f a) ≡ false) → AreWell declared (map f kept)
well_images declared kept f right own apart = record {
  facts = λ i d lt.
      let within : i < length kept = omega (arith, lt, length-map kept f) in
      rw (get_or-map f kept i d d within) (own (get_or kept i d) (right.facts i d within));
  apart = λ i j d before lt.
      let within : j < length kept = omega (arith, lt, length-map kept f) in
      rw (get_or-map f kept i d d (omega (arith, before, within)), get_or-map f kept j d d within) (apart (get_or kept i d) (get_or kept j d) (right.apart i j d before within));
  few = omega (arith, right.few, length-map kept f);
}

abbrev pub AreWellIn : List StoredRow → Type 0
AreWellIn rows = AreWell (declared_of rows) (facts_of rows)

well_by : (rows : List StoredRow) (stored : StoredRow) → declared_of (stored ∷ []) ≡ [] → AreWell (declared_of rows) (facts_after (facts_of rows) stored.effect) → AreWellIn (rows ++ stored ∷ [])
well_by rows stored none right = rw (declared_same rows stored none, facts_more rows stored) right

pub well_step : (rows : List StoredRow) (at : ℕ) (effect : Effect) → AreWellIn rows → IsAcceptable rows effect → AreWellIn (rows ++ record { at = at; effect = effect } ∷ [])
well_step rows at (Declares declared) right accepted =
    let stored : StoredRow = record { at = at; effect = Declares declared } in
    rw (declared_more rows stored, facts_more rows stored) (record {
      facts = λ i d lt. fact_of_more (declared_of rows) (declared ∷ []) _ (right.facts i d lt);
      apart = right.apart;
      few = right.few;
    })
well_step rows at (Opens name first last) right accepted = well_by rows (record { at = at; effect = Opens name first last }) refl right
well_step rows at (Books fact late) right accepted =
    let good = fine (version_of (declared_of rows)) (declared_of rows) (facts_of rows) (periods_of rows) (assays_of rows) (Books fact late) accepted.no_cause in
    let parts = range_parts (version_of (declared_of rows)) (declared_of rows) (facts_of rows) (periods_of rows) fact late good.range in
    let own : IsFactOf (declared_of rows) fact =
    record { known = good.known; matching = good.matching; order = good.order; short = parts.short; serving = parts.serving } in
    well_by rows (record { at = at; effect = Books fact late }) refl (well_more (declared_of rows) (facts_of rows) fact right own good.new good.room)
well_step rows at (Edits id (edits.Change change) reason) right accepted =
    well_by rows (record { at = at; effect = Edits id (edits.Change change) reason }) refl
    (well_images (declared_of rows) (facts_of rows) (amended_one id change) right (λ k own. amended_fact k own)
    (λ a b none. amended_later id change b (amended_one id change a) (amended_earlier id change b.fact a none)))
  where
    amended_fact : (k : KeptFact) → IsFactOf (declared_of rows) k.fact → IsFactOf (declared_of rows) (amended_one id change k).fact
    amended_fact k own = elim (cases_Bool (is_live_with id k)) [ inl is ↦ rw is (changed_fact (declared_of rows) change k.fact own) | inr other ↦ rw other own ]
well_step rows at (Edits id edits.Strike reason) right accepted =
    well_by rows (record { at = at; effect = Edits id edits.Strike reason }) refl
    (well_images (declared_of rows) (facts_of rows) (struck_one id) right (λ k own. struck_fact k own)
    (λ a b none. struck_later id b (struck_one id a) (struck_earlier id b.fact a none)))
  where
    struck_fact : (k : KeptFact) → IsFactOf (declared_of rows) k.fact → IsFactOf (declared_of rows) (struck_one id k).fact
    struck_fact k own = elim (cases_Bool (has_id id k)) [ inl is ↦ rw is own | inr other ↦ rw other own ]
well_step rows at (Closes name) right accepted = well_by rows (record { at = at; effect = Closes name }) refl right
well_step rows at (Assays assay) right accepted = well_by rows (record { at = at; effect = Assays assay }) refl right

pub none_well : AreWellIn []
none_well = record { facts = λ i d lt. absurd (omega (arith, lt)); apart = λ i j d before lt. absurd (omega (arith, lt)); few = omega arith }

pub well : (rows : List StoredRow) → AreAccepted rows → AreWellIn rows
well rows accepted =
    by_accepted AreWellIn none_well
    (λ before stored right own. well_step before stored.at stored.effect right own) rows accepted

-- no two facts have the same id if a row joins accepted ones
pub unique_more : (rows : List StoredRow) (at : ℕ) (effect : Effect) → AreAccepted rows → IsAcceptable rows effect → NoRepeats (facts_of (rows ++ record { at = at; effect = effect } ∷ []))
unique_more rows at effect accepted fine_row = (well_step rows at effect (well rows accepted) fine_row).apart

-- ---- the declarations and periods alone

-- if no condition holds there is no cause
no_cause : (version : Version) (declared : List Declared) (kept : List KeptFact) (periods : List Period) (assays : List Assay) (effect : Effect)
    → IsFine version declared kept periods assays effect → refusal_behind version declared kept periods assays effect ≡ None
no_cause version declared kept periods assays effect good = rw (good.known, good.new, good.order, good.matching, good.sealed, good.opened, good.range, good.room) refl

none_closed_now : (periods : List Period) → some_closed (map opened periods) ≡ false
none_closed_now [] = refl
none_closed_now (period ∷ periods) = none_closed_now periods

none_touched : (touching : Fact → Period → Bool) (fact : Fact) (periods : List Period) → some_closed_with (touching fact) (map opened periods) ≡ false
none_touched touching fact [] = refl
none_touched touching fact (period ∷ periods) = none_touched touching fact periods

none_served : (service : Option Service) (periods : List Period) → list_any (is_closed_in_service service) (map opened periods) ≡ false
none_served service [] = refl
none_served service (period ∷ periods) = none_served service periods

-- no declaration comes too late if no period is closed
none_sealed : (version : Version) (periods : List Period) (declared : Declared) → is_sealed_by version (map opened periods) declared ≡ false
none_sealed One periods declared = unsealed (is_of_plant declared) (none_closed_now periods)
  where
    unsealed : (a : Bool) {b : Bool} → b ≡ false → (a && b) ≡ false
    unsealed true is = is
    unsealed false is = refl
none_sealed Two periods (Tank name base service) = none_served service periods
none_sealed Two periods (Stream name from to sort base service) = none_served service periods
none_sealed Two periods declared = refl

opened_named : (name : List ℕ) (periods : List Period) → list_any (is_named name) (map opened periods) ≡ list_any (is_named name) periods
opened_named name periods = any_map (is_named name) opened periods

opened_days : (first last : ℤ) (periods : List Period) → list_any (shares_a_day first last) (map opened periods) ≡ list_any (shares_a_day first last) periods
opened_days first last periods = any_map (shares_a_day first last) opened periods

opened_closed : (name : List ℕ) (periods : List Period) → map opened (map (closed_if_named name) periods) ≡ map opened periods
opened_closed name [] = refl
opened_closed name (period ∷ periods) = elim (cases_Bool (is_named name period)) [
  | inl is ↦ rw is (ap (λ (ps : List Period). opened period ∷ ps) (opened_closed name periods))
  | inr other ↦ rw other (ap (λ (ps : List Period). opened period ∷ ps) (opened_closed name periods))
]

-- no period of a name is closed if all are open
none_closed_named : (name : List ℕ) (periods : List Period) → list_any (is_closed_named name) (map opened periods) ≡ false
none_closed_named name [] = refl
none_closed_named name (period ∷ periods) = none_closed_named name periods

opened_unserved : (service : Option Service) (name : List ℕ) (periods : List Period)
    → list_any (is_unserved_in service name) (map opened periods) ≡ list_any (is_unserved_in service name) periods
opened_unserved service name periods = any_map (is_unserved_in service name) opened periods

numbered_append : (at : ℕ) (xs ys : List Effect) → numbered at (xs ++ ys) ≡ numbered at xs ++ numbered (at + length xs) ys
numbered_append at [] ys = let same : at ≡ at + 0 = omega arith in ap (λ (n : ℕ). numbered n ys) same
numbered_append at (x ∷ xs) ys =
    let next : at + 1 + length xs ≡ at + length (x ∷ xs) = omega arith in
    ap (λ (rest : List StoredRow). record { at = at; effect = x } ∷ rest) (numbered_append (at + 1) xs ys ∙ ap (λ (n : ℕ). numbered (at + 1) xs ++ numbered n ys) next)

-- rows that declare what is declared, the same periods, all open, these facts and these assays
record IsPlainSoFar (declared : List Declared) (periods : List Period) (facts : List KeptFact) (assays : List Assay) (plain : List StoredRow) : Type 0 where
  accepted : AreAccepted plain
  declares : declared_of plain ≡ declared
  spans : periods_of plain ≡ map opened periods
  has : facts_of plain ≡ facts
  assayed : assays_of plain ≡ assays

abbrev IsBase : List StoredRow → Type 0
IsBase rows = IsPlainSoFar (declared_of rows) (periods_of rows) [] (assays_of rows) (numbered 1 (settled_rows rows))

-- a row that is neither declaration nor period, and gives no assay
base_same : (rows : List StoredRow) (stored : StoredRow) → declared_of (stored ∷ []) ≡ [] → assays_of (stored ∷ []) ≡ [] → settled stored.effect ≡ None
    → map opened (periods_after (periods_of rows) stored.effect) ≡ map opened (periods_of rows) → IsBase rows → IsBase (rows ++ stored ∷ [])
base_same rows stored none bare unsettled spans right =
    let same : settled_rows (rows ++ stored ∷ []) ≡ settled_rows rows =
    filter_map-append (λ (s : StoredRow). settled s.effect) rows (stored ∷ []) ∙ ap (λ (o : Option Effect). settled_rows rows ++ cons_option o []) unsettled ∙ append-nil (settled_rows rows) in
    rw (same, declared_same rows stored none, periods_more_of rows stored, assays_same rows stored bare)
    (record { accepted = right.accepted; declares = right.declares; spans = right.spans ∙ sym spans; has = right.has; assayed = right.assayed })

-- what a row may do in a session of version 1, it may do before any row is stored
declares_first : (declared : Declared) → may_declare (Some One) declared ≡ true → may_declare None declared ≡ true
declares_first Version2 may = refl
declares_first declared may = may

does_first : (effect : Effect) → may_do (Some One) effect ≡ true → may_do None effect ≡ true
does_first (Declares declared) may = declares_first declared may
does_first effect may = refl

-- what a row may do after some rows, it may do after their declarations and periods alone
may_again : (rows : List StoredRow) (effect : Effect) → declared_of (numbered 1 (settled_rows rows)) ≡ declared_of rows → may_do (version_at rows) effect ≡ true
    → may_do (version_at (numbered 1 (settled_rows rows))) effect ≡ true
may_again [] effect same may = may
may_again (stored ∷ rows) effect same may = by (numbered 1 (settled_rows (stored ∷ rows))) same
  where
    by : (plain : List StoredRow) → declared_of plain ≡ declared_of (stored ∷ rows) → may_do (version_at plain) effect ≡ true
    by [] same = does_first effect (subst (λ (ds : List Declared). may_do (Some (version_of ds)) effect ≡ true) (sym same) may)
    by (first ∷ plain) same = subst (λ (ds : List Declared). may_do (Some (version_of ds)) effect ≡ true) (sym same) may

-- one more row after plain ones
plain_more : (declared : List Declared) (periods : List Period) (facts : List KeptFact) (assays : List Assay) (plain : List StoredRow) (at : ℕ) (effect : Effect)
    (ds : List Declared) (ps : List Period) (ks : List KeptFact) (more : List Assay)
    → IsPlainSoFar declared periods facts assays plain → IsFine (version_of declared) declared facts (map opened periods) assays effect → IsEffectInRange effect
    → may_do (version_at plain) effect ≡ true
    → declared ++ declared_of (record { at = at; effect = effect } ∷ []) ≡ ds → periods_after (map opened periods) effect ≡ map opened ps → facts_after facts effect ≡ ks
    → assays ++ assays_of (record { at = at; effect = effect } ∷ []) ≡ more
    → IsPlainSoFar ds ps ks more (plain ++ record { at = at; effect = effect } ∷ [])
plain_more declared periods facts assays plain at effect ds ps ks more right good range may declares spans has assayed =
    let stored : StoredRow = record { at = at; effect = effect } in
    let none : refusal_of plain effect ≡ None =
    rw (right.declares, right.has, right.spans, right.assayed) (no_cause (version_of declared) declared facts (map opened periods) assays effect good) in record {
      accepted = accepted_more plain stored right.accepted (record { no_cause = none; in_range = range; may = may });
      declares = declared_more plain stored ∙ ap (λ (d : List Declared). d ++ declared_of (stored ∷ [])) right.declares ∙ declares;
      spans = periods_more_of plain stored ∙ ap (λ (p : List Period). periods_after p effect) right.spans ∙ spans;
      has = facts_more plain stored ∙ ap (λ (k : List KeptFact). facts_after k effect) right.has ∙ has;
      assayed = assays_more plain stored ∙ ap (λ (a : List Assay). a ++ assays_of (stored ∷ [])) right.assayed ∙ assayed;
    }

base_step : (rows : List StoredRow) (at : ℕ) (effect : Effect) → IsBase rows → IsAcceptable rows effect → IsBase (rows ++ record { at = at; effect = effect } ∷ [])
base_step rows at (Declares declared) right accepted =
    let stored : StoredRow = record { at = at; effect = Declares declared } in
    let good = fine (version_of (declared_of rows)) (declared_of rows) (facts_of rows) (periods_of rows) (assays_of rows) (Declares declared) accepted.no_cause in
    let again : IsFine (version_of (declared_of rows)) (declared_of rows) [] (map opened (periods_of rows)) (assays_of rows) (Declares declared) =
    record {
      known = good.known;
      new = good.new;
      order = good.order;
      matching = good.matching;
      sealed = none_sealed (version_of (declared_of rows)) (periods_of rows) declared;
      opened = refl;
      range = refl;
      room = good.room;
    } in
    let rows_are : numbered 1 (settled_rows (rows ++ stored ∷ [])) ≡ numbered 1 (settled_rows rows) ++ record { at = 1 + length (settled_rows rows); effect = Declares declared } ∷ [] =
    ap (numbered 1) (filter_map-append (λ (s : StoredRow). settled s.effect) rows (stored ∷ [])) ∙ numbered_append 1 (settled_rows rows) (Declares declared ∷ []) in
    rw (rows_are, declared_more rows stored, periods_more_of rows stored, assays_same rows stored refl)
    (plain_more (declared_of rows) (periods_of rows) [] (assays_of rows) (numbered 1 (settled_rows rows)) (1 + length (settled_rows rows)) (Declares declared)
    (declared_of rows ++ declared ∷ []) (periods_of rows) [] (assays_of rows) right again
    accepted.in_range (may_again rows (Declares declared) right.declares accepted.may) refl refl refl (append-nil (assays_of rows)))
base_step rows at (Opens name first last) right accepted =
    let stored : StoredRow = record { at = at; effect = Opens name first last } in
    let periods = periods_of rows in
    let good = fine (version_of (declared_of rows)) (declared_of rows) (facts_of rows) periods (assays_of rows) (Opens name first last) accepted.no_cause in
    let again : IsFine (version_of (declared_of rows)) (declared_of rows) [] (map opened periods) (assays_of rows) (Opens name first last) =
    record {
      known = refl;
      new = opened_named name periods ∙ good.new;
      order = good.order;
      matching = opened_days first last periods ∙ good.matching;
      sealed = refl;
      opened = refl;
      range = good.range;
      room = ap (λ (n : ℕ). nat_le most_periods n) (length-map periods opened) ∙ good.room;
    } in
    let rows_are : numbered 1 (settled_rows (rows ++ stored ∷ [])) ≡ numbered 1 (settled_rows rows) ++ record { at = 1 + length (settled_rows rows); effect = Opens name first last } ∷ [] =
    ap (numbered 1) (filter_map-append (λ (s : StoredRow). settled s.effect) rows (stored ∷ [])) ∙ numbered_append 1 (settled_rows rows) (Opens name first last ∷ []) in
    rw (rows_are, declared_same rows stored refl, periods_more_of rows stored, assays_same rows stored refl)
    (plain_more (declared_of rows) periods [] (assays_of rows) (numbered 1 (settled_rows rows)) (1 + length (settled_rows rows)) (Opens name first last)
    (declared_of rows) (periods ++ open_period name first last ∷ []) [] (assays_of rows) right again
    accepted.in_range (may_again rows (Opens name first last) right.declares accepted.may) (append-nil (declared_of rows)) (sym (map-append opened periods (open_period name first last ∷ []))) refl
    (append-nil (assays_of rows)))
base_step rows at (Assays assay) right accepted =
    let stored : StoredRow = record { at = at; effect = Assays assay } in
    let periods = periods_of rows in
    let assays = assays_of rows in
    let version = version_of (declared_of rows) in
    let good = fine version (declared_of rows) (facts_of rows) periods assays (Assays assay) accepted.no_cause in
    let again : IsFine version (declared_of rows) [] (map opened periods) assays (Assays assay) =
    record {
      known = ap (λ (b : Bool). is_none (kind_of (declared_of rows) assay.stream) || not b) (opened_named assay.period periods) ∙ good.known;
      new = good.new;
      order = refl;
      matching = refl;
      sealed = refl;
      opened = none_closed_named assay.period periods;
      range = opened_unserved (service_in version (declared_of rows) assay.stream) assay.period periods ∙ good.range;
      room = good.room;
    } in
    let rows_are : numbered 1 (settled_rows (rows ++ stored ∷ [])) ≡ numbered 1 (settled_rows rows) ++ record { at = 1 + length (settled_rows rows); effect = Assays assay } ∷ [] =
    ap (numbered 1) (filter_map-append (λ (s : StoredRow). settled s.effect) rows (stored ∷ [])) ∙ numbered_append 1 (settled_rows rows) (Assays assay ∷ []) in
    rw (rows_are, declared_same rows stored refl, periods_more_of rows stored, assays_more rows stored)
    (plain_more (declared_of rows) periods [] assays (numbered 1 (settled_rows rows)) (1 + length (settled_rows rows)) (Assays assay)
    (declared_of rows) periods [] (assays ++ assay ∷ []) right again
    accepted.in_range (may_again rows (Assays assay) right.declares accepted.may) (append-nil (declared_of rows)) refl refl refl)
base_step rows at (Books fact late) right accepted = base_same rows (record { at = at; effect = Books fact late }) refl refl refl refl right
base_step rows at (Edits id (edits.Change change) reason) right accepted = base_same rows (record { at = at; effect = Edits id (edits.Change change) reason }) refl refl refl refl right
base_step rows at (Edits id edits.Strike reason) right accepted = base_same rows (record { at = at; effect = Edits id edits.Strike reason }) refl refl refl refl right
base_step rows at (Closes name) right accepted = base_same rows (record { at = at; effect = Closes name }) refl refl refl (opened_closed name (periods_of rows)) right

base : (rows : List StoredRow) → AreAccepted rows → IsBase rows
base rows accepted =
    by_accepted IsBase (record { accepted = none_accepted; declares = refl; spans = refl; has = refl; assayed = refl })
    (λ before stored right own. base_step before stored.at stored.effect right own) rows accepted

-- ---- the live facts after them

live_more : (before : List KeptFact) (k : KeptFact) → live_facts (before ++ k ∷ []) ≡ live_facts before ++ live_facts (k ∷ [])
live_more before k = filter_map-append live_fact before (k ∷ [])

live_short : (kept : List KeptFact) → length (live_facts kept) ≤ length kept
live_short [] = omega arith
live_short (k ∷ kept) = elim (cases_Bool k.struck) [ inl gone ↦ rw gone (omega (arith, live_short kept)) | inr alive ↦ rw alive (omega (arith, live_short kept)) ]

live_itself : (facts : List Fact) → live_facts (map live facts) ≡ facts
live_itself [] = refl
live_itself (fact ∷ facts) = ap (λ (fs : List Fact). fact ∷ fs) (live_itself facts)

-- a fact that repeats none of these facts repeats none of the live ones among them
none_among_live : (fact : Fact) (kept : List KeptFact) → list_any (is_repeat fact) kept ≡ false → list_any (is_repeat fact) (map live (live_facts kept)) ≡ false
none_among_live fact [] none = refl
none_among_live fact (k ∷ kept) none =
    let parts = or_parts (is_repeat fact k) (list_any (is_repeat fact) kept) none in
    by (none_among_live fact kept parts.1) parts.0 k.struck refl
  where
    by : list_any (is_repeat fact) (map live (live_facts kept)) ≡ false → is_repeat fact k ≡ false → (b : Bool) → k.struck ≡ b
        → list_any (is_repeat fact) (map live (live_facts (k ∷ kept))) ≡ false
    by rest first true gone = rw gone rest
    by rest first false alive =
        let own : is_repeat fact (live k.fact) ≡ false = rw alive at first in
        rw alive (rw own rest)

-- the first of some more facts repeats none before it
repeats_none : (before : List KeptFact) (k : KeptFact) (rest : List KeptFact) → NoRepeats (before ++ k ∷ rest) → list_any (is_repeat k.fact) before ≡ false
repeats_none before k rest apart = list_any_none (is_repeat k.fact) before (λ i d lt.
    let long = length-append before (k ∷ rest) in
    let pair = apart i (length before) d lt (omega (arith, long)) in
    rw (get_or-append before (k ∷ rest) d i lt, get_or-append_seam before k rest d) at pair)

-- what holds for all holds for the first of some more
own_of : (P : KeptFact → Type 0) (before : List KeptFact) (k : KeptFact) (rest : List KeptFact) → All P (before ++ k ∷ rest) → P k
own_of P before k rest all = subst P (get_or-append_seam before k rest k) (all (length before) k (omega (arith, length-append before (k ∷ rest))))

record AreAddable (declared : List Declared) (kept : List KeptFact) : Type 0 where
  well : AreWell declared kept
  ranges : All (λ (k : KeptFact). IsFactInRange k.fact) kept
  in_tables : AreInTables declared kept

live_fine : (declared : List Declared) (periods : List Period) (assays : List Assay) (before : List KeptFact) (k : KeptFact) (rest : List KeptFact) → AreAddable declared (before ++ k ∷ rest)
    → IsFine (version_of declared) declared (map live (live_facts before)) (map opened periods) assays (Books k.fact false)
live_fine declared periods assays before k rest right =
    let own = own_of (λ (q : KeptFact). IsFactOf declared q.fact) before k rest right.well.facts in
    let inside = own_of (λ (q : KeptFact). is_outside_table declared q.fact ≡ false) before k rest right.in_tables in record {
      known = own.known;
      new = none_among_live k.fact before (repeats_none before k rest right.well.apart);
      order = own.order;
      matching = own.matching;
      sealed = refl;
      opened = none_touched (touches_in (version_of declared) declared) k.fact periods;
      range = rw (own.serving, own.short, inside) refl;
      room = above (omega (arith, length-append before (k ∷ rest), right.well.few, live_short before, length-map (live_facts before) live));
    }
  where
    above : length (map live (live_facts before)) < most_facts → are_facts_full (map live (live_facts before)) ≡ false
    above lt = not_le most_facts (length (map live (live_facts before))) lt

live_added : (declared : List Declared) (periods : List Period) (assays : List Assay) (before rest : List KeptFact) (at : ℕ) (plain : List StoredRow) → AreAddable declared (before ++ rest)
    → IsPlainSoFar declared periods (map live (live_facts before)) assays plain
    → IsPlainSoFar declared periods (map live (live_facts (before ++ rest))) assays (plain ++ numbered at (map booked (live_facts rest)))
live_added declared periods assays before [] at plain right so_far = rw (append-nil before, append-nil plain) so_far
live_added declared periods assays before (k ∷ rest) at plain right so_far =
    let again : AreAddable declared ((before ++ k ∷ []) ++ rest) = subst (AreAddable declared) (sym (append_assoc before (k ∷ []) rest)) right in
    by (λ n more is. live_added declared periods assays (before ++ k ∷ []) rest n more again is) k.struck refl
  where
    split : (before ++ k ∷ []) ++ rest ≡ before ++ k ∷ rest
    split = append_assoc before (k ∷ []) rest

    by : ((n : ℕ) (more : List StoredRow) → IsPlainSoFar declared periods (map live (live_facts (before ++ k ∷ []))) assays more
        → IsPlainSoFar declared periods (map live (live_facts ((before ++ k ∷ []) ++ rest))) assays (more ++ numbered n (map booked (live_facts rest))))
        → (b : Bool) → k.struck ≡ b
        → IsPlainSoFar declared periods (map live (live_facts (before ++ k ∷ rest))) assays (plain ++ numbered at (map booked (live_facts (k ∷ rest))))
    by go_on true gone =
        let same : live_facts (before ++ k ∷ []) ≡ live_facts before = live_more before k ∙ rw gone (append-nil (live_facts before)) in
        let next = go_on at plain (subst (λ (fs : List Fact). IsPlainSoFar declared periods (map live fs) assays plain) (sym same) so_far) in
        let there = subst (λ (ks : List KeptFact). IsPlainSoFar declared periods (map live (live_facts ks)) assays (plain ++ numbered at (map booked (live_facts rest)))) split next in
        let first : live_facts (k ∷ rest) ≡ live_facts rest = rw gone refl in
        subst (λ (fs : List Fact). IsPlainSoFar declared periods (map live (live_facts (before ++ k ∷ rest))) assays (plain ++ numbered at (map booked fs))) (sym first) there
    by go_on false alive =
        let row : StoredRow = record { at = at; effect = Books k.fact false } in
        let same : map live (live_facts before) ++ live k.fact ∷ [] ≡ map live (live_facts (before ++ k ∷ [])) =
        sym (ap (map live) (live_more before k ∙ rw alive refl) ∙ map-append live (live_facts before) (k.fact ∷ [])) in
        let more : IsPlainSoFar declared periods (map live (live_facts (before ++ k ∷ []))) assays (plain ++ row ∷ []) =
        plain_more declared periods (map live (live_facts before)) assays plain at (Books k.fact false) declared periods (map live (live_facts (before ++ k ∷ []))) assays so_far
        (live_fine declared periods assays before k rest right) (own_of (λ (q : KeptFact). IsFactInRange q.fact) before k rest right.ranges) refl (append-nil declared) refl same (append-nil assays) in
        let next = go_on (at + 1) (plain ++ row ∷ []) more in
        let rows = append_assoc plain (row ∷ []) (numbered (at + 1) (map booked (live_facts rest))) in
        let there = subst (λ (ks : List KeptFact). IsPlainSoFar declared periods (map live (live_facts ks)) assays ((plain ++ row ∷ []) ++ numbered (at + 1) (map booked (live_facts rest)))) split next in
        let all = subst (IsPlainSoFar declared periods (map live (live_facts (before ++ k ∷ rest))) assays) rows there in
        let first : live_facts (k ∷ rest) ≡ k.fact ∷ live_facts rest = rw alive refl in
        subst (λ (fs : List Fact). IsPlainSoFar declared periods (map live (live_facts (before ++ k ∷ rest))) assays (plain ++ numbered at (map booked fs))) (sym first) all

-- ---- all

pub plain : PlainLaw
plain rows accepted =
    let declared = declared_of rows in
    let kept = facts_of rows in
    let sound = consistent rows accepted in
    let n = 1 + length (settled_rows rows) in
    let start = base rows accepted in
    let all = live_added declared (periods_of rows) (assays_of rows) [] kept n (numbered 1 (settled_rows rows)) (record { well = well rows accepted; ranges = sound.ranges; in_tables = sound.in_tables }) start in
    let are : plain_stored rows ≡ numbered 1 (settled_rows rows) ++ numbered n (map booked (live_facts kept)) =
    numbered_append 1 (settled_rows rows) (map booked (live_facts kept)) in
    rw are (record {
      accepted = all.accepted;
      declared = all.declares;
      periods = all.spans;
      assays = all.assayed;
      facts = all.has;
      same = ap live_facts all.has ∙ live_itself (live_facts kept);
    })
