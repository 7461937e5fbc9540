-- A fact that there is no cause to refuse has no fault.
use Rattle.std.specs.Prelude.{not, is_none, is_some, IsSome, if◌then◌else◌}
use Rattle.std.specs.List.{list_any}
use Rattle.std.proofs.Common.{◌≡◌, ◌∙◌, ℕ, List, [], Bool, true, false, Option, Some, None, refl, sym, ap}
use Rattle.pb_site.specs.declared.declared.Declared.{Declared}
use Rattle.pb_site.specs.declared.declared.Version.{Version}
use Rattle.pb_site.specs.Site.{version_of}
use Rattle.pb_facts.specs.declared.fact.Fact.{Fact}
use Rattle.pb_facts.specs.declared.fact.FactFault.{FactFault}
use Rattle.pb_facts.specs.declared.facts.KeptFact.{KeptFact}
use Rattle.pb_facts.specs.Fact.{is_fact_out_of_order, is_too_long}
use Rattle.pb_facts.specs.Facts.{are_facts_full, fact_fault_of, is_duplicate_fact, is_live_with, live_place_of, first_fact_fault}
use Rattle.pb_kinds.specs.declared.rows.Edit.TheVariants as edits
use Rattle.pb_site.specs.Faults.{site_fault_of}
use Rattle.pb_facts.specs.declared.assays.Assay.{Assay}
use Rattle.pb_kinds.specs.declared.rows.Effect.TheVariants.{Declares, Books, Edits, Closes}
use Rattle.pb_periods.specs.declared.period.Period.{Period}
use Rattle.pb_book.specs.Accepted.{IsAcceptable}
use Rattle.pb_periods.specs.Apart.{is_named}
use Rattle.pb_book.specs.Kept.{AreOf}
use Rattle.pb_book.specs.Refusals.{is_closed, is_mismatch, is_unknown, refusal_behind, is_out_of_range, refusal_of}
use Rattle.pb_book.specs.declared.answer.Refused.TheVariants.{Range, Unknown, Duplicate, Order, Mismatch, Closed, Full}
use Rattle.pb_book.specs.Causes.{first_cause, fault_cause}
use Rattle.pb_book.specs.declared.answer.Refused.{Refused}
use Rattle.pb_kinds.specs.declared.rows.StoredRow.{StoredRow}
use Rattle.pb_book.specs.Assays.{assays_of}
use Rattle.pb_book.specs.Rows.{declared_of, facts_of, period_place, periods_of}
use Rattle.pb_book.proofs.ConsistentLemmas.{fine, range_parts}
use Rattle.pb_periods.proofs.PeriodLemmas.{none_at_first, some_place}

-- none of the faults of a fact holds
no_fault : (kept : List KeptFact) (fact : Fact) → is_duplicate_fact kept fact ≡ false → is_fact_out_of_order fact ≡ false → is_too_long fact ≡ false → are_facts_full kept ≡ false → fact_fault_of kept fact ≡ None
no_fault kept fact new order short room = rw (new, order, short, room) refl

pub no_fault_of : (rows : List StoredRow) (declared : List Declared) (kept : List KeptFact) (periods : List Period) (assays : List Assay) (fact : Fact) (late : Bool) → AreOf rows declared kept periods assays
    → IsAcceptable rows (Books fact late) → fact_fault_of kept fact ≡ None
no_fault_of rows declared kept periods assays fact late right accepted =
    let good = fine (version_of (declared_of rows)) (declared_of rows) (facts_of rows) (periods_of rows) (assays_of rows) (Books fact late) accepted.no_cause in
    rw right.facts (no_fault (facts_of rows) fact good.new good.order (range_parts (version_of (declared_of rows)) (declared_of rows) (facts_of rows) (periods_of rows) fact late good.range).short good.room)

-- ---- the first cause to refuse a fact, with and without other facts

-- the causes of a fact in order
abbrev in_order : Bool → Bool → Bool → Bool → Bool → Bool → Bool → Option Refused
in_order unknown duplicate order mismatch closed range full =
    if unknown then Some Unknown
    else if duplicate then Some Duplicate
    else if order then Some Order
    else if mismatch then Some Mismatch
    else if closed then Some Closed
    else if range then Some Range
    else if full then Some Full
    else None

-- the first cause if a fact is a duplicate, and if it isn't
pub duplicate_first : (cause : Refused) (kept : List KeptFact) (fact : Fact) → (cause ≡ Unknown → ⊥) → is_duplicate_fact kept fact ≡ true → Duplicate ≡ first_cause cause kept fact
duplicate_first Unknown kept fact other repeats = absurd (other refl)
duplicate_first cause kept fact other repeats = rw repeats refl

pub itself_first : (cause : Refused) (kept : List KeptFact) (fact : Fact) → is_duplicate_fact kept fact ≡ false → cause ≡ first_cause cause kept fact
itself_first Unknown kept fact new = refl
itself_first cause kept fact new = rw new refl

-- other facts come first if they are a cause, except before Unknown
pub first_with : (version : Version) (declared : List Declared) (kept : List KeptFact) (periods : List Period) (assays : List Assay) (fact : Fact) (late : Bool) (cause : Refused)
    → Some cause ≡ refusal_behind version declared [] periods [] (Books fact late) → Some (first_cause cause kept fact) ≡ refusal_behind version declared kept periods assays (Books fact late)
first_with version declared kept periods assays fact late cause alone =
    by (is_unknown declared [] periods (Books fact late)) (is_fact_out_of_order fact) (is_mismatch declared [] periods (Books fact late)) (is_closed version declared periods (Books fact late))
    (is_out_of_range version declared [] periods (Books fact late)) cause alone
  where
    either : (d : Bool) (x y : Refused) → Some (if d then x else y) ≡ (if d then Some x else Some y)
    either true x y = refl
    either false x y = refl

    same : (x y : Refused) (o : Option Refused) → Some x ≡ Some y → Some (first_cause y kept fact) ≡ o → Some (first_cause x kept fact) ≡ o
    same x y o e is = ap (λ (z : Refused). Some (first_cause z kept fact)) (cc e) ∙ is

    by : (u o m c r : Bool) (x : Refused) → Some x ≡ in_order u false o m c r false → Some (first_cause x kept fact) ≡ in_order u (is_duplicate_fact kept fact) o m c r (are_facts_full kept)
    by true o m c r x is = same x Unknown (Some Unknown) is refl
    by false true m c r x is = same x Order (in_order false (is_duplicate_fact kept fact) true m c r (are_facts_full kept)) is (either (is_duplicate_fact kept fact) Duplicate Order)
    by false false true c r x is = same x Mismatch (in_order false (is_duplicate_fact kept fact) false true c r (are_facts_full kept)) is (either (is_duplicate_fact kept fact) Duplicate Mismatch)
    by false false false true r x is = same x Closed (in_order false (is_duplicate_fact kept fact) false false true r (are_facts_full kept)) is (either (is_duplicate_fact kept fact) Duplicate Closed)
    by false false false false true x is = same x Range (in_order false (is_duplicate_fact kept fact) false false false true (are_facts_full kept)) is (either (is_duplicate_fact kept fact) Duplicate Range)
    by false false false false false x is = cc is

-- if there is no cause without other facts, there is one if the fact has a fault
pub with_fault : (version : Version) (declared : List Declared) (kept : List KeptFact) (periods : List Period) (assays : List Assay) (fact : Fact) (late : Bool)
    → None ≡ refusal_behind version declared [] periods [] (Books fact late) → is_some (fact_fault_of kept fact) ≡ true
    → refusal_behind version declared kept periods assays (Books fact late) ≡ Some (fault_cause kept fact)
with_fault version declared kept periods assays fact late alone fault =
    let good = fine version declared [] periods [] (Books fact late) (sym alone) in
    let inside = range_parts version declared [] periods fact late good.range in
    let some = rw (good.order, inside.short) at fault in
    rw (good.known, good.order, good.matching, good.opened, good.range) (by (is_duplicate_fact kept fact) (are_facts_full kept) some)
  where
    by : (d f : Bool) → is_some (first_fact_fault d false false f) ≡ true → in_order false d false false false false f ≡ Some (if d then Duplicate else Full)
    by true f some = refl
    by false true some = refl
    by false false some = cc some

pub without_fault : (version : Version) (declared : List Declared) (kept : List KeptFact) (periods : List Period) (assays : List Assay) (fact : Fact) (late : Bool)
    → None ≡ refusal_behind version declared [] periods [] (Books fact late) → is_some (fact_fault_of kept fact) ≡ false
    → refusal_behind version declared kept periods assays (Books fact late) ≡ None
without_fault version declared kept periods assays fact late alone fault =
    let good = fine version declared [] periods [] (Books fact late) (sym alone) in
    let inside = range_parts version declared [] periods fact late good.range in
    let none = rw (good.order, inside.short) at fault in
    rw (good.known, good.order, good.matching, good.opened, good.range) (by (is_duplicate_fact kept fact) (are_facts_full kept) none)
  where
    by : (d f : Bool) → is_some (first_fact_fault d false false f) ≡ false → in_order false d false false false false f ≡ None
    by true f none = cc none
    by false true none = cc none
    by false false none = refl

-- the same of stored rows
pub refused_first : (rows : List StoredRow) (declared : List Declared) (kept : List KeptFact) (periods : List Period) (assays : List Assay) (fact : Fact) (cause : Refused) → AreOf rows declared kept periods assays
    → Some cause ≡ refusal_behind (version_of declared) declared [] periods [] (Books fact false) → refusal_of rows (Books fact false) ≡ Some (first_cause cause kept fact)
refused_first rows declared kept periods assays fact cause right alone =
    rw (← right.site, ← right.facts, ← right.spans) (sym (first_with (version_of declared) declared kept periods (assays_of rows) fact false cause alone))

some_if : (o : Option FactFault) (b : Bool) → b ≡ is_none o → is_some o ≡ not b
some_if None true is = refl
some_if None false is = cc is
some_if (Some x) true is = cc is
some_if (Some x) false is = refl

pub refused_by_fault : (rows : List StoredRow) (declared : List Declared) (kept : List KeptFact) (periods : List Period) (assays : List Assay) (fact : Fact) (added : Bool) → AreOf rows declared kept periods assays
    → refusal_behind (version_of (declared_of rows)) (declared_of rows) [] (periods_of rows) [] (Books fact false) ≡ None → added ≡ is_none (fact_fault_of kept fact) → added ≡ false
    → refusal_of rows (Books fact false) ≡ Some (fault_cause kept fact)
refused_by_fault rows declared kept periods assays fact added right alone is fails =
    let some : is_some (fact_fault_of kept fact) ≡ true = some_if (fact_fault_of kept fact) added is ∙ ap not fails in
    rw right.facts (with_fault (version_of (declared_of rows)) (declared_of rows) (facts_of rows) (periods_of rows) (assays_of rows) fact false (sym alone) (rw right.facts at some))

pub not_refused : (rows : List StoredRow) (declared : List Declared) (kept : List KeptFact) (periods : List Period) (assays : List Assay) (fact : Fact) (added : Bool) → AreOf rows declared kept periods assays
    → refusal_behind (version_of (declared_of rows)) (declared_of rows) [] (periods_of rows) [] (Books fact false) ≡ None → added ≡ is_none (fact_fault_of kept fact) → added ≡ true
    → refusal_of rows (Books fact false) ≡ None
not_refused rows declared kept periods assays fact added right alone is passes =
    let none : is_some (fact_fault_of kept fact) ≡ false = some_if (fact_fault_of kept fact) added is ∙ ap not passes in
    without_fault (version_of (declared_of rows)) (declared_of rows) (facts_of rows) (periods_of rows) (assays_of rows) fact false (sym alone) (rw right.facts at none)

-- nor has a declaration a fault
pub no_site_fault_of : (rows : List StoredRow) (declared : List Declared) (kept : List KeptFact) (periods : List Period) (assays : List Assay) (row : Declared) → AreOf rows declared kept periods assays
    → IsAcceptable rows (Declares row) → site_fault_of (version_of declared) declared row ≡ None
no_site_fault_of rows declared kept periods assays row right accepted =
    let good = fine (version_of (declared_of rows)) (declared_of rows) (facts_of rows) (periods_of rows) (assays_of rows) (Declares row) accepted.no_cause in
    rw right.site (rw (good.known, good.new, good.order, good.matching, good.room) refl)

-- a strike that there is no cause to refuse finds a live fact
pub strike_there : (rows : List StoredRow) (declared : List Declared) (kept : List KeptFact) (periods : List Period) (assays : List Assay) (id reason : List ℕ) → AreOf rows declared kept periods assays
    → IsAcceptable rows (Edits id edits.Strike reason) → IsSome (live_place_of id kept)
strike_there rows declared kept periods assays id reason right accepted =
    let good = fine (version_of (declared_of rows)) (declared_of rows) (facts_of rows) (periods_of rows) (assays_of rows) (Edits id edits.Strike reason) accepted.no_cause in
    rw right.facts (some_place (is_live_with id) (facts_of rows) (up (list_any (is_live_with id) (facts_of rows)) good.known))
  where
    up : (b : Bool) → not b ≡ false → b ≡ true
    up true is = refl
    up false is = cc is

-- a closing that there is no cause to refuse is of a period that exists
pub closing_there : (rows : List StoredRow) (name : List ℕ) → IsAcceptable rows (Closes name) → None ≡ period_place rows name → ⊥
closing_there rows name accepted none =
    let good = fine (version_of (declared_of rows)) (declared_of rows) (facts_of rows) (periods_of rows) (assays_of rows) (Closes name) accepted.no_cause in
    by (list_any (is_named name) (periods_of rows)) good.known (none_at_first (is_named name) (periods_of rows) none)
  where
    by : (b : Bool) → not b ≡ false → b ≡ false → ⊥
    by true is other = cc other
    by false is other = cc is
