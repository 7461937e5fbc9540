-- Statement. When a row is refused, given the rows stored before it: one condition for each cause, in the order in which they are
-- tested. A condition takes what is declared, the facts, the periods and the assays, as far as it needs them.
use Rattle.std.specs.Prelude.{pos, ◌-ℤ◌, Bool, true, false, not, ◌||◌, ◌&&◌, nat_le, int_le, int_lt, List, length, Option, Some, None, if◌then◌else◌, is_none, option_and_then}
use Rattle.std.specs.List.{list_any}
use Rattle.std.specs.Option.{option_map_or}
use Rattle.pb_limits.specs.Limits.{most_days_of_period, most_facts, most_periods}
use Rattle.pb_strap.specs.declared.strap.Point.{Point}
use Rattle.pb_strap.specs.Table.{volume_of}
use Rattle.pb_site.specs.declared.declared.ArcKind.{ArcKind}
use Rattle.pb_site.specs.declared.declared.ArcKind.TheVariants.{Metered, Batch}
use Rattle.pb_site.specs.declared.declared.Declared.{Declared}
use Rattle.pb_site.specs.declared.declared.Declared.TheVariants.{Version2, CritGlobal, CritNodal, CritMeasure}
use Rattle.pb_site.specs.declared.declared.Service.{Service}
use Rattle.pb_site.specs.declared.declared.Version.{Version}
use Rattle.pb_site.specs.declared.declared.Version.TheVariants.{One, Two}
use Rattle.pb_site.specs.Service.{is_eve, is_in_service_throughout, is_in_service_within}
use Rattle.pb_site.specs.Row.{is_inventory}
use Rattle.pb_site.specs.Site.{kind_of, service_in, table_of, version_of}
use Rattle.pb_site.specs.Faults.{refers_to_unknown, is_duplicate_declaration, is_declaration_out_of_order, is_mismatched_declaration, is_plant_full}
use Rattle.pb_facts.specs.declared.fact.Fact.{Fact}
use Rattle.pb_facts.specs.declared.fact.Fact.TheVariants.{Reading, Transfer, Dip}
use Rattle.pb_facts.specs.declared.facts.KeptFact.{KeptFact}
use Rattle.pb_facts.specs.Fact.{is_fact_out_of_order, is_too_long, named_by}
use Rattle.pb_facts.specs.Changes.{changed, fits}
use Rattle.pb_facts.specs.Facts.{is_duplicate_fact, is_live_with}
use Rattle.pb_facts.specs.Assays.{is_assay_of, most_assays}
use Rattle.pb_facts.specs.declared.assays.Assay.{Assay}
use Rattle.pb_kinds.specs.declared.rows.Edit.TheVariants as edits
use Rattle.pb_kinds.specs.declared.rows.Effect.{Effect}
use Rattle.pb_kinds.specs.declared.rows.Effect.TheVariants.{Declares, Opens, Books, Edits, Closes, Assays}
use Rattle.pb_book.specs.declared.answer.Refused.{Refused}
use Rattle.pb_book.specs.declared.answer.Refused.TheVariants.{Unknown, Duplicate, Order, Mismatch, Sealed, Closed, Range, Full}
use Rattle.pb_periods.specs.declared.period.Period.{Period}
use Rattle.pb_kinds.specs.declared.rows.StoredRow.{StoredRow}
use Rattle.pb_periods.specs.Apart.{is_named, shares_a_day}
use Rattle.pb_periods.specs.Closing.{is_unserved_in}
use Rattle.pb_book.specs.Assays.{assays_of}
use Rattle.pb_book.specs.Rows.{declared_of, facts_of, periods_of}
use Rattle.pb_periods.specs.Touching.{is_served_in, some_closed, some_closed_with, touches_in}

-- readings and transfers are of declared streams, dips of declared tanks
abbrev pub names_other : Fact → Option ArcKind → Bool
names_other (Dip id tank day mm density variance) kind = not (option_map_or is_inventory kind false)
names_other fact kind = option_map_or is_inventory kind true

-- Unknown: a fact or an assay of a stream or tank that isn't declared; something that a declaration refers to but that isn't
-- declared; an id that no live fact has, or a name that no period has
abbrev pub is_unknown : List Declared → List KeptFact → List Period → Effect → Bool
is_unknown declared kept periods (Declares row) = refers_to_unknown declared row
is_unknown declared kept periods (Books fact late) = names_other fact (kind_of declared (named_by fact))
is_unknown declared kept periods (Edits id edit reason) = not (list_any (is_live_with id) kept)
is_unknown declared kept periods (Closes name) = not (list_any (is_named name) periods)
is_unknown declared kept periods (Assays assay) =
    is_none (kind_of declared assay.stream) || not (list_any (is_named assay.period) periods)
is_unknown declared kept periods effect = false

-- Duplicate: a name that is taken, a critical value that is already declared, the id of an accepted fact, a day that already has
-- its reading or dip, or a component, stream and period that already have an assay
abbrev pub is_duplicate : List Declared → List KeptFact → List Period → List Assay → Effect → Bool
is_duplicate declared kept periods assays (Declares row) = is_duplicate_declaration declared row
is_duplicate declared kept periods assays (Opens name first last) = list_any (is_named name) periods
is_duplicate declared kept periods assays (Books fact late) = is_duplicate_fact kept fact
is_duplicate declared kept periods assays (Assays assay) = list_any (is_assay_of assay.component assay.period assay.stream) assays
is_duplicate declared kept periods assays effect = false

-- Order: a table that doesn't rise, or a first day after the last
abbrev pub is_out_of_order : List Declared → Effect → Bool
is_out_of_order declared (Declares row) = is_declaration_out_of_order declared row
is_out_of_order declared (Opens name first last) = int_lt last first
is_out_of_order declared (Books fact late) = is_fact_out_of_order fact
is_out_of_order declared effect = false

-- a reading is of a metered stream, a transfer of a batch stream
abbrev pub is_of_other_kind : Fact → Option ArcKind → Bool
is_of_other_kind (Reading id stream day grams variance) (Some Metered) = false
is_of_other_kind (Transfer id stream first last grams variance) (Some Batch) = false
is_of_other_kind (Dip id tank day mm density variance) kind = false
is_of_other_kind fact kind = true

-- Mismatch: a stream from a node to itself, a period that shares a day with another one, a reading of a stream that isn't metered,
-- a transfer of a stream that isn't moved in batches, a level for a fact that isn't a dip, or an amount for a dip
abbrev pub is_mismatch : List Declared → List KeptFact → List Period → Effect → Bool
is_mismatch declared kept periods (Declares row) = is_mismatched_declaration declared row
is_mismatch declared kept periods (Opens name first last) = list_any (shares_a_day first last) periods
is_mismatch declared kept periods (Books fact late) = is_of_other_kind fact (kind_of declared (named_by fact))
is_mismatch declared kept periods (Edits id (edits.Change change) reason) =
    list_any (λ (k : KeptFact). is_live_with id k && not (fits change k.fact)) kept
is_mismatch declared kept periods effect = false

-- a unit, a boundary, a tank, a point of its table or a stream
abbrev pub is_of_plant : Declared → Bool
is_of_plant Version2 = false
is_of_plant (CritGlobal dof value) = false
is_of_plant (CritNodal value) = false
is_of_plant (CritMeasure value) = false
is_of_plant declared = true

-- a tank or a stream that is in service on a day of a closed period
abbrev pub serves_closed : List Period → Declared → Bool
serves_closed periods (Declared.Tank name base service) = some_closed_with (is_served_in service) periods
serves_closed periods (Declared.Stream name from to kind base service) = some_closed_with (is_served_in service) periods
serves_closed periods declared = false

-- in version 1, a part of the plant, once some period is closed; in version 2, a tank or a stream that is in service on a day of a
-- closed period
abbrev pub is_sealed_by : Version → List Period → Declared → Bool
is_sealed_by One periods declared = is_of_plant declared && some_closed periods
is_sealed_by Two periods declared = serves_closed periods declared

-- Sealed: a declaration that comes too late for a closed period
abbrev pub is_sealed : Version → List Period → Effect → Bool
is_sealed version periods (Declares declared) = is_sealed_by version periods declared
is_sealed version periods effect = false

-- Closed: a fact that touches a closed period and isn't booked late; a second closing; an assay over a closed period
abbrev pub is_closed : Version → List Declared → List Period → Effect → Bool
is_closed version declared periods (Books fact late) =
    not late && some_closed_with (touches_in version declared fact) periods
is_closed version declared periods (Closes name) = some_closed_with (is_named name) periods
is_closed version declared periods (Assays assay) = some_closed_with (is_named assay.period) periods
is_closed version declared periods effect = false

-- a dip whose level is outside the table of its tank
abbrev pub is_outside_table : List Declared → Fact → Bool
is_outside_table declared (Dip id tank day mm density variance) =
    is_none (option_and_then (λ (points : List Point). volume_of points mm) (table_of declared tank))
is_outside_table declared fact = false

-- a fact of a stream or tank with this service: a reading of a day out of service, a transfer that includes such a day, or a dip of
-- a tank that isn't in service on its day, nor from the next day on
abbrev pub is_out_of_service : Option Service → Fact → Bool
is_out_of_service service (Reading id stream day grams variance) = not (is_in_service_within service day day)
is_out_of_service service (Transfer id stream first last grams variance) = not (is_in_service_throughout service first last)
is_out_of_service service (Dip id tank day mm density variance) = not (is_in_service_within service day day || is_eve service day)

-- Range: a period of more than 100 days, a fact of a day out of service, a transfer of more than 366 days, a level outside the
-- tank's table, or an assay over a period without a day in service
abbrev pub is_out_of_range : Version → List Declared → List KeptFact → List Period → Effect → Bool
is_out_of_range version declared kept periods (Opens name first last) = int_le (pos most_days_of_period) (last -ℤ first)
is_out_of_range version declared kept periods (Books fact late) =
    is_out_of_service (service_in version declared (named_by fact)) fact || (is_too_long fact || is_outside_table declared fact)
is_out_of_range version declared kept periods (Edits id (edits.Change change) reason) =
    list_any (λ (k : KeptFact). is_live_with id k && is_outside_table declared (changed change k.fact)) kept
is_out_of_range version declared kept periods (Assays assay) =
    list_any (is_unserved_in (service_in version declared assay.stream) assay.period) periods
is_out_of_range version declared kept periods effect = false

-- Full: as many are stored as are allowed
abbrev pub is_book_full : Version → List Declared → List KeptFact → List Period → List Assay → Effect → Bool
is_book_full version declared kept periods assays (Declares row) = is_plant_full version declared row
is_book_full version declared kept periods assays (Opens name first last) = nat_le most_periods (length periods)
is_book_full version declared kept periods assays (Books fact late) = nat_le most_facts (length kept)
is_book_full version declared kept periods assays (Assays assay) = nat_le most_assays (length assays)
is_book_full version declared kept periods assays effect = false

-- The first of these causes that holds for a row in a session of this version, given what is declared, the facts, the periods and
-- the assays.
abbrev pub refusal_behind : Version → List Declared → List KeptFact → List Period → List Assay → Effect → Option Refused
refusal_behind version declared kept periods assays effect =
    if is_unknown declared kept periods effect then Some Unknown
    else if is_duplicate declared kept periods assays effect then Some Duplicate
    else if is_out_of_order declared effect then Some Order
    else if is_mismatch declared kept periods effect then Some Mismatch
    else if is_sealed version periods effect then Some Sealed
    else if is_closed version declared periods effect then Some Closed
    else if is_out_of_range version declared kept periods effect then Some Range
    else if is_book_full version declared kept periods assays effect then Some Full
    else None

-- The first cause to refuse a row, given the stored rows.
abbrev pub refusal_of : List StoredRow → Effect → Option Refused
refusal_of rows effect =
    refusal_behind (version_of (declared_of rows)) (declared_of rows) (facts_of rows) (periods_of rows) (assays_of rows) effect
