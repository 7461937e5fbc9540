-- Statement. The kept facts: what is live, what a look-up finds, and the first fault of a new fact.
use Rattle.std.specs.Prelude.{◌≡◌, ◌&&◌, ◌||◌, ℕ, ℤ, nat_le, List, length, filter, filter_map, Bool, false, not, Option, Some, None, option_and_then, if◌then◌else◌, AllPairs, position, slice_get}
use Rattle.std.specs.List.{list_any}
use Rattle.pb_limits.specs.Limits.{most_facts}
use Rattle.pb_rows.specs.Name.{same_name}
use Rattle.pb_facts.specs.Fact.{id_of, is_dip_on, is_fact_out_of_order, is_on_day_of, is_reading_on, is_too_long, is_transfer_within}
use Rattle.pb_facts.specs.declared.fact.Fact.{Fact}
use Rattle.pb_facts.specs.declared.fact.FactFault.{FactFault}
use Rattle.pb_facts.specs.declared.fact.FactFault.TheVariants.{Duplicate, Order, Range, Full}
use Rattle.pb_facts.specs.declared.facts.KeptFact.{KeptFact}

-- a kept fact with this id, struck or not
abbrev pub has_id : List ℕ → KeptFact → Bool
has_id id kept = same_name (id_of kept.fact) id

-- a live fact with this id
abbrev pub is_live_with : List ℕ → KeptFact → Bool
is_live_with id kept = not kept.struck && has_id id kept

-- a live reading of this stream on this day
abbrev pub is_live_reading_on : List ℕ → ℤ → KeptFact → Bool
is_live_reading_on stream day kept = not kept.struck && is_reading_on stream day kept.fact

-- a live dip of this tank at the end of this day
abbrev pub is_live_dip_on : List ℕ → ℤ → KeptFact → Bool
is_live_dip_on tank day kept = not kept.struck && is_dip_on tank day kept.fact

-- a live fact that has the same stream and day, or the same tank and day, as a new one
abbrev pub is_repeat_by_day : Fact → KeptFact → Bool
is_repeat_by_day fact kept = not kept.struck && is_on_day_of fact kept.fact

-- a kept fact that a new one repeats: it has the same id, struck or not, or it is live and has the same stream or tank and day
abbrev pub is_repeat : Fact → KeptFact → Bool
is_repeat fact kept = has_id (id_of fact) kept || (not kept.struck && is_on_day_of fact kept.fact)

-- a new fact repeats some kept one
abbrev pub is_duplicate_fact : List KeptFact → Fact → Bool
is_duplicate_fact kept fact = list_any (is_repeat fact) kept

-- as many facts were added as there may be, including struck ones
abbrev pub are_facts_full : List KeptFact → Bool
are_facts_full kept = nat_le most_facts (length kept)

-- the first of these faults that holds
abbrev pub first_fact_fault : Bool → Bool → Bool → Bool → Option FactFault
first_fact_fault duplicate order range full =
    if duplicate then Some Duplicate
    else if order then Some Order
    else if range then Some Range
    else if full then Some Full
    else None

-- the first fault of a new fact
abbrev pub fact_fault_of : List KeptFact → Fact → Option FactFault
fact_fault_of kept fact =
    first_fact_fault (is_duplicate_fact kept fact) (is_fact_out_of_order fact) (is_too_long fact) (are_facts_full kept)

-- no fact repeats an earlier one: so no id occurs twice, and no two live readings or dips share a stream or tank and day
abbrev pub NoRepeats : List KeptFact → Type 0
NoRepeats kept = AllPairs (λ earlier later. is_repeat later.fact earlier ≡ false) kept

-- a kept fact, if it wasn't struck
abbrev pub live_fact : KeptFact → Option Fact
live_fact kept = if kept.struck then None else Some kept.fact

-- the place of the fact with this id, struck or not
abbrev pub place_of_id : List ℕ → List KeptFact → Option ℕ
place_of_id id kept = position (has_id id) kept

-- the place of the live fact with this id
abbrev pub live_place_of : List ℕ → List KeptFact → Option ℕ
live_place_of id kept = position (is_live_with id) kept

-- the facts that weren't struck, in order
abbrev pub live_facts : List KeptFact → List Fact
live_facts kept = filter_map live_fact kept

-- the fact at a place, if there is one that wasn't struck
abbrev pub live_at : List KeptFact → ℕ → Option Fact
live_at kept place = option_and_then live_fact (slice_get kept place)

-- The facts at these places include all live transfers of the stream that have a day from `from` to `to`, in order.
abbrev pub HoldsTransfers : List KeptFact → List ℕ → ℤ → ℤ → List ℕ → Type 0
HoldsTransfers kept stream from to places =
    filter (is_transfer_within stream from to) (live_facts kept)
    ≡ filter (is_transfer_within stream from to) (filter_map (live_at kept) places)
