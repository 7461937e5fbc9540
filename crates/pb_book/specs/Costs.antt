-- Statement. The costs that an `advise` row names: when they are refused, and what a meter on each stream then costs.
use Rattle.std.specs.Prelude.{ℕ, ℤ, pos, Bool, true, false, not, ◌||◌, List, [], ◌∷◌, map, Option, Some, None, if◌then◌else◌}
use Rattle.std.specs.List.{fold, list_any}
use Rattle.std.specs.Option.{option_map_or}
use Rattle.pb_rows.specs.Name.{same_name}
use Rattle.pb_site.specs.declared.declared.Arc.{Arc}
use Rattle.pb_site.specs.declared.declared.Declared.{Declared}
use Rattle.pb_site.specs.Row.{is_inventory, is_plain_kind}
use Rattle.pb_site.specs.Site.{arcs_of, kind_of}
use Rattle.pb_kinds.specs.declared.costs.NamedCost.{NamedCost}
use Rattle.pb_book.specs.declared.answer.Refused.{Refused}
use Rattle.pb_book.specs.declared.answer.Refused.TheVariants.{Unknown, Duplicate, Mismatch}

-- a cost is named for this stream
abbrev pub is_cost_of : List ℕ → NamedCost → Bool
is_cost_of stream named = same_name named.stream stream

-- ---- when they are refused

-- Unknown: a stream that isn't declared; a tank isn't a stream
abbrev pub names_unknown : List Declared → NamedCost → Bool
names_unknown declared named = option_map_or is_inventory (kind_of declared named.stream) true

-- Duplicate: a stream that is named twice
abbrev pub names_twice : List NamedCost → Bool
names_twice [] = false
names_twice (named ∷ costs) = list_any (is_cost_of named.stream) costs || names_twice costs

-- Mismatch: a stream that isn't plain; only plain streams have no measurements
abbrev pub names_measured : List Declared → NamedCost → Bool
names_measured declared named = not (option_map_or is_plain_kind (kind_of declared named.stream) false)

-- The first cause to refuse named costs.
abbrev pub refusal_of_costs : List Declared → List NamedCost → Option Refused
refusal_of_costs declared costs =
    if list_any (names_unknown declared) costs then Some Unknown
    else if names_twice costs then Some Duplicate
    else if list_any (names_measured declared) costs then Some Mismatch
    else None

-- ---- what meters cost

-- what a meter on a plain stream costs: the cost named, or 1 if none is named
abbrev pub cost_named : List NamedCost → List ℕ → ℤ
cost_named costs stream = fold (λ (cost : ℤ) (named : NamedCost). if is_cost_of stream named then named.cost else cost) (pos 1) costs

-- what a meter costs on an arc: 0 if the arc has measurements, since it already has a meter
abbrev pub cost_of_arc : List NamedCost → Arc → ℤ
cost_of_arc costs arc = if is_plain_kind arc.kind then cost_named costs arc.name else pos 0

-- What a meter on each arc of the plant costs.
abbrev pub meter_costs : List Declared → List NamedCost → List ℤ
meter_costs declared costs = map (cost_of_arc costs) (arcs_of declared)
