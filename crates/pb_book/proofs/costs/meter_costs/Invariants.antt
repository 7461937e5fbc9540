use Rattle.std.specs.Prelude.{All, map}
use Rattle.std.proofs.Common.{◌≡◌, ◌++◌, drop}
use Rattle.pb_site.specs.Site.{arcs_of}
use Rattle.pb_kinds.specs.Costs.{IsMeterCost}
use Rattle.pb_book.specs.Costs.{cost_of_arc, meter_costs}
use Rattle.pb_book.proofs.costs.meter_costs.Given as goal

-- the costs so far and those of the remaining arcs are those of all
abbrev pub invariant-loop-place : goal.invariant-loop-place
invariant-loop-place l = record {
  value : l.costs.items ++ map (cost_of_arc l.named) (drop l.place (arcs_of l.site)) ≡ meter_costs l.site l.named;
  within : All IsMeterCost l.costs.items;
}
