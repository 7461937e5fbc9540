use Rattle.std.specs.Prelude.{IfSome, unwrap_or}
use Rattle.std.specs.HashMap.{get}
use Rattle.std.specs.List.{fold}
use Rattle.std.proofs.Common.{◌≡◌, ℕ, pos, List, drop}
use Rattle.pb_rows.specs.Name.{same_name}
use Rattle.pb_kinds.specs.Costs.{IsMeterCost}
use Rattle.pb_book.specs.Costs.{cost_named}
use Rattle.pb_book.proofs.CostLemmas.{cost_after}
use Rattle.pb_book.proofs.costs.costs_by_name.Given as goal

-- what was named so far, and then the rest, gives each stream its cost
abbrev pub invariant-loop-i : goal.invariant-loop-i
invariant-loop-i l = record {
  value : (name : List ℕ) → fold (cost_after name) (unwrap_or (get same_name l.costs name) (pos 1)) (drop l.i l.named) ≡ cost_named l.named name;
  within : (name : List ℕ) → IfSome (get same_name l.costs name) IsMeterCost;
}
