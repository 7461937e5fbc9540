use Rattle.std.proofs.Common.{◌≡◌, ◌≤◌, ◌++◌, drop, length}
use Rattle.std.specs.Prelude.{filter}
use Rattle.std.specs.List.{enumerate_from}
use Rattle.pb_plan.specs.Plant.{NumberedArc, arcs_in, is_served}
use Rattle.pb_plan.proofs.flows.arcs_in.Given as goal

-- the arcs so far that are in service
abbrev pub invariant-loop-j : goal.invariant-loop-j
invariant-loop-j l =
    record {
      so_far : arcs_in l.arcs l.span ≡ l.list.items ++ filter (λ (numbered : NumberedArc). is_served l.span numbered.1) (enumerate_from l.j (drop l.j l.arcs));
      few : length l.list.items ≤ l.j;
    }
