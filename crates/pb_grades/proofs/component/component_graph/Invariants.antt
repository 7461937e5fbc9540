use Rattle.std.proofs.Common.{◌≡◌, ◌<◌, ◌++◌, ℕ, length, drop, get_or, false}
use Rattle.pb_grades.specs.Component.{component_overs, component_streams}
use Rattle.pb_grades.proofs.component.component_graph.Given as goal

-- the streams so far are those of the component, and none of them is over the limits
abbrev pub invariant-loop-j : goal.invariant-loop-j
invariant-loop-j l =
    record {
      nodes : l.component.nodes ≡ l.graph.nodes;
      counted : length l.component.streams ≡ l.j;
      so_far : component_streams l.graph.streams l.printed l.grades ≡ l.component.streams ++ component_streams (drop l.j l.graph.streams) (drop l.j l.printed) (drop l.j l.grades);
      within : (k : ℕ) → k < l.j → get_or (component_overs l.printed l.grades) k false ≡ false;
    }
