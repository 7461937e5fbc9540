use Rattle.std.proofs.Common.{◌≡◌, ◌+◌, true, take, length}
use Rattle.pb_limits.specs.Limits.{most_nodes}
use Rattle.pb_graph.specs.Cycle.{is_distinct, begin_of}
use Rattle.pb_graph.proofs.CycleLemmas.{AreSeen}
use Rattle.pb_graph.proofs.cycle.nodes_differ.Given as goal

-- the nodes so far appear once, and those are seen
abbrev pub invariant-loop-step : goal.invariant-loop-step
invariant-loop-step l = record {
  once : is_distinct (begin_of l.nodes l.streams) (take l.step-index l.steps) ≡ true;
  seen : AreSeen l.nodes l.streams (take l.step-index l.steps) l.seen;
  room : length l.seen ≡ most_nodes + 1;
}
