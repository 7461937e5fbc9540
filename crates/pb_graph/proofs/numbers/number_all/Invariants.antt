use Rattle.pb_graph.specs.Numbers.{AreNumbered}
use Rattle.pb_graph.proofs.numbers.number_all.Given as goal

-- the nodes so far have their numbers
abbrev pub invariant-loop-node : goal.invariant-loop-node
invariant-loop-node l = AreNumbered l.labels l.node l.group.items l.least.items
