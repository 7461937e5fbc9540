use Rattle.pb_advise.specs.Order.{AreCandidates}
use Rattle.pb_advise.proofs.order.candidates.Given as goal

-- the unmeasured streams so far
abbrev pub invariant-loop-j : goal.invariant-loop-j
invariant-loop-j l = AreCandidates l.costs l.streams l.j l.list.items
