use Rattle.pb_advise.specs.Order.{AreMetersBefore}
use Rattle.pb_advise.proofs.advice.meters_of.Given as goal

-- the streams so far have their meters
abbrev pub invariant-loop-j : goal.invariant-loop-j
invariant-loop-j l = AreMetersBefore l.graph l.costs l.chosen l.j l.advice
