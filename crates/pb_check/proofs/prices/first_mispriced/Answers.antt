use Rattle.std.proofs.Common.{arith}
use Rattle.pb_check.proofs.prices.first_mispriced.Goals as goal

pub returns : goal.returns
returns c = λ n lt. c.loop-node.invariant n (omega (arith, lt, c.loop-node-test.false, c.nodes-node-end.ensures.value))
