use Rattle.pb_gap.specs.State.{IsState}
use Rattle.std.proofs.Common.{subst}
use Rattle.pb_gap.proofs.Iterates.{outside}
use Rattle.pb_gap.proofs.solver.Solver.price.Goals as goal

pub returns-clause-outside : goal.returns-clause-outside
returns-clause-outside c n past = outside c.args.self.now n (subst IsState c.self.view_is c.self.invariant.is) past
