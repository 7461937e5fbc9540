use Rattle.std.proofs.Common.{subst, sym}
use Rattle.pb_gap.specs.State.{State}
use Rattle.pb_gap.specs.Iterate.{IsSettled}
use Rattle.pb_gap.proofs.solver.Solver.with_forest.Goals as goal

pub invariant_of-result : goal.invariant_of-result
invariant_of-result c =
    subst (λ (s : State). IsSettled s c.gap-gap.result) (sym c.gap-gap.ensures.same) (record { is = c.in_ok-iterate.ensures.state; measure = c.gap-gap.ensures.gap })
