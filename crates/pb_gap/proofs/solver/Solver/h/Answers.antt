use Rattle.std.proofs.Common.{◌∙◌, ap}
use Rattle.pb_gap.specs.Gap.{Gap}
use Rattle.pb_gap.specs.State.{State, gap_in}
use Rattle.pb_gap.proofs.solver.Solver.h.Goals as goal

pub returns-clause-value : goal.returns-clause-value
returns-clause-value c = ap (λ (gap : Gap). gap.h) c.self.invariant.measure.value ∙ ap (λ (s : State). (gap_in s).h) c.self.view_is
