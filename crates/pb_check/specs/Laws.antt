-- Statement. What is proved of judgements.
use Rattle.std.specs.Prelude.{◌≡◌, ◌↔◌, ℕ}
use Rattle.pb_study.specs.declared.results.Solved.TheVariants.{Converged}
use Rattle.pb_study.specs.declared.results.Stage.{Stage}
use Rattle.pb_graph.specs.ProcessGraph.{IsProcessGraph}
use Rattle.pb_study.specs.WellFormed.{IsWellFormed}
use Rattle.pb_gap.specs.Gap.{MeetsGap}
use Rattle.pb_gap.specs.Solution.{IsSolution}
use Rattle.pb_stage.specs.Printed.{printed_price, printed_flows, printed_gap}
use Rattle.pb_stage.specs.Certified.{IsShownStage, IsCertifiedStage}
use Rattle.pb_check.specs.Asked.{IsStateAt, found_gap}
use Rattle.pb_check.specs.Verdict.{IsPassed}

-- what may be relied on if a stage passes: it is certified, and its state is converged exactly when its flows and prices meet the gap
pub record IsSound (stage : Stage) (gap : ℕ) : Type 0 where
  pub certified : IsCertifiedStage stage
  pub state : ((sweeps : ℕ) × (stage.solved ≡ Converged sweeps)) ↔ MeetsGap gap (found_gap stage)

-- a stage that passes is certified, wherever it came from
abbrev pub SoundLaw : Type 0
SoundLaw = (stage : Stage) (gap sweeps : ℕ) → IsProcessGraph stage.graph → IsWellFormed stage
    → IsPassed stage gap sweeps → IsSound stage gap

-- a stage that is shown passes at a gap and sweeps if its prices, flows and sweeps are the solution of its graph for these
abbrev pub SolvedLaw : Type 0
SolvedLaw = (stage : Stage) (gap sweeps : ℕ) → IsShownStage stage
    → IsSolution stage.graph gap sweeps stage.solved (printed_price stage) (printed_flows stage)
    → IsPassed stage gap sweeps

-- A stage is right at a gap and sweeps if it is shown, which its printed numbers alone decide, and its state is what its printed gap says.
pub record IsRight (stage : Stage) (gap sweeps : ℕ) : Type 0 where
  pub shown : IsShownStage stage
  pub state : IsStateAt gap sweeps (printed_gap stage) stage.solved

-- A stage passes exactly when it is right, wherever it came from. So the tests ask no more and no less than this.
abbrev pub RightLaw : Type 0
RightLaw = (stage : Stage) (gap sweeps : ℕ) → IsProcessGraph stage.graph → IsWellFormed stage
    → IsPassed stage gap sweeps ↔ IsRight stage gap sweeps
