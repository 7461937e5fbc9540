-- Statement. What is proved of verdicts: a stage passes, or has one first fault.
use Rattle.std.specs.Prelude.{◌≡◌, ◌⊎◌, ℕ, ℤ}
use Rattle.pb_study.specs.declared.results.Stage.{Stage}
use Rattle.pb_graph.specs.ProcessGraph.{IsProcessGraph}
use Rattle.pb_study.specs.WellFormed.{IsWellFormed}
use Rattle.pb_check.specs.declared.faults.Test.{Test}
use Rattle.pb_check.specs.declared.faults.Place.{Place}
use Rattle.pb_check.specs.Verdict.{IsPassed, IsFirstFault, IsPlaceWithin}

-- a stage has a first fault
pub record HasFault (stage : Stage) (gap sweeps : ℕ) : Type 0 where
  pub test : Test
  pub place : Place
  pub stated : ℤ
  pub found : ℤ
  pub is : IsFirstFault stage gap sweeps test place stated found

-- each well-formed stage of a process graph passes or has a first fault
abbrev pub SomeVerdictLaw : Type 0
SomeVerdictLaw = (stage : Stage) (gap sweeps : ℕ) → IsProcessGraph stage.graph → IsWellFormed stage
    → IsPassed stage gap sweeps ⊎ HasFault stage gap sweeps

-- no stage passes and has a first fault
abbrev pub NotBothLaw : Type 0
NotBothLaw = (stage : Stage) (gap sweeps : ℕ) → IsProcessGraph stage.graph → IsWellFormed stage
    → IsPassed stage gap sweeps → HasFault stage gap sweeps → ⊥

-- and no stage has two first faults
abbrev pub OneFaultLaw : Type 0
OneFaultLaw = (stage : Stage) (gap sweeps : ℕ) (one other : HasFault stage gap sweeps) → IsProcessGraph stage.graph
    → IsWellFormed stage
    → (one.test ≡ other.test) × (one.place ≡ other.place) × (one.stated ≡ other.stated) × (one.found ≡ other.found)

-- the place of a fault is one of the stage
abbrev pub PlaceLaw : Type 0
PlaceLaw = (stage : Stage) (gap sweeps : ℕ) → IsWellFormed stage → (fault : HasFault stage gap sweeps)
    → IsPlaceWithin stage fault.place
