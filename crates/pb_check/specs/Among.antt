-- Inside. The verdict on a stage by some of the tests, one after another.
use Rattle.std.specs.Prelude.{ℕ, ◌<◌, ◌≤◌, Option, Some, None}
use Rattle.pb_study.specs.declared.results.Stage.{Stage}
use Rattle.pb_check.specs.declared.faults.Test.{Test}
use Rattle.pb_check.specs.declared.faults.Fault.{Fault}
use Rattle.pb_check.specs.Verdict.{test_code, Passes, Fails}

-- the first of the tests from one to another that fails, with its fault; none if the stage passes all of these
abbrev pub IsAmong : Stage → ℕ → ℕ → ℕ → ℕ → Option (Test × Fault) → Type 0
IsAmong stage gap sweeps from to None =
    (test : Test) → from ≤ test_code test → test_code test ≤ to → Passes stage gap sweeps test
IsAmong stage gap sweeps from to (Some (test, fault)) =
    (from ≤ test_code test) × (test_code test ≤ to) × Fails stage gap sweeps test fault
    × ((other : Test) → from ≤ test_code other → test_code other < test_code test → Passes stage gap sweeps other)
