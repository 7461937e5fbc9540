-- Inside. How streams are taken, round by round.
use Rattle.std.specs.Prelude.{◌≡◌, ◌≢◌, ◌==◌, ℕ, int_lt, Bool, false, List, [], ◌∷◌, Option, None, Some, length, slice_get, is_some, IsSome, IsSomeAnd, MatchOption, if◌then◌else◌}
use Rattle.std.specs.List.{list_any}
use Rattle.pb_study.specs.declared.results.MeasureTest.{MeasureTest}
use Rattle.pb_study.specs.declared.results.Tests.{Tests}
use Rattle.pb_study.specs.declared.results.Stage.{Stage}
use Rattle.pb_study.specs.declared.results.Taken.{Taken}
use Rattle.pb_study.specs.declared.results.Stop.{Stop}
use Rattle.pb_study.specs.declared.results.Study.{Study}
use Rattle.pb_study.specs.declared.results.Options.{Options}
use Rattle.pb_study.specs.declared.results.Critical.{Critical}
use Rattle.pb_graph.specs.ProcessGraph.{ProcessGraph, IsProcessGraph}
use Rattle.pb_study.specs.WellFormed.{IsWellFormedStudy}
use Rattle.pb_elim.specs.Elimination.{IsSuspect, is_reject, stop_after}
use Rattle.pb_elim.specs.Study.{AreRounds}

-- whether a measurement is suspected by its test
abbrev pub is_suspect : MeasureTest → Bool
is_suspect test = is_reject test.verdict

-- after a stage with these tests, for which this many streams were taken, one more is taken: the rule gives no reason to stop, and
-- the stream is the suspect
abbrev pub IsTakenAfter : Options → Critical → ℕ → Taken → Tests → Type 0
IsTakenAfter options critical count taken tests =
    (stop_after options critical count tests ≡ None) × IsSuspect tests.measure taken

-- the worst suspect so far, or one more if its drop has a greater low end
abbrev pub worse_of : Option Taken → Taken → Taken
worse_of None taken = taken
worse_of (Some worst) taken = if int_lt worst.low taken.low then taken else worst

-- the worst suspect after one more test
abbrev pub worse : Option Taken → MeasureTest → Option Taken
worse worst test =
    if is_suspect test then Some (worse_of worst (record { stream = test.stream; low = test.low }))
    else worst

-- the worst suspect after more tests
abbrev pub worst_from : Option Taken → List MeasureTest → Option Taken
worst_from worst [] = worst
worst_from worst (test ∷ tests) = worst_from (worse worst test) tests

-- the stream that is taken after a stage with these tests, or none if the rule says to stop
abbrev pub next_of : Options → Critical → ℕ → Tests → Option Taken
next_of options critical taken tests =
    if is_some (stop_after options critical taken tests) then None else worst_from None tests.measure

abbrev pub next_at : Options → Critical → ℕ → Option Tests → Option Taken
next_at options critical taken None = None
next_at options critical taken (Some tests) = next_of options critical taken tests

-- the reason to stop after the last stage
abbrev pub reason_at : Options → Critical → ℕ → Option Tests → Option Stop
reason_at options critical taken None = None
reason_at options critical taken (Some tests) = stop_after options critical taken tests

abbrev pub stop_at : Options → Critical → ℕ → Option Tests → Option Stop
stop_at options critical taken tests =
    if options.eliminate == 0 then None else reason_at options critical taken tests

-- the suspect of a list of tests, or none if there is none
abbrev pub IsWorst : List MeasureTest → Option Taken → Type 0
IsWorst measures worst =
    MatchOption worst (list_any is_suspect measures ≡ false) (IsSuspect measures)

-- if elimination is asked for, the rule gives a reason to stop
abbrev pub IsDone : Options → Critical → ℕ → Option Tests → Type 0
IsDone options critical taken tests =
    options.eliminate ≢ 0 → IsSomeAnd tests (λ tests. IsSome (stop_after options critical taken tests))

-- the rounds of a study so far, well formed
pub record AreRoundsOf (graph : ProcessGraph) (options : Options) (critical : Critical) (study : Study) : Type 0 where
  pub limits : IsProcessGraph graph
  pub rounds : AreRounds graph options critical study.stages study.taken
  pub formed : IsWellFormedStudy graph study

-- all rounds of a study: after the last stage the rule gives a reason to stop
pub record AreAllRoundsOf (graph : ProcessGraph) (options : Options) (critical : Critical) (study : Study) : Type 0 where
  pub so_far : AreRoundsOf graph options critical study
  pub done :
      (last : Stage) → slice_get study.stages (length study.taken) ≡ Some last
      → IsDone options critical (length study.taken) last.tests
