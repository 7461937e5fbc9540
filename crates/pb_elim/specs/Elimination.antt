-- Statement. Serial elimination: what the tests of a stage say about going on (serial elimination of gross errors: Narasimhan and
-- Jordache).
use Rattle.std.specs.Prelude.{◌≡◌, ◌≢◌, ◌==◌, ◌<◌, ◌≤ℤ◌, ◌<ℤ◌, ℕ, ℤ, Bool, true, false, List, Option, Some, None, slice_get, IsSomeAnd, if◌then◌else◌}
use Rattle.std.specs.List.{list_any}
use Rattle.pb_study.specs.declared.results.Verdict.{Verdict}
use Rattle.pb_study.specs.declared.results.Verdict.TheVariants.{Reject, Accept, Undecided, NoCritical, NoTest}
use Rattle.pb_study.specs.declared.results.Stop.{Stop}
use Rattle.pb_study.specs.declared.results.Stop.TheVariants.{Accepted, NoSuspect, Spent}
use Rattle.pb_study.specs.declared.results.MeasureTest.{MeasureTest}
use Rattle.pb_study.specs.declared.results.Tests.{Tests}
use Rattle.pb_study.specs.declared.results.Stage.{Stage}
use Rattle.pb_study.specs.declared.results.Taken.{Taken}
use Rattle.pb_study.specs.declared.results.Options.{Options}
use Rattle.pb_study.specs.declared.results.Critical.{Critical}

-- the test says that the limit is exceeded
abbrev pub is_reject : Verdict → Bool
is_reject Reject = true
is_reject verdict = false

-- the reason to stop after a rejected stage while rounds are left: there is no critical value for its measurements, or no suspect
-- among them; none if there is a suspect
abbrev pub stop_of_measures : Option ℤ → List MeasureTest → Option Stop
stop_of_measures None measures = Some Stop.NoCritical
stop_of_measures (Some value) measures =
    if list_any (λ (test : MeasureTest). is_reject test.verdict) measures then None else Some NoSuspect

-- the reason to stop after a stage for which this many streams were taken, by its global test: a rejected stage goes on to its
-- measurements, unless as many streams were taken as rounds are asked for
abbrev pub stop_by : Verdict → Options → Critical → ℕ → List MeasureTest → Option Stop
stop_by Accept options critical taken measures = Some Accepted
stop_by Undecided options critical taken measures = Some Stop.Undecided
stop_by NoCritical options critical taken measures = Some Stop.NoCritical
stop_by NoTest options critical taken measures = Some Stop.NoTest
stop_by Reject options critical taken measures =
    if taken == options.eliminate then Some Spent else stop_of_measures critical.measure measures

-- The rule of elimination: why it stops after a stage with these tests, for which this many streams were taken; none if one more
-- is taken.
abbrev pub stop_after : Options → Critical → ℕ → Tests → Option Stop
stop_after options critical taken tests = stop_by tests.global.verdict options critical taken tests.measure

-- The suspect that is taken, with the low end of its drop: the measurement whose test rejects it with the greatest low end, and the
-- earliest such measurement if there are several.
pub record IsSuspect (measures : List MeasureTest) (taken : Taken) : Type 0 where
  pub place : ℕ
  pub test : MeasureTest
  pub there : slice_get measures place ≡ Some test
  pub rejected : test.verdict ≡ Reject
  pub is : taken ≡ record { stream = test.stream; low = test.low }
  pub greatest :
      (k : ℕ) (other : MeasureTest) → slice_get measures k ≡ Some other → other.verdict ≡ Reject
      → other.low ≤ℤ test.low
  pub earliest :
      (k : ℕ) (other : MeasureTest) → k < place → slice_get measures k ≡ Some other
      → other.verdict ≡ Reject → other.low <ℤ test.low

-- the reason to stop after the last stage, for which this many streams were taken; none exactly when no elimination is asked for
abbrev pub IsStop : Options → Critical → ℕ → Stage → Option Stop → Type 0
IsStop options critical taken stage None = options.eliminate ≡ 0
IsStop options critical taken stage (Some reason) =
    (options.eliminate ≢ 0)
    × IsSomeAnd stage.tests (λ tests. stop_after options critical taken tests ≡ Some reason)
