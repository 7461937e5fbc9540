-- Statement. The verdict of a test by a critical value in thousandths: the test decides only if the ends of its statistic do (Narasimhan
-- and Jordache, on the global test and the nodal test).
use Rattle.std.specs.Prelude.{ℕ, ℤ, pos, ◌*ℤ◌, ◌==◌, int_lt, int_le, false, List, [], ◌∷◌, Option, Some, None, if◌then◌else◌}
use Rattle.std.specs.Option.{option_map_or}
use Rattle.pb_study.specs.declared.results.Verdict.{Verdict}
use Rattle.pb_study.specs.declared.results.Verdict.TheVariants.{Reject, Accept, Undecided, NoCritical, NoTest}
use Rattle.pb_study.specs.declared.results.CriticalRow.{CriticalRow}
use Rattle.pb_study.specs.declared.results.GlobalTest.{GlobalTest}

-- the verdict on a statistic between two ends: rejected if the low end is above the critical value, accepted if there is a high end and it
-- is at most that value, and otherwise undecided
abbrev pub verdict_at : ℤ → Option ℤ → ℤ → Verdict
verdict_at low high critical =
    if int_lt critical low then Reject
    else (if option_map_or (λ high. int_le high critical) high false then Accept else Undecided)

-- the same, but there may be no critical value
abbrev pub verdict_of : ℤ → Option ℤ → Option ℤ → Verdict
verdict_of low high None = NoCritical
verdict_of low high (Some critical) = verdict_at low high critical

-- The global test, of the least weighted squares of all balanced flows: there is nothing to test without degrees of freedom.
abbrev pub global_verdict : ℤ → Option ℤ → ℕ → Option ℤ → Verdict
global_verdict low high dof critical = if dof == 0 then NoTest else verdict_of low high critical

-- The test of one measurement, of the drop of the least weighted squares when it is left out.
abbrev pub measure_verdict : ℤ → Option ℤ → Option ℤ → Verdict
measure_verdict low high critical = verdict_of low high critical

-- The nodal test: the square of a group's net flow over its variance. There is no rounding, so it is always decided.
abbrev pub nodal_verdict : ℤ → ℤ → Option ℤ → Verdict
nodal_verdict net variance None = NoCritical
nodal_verdict net variance (Some critical) =
    if int_lt (critical *ℤ variance) (pos 1000 *ℤ (net *ℤ net)) then Reject else Accept

-- the critical value of the first row for this many degrees of freedom
abbrev pub critical_for : ℕ → List CriticalRow → Option ℤ
critical_for dof [] = None
critical_for dof (row ∷ rows) = if row.dof == dof then Some row.value else critical_for dof rows

-- the global test with its critical value, which is none if there is nothing to test
abbrev pub global_test_of : List CriticalRow → ℤ → Option ℤ → ℕ → GlobalTest
global_test_of rows low high dof =
    let critical = if dof == 0 then None else critical_for dof rows in
    record { critical = critical; verdict = global_verdict low high dof critical }
