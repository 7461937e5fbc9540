-- Tests one after another.
use Rattle.std.proofs.Common.{◌≡◌, ◌∙◌, ℕ, ◌+◌, ◌≤◌, Option, Some, None, refl, sym, ap, subst, inl, inr, arith}
use Rattle.std.specs.Prelude.{◌==◌, if◌then◌else◌}
use Rattle.std.proofs.lemmas.Bool.{cases_lt}
use Rattle.pb_study.specs.declared.results.Stage.{Stage}
use Rattle.pb_check.specs.declared.faults.Test.{Test}
use Rattle.pb_check.specs.declared.faults.Test.TheVariants.{Class, Witness, Balance, Price, Box, Freedom, Gap, State, Bounds, Statistic, Nodal, Verdict, Least}
use Rattle.pb_check.specs.declared.faults.Fault.{Fault}
use Rattle.pb_check.specs.Verdict.{test_code, Passes, Fails, IsPassed, IsFirstFault}
use Rattle.pb_check.specs.Among.{IsAmong}

-- ---- each test has a number, from 1 to 13
abbrev test_of : ℕ → Test
test_of n =
    if n == 1 then Class else (if n == 2 then Witness else (if n == 3 then Balance else (if n == 4 then Price else (if n == 5 then Box else (if n == 6 then Freedom
    else (if n == 7 then Gap else (if n == 8 then State else (if n == 9 then Bounds else (if n == 10 then Statistic else (if n == 11 then Nodal else (if n == 12 then Verdict else Least)))))))))))

is_test : (test : Test) → test_of (test_code test) ≡ test
is_test Class = refl
is_test Witness = refl
is_test Balance = refl
is_test Price = refl
is_test Box = refl
is_test Freedom = refl
is_test Gap = refl
is_test State = refl
is_test Bounds = refl
is_test Statistic = refl
is_test Nodal = refl
is_test Verdict = refl
is_test Least = refl

pub same_code : (a b : Test) → test_code a ≡ test_code b → a ≡ b
same_code a b e = sym (is_test a) ∙ ap test_of e ∙ is_test b

pub code_least : (test : Test) → 1 ≤ test_code test
code_least Class = omega arith
code_least Witness = omega arith
code_least Balance = omega arith
code_least Price = omega arith
code_least Box = omega arith
code_least Freedom = omega arith
code_least Gap = omega arith
code_least State = omega arith
code_least Bounds = omega arith
code_least Statistic = omega arith
code_least Nodal = omega arith
code_least Verdict = omega arith
code_least Least = omega arith

pub code_most : (test : Test) → test_code test ≤ 13
code_most Class = omega arith
code_most Witness = omega arith
code_most Balance = omega arith
code_most Price = omega arith
code_most Box = omega arith
code_most Freedom = omega arith
code_most Gap = omega arith
code_most State = omega arith
code_most Bounds = omega arith
code_most Statistic = omega arith
code_most Nodal = omega arith
code_most Verdict = omega arith
code_most Least = omega arith

-- ---- one more test
pub none_yet : (stage : Stage) (gap sweeps : ℕ) → IsAmong stage gap sweeps 1 0 None
none_yet stage gap sweeps test ge le = absurd (omega (arith, ge, le))

pub passed : (stage : Stage) (gap sweeps from to : ℕ) (test : Test) → test_code test ≡ to + 1 → IsAmong stage gap sweeps from to None
    → Passes stage gap sweeps test → IsAmong stage gap sweeps from (to + 1) None
passed stage gap sweeps from to test is among passes = λ other ge le. elim (cases_lt (test_code other) (to + 1)) [
  | inl less ↦ among other ge (omega (arith, less))
  | inr past ↦ subst (Passes stage gap sweeps) (same_code test other (omega (arith, is, le, past))) passes
]

pub failed : (stage : Stage) (gap sweeps from to last : ℕ) (test : Test) (fault : Fault) → test_code test ≡ to + 1 → from ≤ to + 1 → to + 1 ≤ last
    → IsAmong stage gap sweeps from to None → Fails stage gap sweeps test fault → IsAmong stage gap sweeps from last (Some (test, fault))
failed stage gap sweeps from to last test fault is ge le among fails =
    (omega (arith, is, ge), omega (arith, is, le), fails, λ other first less. among other first (omega (arith, is, less)))

-- some tests, and those after them
pub joined : (stage : Stage) (gap sweeps from to last : ℕ) (first : Option (Test × Fault)) → from ≤ to + 1 → to ≤ last
    → IsAmong stage gap sweeps from to None → IsAmong stage gap sweeps (to + 1) last first → IsAmong stage gap sweeps from last first
joined stage gap sweeps from to last None ge le among behind = λ other first most. elim (cases_lt (test_code other) (to + 1)) [
  | inl less ↦ among other first (omega (arith, less))
  | inr past ↦ behind other past most
]
joined stage gap sweeps from to last (Some (test, fault)) ge le among behind = (
  omega (arith, ge, behind.0),
  behind.1,
  behind.2,
  λ other first less. elim (cases_lt (test_code other) (to + 1)) [
    | inl before ↦ among other first (omega (arith, before))
    | inr past ↦ behind.3 other past less
  ],
)

-- a first failure stays the first when more tests follow
pub longer : (stage : Stage) (gap sweeps from to last : ℕ) (first : Test × Fault) → to ≤ last → IsAmong stage gap sweeps from to (Some first)
    → IsAmong stage gap sweeps from last (Some first)
longer stage gap sweeps from to last (test, fault) le among = (among.0, omega (arith, among.1, le), among.2, among.3)

-- ---- all tests
pub all_passed : (stage : Stage) (gap sweeps : ℕ) → IsAmong stage gap sweeps 1 13 None → IsPassed stage gap sweeps
all_passed stage gap sweeps among test = among test (code_least test) (code_most test)

pub first_failed : (stage : Stage) (gap sweeps : ℕ) (test : Test) (fault : Fault) → IsAmong stage gap sweeps 1 13 (Some (test, fault))
    → IsFirstFault stage gap sweeps test fault.place fault.stated fault.found
first_failed stage gap sweeps test fault among = record { before = λ other less. among.3 other (code_least other) less; fails = among.2 }

-- ---- the first six
pub after_1 : (stage : Stage) (gap sweeps : ℕ) → Passes stage gap sweeps Class → IsAmong stage gap sweeps 1 1 None
after_1 stage gap sweeps passes = passed stage gap sweeps 1 0 Class refl (none_yet stage gap sweeps) passes

pub after_2 : (stage : Stage) (gap sweeps : ℕ) → Passes stage gap sweeps Class → Passes stage gap sweeps Witness → IsAmong stage gap sweeps 1 2 None
after_2 stage gap sweeps one passes = passed stage gap sweeps 1 1 Witness refl (after_1 stage gap sweeps one) passes

pub after_3 : (stage : Stage) (gap sweeps : ℕ) → Passes stage gap sweeps Class → Passes stage gap sweeps Witness → Passes stage gap sweeps Balance → IsAmong stage gap sweeps 1 3 None
after_3 stage gap sweeps one two passes = passed stage gap sweeps 1 2 Balance refl (after_2 stage gap sweeps one two) passes

pub after_4 : (stage : Stage) (gap sweeps : ℕ) → Passes stage gap sweeps Class → Passes stage gap sweeps Witness → Passes stage gap sweeps Balance → Passes stage gap sweeps Price → IsAmong stage gap sweeps 1 4 None
after_4 stage gap sweeps one two three passes = passed stage gap sweeps 1 3 Price refl (after_3 stage gap sweeps one two three) passes

pub after_5 : (stage : Stage) (gap sweeps : ℕ) → Passes stage gap sweeps Class → Passes stage gap sweeps Witness → Passes stage gap sweeps Balance → Passes stage gap sweeps Price → Passes stage gap sweeps Box
    → IsAmong stage gap sweeps 1 5 None
after_5 stage gap sweeps one two three four passes = passed stage gap sweeps 1 4 Box refl (after_4 stage gap sweeps one two three four) passes

pub after_6 : (stage : Stage) (gap sweeps : ℕ) → Passes stage gap sweeps Class → Passes stage gap sweeps Witness → Passes stage gap sweeps Balance → Passes stage gap sweeps Price → Passes stage gap sweeps Box → Passes stage gap sweeps Freedom
    → IsAmong stage gap sweeps 1 6 None
after_6 stage gap sweeps one two three four five passes = passed stage gap sweeps 1 5 Freedom refl (after_5 stage gap sweeps one two three four five) passes
