-- What comes after a stage: a reason to stop, or the suspect.
use Rattle.std.proofs.Common.{◌≡◌, ◌∙◌, ◌≢◌, ◌⊎◌, ◌==◌, ℕ, ℤ, Bool, true, false, List, Option, Some, None, refl, sym, subst, inl, inr}
use Rattle.std.specs.Prelude.{is_some, IsSome, IsSomeAnd, if◌then◌else◌}
use Rattle.std.specs.List.{list_any}
use Rattle.std.proofs.lemmas.Bool.{eqb-false, eqb-true}
use Rattle.pb_study.specs.declared.results.Verdict.{Verdict}
use Rattle.pb_study.specs.declared.results.Verdict.TheVariants.{Reject, Accept, Undecided, NoCritical, NoTest}
use Rattle.pb_study.specs.declared.results.Stop.{Stop}
use Rattle.pb_study.specs.declared.results.Stop.TheVariants.{NoSuspect, Spent}
use Rattle.pb_study.specs.declared.results.MeasureTest.{MeasureTest}
use Rattle.pb_study.specs.declared.results.Tests.{Tests}
use Rattle.pb_study.specs.declared.results.Stage.{Stage}
use Rattle.pb_study.specs.declared.results.Taken.{Taken}
use Rattle.pb_study.specs.declared.results.Options.{Options}
use Rattle.pb_study.specs.declared.results.Critical.{Critical}
use Rattle.pb_elim.specs.Elimination.{IsStop, stop_after, stop_by, stop_of_measures}
use Rattle.pb_elim.specs.Rounds.{IsTakenAfter, is_suspect, IsDone, IsWorst, next_at, reason_at, stop_at, worst_from}
use Rattle.pb_elim.proofs.ListLemmas.{some_and, the_some}
use Rattle.pb_elim.proofs.SuspectLemmas.{pick, worst_is}

if_none : (b : Bool) (other : Option Stop) → (if b then Some Spent else other) ≡ None → other ≡ None
if_none true other none = cc none
if_none false other none = none

if_some : (b : Bool) → (if b then None else Some NoSuspect) ≡ None → b ≡ true
if_some true none = refl
if_some false none = cc none

-- if the rule doesn't stop, there is a suspect
of_measures : (critical : Option ℤ) (measures : List MeasureTest) → stop_of_measures critical measures ≡ None → list_any is_suspect measures ≡ true
of_measures None measures none = cc none
of_measures (Some value) measures none = if_some (list_any is_suspect measures) none

suspected : (v : Verdict) (options : Options) (critical : Critical) (count : ℕ) (measures : List MeasureTest) → stop_by v options critical count measures ≡ None → list_any is_suspect measures ≡ true
suspected Accept options critical count measures none = cc none
suspected Undecided options critical count measures none = cc none
suspected NoCritical options critical count measures none = cc none
suspected NoTest options critical count measures none = cc none
suspected Reject options critical count measures none =
    of_measures critical.measure measures (if_none (count == options.eliminate) (stop_of_measures critical.measure measures) none)

-- and the worst one is taken
taken_of : (options : Options) (critical : Critical) (count : ℕ) (tests : Tests) (worst : Option Taken) → IsWorst tests.measure worst → stop_after options critical count tests ≡ None
    → IsSomeAnd worst (λ t. IsTakenAfter options critical count t tests)
taken_of options critical count tests None is none = cc (sym is ∙ suspected tests.global.verdict options critical count tests.measure none)
taken_of options critical count tests (Some t) is none = (none, is)

-- ---- what the code takes
none_or : (b : Bool) (o : Option Taken) (t : Taken) → (if b then None else o) ≡ Some t → (b ≡ false) × (o ≡ Some t)
none_or true o t is = cc is
none_or false o t is = (refl, is)

no_reason : (o : Option Stop) → is_some o ≡ false → o ≡ None
no_reason None none = refl
no_reason (Some reason) none = cc none

-- the stream that is taken after a stage
pub taken_next : (options : Options) (critical : Critical) (count : ℕ) (o : Option Tests) (t : Taken) → next_at options critical count o ≡ Some t → IsSomeAnd o (IsTakenAfter options critical count t)
taken_next options critical count None t is = cc is
taken_next options critical count (Some tests) t is =
    let (none, worst) = none_or (is_some (stop_after options critical count tests)) (worst_from None tests.measure) t is in
    (no_reason (stop_after options critical count tests) none, subst (IsWorst tests.measure) worst (worst_is tests.measure))

-- if no stream is taken, the rule gives a reason to stop
reason_there : (o : Option Stop) (worst : Option Taken) → (o ≡ None → IsSome worst) → (if is_some o then None else worst) ≡ None → IsSome o
reason_there (Some reason) worst some none = refl
reason_there None None some none = some refl
reason_there None (Some t) some none = cc none

some_taken : (options : Options) (critical : Critical) (count : ℕ) (tests : Tests) (worst : Option Taken) → IsWorst tests.measure worst → stop_after options critical count tests ≡ None → IsSome worst
some_taken options critical count tests None is none = absurd (taken_of options critical count tests None is none)
some_taken options critical count tests (Some t) is none = refl

pub done_next : (options : Options) (critical : Critical) (count : ℕ) (o : Option Tests) → (options.eliminate ≢ 0 → IsSome o) → next_at options critical count o ≡ None
    → IsDone options critical count o
done_next options critical count None some none asked = cc (some asked)
done_next options critical count (Some tests) some none asked =
    reason_there (stop_after options critical count tests) (worst_from None tests.measure)
    (some_taken options critical count tests (worst_from None tests.measure) (worst_is tests.measure)) none

-- the reason that the rule gives
stop_reason : (options : Options) (critical : Critical) (count : ℕ) (stage : Stage) (o : Option Tests) → stage.tests ≡ o → options.eliminate ≢ 0 → IsDone options critical count o
    → IsStop options critical count stage (reason_at options critical count o)
stop_reason options critical count stage None is asked done = absurd (done asked)
stop_reason options critical count stage (Some tests) is asked done =
    let (reason, names) = the_some (stop_after options critical count tests) (done asked) in
    subst (IsStop options critical count stage) (sym names)
    (asked, some_and stage.tests tests (λ tests. stop_after options critical count tests ≡ Some reason) is names)

pub stop_is : (options : Options) (critical : Critical) (count : ℕ) (stage : Stage) → IsDone options critical count stage.tests
    → IsStop options critical count stage (stop_at options critical count stage.tests)
stop_is options critical count stage done =
    pick (options.eliminate == 0) (IsStop options critical count stage) None (reason_at options critical count stage.tests)
    (λ none. eqb-true options.eliminate 0 none)
    (λ asked. stop_reason options critical count stage stage.tests refl (eqb-false options.eliminate 0 asked) done)

-- ---- that there is a study
pub reason_of : (options : Options) (critical : Critical) (count : ℕ) (o : Option Tests) → IsSomeAnd o (λ tests. IsSome (stop_after options critical count tests))
    → (reason : Stop) × IsSomeAnd o (λ tests. stop_after options critical count tests ≡ Some reason)
reason_of options critical count None some = absurd some
reason_of options critical count (Some tests) some = the_some (stop_after options critical count tests) some

-- the rule gives a reason to stop, or a stream is taken
take_worst : (options : Options) (critical : Critical) (count : ℕ) (tests : Tests) (worst : Option Taken) → IsWorst tests.measure worst → stop_after options critical count tests ≡ None
    → (t : Taken) × IsTakenAfter options critical count t tests
take_worst options critical count tests None is none = absurd (taken_of options critical count tests None is none)
take_worst options critical count tests (Some t) is none = (t, (none, is))

decided_by : (options : Options) (critical : Critical) (count : ℕ) (tests : Tests) (o : Option Stop) → stop_after options critical count tests ≡ o
    → ((reason : Stop) × (stop_after options critical count tests ≡ Some reason)) ⊎ ((t : Taken) × IsTakenAfter options critical count t tests)
decided_by options critical count tests (Some reason) is = inl (reason, is)
decided_by options critical count tests None is =
    inr (take_worst options critical count tests (worst_from None tests.measure) (worst_is tests.measure) is)

pub decided : (options : Options) (critical : Critical) (count : ℕ) (tests : Tests)
    → ((reason : Stop) × (stop_after options critical count tests ≡ Some reason)) ⊎ ((t : Taken) × IsTakenAfter options critical count t tests)
decided options critical count tests = decided_by options critical count tests (stop_after options critical count tests) refl
