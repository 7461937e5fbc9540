-- Graphs without one measurement, their statistics, and the tests of measurements.
use Rattle.std.proofs.Common.{◌≡◌, ◌∙◌, ℕ, zero, suc, ◌<◌, ℤ, List, [], ◌∷◌, ◌++◌, length, All, Option, Some, None, slice_get, get_or, refl, sym, ap, ap₂, subst, inl, inr, arith, ◌⊎◌}
use Rattle.std.specs.Prelude.{IfSome}
use Rattle.std.proofs.lemmas.Bool.{cases_lt}
use Rattle.std.proofs.lemmas.List.{get_or_append_left, get_or_push, length_push}
use Rattle.std.proofs.lemmas.Option.{get_or_from_slice_get, slice_get-get_or, slice_get_within}
use Rattle.pb_graph.specs.declared.records.Stream.{Stream}
use Rattle.pb_study.specs.declared.results.Solved.{Solved}
use Rattle.pb_study.specs.declared.results.Solved.TheVariants.{Converged, Unconverged}
use Rattle.pb_study.specs.declared.results.MeasureTest.{MeasureTest}
use Rattle.pb_graph.specs.ProcessGraph.{ProcessGraph, IsProcessGraph, IsStream, IsWithinLimits, unmeasured_at}
use Rattle.pb_graph.specs.Squares.{Fractional, AreSquaresAtLeast, AreSquaresAtMost, whole_flows}
use Rattle.pb_graph.proofs.WalkLemmas.{some_same}
use Rattle.pb_graph.specs.Prices.{PricesFit}
use Rattle.pb_dual.proofs.SweepLaws.{prices_fit}
use Rattle.pb_gap.specs.State.{IsStateAfter}
use Rattle.pb_gap.specs.Solution.{IsSolution, SomeSolvedStatisticLaw, OneSolvedStatisticLaw}
use Rattle.pb_gap.specs.Laws.{LowLaw, HighLaw}
use Rattle.pb_stage.specs.Verdicts.{measure_verdict}
use Rattle.pb_stage.specs.Drop.{IsMeasureTestOf, AreMeasureTests, drop_high, drop_low, without_measurement}
use Rattle.pb_stage.specs.Laws.{EndsLaw, SomeMeasureTestLaw, OneMeasureTestLaw, SomeMeasureTestsLaw, OneMeasureTestsLaw, DropRejectLaw, DropAcceptLaw, MeasureRejectLaw, MeasureAcceptLaw}

-- ---- the graph without one measurement
abbrev bare : Stream → Stream
bare s = record { from = s.from; to = s.to; meas = None }

length_without : (j : ℕ) (ss : List Stream) → length (unmeasured_at j ss) ≡ length ss
length_without j [] = refl
length_without zero (s ∷ ss) = refl
length_without (suc j) (s ∷ ss) = omega (arith, length_without j ss)

get_without : (j k : ℕ) (ss : List Stream) (d : Stream) → (get_or (unmeasured_at j ss) k d ≡ get_or ss k d) ⊎ (get_or (unmeasured_at j ss) k d ≡ bare (get_or ss k d))
get_without j k [] d = inl refl
get_without zero zero (s ∷ ss) d = inr refl
get_without zero (suc k) (s ∷ ss) d = inl refl
get_without (suc j) zero (s ∷ ss) d = inl refl
get_without (suc j) (suc k) (s ∷ ss) d = get_without j k ss d

all_without : (P : Stream → Type 0) (j : ℕ) (ss : List Stream) → ((s : Stream) → P s → P (bare s)) → All P ss → All P (unmeasured_at j ss)
all_without P j ss keep all = λ k d lt.
    let here = all k d (omega (arith, lt, length_without j ss)) in
    elim (get_without j k ss d) [
      | inl same ↦ subst P (sym same) here
      | inr changed ↦ subst P (sym changed) (keep (get_or ss k d) here)
    ]

-- it is within the limits
pub without_limits : (j : ℕ) (g : ProcessGraph) → IsProcessGraph g → IsProcessGraph (without_measurement j g)
without_limits j g is = record {
  env = is.env;
  few_nodes = is.few_nodes;
  few_streams = omega (arith, is.few_streams, length_without j g.streams);
  joins = all_without (IsStream g.nodes) j g.streams (λ s p. record { from = p.from; to = p.to; apart = p.apart }) is.joins;
  limits = all_without IsWithinLimits j g.streams (λ s p. tt) is.limits;
}

-- ---- the ends of a solved graph
state_of : (g : ProcessGraph) (gap sweeps : ℕ) (solved : Solved) (price : ℕ → ℤ) (flows : List ℤ) → IsSolution g gap sweeps solved price flows
    → (k : ℕ) × IsStateAfter g k price flows
state_of g gap sweeps (Converged k) price flows is = (k, is.here.state)
state_of g gap sweeps (Unconverged k) price flows is = (k, is.here)

high_by : (g : ProcessGraph) (x : Fractional) (one other : Option ℤ) → one ≡ other → IfSome other (AreSquaresAtMost g x) → IfSome one (AreSquaresAtMost g x)
high_by g x one other same most = subst (λ (o : Option ℤ). IfSome o (AreSquaresAtMost g x)) (sym same) most

pub ends_by : LowLaw → HighLaw → EndsLaw
ends_by low_law high_law g gap sweeps low high limits s =
    let (k, state) = state_of g gap sweeps s.solved s.price s.flows s.solution in
    let fit = subst (λ (p : ℕ → ℤ). PricesFit g p) (sym state.swept) (prices_fit g state.group k limits state.groups) in
    record {
      least = λ x even. subst (AreSquaresAtLeast g x) (sym s.is_low) (low_law g s.price s.flows x (record { limits = limits; fit = fit; balanced = even }) state.rounded.balanced);
      most = high_by g (whole_flows s.flows) high _ s.is_high (high_law g s.flows limits);
    }

-- ---- one test
pub some_test_by : SomeSolvedStatisticLaw → SomeMeasureTestLaw
some_test_by some g gap sweeps low high critical j limits =
    let (low_without, high_without, statistic) = some (without_measurement j g) gap sweeps (without_limits j g limits) in
    let drop = drop_low low high_without in
    let most = drop_high high low_without in
    let test : MeasureTest = record { stream = j; low = drop; high = most; critical = critical; verdict = measure_verdict drop most critical } in (
      test,
      record {
        low_without = low_without;
        high_without = high_without;
        statistic = statistic;
        stream_is = refl;
        low_is = refl;
        high_is = refl;
        critical_is = refl;
        verdict_is = refl;
      },
    )

pub one_test_by : OneSolvedStatisticLaw → OneMeasureTestLaw
one_test_by one g gap sweeps low high critical j test other limits x y =
    let same = one (without_measurement j g) gap sweeps x.low_without y.low_without x.high_without y.high_without (without_limits j g limits) x.statistic y.statistic in
    let stream : test.stream ≡ other.stream = x.stream_is ∙ sym y.stream_is in
    let drop : test.low ≡ other.low = x.low_is ∙ ap (drop_low low) same.1 ∙ sym y.low_is in
    let most : test.high ≡ other.high = x.high_is ∙ ap (drop_high high) same.0 ∙ sym y.high_is in
    let limit : test.critical ≡ other.critical = x.critical_is ∙ sym y.critical_is in
    let verdict : test.verdict ≡ other.verdict = x.verdict_is ∙ (λ i. measure_verdict (drop i) (most i) critical) ∙ sym y.verdict_is in
    λ i. record { stream = stream i; low = drop i; high = most i; critical = limit i; verdict = verdict i }

-- ---- a list of tests
at_some : {A : Type 0} (xs : List A) (k : ℕ) → k < length xs → (x : A) × (slice_get xs k ≡ Some x)
at_some [] k lt = absurd (omega (arith, lt))
at_some (x ∷ xs) zero lt = (x, refl)
at_some (x ∷ xs) (suc k) lt = at_some xs k (omega (arith, lt))

same_tests : (P : ℕ → MeasureTest → Type 0) (js : List ℕ) (xs ys : List MeasureTest) → ((j : ℕ) (x y : MeasureTest) → P j x → P j y → x ≡ y)
    → length xs ≡ length js → length ys ≡ length js
    → ((k j : ℕ) (x : MeasureTest) → slice_get js k ≡ Some j → slice_get xs k ≡ Some x → P j x)
    → ((k j : ℕ) (y : MeasureTest) → slice_get js k ≡ Some j → slice_get ys k ≡ Some y → P j y) → xs ≡ ys
same_tests P [] [] [] only e f p q = refl
same_tests P [] (x ∷ xs) ys only e f p q = absurd (omega (arith, e))
same_tests P [] [] (y ∷ ys) only e f p q = absurd (omega (arith, f))
same_tests P (j ∷ js) [] ys only e f p q = absurd (omega (arith, e))
same_tests P (j ∷ js) (x ∷ xs) [] only e f p q = absurd (omega (arith, f))
same_tests P (j ∷ js) (x ∷ xs) (y ∷ ys) only e f p q =
    ap₂ (λ (a : MeasureTest) (rest : List MeasureTest). a ∷ rest) (only j x y (p zero j x refl refl) (q zero j y refl refl))
    (same_tests P js xs ys only (omega (arith, e)) (omega (arith, f)) (λ k a b c d. p (suc k) a b c d) (λ k a b c d. q (suc k) a b c d))

pub one_tests_by : OneSolvedStatisticLaw → OneMeasureTestsLaw
one_tests_by one g gap sweeps low high critical streams tests others limits x y =
    same_tests (IsMeasureTestOf g gap sweeps low high critical) streams tests others
    (λ j a b is also. one_test_by one g gap sweeps low high critical j a b limits is also) x.each y.each x.right y.right

-- one more test in front
front : (P : ℕ → MeasureTest → Type 0) (j : ℕ) (js : List ℕ) (x : MeasureTest) (xs : List MeasureTest) → P j x
    → ((k i : ℕ) (y : MeasureTest) → slice_get js k ≡ Some i → slice_get xs k ≡ Some y → P i y)
    → (k i : ℕ) (y : MeasureTest) → slice_get (j ∷ js) k ≡ Some i → slice_get (x ∷ xs) k ≡ Some y → P i y
front P j js x xs here rest zero i y at there = subst (λ (n : ℕ). P n y) (some_same at) (subst (P j) (some_same there) here)
front P j js x xs here rest (suc k) i y at there = rest k i y at there

pub some_tests_by : SomeSolvedStatisticLaw → SomeMeasureTestsLaw
some_tests_by some g gap sweeps low high critical [] limits = ([], record { each = refl; right = λ k i y at there. cc at })
some_tests_by some g gap sweeps low high critical (j ∷ js) limits =
    let (test, is) = some_test_by some g gap sweeps low high critical j limits in
    let (tests, are) = some_tests_by some g gap sweeps low high critical js limits in (
      test ∷ tests,
      record {
        each = ap suc are.each;
        right = front (IsMeasureTestOf g gap sweeps low high critical) j js test tests is are.right;
      },
    )

-- one more test at the end
pub tests_more : (g : ProcessGraph) (gap sweeps : ℕ) (low : ℤ) (high critical : Option ℤ) (js : List ℕ) (tests : List MeasureTest) (j : ℕ) (test : MeasureTest)
    → AreMeasureTests g gap sweeps low high critical js tests → IsMeasureTestOf g gap sweeps low high critical j test
    → AreMeasureTests g gap sweeps low high critical (js ++ j ∷ []) (tests ++ test ∷ [])
tests_more g gap sweeps low high critical js tests j test are is = record {
  each = omega (arith, are.each, length_push js j, length_push tests test);
  right = λ k i y there at. elim (cases_lt k (length tests)) [
    | inl less ↦ are.right k i y
        (slice_get-get_or js k i (omega (arith, less, are.each)) ∙ ap Some (sym (get_or_append_left js (j ∷ []) i k (omega (arith, less, are.each))) ∙ get_or_from_slice_get (js ++ j ∷ []) k i i there))
        (slice_get-get_or tests k y less ∙ ap Some (sym (get_or_append_left tests (test ∷ []) y k less) ∙ get_or_from_slice_get (tests ++ test ∷ []) k y y at))
    | inr more ↦
        let end : length tests ≡ k = omega (arith, more, slice_get_within (tests ++ test ∷ []) k y at, length_push tests test) in
        let i_is : j ≡ i = sym (get_or_push js j i k (omega (arith, end, are.each))) ∙ get_or_from_slice_get (js ++ j ∷ []) k i i there in
        let y_is : test ≡ y = sym (get_or_push tests test y k end) ∙ get_or_from_slice_get (tests ++ test ∷ []) k y y at in
        subst (λ (n : ℕ). IsMeasureTestOf g gap sweeps low high critical n y) i_is (subst (IsMeasureTestOf g gap sweeps low high critical j) y_is is)
  ];
}

-- ---- a decided test
pub measure_reject_by : EndsLaw → DropRejectLaw → MeasureRejectLaw
measure_reject_by ends drop g gap sweeps low high c j test x limits solved c_pos is verdict even =
    drop g j solved.flows is.statistic.flows low is.low_without high is.high_without c x limits
    (ends g gap sweeps low high limits solved)
    (ends (without_measurement j g) gap sweeps is.low_without is.high_without (without_limits j g limits) is.statistic)
    c_pos (sym (is.verdict_is ∙ (λ i. measure_verdict (is.low_is i) (is.high_is i) (Some c))) ∙ verdict) even

pub measure_accept_by : EndsLaw → DropAcceptLaw → MeasureAcceptLaw
measure_accept_by ends drop g gap sweeps low high c j test y limits solved is verdict even =
    drop g j solved.flows is.statistic.flows low is.low_without high is.high_without c y limits
    (ends g gap sweeps low high limits solved)
    (ends (without_measurement j g) gap sweeps is.low_without is.high_without (without_limits j g limits) is.statistic)
    (sym (is.verdict_is ∙ (λ i. measure_verdict (is.low_is i) (is.high_is i) (Some c))) ∙ verdict) even
