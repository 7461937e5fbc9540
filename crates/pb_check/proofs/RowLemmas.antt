-- Rows and the tests of a graph, and verdicts.
use Rattle.std.proofs.Common.{◌≡◌, ◌≢◌, ◌∙◌, ℕ, zero, suc, ◌<◌, pos, Bool, true, false, List, [], ◌∷◌, length, map, Option, Some, None, slice_get, get_or, All, refl, sym, ap, ap₂, subst, inl, inr, arith}
use Rattle.std.specs.Prelude.{IfNone, MatchOption, option_map, if◌then◌else◌}
use Rattle.std.proofs.lemmas.Option.{slice_get-map, slice_get_within}
use Rattle.pb_fixed.proofs.Lists.{some_same}
use Rattle.std.proofs.lemmas.List.{length-map}
use Rattle.std.proofs.lemmas.List.Elements.{All-nil, All-cons, All-append}
use Rattle.pb_graph.specs.declared.records.Stream.{Stream}
use Rattle.pb_study.specs.declared.results.Verdict.TheVariants.{Reject}
use Rattle.pb_study.specs.declared.results.NodalTest.{NodalTest}
use Rattle.pb_study.specs.declared.results.MeasureTest.{MeasureTest}
use Rattle.pb_study.specs.declared.results.Tests.{Tests}
use Rattle.pb_study.specs.declared.results.Stage.{Stage}
use Rattle.pb_graph.specs.ProcessGraph.{ProcessGraph}
use Rattle.pb_graph.specs.Groups.{group_count, is_free_group}
use Rattle.pb_stage.specs.Nodal.{AreNodalTests, nodal_test, nodal_tests_below, test_of_group}
use Rattle.pb_stage.specs.Laws.{IsNodalNumber}
use Rattle.pb_stage.specs.Certified.{IsMeasureVerdict, IsNodalVerdict, unjudged}
use Rattle.pb_check.specs.declared.faults.Fault.{Fault}
use Rattle.pb_check.specs.declared.faults.Place.TheVariants.{Whole}
use Rattle.pb_check.specs.Asked.{IsGlobalVerdict}
use Rattle.pb_check.specs.Faults.{AreRowsFault, AreVerdictsFault, fault_at}
use Rattle.pb_check.specs.Places.{AreVerdicts, IsFirstMeasure, IsFirstNodal, IsRowAt, IsRowDifference}
use Rattle.pb_check.proofs.PlaceLemmas.{fails_here, some_and, some_at}

-- ---- rows
pub rows_same : (rows rule : List NodalTest) → length rows ≡ length rule → ((k : ℕ) → k < length rows → IsRowAt rows rule k) → map unjudged rows ≡ rule
rows_same [] [] each at = refl
rows_same [] (t ∷ ts) each at = absurd (omega (arith, each))
rows_same (r ∷ rs) [] each at = absurd (omega (arith, each))
rows_same (r ∷ rs) (t ∷ ts) each at =
    ap₂ (λ (x : NodalTest) (xs : List NodalTest). x ∷ xs) (at 0 (omega arith) r t refl refl)
    (rows_same rs ts (omega (arith, each)) (λ k lt row test here there. at (suc k) (omega (arith, lt)) row test here there))

-- a row without its verdict is one of the rows
pub row_of : (rows : List NodalTest) (place : ℕ) (row : NodalTest) → slice_get (map unjudged rows) place ≡ Some row
    → (whole : NodalTest) × (slice_get rows place ≡ Some whole) × (unjudged whole ≡ row)
row_of [] place row at = cc at
row_of (r ∷ rows) zero row at = (r, refl, some_same at)
row_of (r ∷ rows) (suc place) row at = row_of rows place row at

-- the rows are too few or too many
pub count_fails : (rows rule : List NodalTest) (fault : Fault) → length rows ≢ length rule → fault ≡ fault_at Whole (pos (length rows), pos (length rule))
    → AreRowsFault (map unjudged rows) rule fault
count_fails rows rule fault ne is =
    let each = length-map rows unjudged in
    inl ((λ same. ne (sym each ∙ same)), is ∙ ap (λ (n : ℕ). fault_at Whole (pos n, pos (length rule))) (sym each))

-- the row at a place is the first that isn't its test
pub row_fails : (rows rule : List NodalTest) (i : ℕ) (row test : NodalTest) (fault : Fault) → length rows ≡ length rule → slice_get rows i ≡ Some row → slice_get rule i ≡ Some test
    → ((k : ℕ) → k < i → IsRowAt rows rule k) → IsRowDifference row test fault → AreRowsFault (map unjudged rows) rule fault
row_fails rows rule i row test fault count at there before differ = inr (
  length-map rows unjudged ∙ count,
  fails_here (λ k r. slice_get rule k ≡ Some r) (map unjudged rows) _ i (unjudged row) (slice_get-map unjudged rows i ∙ ap (option_map unjudged) at)
      (λ k lt other here.
      let (whole, at_k, same) = row_of rows k other here in
      let (t, there_k) = some_at rule k (omega (arith, lt, slice_get_within rows i row at, count)) in
      there_k ∙ ap (λ (x : NodalTest). Some x) (sym (before k lt whole t at_k there_k) ∙ same))
      (λ same. differ.differ (some_same (sym same ∙ there)))
      (some_and (slice_get rule i) _ test there differ.is),
)

-- the tests of a graph without critical values have no verdicts
bare_if : (b : Bool) (test : NodalTest) → unjudged test ≡ test → All (λ (t : NodalTest). unjudged t ≡ t) (if b then test ∷ [] else [])
bare_if true test is = All-cons (λ (t : NodalTest). unjudged t ≡ t) test [] is (All-nil (λ (t : NodalTest). unjudged t ≡ t))
bare_if false test is = All-nil (λ (t : NodalTest). unjudged t ≡ t)

bare_below : (group : List ℕ) (ss : List Stream) (k : ℕ) → All (λ (t : NodalTest). unjudged t ≡ t) (nodal_tests_below group ss None k)
bare_below group ss zero = All-nil (λ (t : NodalTest). unjudged t ≡ t)
bare_below group ss (suc k) =
    All-append (λ (t : NodalTest). unjudged t ≡ t) (nodal_tests_below group ss None k) (test_of_group group ss None k) (bare_below group ss k)
    (bare_if (is_free_group group ss k) (nodal_test group ss None k) refl)

pub rule_bare : (graph : ProcessGraph) (rule : List NodalTest) → AreNodalTests graph None rule → All (λ (t : NodalTest). unjudged t ≡ t) rule
rule_bare graph rule are = subst (All (λ (t : NodalTest). unjudged t ≡ t)) (sym are.tested) (bare_below are.group graph.streams (group_count are.group))

-- ---- the numbers of rows that are the tests of the graph
at_unjudged : (rows : List NodalTest) (k : ℕ) (d : NodalTest) → k < length rows → get_or (map unjudged rows) k (unjudged d) ≡ unjudged (get_or rows k d)
at_unjudged [] k d lt = absurd (omega (arith, lt))
at_unjudged (r ∷ rows) zero d lt = refl
at_unjudged (r ∷ rows) (suc k) d lt = at_unjudged rows k d (omega (arith, lt))

pub row_numbers : (rows rule : List NodalTest) → map unjudged rows ≡ rule → All IsNodalNumber rule → All IsNodalNumber rows
row_numbers rows rule same all = λ k d lt.
    let there = subst (All IsNodalNumber) (sym same) all in
    let is = subst IsNodalNumber (at_unjudged rows k d lt) (there k (unjudged d) (omega (arith, lt, length-map rows unjudged))) in
    record { net = is.net; positive = is.positive; variance = is.variance }

-- and so they are if there is no fault
pub numbers_by : (rows rule : List NodalTest) (o : Option Fault) (Q : Fault → Type 0) → All IsNodalNumber rule → MatchOption o (map unjudged rows ≡ rule) Q → IfNone o (All IsNodalNumber rows)
numbers_by rows rule None Q all same = row_numbers rows rule same all
numbers_by rows rule (Some fault) Q all fails = tt

-- ---- verdicts
pub nodal_fails : (stage : Stage) (tests : Tests) (fault : Fault) → IsGlobalVerdict stage tests → IsFirstNodal tests.nodal fault → AreVerdictsFault stage tests fault
nodal_fails stage tests fault overall first =
    inr (overall, inl first)

pub measures_decide : (stage : Stage) (tests : Tests) (o : Option Fault) → IsGlobalVerdict stage tests → All IsNodalVerdict tests.nodal
    → MatchOption o (All IsMeasureVerdict tests.measure) (IsFirstMeasure tests.measure) → MatchOption o (AreVerdicts stage tests) (AreVerdictsFault stage tests)
measures_decide stage tests None overall nodal measure = (overall, nodal, measure)
measures_decide stage tests (Some fault) overall nodal first =
    inr (overall, inr (nodal, first))

-- what is there, and what isn't
pub some_there : {A : Type 0} (o : Option A) (x : A) (P : Type 0) (Q : A → Type 0) → o ≡ Some x → MatchOption o P Q → Q x
some_there o x P Q is match = subst (λ (o : Option _). MatchOption o P Q) is match

pub none_there : {A : Type 0} (o : Option A) (P : Type 0) (Q : A → Type 0) → ((x : A) → o ≡ Some x → ⊥) → MatchOption o P Q → P
none_there None P Q never match = match
none_there (Some x) P Q never match = absurd (never x refl)

-- ---- the first that fails
abbrev pub some_row : NodalTest
some_row = record { node = 0; net = pos 0; variance = pos 0; critical = None; verdict = Reject }

abbrev pub some_measure : MeasureTest
some_measure = record { stream = 0; low = pos 0; high = None; critical = None; verdict = Reject }
