-- What the tests of a stage show.
use Rattle.std.proofs.Common.{◌≡◌, ◌∙◌, ℕ, zero, suc, ℤ, Bool, true, false, List, [], ◌∷◌, ◌++◌, map, All, Option, None, Some, take, get_or, refl, sym, ap, ap₂, subst, arith}
use Rattle.std.specs.Prelude.{IfSome, if◌then◌else◌}
use Rattle.std.proofs.lemmas.List.{length-map, map-append}
use Rattle.std.proofs.lemmas.List.Elements.{All-nil, All-cons, All-append}
use Rattle.std.proofs.lemmas.Option.{slice_get-get_or}
use Rattle.pb_graph.specs.declared.records.Stream.{Stream}
use Rattle.pb_study.specs.declared.results.GlobalTest.{GlobalTest}
use Rattle.pb_study.specs.declared.results.NodalTest.{NodalTest}
use Rattle.pb_study.specs.declared.results.MeasureTest.{MeasureTest}
use Rattle.pb_study.specs.declared.results.Tests.{Tests}
use Rattle.pb_study.specs.declared.results.Stage.{Stage}
use Rattle.pb_study.specs.declared.results.Options.{Options}
use Rattle.pb_study.specs.declared.results.Critical.{Critical}
use Rattle.pb_graph.specs.ProcessGraph.{ProcessGraph}
use Rattle.pb_graph.specs.Groups.{group_count, is_free_group}
use Rattle.pb_stage.specs.Verdicts.{global_verdict, measure_verdict}
use Rattle.pb_stage.specs.Nodal.{AreNodalTests, nodal_test, nodal_tests_below, test_of_group}
use Rattle.pb_stage.specs.StageTests.{AreTestsOf, redundant_streams}
use Rattle.pb_elim.specs.Study.{without_taken}
use Rattle.pb_stage.specs.Certified.{AreShownTests, IsNodalVerdict, unjudged}
use Rattle.pb_elim.specs.Laws.{TestedLaw}
use Rattle.pb_elim.proofs.ListLemmas.{from_map, same_items, some_at}

-- ---- nodal tests
unjudged_if : (b : Bool) (test bare : NodalTest) → unjudged test ≡ bare → map unjudged (if b then test ∷ [] else []) ≡ (if b then bare ∷ [] else [])
unjudged_if true test bare same = ap (λ (t : NodalTest). t ∷ []) same
unjudged_if false test bare same = refl

unjudged_below : (group : List ℕ) (ss : List Stream) (critical : Option ℤ) (k : ℕ) → map unjudged (nodal_tests_below group ss critical k) ≡ nodal_tests_below group ss None k
unjudged_below group ss critical zero = refl
unjudged_below group ss critical (suc k) =
    map-append unjudged (nodal_tests_below group ss critical k) (test_of_group group ss critical k)
    ∙ ap₂ (λ (xs ys : List NodalTest). xs ++ ys) (unjudged_below group ss critical k)
    (unjudged_if (is_free_group group ss k) (nodal_test group ss critical k) (nodal_test group ss None k) refl)

judged_if : (b : Bool) (test : NodalTest) → IsNodalVerdict test → All IsNodalVerdict (if b then test ∷ [] else [])
judged_if true test is = All-cons IsNodalVerdict test [] is (All-nil IsNodalVerdict)
judged_if false test is = All-nil IsNodalVerdict

judged_below : (group : List ℕ) (ss : List Stream) (critical : Option ℤ) (k : ℕ) → All IsNodalVerdict (nodal_tests_below group ss critical k)
judged_below group ss critical zero = All-nil IsNodalVerdict
judged_below group ss critical (suc k) =
    All-append IsNodalVerdict (nodal_tests_below group ss critical k) (test_of_group group ss critical k) (judged_below group ss critical k)
    (judged_if (is_free_group group ss k) (nodal_test group ss critical k) refl)

-- ---- all tests
pub tests_shown : (g : ProcessGraph) (options : Options) (critical : Critical) (stage : Stage) (tests : Tests) → stage.graph ≡ g → AreTestsOf g options critical stage tests → AreShownTests stage tests
tests_shown g options critical stage tests graph_is are =
    let nodal = are.nodal in
    let same : tests.nodal ≡ nodal_tests_below nodal.group g.streams critical.nodal (group_count nodal.group) = nodal.tested in
    let bare : AreNodalTests g None (map unjudged tests.nodal) = record {
      group = nodal.group;
      groups = nodal.groups;
      tested = ap (map unjudged) same ∙ unjudged_below nodal.group g.streams critical.nodal (group_count nodal.group);
    } in
    record {
      overall =
          ap (λ (t : GlobalTest). t.verdict) are.overall ∙ ap (global_verdict stage.low stage.high stage.dof) (sym (ap (λ (t : GlobalTest). t.critical) are.overall));
      groups = subst (λ (h : ProcessGraph). AreNodalTests h None (map unjudged tests.nodal)) (sym graph_is) bare;
      nodal = subst (All IsNodalVerdict) (sym same) (judged_below nodal.group g.streams critical.nodal (group_count nodal.group));
      measure = λ k d lt.
          let test = get_or tests.measure k d in
          let (stream, there) = some_at (redundant_streams stage.streams) k (omega (arith, lt, are.measure.each)) in
          let is = are.measure.right k stream test there (slice_get-get_or tests.measure k d lt) in
          is.verdict_is ∙ ap (measure_verdict test.low test.high) (sym is.critical_is);
    }

-- the tests of measurements are those of the redundant streams
tests_redundant : (g : ProcessGraph) (options : Options) (critical : Critical) (stage : Stage) (o : Option Tests) → IfSome o (AreTestsOf g options critical stage)
    → IfSome o (λ tests. map (λ (t : MeasureTest). t.stream) tests.measure ≡ redundant_streams stage.streams)
tests_redundant g options critical stage None are = tt
tests_redundant g options critical stage (Some tests) are =
    same_items (map (λ (t : MeasureTest). t.stream) tests.measure) (redundant_streams stage.streams)
    (length-map tests.measure (λ (t : MeasureTest). t.stream) ∙ are.measure.each)
    (λ k x y at there.
    let (test, here, is) = from_map (λ (t : MeasureTest). t.stream) tests.measure k x at in
    sym is ∙ (are.measure.right k y test there here).stream_is)

pub tested : TestedLaw
tested graph options critical study is = λ k d lt.
    let stage = get_or study.stages k d in
    let of = is.rounds.each k stage (slice_get-get_or study.stages k d lt) in
    tests_redundant (without_taken graph (take k study.taken)) options critical stage stage.tests of.tests
