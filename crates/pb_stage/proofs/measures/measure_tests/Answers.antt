use Rattle.std.proofs.Common.{◌+◌, ℕ, ◌∷◌, ◌++◌, [], List, All, FitsSigned, get_or, take, subst, sym, arith}
use mir.Syntax.{w128}
use Rattle.std.proofs.lemmas.List.{take_all, take_more}
use Rattle.std.proofs.Math.Facts.{to_z-of_z}
use Rattle.pb_study.specs.declared.results.MeasureTest.{MeasureTest}
use Rattle.std.specs.Prelude.{IfSome}
use Rattle.pb_study.specs.WellFormed.{IsMeasureWithin, IsWide}
use Rattle.pb_stage.specs.Drop.{AreMeasureTests, IsMeasureTestOf}
use Rattle.pb_stage.proofs.DropLemmas.{tests_more}
use Rattle.pb_stage.proofs.EndLemmas.{tests_within}
use Rattle.pb_stage.proofs.measures.measure_tests.Goals as goal

-- one more test
pub loop-stream-preserved : goal.loop-stream-preserved
loop-stream-preserved c =
    let fits : FitsSigned w128 c.args.low = c.ranges.low in
    let g = c.args.graph.now in
    let js = c.args.streams.now in
    let i = c.loop-stream.stream-index in
    let j = get_or js i 0 in
    let tests = c.loop-stream.tests in
    let test = c.in_ok-measure.field-0 in
    let so_far : AreMeasureTests g c.args.gap c.args.sweeps c.args.low c.args.high c.args.critical (take i js) tests = simp to_z-of_z at c.loop-stream.invariant.so_far in
    let within : IsWide c.args.low → IfSome c.args.high IsWide → All (IsMeasureWithin g) tests = simp to_z-of_z at c.loop-stream.invariant.within in
    let keeps : IsWide c.args.low → IfSome c.args.high IsWide → IsMeasureWithin g test = simp to_z-of_z at c.in_ok-measure.ensures.within in
    let here : IsMeasureTestOf g c.args.gap c.args.sweeps c.args.low c.args.high c.args.critical j test = simp to_z-of_z at c.in_ok-measure.ensures.test in
    let more = tests_more g c.args.gap c.args.sweeps c.args.low c.args.high c.args.critical (take i js) tests j test so_far here in
    let with = subst (λ (ks : List ℕ). AreMeasureTests g c.args.gap c.args.sweeps c.args.low c.args.high c.args.critical ks (tests ++ test ∷ [])) (sym (take_more js i 0 c.loop-stream-test.true)) more in
    simp to_z-of_z (record {
      so_far = subst (AreMeasureTests g c.args.gap c.args.sweeps c.args.low c.args.high c.args.critical (take (i + 1) js)) (sym c.in_ok-push.ensures.ok) with;
      within = λ low_wide high_wide.
          subst (λ (ts : List MeasureTest). All (IsMeasureWithin g) ts) (sym c.in_ok-push.ensures.ok)
          (tests_within (IsMeasureWithin g) tests test (within low_wide high_wide) (keeps low_wide high_wide));
    })

-- all streams have their tests
pub returns-clause-tests : goal.returns-clause-tests
returns-clause-tests c =
    let fits : FitsSigned w128 c.args.low = c.ranges.low in
    let g = c.args.graph.now in
    let js = c.args.streams.now in
    let i = c.loop-stream.stream-index in
    let so_far : AreMeasureTests g c.args.gap c.args.sweeps c.args.low c.args.high c.args.critical (take i js) c.loop-stream.tests = simp to_z-of_z at c.loop-stream.invariant.so_far in
    subst (λ (ks : List ℕ). AreMeasureTests g c.args.gap c.args.sweeps c.args.low c.args.high c.args.critical ks c.loop-stream.tests)
    (take_all i js (omega (arith, c.loop-stream-test.false))) so_far

pub returns-clause-within : goal.returns-clause-within
returns-clause-within c =
    let fits : FitsSigned w128 c.args.low = c.ranges.low in
    let within : IsWide c.args.low → IfSome c.args.high IsWide → All (IsMeasureWithin c.args.graph.now) c.loop-stream.tests = simp to_z-of_z at c.loop-stream.invariant.within in
    within
