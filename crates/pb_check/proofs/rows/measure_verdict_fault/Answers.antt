use Rattle.std.proofs.Common.{◌≡◌, Some, slice_get, get_or, arith}
use Rattle.std.proofs.lemmas.Option.{slice_get-get_or}
use Rattle.pb_study.specs.declared.results.MeasureTest.{MeasureTest}
use Rattle.pb_stage.specs.Certified.{IsMeasureVerdict}
use Rattle.pb_check.proofs.FirstLemmas.{all_places, at_place, place_more}
use Rattle.pb_check.proofs.PlaceLemmas.{fails_here}
use Rattle.pb_check.proofs.RowLemmas.{some_measure}
use Rattle.pb_check.proofs.rows.measure_verdict_fault.Goals as goal

-- the first verdict that doesn't follow
pub returns-then-not-is_measure_verdict : goal.returns-then-not-is_measure_verdict
returns-then-not-is_measure_verdict c =
    let rows = c.args.rows.now in
    let i = c.loop-row.row-index in
    let row = get_or rows i some_measure in
    fails_here (λ k. IsMeasureVerdict) rows _ i row (slice_get-get_or rows i some_measure c.loop-row-test.true) c.loop-row.invariant
    (λ is. let yes_ = c.is_measure_verdict.ensures.1 is in cc (yes_, c.if-not-is_measure_verdict.true)) c.at_stream.ensures

-- one more verdict
pub loop-row-preserved : goal.loop-row-preserved
loop-row-preserved c =
    let rows = c.args.rows.now in
    let i = c.loop-row.row-index in
    let row = get_or rows i some_measure in
    place_more (λ k. (other : MeasureTest) → slice_get rows k ≡ Some other → IsMeasureVerdict other) i c.loop-row.invariant
    (at_place IsMeasureVerdict rows i row (slice_get-get_or rows i some_measure c.loop-row-test.true) (c.is_measure_verdict.ensures.0 c.if-not-is_measure_verdict.false))

pub returns : goal.returns
returns c = all_places IsMeasureVerdict c.args.rows.now (λ k lt row at. c.loop-row.invariant k (omega (arith, lt, c.loop-row-test.false)) row at)
