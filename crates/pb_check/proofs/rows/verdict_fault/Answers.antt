use Rattle.std.proofs.Common.{List, All, sym, subst}
use Rattle.std.specs.Prelude.{MatchOption}
use Rattle.pb_study.specs.declared.results.NodalTest.{NodalTest}
use Rattle.pb_study.specs.declared.results.MeasureTest.{MeasureTest}
use Rattle.pb_stage.specs.Laws.{IsNodalNumber}
use Rattle.pb_stage.specs.Certified.{IsMeasureVerdict, IsNodalVerdict}
use Rattle.pb_check.specs.Asked.{IsGlobalVerdict}
use Rattle.pb_check.specs.Places.{IsFirstMeasure, IsFirstNodal}
use Rattle.pb_check.proofs.RowLemmas.{measures_decide, nodal_fails, none_there, some_there}
use Rattle.pb_check.proofs.rows.verdict_fault.Goals as goal

pub nodal_verdict_fault-requires-clause-numbers : goal.nodal_verdict_fault-requires-clause-numbers
nodal_verdict_fault-requires-clause-numbers c =
    subst (All IsNodalNumber) (sym c.as_slice.ensures) c.requires.numbers

pub returns-in-Some : goal.returns-in-Some
returns-in-Some c =
    let tests = c.args.tests.now in
    let overall : IsGlobalVerdict c.args.stage.now tests = c.is_global_verdict.ensures.0 c.if-not-is_global_verdict.false in
    let found : MatchOption c.nodal_verdict_fault.result (All IsNodalVerdict tests.nodal) (IsFirstNodal tests.nodal) =
    subst (λ (rows : List NodalTest). MatchOption c.nodal_verdict_fault.result (All IsNodalVerdict rows) (IsFirstNodal rows)) c.as_slice.ensures c.nodal_verdict_fault.ensures in
    nodal_fails c.args.stage.now tests c.in-Some.fault overall (some_there c.nodal_verdict_fault.result c.in-Some.fault _ (IsFirstNodal tests.nodal) c.in-Some.is found)

pub returns : goal.returns
returns c =
    let tests = c.args.tests.now in
    let overall : IsGlobalVerdict c.args.stage.now tests = c.is_global_verdict.ensures.0 c.if-not-is_global_verdict.false in
    let found : MatchOption c.nodal_verdict_fault.result (All IsNodalVerdict tests.nodal) (IsFirstNodal tests.nodal) =
    subst (λ (rows : List NodalTest). MatchOption c.nodal_verdict_fault.result (All IsNodalVerdict rows) (IsFirstNodal rows)) c.as_slice.ensures c.nodal_verdict_fault.ensures in
    let measures : MatchOption c.measure_verdict_fault.result (All IsMeasureVerdict tests.measure) (IsFirstMeasure tests.measure) =
    subst (λ (rows : List MeasureTest). MatchOption c.measure_verdict_fault.result (All IsMeasureVerdict rows) (IsFirstMeasure rows)) c.as_slice-2.ensures c.measure_verdict_fault.ensures in
    let nodal = none_there c.nodal_verdict_fault.result (All IsNodalVerdict tests.nodal) (IsFirstNodal tests.nodal) c.in_default.not-Some found in
    measures_decide c.args.stage.now tests c.measure_verdict_fault.result overall nodal measures
