use Rattle.std.proofs.Common.{◌≡◌, List, All, map, sym, subst}
use Rattle.std.specs.Prelude.{IfNone}
use Rattle.pb_study.specs.declared.results.NodalTest.{NodalTest}
use Rattle.pb_stage.specs.Laws.{IsNodalNumber}
use Rattle.pb_stage.specs.Certified.{unjudged}
use Rattle.pb_check.specs.Faults.{AreRowsFault}
use Rattle.pb_check.proofs.RowLemmas.{numbers_by, rule_bare}
use Rattle.pb_check.proofs.rows.nodal_fault.Goals as goal

pub rows_fault-requires : goal.rows_fault-requires
rows_fault-requires c =
    subst (All (λ (t : NodalTest). unjudged t ≡ t)) (sym c.as_slice-2.ensures) (rule_bare c.args.stage.now.graph c.in_ok-rule.rule c.in_ok-rule.ensures.tests)

pub returns-clause-numbers : goal.returns-clause-numbers
returns-clause-numbers c =
    let rows = c.as_slice.result.now in
    let rule = c.as_slice-2.result.now in
    let numbers : All IsNodalNumber rule = subst (All IsNodalNumber) (sym c.as_slice-2.ensures) c.in_ok-rule.ensures.numbers in
    subst (λ (xs : List NodalTest). IfNone c.rows_fault.result (All IsNodalNumber xs)) c.as_slice.ensures (numbers_by rows rule c.rows_fault.result (AreRowsFault (map unjudged rows) rule) numbers c.rows_fault.ensures)
