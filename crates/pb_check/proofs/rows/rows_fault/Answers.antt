use Rattle.std.proofs.Common.{◌≡◌, ◌∙◌, length, get_or, sym, ap, arith}
use Rattle.std.proofs.lemmas.Option.{slice_get-get_or}
use Rattle.pb_fixed.proofs.Lists.{some_same}
use Rattle.pb_stage.specs.Certified.{unjudged}
use Rattle.pb_check.specs.Places.{IsRowAt, IsRowDifference}
use Rattle.pb_check.proofs.FirstLemmas.{place_more}
use Rattle.pb_check.proofs.RowLemmas.{none_there, row_fails, rows_same, some_row, some_there}
use Rattle.pb_check.proofs.rows.rows_fault.Goals as goal

-- the first row that isn't its test
pub returns-in-Some : goal.returns-in-Some
returns-in-Some c =
    let rows = c.args.rows.now in
    let rule = c.args.rule.now in
    let i = c.loop-i.i in
    let row = get_or rows i some_row in
    let test = get_or rule i some_row in
    let count : length rows ≡ length rule = omega (arith, c.if-rows-rule.false) in
    row_fails rows rule i row test c.in-Some.fault count (slice_get-get_or rows i some_row c.loop-i-test.true)
    (slice_get-get_or rule i some_row (omega (arith, c.loop-i-test.true, count))) c.loop-i.invariant
    (some_there c.row_difference.result c.in-Some.fault (unjudged row ≡ test) (IsRowDifference row test) c.in-Some.is c.row_difference.ensures)

-- one more row
pub loop-i-preserved : goal.loop-i-preserved
loop-i-preserved c =
    let rows = c.args.rows.now in
    let rule = c.args.rule.now in
    let i = c.loop-i.i in
    let row = get_or rows i some_row in
    let test = get_or rule i some_row in
    let count : length rows ≡ length rule = omega (arith, c.if-rows-rule.false) in
    let same = none_there c.row_difference.result (unjudged row ≡ test) (IsRowDifference row test) c.in_default.not-Some c.row_difference.ensures in
    place_more (IsRowAt rows rule) i c.loop-i.invariant
    (λ r t here there.
    ap unjudged (some_same (sym here ∙ slice_get-get_or rows i some_row c.loop-i-test.true))
    ∙ same ∙ some_same (sym (slice_get-get_or rule i some_row (omega (arith, c.loop-i-test.true, count))) ∙ there))

pub returns : goal.returns
returns c = rows_same c.args.rows.now c.args.rule.now (omega (arith, c.if-rows-rule.false)) (λ k lt. c.loop-i.invariant k (omega (arith, lt, c.loop-i-test.false)))
