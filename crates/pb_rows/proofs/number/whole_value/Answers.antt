use Rattle.pb_rows.proofs.NumberLemmas.{parsed_ok, whole_utf8}
use Rattle.pb_rows.proofs.number.whole_value.Goals as goal

pub returns-in_default : goal.returns-in_default
returns-in_default c = λ fits. c.in_default.ensures.cases.0 (whole_utf8 c.args.field.now c.requires)

pub returns-in-Err : goal.returns-in-Err
returns-in-Err c =
    let parses = rw c.in-Ok.ensures.cases.0 at c.parse.ensures.value.0 in
    rw c.in-Err.is at (parsed_ok c.args.field.now c.parse.result c.requires parses)
