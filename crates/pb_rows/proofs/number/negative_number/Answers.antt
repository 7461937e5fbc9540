use Rattle.std.proofs.Common.{◌∙◌, sym}
use Rattle.pb_rows.proofs.NumberLemmas.{unsigned_zero}
use Rattle.pb_rows.proofs.number.negative_number.Goals as goal

pub returns-in-0 : goal.returns-in-0
returns-in-0 c =
    let read = c.in_ok-value.ensures in
    unsigned_zero c.args.digits.now read.0 (sym read.1 ∙ c.in-0.is)
