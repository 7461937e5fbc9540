use Rattle.std.proofs.Common.{◌∙◌, ap, arith}
use Rattle.pb_rows.specs.Name.{is_name}
use Rattle.pb_plan.proofs.CodeLemmas.{coded_name}
use Rattle.pb_plan.proofs.ReadLemmas.{is_read}
use Rattle.pb_plan.proofs.codes.code.Goals as goal

pub unwrap-requires : goal.unwrap-requires
unwrap-requires c =
    let is = c.deref.ensures.value ∙ c.in_ok-text.ensures in
    is_read c.read.result c.deref.result.now (ap is_name is ∙ coded_name c.args.letter c.args.period c.args.place c.requires (omega arith) (omega arith)) c.read.ensures
