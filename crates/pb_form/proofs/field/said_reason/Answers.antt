use Rattle.pb_form.proofs.SaidLemmas.{no_reason}
use Rattle.pb_form.proofs.field.said_reason.Goals as goal

pub returns-in_default : goal.returns-in_default
returns-in_default c = no_reason c.args.column.now c.args.field.now c.in_default.not-Reason
