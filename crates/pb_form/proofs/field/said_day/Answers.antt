use Rattle.pb_form.proofs.SaidLemmas.{no_day}
use Rattle.pb_form.proofs.field.said_day.Goals as goal

pub returns-in_default : goal.returns-in_default
returns-in_default c = no_day c.args.column.now c.args.field.now c.in_default.not-Date
