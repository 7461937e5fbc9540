use Rattle.pb_form.proofs.SaidLemmas.{no_items}
use Rattle.pb_form.proofs.field.said_items.Goals as goal

pub returns-in_default : goal.returns-in_default
returns-in_default c = no_items c.args.column.now c.args.field.now c.in_default.not-Items
