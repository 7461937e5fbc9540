use Rattle.pb_form.proofs.SaidLemmas.{no_word}
use Rattle.pb_form.proofs.field.said_word.Goals as goal

pub returns-in_default : goal.returns-in_default
returns-in_default c = no_word c.args.column.now c.args.field.now c.in_default.not-Word
