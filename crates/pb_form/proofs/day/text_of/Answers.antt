use Rattle.pb_form.proofs.TextLemmas.{date_utf8}
use Rattle.pb_form.proofs.day.text_of.Goals as goal

pub returns-clause-text : goal.returns-clause-text
returns-clause-text c = date_utf8 c.args.year c.args.month c.args.day c.requires.year c.requires.month c.requires.day
