use Rattle.pb_form.proofs.FittingLemmas.{fitting}
use Rattle.pb_form.proofs.laws.fitting_law.Goals as goal

pub returns : goal.returns
returns c = fitting c.date_text_law.ensures
