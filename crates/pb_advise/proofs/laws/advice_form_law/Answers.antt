use Rattle.pb_advise.proofs.FormLemmas.{form_is}
use Rattle.pb_advise.proofs.laws.advice_form_law.Goals as goal

pub returns : goal.returns
returns c = form_is
