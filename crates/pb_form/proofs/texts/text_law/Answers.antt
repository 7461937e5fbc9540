use Rattle.pb_form.proofs.FormLaws.{text_law}
use Rattle.pb_form.proofs.texts.text_law.Goals as goal

pub returns : goal.returns
returns c = text_law
