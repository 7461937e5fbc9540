use Rattle.pb_report.proofs.EditLemmas.{edit_words_stand}
use Rattle.pb_report.proofs.history.edit_words_law.Goals as goal

pub returns : goal.returns
returns c = edit_words_stand
