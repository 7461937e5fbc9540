use Rattle.pb_book.proofs.AnswerLemmas.{asked_window}
use Rattle.pb_book.proofs.laws.asked_window_law.Goals as goal

pub returns : goal.returns
returns c = asked_window
