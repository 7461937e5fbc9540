use Rattle.pb_book.proofs.TakenOutLemmas.{touched_more, touched_none}
use Rattle.pb_book.proofs.laws.touched_law.Goals as goal

pub returns : goal.returns
returns c = record { none = touched_none; more = touched_more }
