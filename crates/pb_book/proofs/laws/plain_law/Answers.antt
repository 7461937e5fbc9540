use Rattle.pb_book.proofs.PlainLemmas.{plain}
use Rattle.pb_book.proofs.laws.plain_law.Goals as goal

pub returns : goal.returns
returns c = plain
