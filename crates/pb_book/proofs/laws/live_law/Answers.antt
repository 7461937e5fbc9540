use Rattle.pb_book.proofs.LiveLemmas.{live_law}
use Rattle.pb_book.proofs.laws.live_law.Goals as goal

pub returns : goal.returns
returns c = live_law
