use Rattle.pb_book.proofs.NamedLemmas as lemmas
use Rattle.pb_book.proofs.laws.named_law.Goals as goal

pub returns : goal.returns
returns c = lemmas.named_law c.stored_law.ensures
