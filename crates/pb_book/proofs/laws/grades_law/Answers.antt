use Rattle.pb_book.proofs.NamedLemmas as lemmas
use Rattle.pb_book.proofs.laws.grades_law.Goals as goal

pub returns : goal.returns
returns c = lemmas.grades_law
