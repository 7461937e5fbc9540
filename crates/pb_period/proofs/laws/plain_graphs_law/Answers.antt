use Rattle.pb_book.specs.Plain.{plain_stored}
use Rattle.pb_period.proofs.PlainLemmas.{plain_graphs}
use Rattle.pb_period.proofs.laws.plain_graphs_law.Goals as goal

pub returns : goal.returns
returns c = λ rows accepted. plain_graphs rows (plain_stored rows) (c.plain_law.ensures rows accepted)
