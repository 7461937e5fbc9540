use Rattle.pb_book.proofs.FactLemmas.{closing_there}
use Rattle.pb_book.proofs.book.Book.close.Goals as goal

pub returns-in-None-clause-ok : goal.returns-in-None-clause-ok
returns-in-None-clause-ok c = absurd (closing_there c.args.self.now c.args.name.now c.requires c.in-None.ensures)
