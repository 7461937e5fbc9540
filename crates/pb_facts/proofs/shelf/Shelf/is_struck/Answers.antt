use Rattle.pb_facts.proofs.ShelfLemmas.{struck_at}
use Rattle.pb_facts.proofs.shelf.Shelf.is_struck.Goals as goal

pub returns : goal.returns
returns c = λ d. rw (← c.self.view_is) (struck_at c.self.inside.names.keys c.self.inside.entries.entries c.args.place d c.index.result.now c.index.ensures)
