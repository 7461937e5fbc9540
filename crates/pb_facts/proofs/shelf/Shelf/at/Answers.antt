use Rattle.pb_facts.proofs.ShelfLemmas.{kept_at}
use Rattle.pb_facts.proofs.shelf.Shelf.at.Goals as goal

pub returns : goal.returns
returns c = rw (← c.self.view_is) (kept_at c.self.inside.names.keys c.self.inside.entries.entries c.args.place c.unwrap.result.0.now c.unwrap.result.1.now c.index.result.now c.fact.result (rw c.unwrap.ensures at c.get_index.ensures.entry) c.index.ensures c.fact.ensures)
