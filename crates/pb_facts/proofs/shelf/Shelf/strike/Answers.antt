use Rattle.std.proofs.Common.{true, refl}
use Rattle.pb_facts.proofs.ShelfLemmas.{facts_struck, shelf_changed}
use Rattle.pb_facts.proofs.shelf.Shelf.strike.Goals as goal

pub invariant_of-self : goal.invariant_of-self
invariant_of-self c = shelf_changed c.self.inside.names.keys c.self.inside.entries.entries c.args.place c.index_mut.result.now (record { variance = c.index_mut.result.now.variance; told = c.index_mut.result.now.told; name = c.index_mut.result.now.name; struck = true }) c.self.invariant c.index_mut.ensures.value refl

pub returns-clause-facts : goal.returns-clause-facts
returns-clause-facts c = λ d. rw (← c.self.view_is) (facts_struck c.self.inside.names.keys c.self.inside.entries.entries c.args.place d c.index_mut.result.now c.index_mut.ensures.value)
