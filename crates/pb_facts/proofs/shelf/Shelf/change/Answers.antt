use Rattle.pb_facts.proofs.ShelfLemmas.{facts_changed, shelf_changed}
use Rattle.pb_facts.proofs.shelf.Shelf.change.Goals as goal

pub invariant_of-self : goal.invariant_of-self
invariant_of-self c = shelf_changed c.self.inside.names.keys c.self.inside.entries.entries c.args.place c.index.result.now c.changed.result c.self.invariant c.index.ensures c.changed.ensures.name

pub returns-clause-facts : goal.returns-clause-facts
returns-clause-facts c = λ d. rw (← c.self.view_is)
    (facts_changed c.self.inside.names.keys c.self.inside.entries.entries c.args.place c.args.change d c.index.result.now c.changed.result c.index.ensures c.changed.ensures.told c.changed.ensures.name c.changed.ensures.live)
