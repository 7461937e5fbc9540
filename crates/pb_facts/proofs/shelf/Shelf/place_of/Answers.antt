use Rattle.std.proofs.Common.{◌∙◌}
use Rattle.pb_facts.proofs.ShelfLemmas.{place_under}
use Rattle.pb_facts.proofs.shelf.Shelf.place_of.Goals as goal

pub returns-in-Some-clause-value : goal.returns-in-Some-clause-value
returns-in-Some-clause-value c =
    rw (← c.self.view_is) (c.in-Some.ensures.index ∙ place_under c.args.id.now c.self.inside.names.keys c.self.inside.entries.entries)

pub returns-in-None-clause-value : goal.returns-in-None-clause-value
returns-in-None-clause-value c =
    rw (← c.self.view_is) (c.in-None.ensures.index ∙ place_under c.args.id.now c.self.inside.names.keys c.self.inside.entries.entries)
