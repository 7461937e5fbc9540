use Rattle.std.proofs.Common.{◌∙◌}
use Rattle.pb_facts.proofs.ShelfLemmas.{entry_behind}
use Rattle.pb_facts.proofs.shelf.put_entry.Goals as goal

pub returns : goal.returns
returns c = (rw c.unwrap.ensures at c.insert-put.ensures.entries) ∙ entry_behind c.args.entries.now.entries c.args.id c.args.entry c.requires.new
