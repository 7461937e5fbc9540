use Rattle.pb_blocks.proofs.ItemLemmas.{first_of_more, only_item}
use Rattle.pb_blocks.proofs.items.behind.Goals as goal

pub returns-then-end-text : goal.returns-then-end-text
returns-then-end-text c = first_of_more c.args.text.now c.args.end c.requires c.if-end-text.true

pub returns-else-end-text : goal.returns-else-end-text
returns-else-end-text c = only_item c.args.text.now c.args.end c.requires c.if-end-text.false
