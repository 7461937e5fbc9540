use Rattle.std.proofs.Common.{◌∙◌, sym}
use Rattle.pb_blocks.proofs.ItemLemmas.{ends_behind}
use Rattle.pb_blocks.proofs.items.begins_with_item.Goals as goal

pub returns-then-begins_with-clause-end : goal.returns-then-begins_with-clause-end
returns-then-begins_with-clause-end c = λ ends.
    ends_behind c.args.text.now c.args.name.now c.requires (c.begins_with.ensures.front c.if-begins_with.true) (c.begins_with.ensures.within c.if-begins_with.true)
    (sym c.ends_at.ensures ∙ ends)
