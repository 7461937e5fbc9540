use Rattle.std.proofs.Common.{◌∙◌, sym}
use Rattle.pb_blocks.proofs.ItemLemmas.{is_whole, not_whole}
use Rattle.pb_blocks.proofs.items.whole_name_end.Goals as goal

pub returns-then-is_whole_name-clause-some : goal.returns-then-is_whole_name-clause-some
returns-then-is_whole_name-clause-some c =
    is_whole c.args.text.now c.name_end-end.result c.name_end-end.ensures.value c.name_end-end.ensures.within (sym c.is_whole_name.ensures ∙ c.if-is_whole_name.true)

pub returns-else-is_whole_name-clause-none : goal.returns-else-is_whole_name-clause-none
returns-else-is_whole_name-clause-none c =
    not_whole c.args.text.now c.name_end-end.result c.name_end-end.ensures.value (sym c.is_whole_name.ensures ∙ c.if-is_whole_name.false)
