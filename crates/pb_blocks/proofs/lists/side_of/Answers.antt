use Rattle.std.proofs.Common.{◌∙◌, ℕ, ap, false, replicate}
use Rattle.pb_blocks.proofs.NameLemmas.{unmarked}
use Rattle.pb_blocks.proofs.lists.side_of.Goals as goal

pub mark-requires-clause-none : goal.mark-requires-clause-none
mark-requires-clause-none c =
    c.deref_mut.ensures.value ∙ c.in_ok-side.ensures.items_if_clones_equal (λ y e. e) ∙ ap (λ (n : ℕ). replicate n false) c.len.ensures.value ∙ unmarked c.args.nodes.now
