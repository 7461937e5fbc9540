use Rattle.std.proofs.Common.{◌∙◌, ◌++◌, ◌∷◌, [], ℕ, List, sym, ap, append_assoc}
use Rattle.pb_blocks.proofs.NameLemmas.{marked_at, unmarked_at}
use Rattle.pb_blocks.proofs.lists.mark.Goals as goal

pub loop-item-preserved-in-Some-find : goal.loop-item-preserved-in-Some-find
loop-item-preserved-in-Some-find c =
    let inv = c.loop-item.invariant in
    let item = c.in-Some.item.now in (
      inv.0 ++ item ∷ [],
      append_assoc inv.0 (item ∷ []) c.next.new.self ∙ ap (λ (rest : List (List ℕ)). inv.0 ++ rest) (sym c.in-Some.ensures.some) ∙ inv.1,
      marked_at c.args.nodes.now inv.0 c.loop-item.side item c.in-Some-find.place c.requires.known.different (sym c.find.ensures ∙ c.in-Some-find.is) inv.2,
    )

pub loop-item-preserved : goal.loop-item-preserved
loop-item-preserved c =
    let inv = c.loop-item.invariant in
    let item = c.in-Some.item.now in (
      inv.0 ++ item ∷ [],
      append_assoc inv.0 (item ∷ []) c.next.new.self ∙ ap (λ (rest : List (List ℕ)). inv.0 ++ rest) (sym c.in-Some.ensures.some) ∙ inv.1,
      unmarked_at c.args.nodes.now inv.0 c.loop-item.side item (sym c.find.ensures ∙ c.in-None.is) inv.2,
    )
