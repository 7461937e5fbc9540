use Rattle.pb_blocks.proofs.ItemLemmas.{no_part}
use Rattle.pb_blocks.proofs.items.Items.next_part.Goals as goal

pub returns-in_err-end-clause-none : goal.returns-in_err-end-clause-none
returns-in_err-end-clause-none c =
    rw (c.from_residual.ensures, ← c.self.view_is, c.if-self.false) (no_part c.self.inside.rest.now c.in_err-end.ensures.none)
