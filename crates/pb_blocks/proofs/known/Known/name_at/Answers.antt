use Rattle.std.proofs.Common.{◌∙◌, sym}
use Rattle.pb_blocks.proofs.NameLemmas.{placed_at}
use Rattle.pb_blocks.proofs.known.Known.name_at.Goals as goal

pub returns : goal.returns
returns c =
    let names = c.as_slice-names.ensures.keys ∙ c.self.view_is in
    let at = rw names at c.index-names-place.is in
    let within = rw names at c.if-names-place.false in
    placed_at c.args.self.now c.args.place c.index-names-place.result (rw c.self.view_is at c.self.invariant).different within (sym at)
