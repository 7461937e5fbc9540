use Rattle.std.proofs.Common.{◌∙◌, sym}
use Rattle.pb_blocks.proofs.NameLemmas.{no_place}
use Rattle.pb_blocks.proofs.known.Known.find.Goals as goal

pub returns-in_err-name : goal.returns-in_err-name
returns-in_err-name c =
    let other = rw c.in_err-name.was at c.read.ensures in
    c.from_residual.ensures ∙ sym (no_place c.args.self.now c.args.text.now (rw c.self.view_is at c.self.invariant).forms other)
