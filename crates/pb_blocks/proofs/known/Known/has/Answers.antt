use Rattle.std.specs.Prelude.{is_some}
use Rattle.std.proofs.Common.{◌∙◌, ap}
use Rattle.pb_blocks.proofs.NameLemmas.{is_placed}
use Rattle.pb_blocks.proofs.known.Known.has.Goals as goal

pub returns : goal.returns
returns c = c.is_some.ensures ∙ ap is_some c.find.ensures ∙ is_placed c.args.self.now c.args.text.now
