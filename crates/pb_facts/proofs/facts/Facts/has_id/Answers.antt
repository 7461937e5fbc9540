use Rattle.std.proofs.Common.{◌∙◌, ap}
use Rattle.std.specs.Prelude.{is_some}
use Rattle.pb_facts.specs.Facts.{has_id}
use Rattle.pb_facts.proofs.PositionLemmas.{is_some-position}
use Rattle.pb_facts.proofs.facts.Facts.has_id.Goals as goal

pub returns : goal.returns
returns c =
    c.is_some.ensures ∙ ap is_some c.place_of.ensures ∙ is_some-position (has_id c.args.id.now) c.args.self.now
