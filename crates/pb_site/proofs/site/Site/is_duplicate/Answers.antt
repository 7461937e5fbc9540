use Rattle.std.proofs.Common.{◌∙◌, ap}
use Rattle.std.specs.Prelude.{is_some}
use Rattle.pb_site.proofs.site.Site.is_duplicate.Goals as goal

pub returns-in-CritGlobal : goal.returns-in-CritGlobal
returns-in-CritGlobal c = rw c.in-CritGlobal.is (c.is_some.ensures ∙ ap is_some c.global.ensures)
