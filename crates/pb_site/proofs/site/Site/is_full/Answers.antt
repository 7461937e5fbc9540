use Rattle.std.proofs.Common.{◌∙◌, List, ap}
use Rattle.pb_strap.specs.Table.{is_full}
use Rattle.pb_strap.specs.declared.strap.Point.{Point}
use Rattle.pb_site.proofs.LookUpLemmas.{table_points}
use Rattle.pb_site.proofs.site.Site.is_full.Goals as goal

pub returns-in-Some : goal.returns-in-Some
returns-in-Some c =
    let at = c.in-Some.ensures.value ∙ c.self.invariant.straps c.in-Strap.tank in
    let points = table_points c.self.inside.declared.items c.self.inside.index c.in-Strap.tank _ c.self.invariant at in
    c.is_full.ensures.value ∙ rw (c.in-Strap.is, ← c.self.view_is) (ap (λ (ps : List Point). is_full ps) points)

pub returns-in-None : goal.returns-in-None
returns-in-None c =
    let at = c.in-None.ensures.value ∙ c.self.invariant.straps c.in-Strap.tank in
    let points = table_points c.self.inside.declared.items c.self.inside.index c.in-Strap.tank _ c.self.invariant at in
    rw (c.in-Strap.is, ← c.self.view_is) (ap (λ (ps : List Point). is_full ps) points)
