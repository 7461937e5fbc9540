use Rattle.pb_site.proofs.LookUpLemmas.{arc_table, is_at, no_table}
use Rattle.pb_site.proofs.site.Site.strap.Goals as goal

pub returns-in-Tank : goal.returns-in-Tank
returns-in-Tank c =
    let within = rw (← c.self.view_is) at c.requires in
    let here = is_at c.self.inside.declared.items c.self.inside.index c.args.place c.index-arc.result.now c.self.invariant c.index-arc.ensures within in
    rw (← c.self.view_is) (arc_table c.self.inside.declared.items c.args.place c.index-arc.result.now _ here c.in-Tank.is (rw (← c.self.view_is) at c.strap_of.ensures))

pub returns-in_default : goal.returns-in_default
returns-in_default c =
    let within = rw (← c.self.view_is) at c.requires in
    let here = is_at c.self.inside.declared.items c.self.inside.index c.args.place c.index-arc.result.now c.self.invariant c.index-arc.ensures within in
    rw (← c.self.view_is) (no_table c.self.inside.declared.items c.args.place c.index-arc.result.now here c.in_default.not-Tank)
