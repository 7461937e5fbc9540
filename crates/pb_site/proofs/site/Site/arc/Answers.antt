use Rattle.pb_site.proofs.LookUpLemmas.{is_at}
use Rattle.pb_site.proofs.site.Site.arc.Goals as goal

pub returns-clause-joins : goal.returns-clause-joins
returns-clause-joins c =
    let within = rw (← c.self.view_is) at c.requires in
    let here = is_at c.self.inside.declared.items c.self.inside.index c.args.place c.index.result.now c.self.invariant c.index.ensures within in
    rw (← c.self.view_is) here.right
