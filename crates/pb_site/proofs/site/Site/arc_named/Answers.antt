use Rattle.std.proofs.Common.{◌∙◌, List, Some, ap, length, sym, arith}
use Rattle.pb_site.specs.declared.declared.Arc.{Arc}
use Rattle.pb_site.specs.Site.{arcs_of}
use Rattle.pb_site.proofs.LookUpLemmas.{arc_at, arc_within, no_arc}
use Rattle.pb_site.proofs.site.Site.arc_named.Goals as goal

pub index-requires : goal.index-requires
index-requires c =
    let at = rw c.self.invariant.arc_names at (sym c.in-Some.ensures.index) in
    let within = arc_within (arcs_of c.self.inside.declared.items) c.args.name.now c.in-Some.i at in
    let many = ap (λ (arcs : List Arc). length arcs) c.self.invariant.arcs in
    omega (arith, within, many)

pub returns-in-Some : goal.returns-in-Some
returns-in-Some c =
    let at = rw c.self.invariant.arc_names at (sym c.in-Some.ensures.index) in
    rw (← c.self.view_is) (ap (λ (arc : Arc). Some arc) (rw c.self.invariant.arcs at c.index.ensures) ∙ arc_at (arcs_of c.self.inside.declared.items) c.args.name.now c.in-Some.i c.index.result.now at)

pub returns-in-None : goal.returns-in-None
returns-in-None c = rw (← c.self.view_is) (no_arc (arcs_of c.self.inside.declared.items) c.args.name.now (rw c.self.invariant.arc_names at c.in-None.ensures.index))
