use Rattle.std.proofs.Common.{◌<◌, ◌∙◌, ℕ, All, ap, length, sym, subst, arith}
use mir.Syntax.{w32}
use mir.Val.{of_z, to_z}
use Rattle.pb_site.specs.declared.declared.Version.{Version}
use Rattle.pb_site.specs.declared.declared.Version.TheVariants.{Two}
use Rattle.pb_site.specs.OnDays.{arcs_on, is_end_of, nodes_on}
use Rattle.pb_site.specs.Site.{node_names, version_of}
use Rattle.pb_site.proofs.DaysLemmas.{kept_within}
use Rattle.pb_site.proofs.PartLemmas.{days_law}
use Rattle.pb_site.proofs.on_days.names_on.Goals as goal

pub node_names-requires : goal.node_names-requires
node_names-requires c =
    let site = c.args.site.now in
    let first = to_z w32 (of_z w32 c.args.first) in
    let last = to_z w32 (of_z w32 c.args.last) in
    let n = length (node_names site) in
    let two = ap (λ (version : Version). nodes_on version site first last) (sym c.in-Two.ensures.value) in
    let is = c.nodes.ensures.value ∙ c.in_ok-part-in-Two.ensures.value ∙ two in
    subst (All (λ (node : ℕ). node < n)) (sym is) (kept_within (is_end_of (arcs_on Two site first last)) n (omega arith))

pub returns-in-One-clause-part : goal.returns-in-One-clause-part
returns-in-One-clause-part c = days_law (version_of c.args.site.now) c.args.site.now c.args.first c.args.last c.version.ensures.plant
