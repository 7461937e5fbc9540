use Rattle.std.proofs.Common.{◌≡◌, ◌∙◌, ◌≤◌, ℤ, List, Bool, length, ap, ap₂, arith}
use mir.Syntax.{w32}
use Rattle.std.proofs.lemmas.Int.{to_z-of_z}
use Rattle.pb_limits.specs.Limits.{most_nodes}
use Rattle.pb_site.specs.Kept.{marked_nodes}
use Rattle.pb_site.specs.OnDays.{nodes_on}
use Rattle.pb_site.specs.Site.{node_names, version_of}
use Rattle.pb_site.proofs.PartLemmas.{marked_in_order}
use Rattle.pb_site.proofs.on_days.OnDays.of.Goals as goal

pub invariant_of-result : goal.invariant_of-result
invariant_of-result c =
    let marks = c.as_slice.result.now in
    let long : length marks ≡ length (node_names c.args.site.now) = ap (λ (ms : List Bool). length ms) c.as_slice.ensures.value ∙ c.in_ok-marks.ensures.marks.each in
    let same = ap (λ (ms : List Bool). length ms) c.as_slice.ensures.value in
    let few : length marks ≤ most_nodes = omega (arith, same, c.in_ok-marks.ensures.marks.few) in
    rw c.in_ok-marked.ensures (marked_in_order marks (omega (arith, long)) few)

pub returns-clause-value : goal.returns-clause-value
returns-clause-value c =
    let site = c.args.site.now in
    c.in_ok-marked.ensures ∙ ap marked_nodes c.as_slice.ensures.value ∙ c.in_ok-marks.ensures.marks.marked
    ∙ ap₂ (λ (a b : ℤ). nodes_on (version_of site) site a b) (to_z-of_z w32 c.args.first c.ranges.first) (to_z-of_z w32 c.args.last c.ranges.last)
