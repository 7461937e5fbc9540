use Rattle.std.proofs.Common.{◌≡◌, ◌≤◌, ◌∙◌, ℕ, ℤ, List, Bool, true, Vec, Global, IfOk, length, replicate, ap, ap₂, subst, arith}
use mir.Syntax.{w32}
use mir.Val.{of_z, to_z}
use Rattle.std.proofs.lemmas.Int.{to_z-of_z}
use Rattle.std.proofs.lemmas.Result.{IfOk-weaker}
use Rattle.pb_limits.specs.Limits.{most_nodes}
use Rattle.pb_site.specs.declared.declared.Version.{Version}
use Rattle.pb_site.specs.declared.declared.Version.TheVariants.{One, Two}
use Rattle.pb_site.specs.Kept.{AreEnds, MarksNodes}
use Rattle.pb_site.specs.OnDays.{arcs_on, nodes_on}
use Rattle.pb_site.specs.Site.{node_names, version_of}
use Rattle.pb_site.proofs.PartLemmas.{all_nodes, days_law, end_nodes}
use Rattle.pb_site.proofs.on_days.marks_on.Goals as goal

pub returns-in-One-clause-marks : goal.returns-in-One-clause-marks
returns-in-One-clause-marks c =
    let site = c.args.site.now in
    let n = length (node_names site) in
    let few : n ≤ most_nodes = omega (arith, c.nodes.ensures.value, c.nodes.ensures.within) in
    let in_version = λ (version : Version) (marks : Vec Bool Global). MarksNodes n (nodes_on version site c.args.first c.args.last) marks.items in
    let all = λ (marks : Vec Bool Global). ((y : Bool) → y ≡ true → y ≡ true) → marks.items ≡ replicate c.nodes.result true in
    subst (λ (version : Version). IfOk c.vec.result (in_version version)) c.in-One.ensures.value
    (IfOk-weaker c.vec.result all (in_version One)
    (λ marks is. all_nodes site c.args.first c.args.last marks.items few (is (λ y e. e) ∙ ap (λ (count : ℕ). replicate count true) c.nodes.ensures.value)) c.vec.ensures.items_if_clones_equal)

pub returns-in-Two-clause-marks : goal.returns-in-Two-clause-marks
returns-in-Two-clause-marks c =
    let site = c.args.site.now in
    let n = length (node_names site) in
    let first = to_z w32 (of_z w32 c.args.first) in
    let last = to_z w32 (of_z w32 c.args.last) in
    let same : nodes_on Two site first last ≡ nodes_on Two site c.args.first c.args.last =
    ap₂ (λ (a b : ℤ). nodes_on Two site a b) (to_z-of_z w32 c.args.first c.ranges.first) (to_z-of_z w32 c.args.last c.ranges.last) in
    let in_version = λ (version : Version) (marks : Vec Bool Global). MarksNodes n (nodes_on version site c.args.first c.args.last) marks.items in
    let ends = λ (marks : Vec Bool Global). AreEnds n (arcs_on Two site first last) marks.items in
    subst (λ (version : Version). IfOk c.ends_on.result (in_version version)) c.in-Two.ensures.value
    (IfOk-weaker c.ends_on.result ends (in_version Two) (λ marks are. subst (λ (nodes : List ℕ). MarksNodes n nodes marks.items) same (end_nodes site first last marks.items are)) c.ends_on.ensures)

pub returns-in-One-clause-part : goal.returns-in-One-clause-part
returns-in-One-clause-part c = days_law (version_of c.args.site.now) c.args.site.now c.args.first c.args.last c.version.ensures.plant

pub returns-in-Two-clause-part : goal.returns-in-Two-clause-part
returns-in-Two-clause-part c = days_law (version_of c.args.site.now) c.args.site.now c.args.first c.args.last c.version.ensures.plant
