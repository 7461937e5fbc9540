use Rattle.std.proofs.Common.{◌≡◌, ◌∙◌, Option, Some, List, sym, subst}
use Rattle.std.specs.Prelude.{IfSome}
use Rattle.pb_graph.specs.declared.records.Member.{Member}
use Rattle.pb_graph.specs.ProcessGraph.{ProcessGraph}
use Rattle.pb_gap.specs.Bounds.{AreSigned}
use Rattle.pb_gap.specs.StreamBounds.{sum_for}
use Rattle.pb_gap.proofs.GapLaws.{stream_signed}
use Rattle.pb_check.proofs.bounds.found_bounds.Goals as goal

pub bounds-requires-clause-members : goal.bounds-requires-clause-members
bounds-requires-clause-members c =
    let g = c.args.stage.now.graph in
    let classified = c.args.classified.now in
    let is : sum_for c.args.stream classified.class classified.witness ≡ Some c.in-Some.members = sym c.in_ok-sum_for.ensures ∙ c.in-Some.is in
    let signed : AreSigned g c.in-Some.members = subst (λ (o : Option (List Member)). IfSome o (AreSigned g)) is (stream_signed g c.args.stream classified c.requires.certified) in
    subst (λ (h : ProcessGraph). AreSigned h c.as_slice.result.now) (sym c.requires.pair.graph) (subst (AreSigned g) (sym c.as_slice.ensures) signed)
