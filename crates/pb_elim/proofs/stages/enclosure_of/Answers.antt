use Rattle.std.proofs.Common.{◌≡◌, ◌∙◌, ℕ, List, Option, Some, sym, subst}
use Rattle.std.specs.Prelude.{IfSome}
use Rattle.pb_graph.specs.declared.records.Member.{Member}
use Rattle.pb_graph.specs.declared.records.Classified.{Classified}
use Rattle.pb_graph.specs.ProcessGraph.{ProcessGraph}
use Rattle.pb_graph.specs.Certificates.{IsCertified}
use Rattle.pb_gap.specs.Bounds.{AreSigned}
use Rattle.pb_gap.specs.StreamBounds.{sum_for}
use Rattle.pb_gap.proofs.GapLaws.{stream_signed}
use Rattle.pb_elim.proofs.StageLemmas.{witness_signs}
use Rattle.pb_elim.proofs.stages.enclosure_of.Goals as goal

pub sum_for-requires : goal.sum_for-requires
sum_for-requires c = witness_signs c.args.solver.now.graph c.args.stream c.args.classified.now c.requires.classified.certified

-- the sum for a stream is a sum of measured streams, each at most once
signed : (g : ProcessGraph) (j : ℕ) (c : Classified) (o : Option (List Member)) (sum members : List Member) → IsCertified g j c
    → o ≡ sum_for j c.class c.witness → o ≡ Some sum → members ≡ sum → AreSigned g members
signed g j c o sum members certified is some same =
    subst (AreSigned g) (sym same) (subst (λ (o : Option (List Member)). IfSome o (AreSigned g)) (sym is ∙ some) (stream_signed g j c certified))

pub bounds-requires : goal.bounds-requires
bounds-requires c =
    signed c.args.solver.now.graph c.args.stream c.args.classified.now _ _ _ c.requires.classified.certified c.in_ok-sum_for.ensures c.in-Some.is c.as_slice-members.ensures

pub least-requires : goal.least-requires
least-requires c =
    signed c.args.solver.now.graph c.args.stream c.args.classified.now _ _ _ c.requires.classified.certified c.in_ok-sum_for.ensures c.in-Some.is c.as_slice-members.ensures
