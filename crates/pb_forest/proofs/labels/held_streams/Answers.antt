use Rattle.std.proofs.Common.{ℕ, false, get_or, subst, sym}
use Rattle.pb_graph.specs.ProcessGraph.{IsStream}
use Rattle.pb_graph.specs.Parts.{IsLabelling}
use Rattle.pb_forest.specs.Forest.{is_before}
use Rattle.pb_forest.proofs.LabelLemmas.{none_before}
use Rattle.pb_forest.proofs.labels.held_streams.Goals.{In_ok-parts}
use Rattle.pb_forest.proofs.labels.held_streams.Goals as goal

-- no stream comes before the first
begun : (c : In_ok-parts) → IsLabelling c.args.streams.now c.args.nodes (is_before false 0) c.in_ok-parts.parts
begun c = c.in_ok-parts.ensures.apart c.args.streams.now (is_before false 0) (none_before c.args.streams.now)

pub mark-requires-clause-ends : goal.mark-requires-clause-ends
mark-requires-clause-ends c k d lt =
    let front = (goal.at.mark-requires-clause-ends c).In_ok-parts in
    subst (λ (n : ℕ). IsStream n (get_or c.args.streams.now k d)) (sym (begun front).each) (c.requires.ends k d lt)

pub mark-requires-clause-begins : goal.mark-requires-clause-begins
mark-requires-clause-begins c =
    let front = (goal.at.mark-requires-clause-begins c).In_ok-parts in
    subst (λ (n : ℕ). IsLabelling c.args.streams.now n (is_before false 0) c.in_ok-parts.parts) (sym (begun front).each) (begun front)
