use Rattle.std.proofs.Common.{ℕ, get_or, subst, sym}
use Rattle.pb_graph.specs.ProcessGraph.{IsStream}
use Rattle.pb_graph.specs.Walk.{unmeasured}
use Rattle.pb_graph.specs.Parts.{IsLabelling}
use Rattle.pb_graph.specs.Numbers.{unmeasured_before}
use Rattle.pb_graph.proofs.UnmeasuredPartLemmas.{none_before}
use Rattle.pb_graph.proofs.merge.unmeasured_parts.Goals.{In_ok-parts}
use Rattle.pb_graph.proofs.merge.unmeasured_parts.Goals as goal

-- no stream comes before the first
begun : (c : In_ok-parts) → IsLabelling c.args.streams.now c.args.nodes (unmeasured_before 0) c.in_ok-parts.parts
begun c = c.in_ok-parts.ensures.apart c.args.streams.now (unmeasured_before 0) (none_before c.args.streams.now)

pub join_all-requires-clause-ends : goal.join_all-requires-clause-ends
join_all-requires-clause-ends c k d lt =
    let front = (goal.at.join_all-requires-clause-ends c).In_ok-parts in
    subst (λ (n : ℕ). IsStream n (get_or c.args.streams.now k d)) (sym (begun front).each) (c.requires k d lt)

pub join_all-requires-clause-begins : goal.join_all-requires-clause-begins
join_all-requires-clause-begins c =
    let front = (goal.at.join_all-requires-clause-begins c).In_ok-parts in
    subst (λ (n : ℕ). IsLabelling c.args.streams.now n (unmeasured_before 0) c.in_ok-parts.parts) (sym (begun front).each) (begun front)

pub returns : goal.returns
returns c =
    let front = (goal.at.returns c).In_ok-parts in
    subst (λ (n : ℕ). IsLabelling c.args.streams.now n unmeasured c.join_all.new.parts) (begun front).each c.join_all.ensures
