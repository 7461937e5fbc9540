use Rattle.std.proofs.Common.{rules, ◌≡◌, ◌∙◌, ℕ, Bool, List, All, length, take, drop, ◌++◌, ap, subst, sym, arith}
use Rattle.std.proofs.Math.Seq.{take-append_seam}
use Rattle.pb_graph.specs.declared.records.Stream.{Stream}
use Rattle.pb_graph.specs.ProcessGraph.{IsStream}
use Rattle.pb_graph.specs.Parts.{IsLabelling}
use Rattle.pb_advise.specs.Advice.{IsAdvisedChoice}
use Rattle.pb_advise.specs.Order.{Candidate, ArePlaces, IsOrder, is_among}
use Rattle.pb_advise.proofs.MarkLemmas.{none_taken, places_of_order, choice_is}
use Rattle.pb_advise.proofs.choice.advised_choice.Goals.{In_ok-parts}
use Rattle.pb_advise.proofs.choice.advised_choice.Goals as goal

-- no stream is taken before the first
begun : (c : In_ok-parts) → IsLabelling c.streams-streams.result.now c.nodes.result (is_among c.in_ok-order.order.items 0) c.in_ok-parts.parts
begun c =
    let among = is_among c.in_ok-order.order.items 0 in
    c.in_ok-parts.ensures.apart c.streams-streams.result.now among (none_taken c.streams-streams.result.now c.in_ok-order.order.items)

pub choose-requires-clause-ends : goal.choose-requires-clause-ends
choose-requires-clause-ends c =
    let front = (goal.at.choose-requires-clause-ends c).In_ok-parts in
    let limits = c.streams-streams.ensures.limits in
    let ends = subst (λ (l : List Stream). All (IsStream c.args.graph.now.nodes) l) (sym c.streams-streams.ensures.value) limits.joins in
    subst (λ (n : ℕ). All (IsStream n) c.streams-streams.result.now) (sym ((begun front).each ∙ c.nodes.ensures.value)) ends

pub choose-requires-clause-places : goal.choose-requires-clause-places
choose-requires-clause-places c =
    let ss = c.streams-streams.result.now in
    let order : IsOrder c.args.costs.now ss c.in_ok-order.order.items = c.in_ok-order.ensures in
    subst (λ (l : List Candidate). ArePlaces ss l) (sym c.deref.ensures.value) (places_of_order c.args.costs.now ss c.in_ok-order.order.items order)

pub choose-requires-clause-begins : goal.choose-requires-clause-begins
choose-requires-clause-begins c =
    let front = (goal.at.choose-requires-clause-begins c).In_ok-parts in
    let ss = c.streams-streams.result.now in
    let parts = c.in_ok-parts.parts in
    let labels = begun front in
    let sized = subst (λ (n : ℕ). IsLabelling ss n (is_among c.in_ok-order.order.items 0) parts) (sym labels.each) labels in
    subst (λ (l : List Candidate). IsLabelling ss (length parts) (is_among l 0) parts) (sym c.deref.ensures.value) sized

pub returns-clause-choice : goal.returns-clause-choice
returns-clause-choice c =
    let g = c.args.graph.now in
    let costs = c.args.costs.now in
    let ss = c.streams-streams.result.now in
    let new = c.choose.new.chosen in
    let made : IsOrder costs ss c.in_ok-order.order.items = c.in_ok-order.ensures in
    let order = subst (λ (l : List Candidate). IsOrder costs ss l) (sym c.deref.ensures.value) made in
    let size : length new ≡ length ss = search rules in
    let is = choice_is (record { nodes = g.nodes; streams = ss }) costs c.deref.result.now new order size c.choose.ensures.marks c.choose.ensures.others in
    let whole : IsAdvisedChoice g costs new = subst (λ (l : List Stream). IsAdvisedChoice (record { nodes = g.nodes; streams = l }) costs new) c.streams-streams.ensures.value is in
    let long : c.in_ok-chosen.chosen.len ≡ length new = let a = c.deref_mut.ensures.len in let b = c.choose.auto.chosen in omega (arith, a, b) in
    let rest = drop (length new) c.in_ok-chosen.chosen.items in
    let back : take c.in_ok-chosen.chosen.len (new ++ rest) ≡ new = ap (λ (n : ℕ). take n (new ++ rest)) long ∙ take-append_seam new rest in
    subst (λ (l : List Bool). IsAdvisedChoice g costs l) (sym back) whole
