use Rattle.std.proofs.Common.{◌≡◌, ◌↔◌, ℕ, ◌<◌, ◌≤◌, Bool, true, List, length, inl, inr, arith}
use Rattle.pb_graph.specs.Walk.{is_in}
use Rattle.pb_classify.specs.Points.{NodePoints, IsSideOf}
use Rattle.pb_classify.specs.Tables.{points_of}
use Rattle.pb_classify.proofs.SideLemmas.{stream_in, lower_within, tree_side, below_side_at, rest_side_at, if_ok_both}
use Rattle.pb_classify.proofs.points.Points.side_of.Goals as goal

pub lower_end-requires-clause-from : goal.lower_end-requires-clause-from
lower_end-requires-clause-from c =
    let is = stream_in c.args.graph.now c.args.j c.stream-stream.result c.requires.points.limits c.stream-stream.ensures in
    omega (arith, is.from, c.requires.points.nodes)

pub lower_end-requires-clause-to : goal.lower_end-requires-clause-to
lower_end-requires-clause-to c =
    let is = stream_in c.args.graph.now c.args.j c.stream-stream.result c.requires.points.limits c.stream-stream.ensures in
    omega (arith, is.to, c.requires.points.nodes)

pub tree_of-requires : goal.tree_of-requires
tree_of-requires c =
    let is = stream_in c.args.graph.now c.args.j c.stream-stream.result c.requires.points.limits c.stream-stream.ensures in
    omega (arith, is.from, c.requires.points.nodes)

pub below-requires-clause-node : goal.below-requires-clause-node
below-requires-clause-node c =
    let lt = lower_within c.args.graph.now (points_of c.args.self.now) c.args.j c.in-Some.node c.stream-stream.result c.requires.points.limits c.stream-stream.ensures c.in-Some.ensures.1 in
    omega (arith, lt, c.requires.points.nodes)

pub rest_of-requires-clause-node : goal.rest_of-requires-clause-node
rest_of-requires-clause-node c =
    let lt = lower_within c.args.graph.now (points_of c.args.self.now) c.args.j c.in-Some.node c.stream-stream.result c.requires.points.limits c.stream-stream.ensures c.in-Some.ensures.1 in
    omega (arith, lt, c.requires.points.nodes)

-- a stream that no node hangs by
pub returns-in-None : goal.returns-in-None
returns-in-None c =
    let s = c.stream-stream.result in
    let points : NodePoints = points_of c.args.self.now in
    if_ok_both c.tree_of.result (λ (side : List Bool). length side ≡ points.nodes)
    (λ (side : List Bool). (m : ℕ) → m < points.nodes → (is_in side m ≡ true) ↔ (points.label s.from ≡ points.label m)) (IsSideOf c.args.graph.now c.args.j)
    (λ side each tree. tree_side c.args.graph.now points c.args.j s side c.requires.points.limits c.requires.points c.stream-stream.ensures c.in-None.ensures.0 c.in-None.ensures.1 each tree)
    c.tree_of.ensures.each c.tree_of.ensures.tree

-- a stream whose lower end is its `from` end
pub returns-then-node-stream : goal.returns-then-node-stream
returns-then-node-stream c =
    let s = c.stream-stream.result in
    let n = c.in-Some.node in
    let points : NodePoints = points_of c.args.self.now in
    if_ok_both c.below.result (λ (side : List Bool). length side ≡ points.nodes)
    (λ (side : List Bool). (m : ℕ) → m < points.nodes → (is_in side m ≡ true) ↔ ((points.number n ≤ points.number m) × (points.number m ≤ points.last n)))
    (IsSideOf c.args.graph.now c.args.j)
    (λ side each below. below_side_at c.args.graph.now points c.args.j n s side c.requires.points.limits c.requires.points c.stream-stream.ensures c.if-node-stream.true c.in-Some.ensures.0
    c.requires.apart each below) c.below.ensures.each c.below.ensures.below

-- a stream whose lower end is its `to` end
pub returns-else-node-stream : goal.returns-else-node-stream
returns-else-node-stream c =
    let s = c.stream-stream.result in
    let n = c.in-Some.node in
    let points : NodePoints = points_of c.args.self.now in
    let to : n ≡ s.to = elim c.in-Some.ensures.1 [
      | inl from ↦ absurd (c.if-node-stream.false from)
      | inr end ↦ end
    ] in
    if_ok_both c.rest_of.result (λ (side : List Bool). length side ≡ points.nodes)
    (λ (side : List Bool). (m : ℕ) → m < points.nodes
    → (is_in side m ≡ true) ↔ ((points.label n ≡ points.label m) × ((points.number n ≤ points.number m) × (points.number m ≤ points.last n) → ⊥)))
    (IsSideOf c.args.graph.now c.args.j)
    (λ side each rest. rest_side_at c.args.graph.now points c.args.j n s side c.requires.points.limits c.requires.points c.stream-stream.ensures to c.in-Some.ensures.0 c.requires.apart each rest)
    c.rest_of.ensures.each c.rest_of.ensures.rest
