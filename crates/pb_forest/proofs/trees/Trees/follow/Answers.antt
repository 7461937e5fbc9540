use Rattle.std.proofs.Common.{rules, ◌≡◌, ◌∙◌, ℕ, true, false, Some, None, List, Option, get_or, is_some, ap, ap₂, sym}
use Rattle.pb_graph.specs.declared.records.Stream.{Stream}
use Rattle.pb_graph.specs.ProcessGraph.{other_end, some_stream}
use Rattle.pb_forest.specs.Trees.{hung, node_at, root_of, end_from}
use Rattle.pb_forest.proofs.TreeLemmas.{found_already, follows_none, follows_one, some_of}
use Rattle.pb_forest.proofs.trees.Trees.follow.Goals as goal
use Rattle.pb_forest.proofs.trees.Trees.follow.Goals.{else-held-j-via-then-held-j+else-is_none, else-held-j-via-else-held-j}

pub returns-in_ok-hang : goal.returns-in_ok-hang
returns-in_ok-hang c =
    let t = c.args.self.now in
    let ss = c.args.graph.now.streams in
    let held = c.args.held.now in
    let nodes = c.args.graph.now.nodes in
    let done = c.args.place in
    let j = c.args.j in
    let node_is : c.node_at-node.result ≡ node_at t done = c.node_at-node.ensures in
    let streams_are = c.streams.ensures.value in
    let other_is : c.end_from-other.result ≡ end_from ss (node_at t done) j = c.end_from-other.ensures ∙ ap₂ (λ (n : ℕ) (l : List Stream). other_end n (get_or l j some_stream)) node_is streams_are in
    let new : root_of t c.end_from-other.result ≡ None = search rules in
    let h : get_or held j false ≡ true = search rules in
    let one = follows_one nodes ss held done j t c.requires.trees (c.streams.ensures.limits.joins j some_stream c.requires.stream) c.requires.place c.requires.stream c.requires.touch h
    (ap (root_of t) (sym other_is) ∙ new) in
    let root_is : c.root-then-is_none.result ≡ root_of t (node_at t done) = c.root-then-is_none.ensures ∙ ap (root_of t) node_is in
    let is : c.hang.new.self ≡ hung t (end_from ss (node_at t done) j) (root_of t (node_at t done)) (Some j) =
    c.in_ok-hang.ensures ∙ ap₂ (λ (m : ℕ) (r : Option ℕ). hung t m r (Some j)) other_is root_is in
    rw is one

pub returns-else-held-j : goal.returns-else-held-j
returns-else-held-j c =
    let t = c.args.self.now in
    let ss = c.args.graph.now.streams in
    let held = c.args.held.now in
    let nodes = c.args.graph.now.nodes in
    let done = c.args.place in
    let j = c.args.j in
    let node_is : c.node_at-node.result ≡ node_at t done = c.node_at-node.ensures in
    let other_is : c.end_from-other.result ≡ end_from ss (node_at t done) j = c.end_from-other.ensures ∙ ap₂ (λ (n : ℕ) (l : List Stream). other_end n (get_or l j some_stream)) node_is c.streams.ensures.value in
    follows_none nodes ss held done j t c.requires.trees (elim c.else-held-j.branch [
      | else-held-j-via-then-held-j+else-is_none w ↦ λ h.
          let some : is_some (root_of t (end_from ss (node_at t done) j)) ≡ true = ap is_some (ap (root_of t) (sym other_is) ∙ sym w.root.ensures) ∙ w.if-is_none.ensures in
          let (r, found) = some_of (root_of t (end_from ss (node_at t done) j)) some in
          found_already nodes ss held done j r t c.requires.trees (c.streams.ensures.limits.joins j some_stream c.requires.stream) c.requires.stream c.requires.touch h found
      | else-held-j-via-else-held-j w ↦ λ h. cc (sym h ∙ w.if-held-j.false)
    ])
