use Rattle.std.proofs.Common.{rules, ◌≡◌, ℕ, ◌+◌, ◌<◌, Some, sym, subst, inl, inr, arith}
use Rattle.std.proofs.lemmas.Bool.{cases_eq}
use Rattle.pb_graph.specs.ProcessGraph.{IsStream}
use Rattle.pb_fixed.proofs.Lists.{all_each}
use Rattle.pb_forest.specs.Trees.{root_of}
use Rattle.pb_forest.proofs.TreeLemmas.{whole_trees}
use Rattle.pb_forest.proofs.trees.Trees.of.Goals as goal

-- one more node is found
pub loop-node-preserved : goal.loop-node-preserved
loop-node-preserved c =
    let more : (n : ℕ) → n < c.loop-node.node + 1 → (r : ℕ) × (root_of c.grow.new.self n ≡ Some r) = λ n lt. elim (cases_eq n c.loop-node.node) [
      | inl same ↦ subst (λ (m : ℕ). (r : ℕ) × (root_of c.grow.new.self m ≡ Some r)) (sym same) c.in_ok-grow.ensures.found
      | inr ne ↦
          let (r, found) = c.loop-node.invariant.so_far n (omega (arith, lt, ne)) in
          (r, c.in_ok-grow.ensures.trees.extends.kept n r found)
    ] in
    record { growing = c.in_ok-grow.ensures.trees.growing; so_far = more }

pub returns : goal.returns
returns c =
    let nodes = c.args.graph.now.nodes in
    let ss = c.args.graph.now.streams in
    let at_end : c.loop-node.node ≡ nodes = search rules in
    whole_trees nodes ss c.args.held.now c.loop-node.trees c.loop-node.invariant.growing (all_each (IsStream nodes) ss c.nodes-nodes.ensures.limits.joins)
    (λ n lt. c.loop-node.invariant.so_far n (omega (arith, lt, at_end)))
