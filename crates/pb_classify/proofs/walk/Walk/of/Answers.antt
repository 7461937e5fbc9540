use Rattle.std.proofs.Common.{◌∙◌, ℕ, false, replicate, ap, arith}
use Rattle.pb_classify.proofs.StackLemmas.{walks_none}
use Rattle.pb_classify.proofs.walk.Walk.of.Goals as goal

-- no node is entered yet
pub loop-node-init : goal.loop-node-init
loop-node-init c =
    let nodes = c.nodes-nodes.ensures.value in
    record {
      walking = walks_none c.args.graph.now.nodes c.args.graph.now.streams c.args.forest.now.held _ (c.in_ok-vec.ensures.items_if_clones_equal (λ y e. e) ∙ ap (λ (n : ℕ). replicate n 0) nodes)
          (c.in_ok-vec-2.ensures.items_if_clones_equal (λ y e. e) ∙ ap (λ (n : ℕ). replicate n false) nodes) c.new.ensures.items;
      entered = λ n lt. absurd (omega (arith, lt));
    }
