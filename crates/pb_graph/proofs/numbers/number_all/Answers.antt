use Rattle.std.proofs.Common.{◌≡◌, ◌∙◌, ◌<◌, [], ◌∷◌, ◌++◌, arith, length, ap, Vec, ℕ, Global}
use Rattle.pb_graph.specs.Groups.{group_at}
use Rattle.pb_graph.specs.Parts.{label_at}
use Rattle.pb_graph.proofs.NumberLemmas.{number_new, number_old, numbered_new, numbered_old}
use Rattle.pb_graph.proofs.numbers.number_all.Goals.{then-label-node+in_ok-push-2, else-label-node}
use Rattle.pb_graph.proofs.numbers.number_all.Goals as goal

pub overflow_cast-len : goal.overflow_cast-len
overflow_cast-len c = omega (arith, c.len.ensures, c.loop-node.invariant.few, c.loop-node.least.ok.0)

-- a label that isn't the node comes before it
pub number-group_of-requires : goal.number-group_of-requires
number-group_of-requires c ne =
    let low = c.requires.low c.loop-node.node c.loop-node-test.true in
    omega (arith, low, ne, ap length c.deref.ensures.value, c.loop-node.invariant.each)

-- one more node has the number of its group
pub loop-node-preserved : goal.loop-node-preserved
loop-node-preserved c =
    let labels = c.args.labels.now in
    let n = c.loop-node.node in
    let r = label_at labels n in
    let group = c.loop-node.group.items in
    let least = c.loop-node.least.items in
    let inv = c.loop-node.invariant in
    let low = c.requires.low n c.loop-node-test.true in
    let pushed : c.push.new.self.items ≡ group ++ c.number-group_of.result ∷ [] = c.in_ok-push.ensures.items in
    elim c.if-label-node.branch [
      | then-label-node+in_ok-push-2 w ↦
          let k_is : c.number-group_of.result ≡ length least =
          c.number-group_of.ensures ∙ number_new c.deref.result.now c.len.result n r w.if-label-node.true ∙ c.len.ensures ∙ c.loop-node.least.ok.0 in
          let group_is : c.push.new.self.items ≡ group ++ length least ∷ [] = pushed ∙ ap (λ (k : ℕ). group ++ k ∷ []) k_is in
          let least_is : c.if-label-node.least.items ≡ least ++ n ∷ [] = ap (λ (v : Vec ℕ Global). v.items) w.least-is ∙ w.in_ok-push-2.ensures.items in
          rw (group_is, least_is) (numbered_new labels n group least inv w.if-label-node.true)
      | else-label-node w ↦
          let k_is : c.number-group_of.result ≡ group_at group r =
          c.number-group_of.ensures ∙ number_old c.deref.result.now c.len.result n r w.if-label-node.false ∙ ap (λ xs. group_at xs r) c.deref.ensures.value in
          let group_is : c.push.new.self.items ≡ group ++ group_at group r ∷ [] = pushed ∙ ap (λ (k : ℕ). group ++ k ∷ []) k_is in
          let least_is : c.if-label-node.least.items ≡ least = ap (λ (v : Vec ℕ Global). v.items) w.least-is in
          let before : r < n = omega (arith, low, w.if-label-node.false) in
          rw (group_is, least_is) (numbered_old labels n group least inv before (c.requires.own n c.loop-node-test.true))
    ]
