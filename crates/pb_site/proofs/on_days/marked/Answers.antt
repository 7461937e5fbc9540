use Rattle.std.proofs.Common.{◌≡◌, ◌∙◌, ◌++◌, ◌∷◌, [], ◌-◌, ℕ, List, Vec, Global, filter, ap, sym, length, arith}
use Rattle.std.specs.List.{range_with_len}
use Rattle.pb_site.specs.Kept.{is_marked}
use Rattle.pb_site.proofs.DaysLemmas.{kept_more, kept_same}
use Rattle.pb_site.proofs.on_days.marked.Goals.{then-marks-node+in_ok-push-2, else-marks-node}
use Rattle.pb_site.proofs.on_days.marked.Goals as goal

pub loop-node-preserved : goal.loop-node-preserved
loop-node-preserved c =
    let marked = is_marked c.args.marks.now in
    let node = c.loop-node.node in
    let items = λ (nodes : Vec ℕ Global). nodes.items in
    elim c.if-marks-node.branch [
      | then-marks-node+in_ok-push-2 w ↦
          ap items w.nodes-is ∙ w.in_ok-push-2.ensures.items ∙ ap (λ (ns : List ℕ). ns ++ node ∷ []) c.loop-node.invariant
          ∙ sym (ap (λ (ns : List ℕ). 0 ∷ ns) (kept_more marked node c.loop-node.auto.node w.if-marks-node.true))
      | else-marks-node w ↦
          ap items w.nodes-is ∙ c.loop-node.invariant
          ∙ sym (ap (λ (ns : List ℕ). 0 ∷ ns) (kept_same marked node c.loop-node.auto.node w.if-marks-node.false))
    ]

pub returns : goal.returns
returns c =
    let marked = is_marked c.args.marks.now in
    let node = c.loop-node.node in
    let last : node - 1 ≡ length c.args.marks.now - 1 = omega (arith, c.requires.some, c.loop-node-test.false, c.loop-node.auto.node-end) in
    c.loop-node.invariant ∙ ap (λ (n : ℕ). 0 ∷ filter marked (range_with_len 1 n)) last
