use Rattle.std.proofs.Common.{◌≡◌, ◌∙◌, ◌+◌, ◌-◌, ◌++◌, [], ◌∷◌, ℕ, List, ap, sym, refl, arith, length, length-append}
use Rattle.std.specs.Prelude.{filter}
use Rattle.std.specs.List.{range_with_len}
use Rattle.pb_plan.specs.Plant.{is_node_in, nodes_in}
use Rattle.pb_plan.proofs.JoinedLemmas.{kept_is}
use Rattle.pb_plan.proofs.ListLemmas.{filter_no, filter_range_next, filter_yes, grown, passed}
use Rattle.pb_plan.proofs.nodes.nodes_in.Goals as goal
use Rattle.pb_plan.proofs.nodes.nodes_in.Goals.{then-is_kept+in_ok-push, else-is_kept}

pub loop-k-init : goal.loop-k-init
loop-k-init c =
    let n = c.args.plant.now.nodes in
    let e : n - 0 ≡ n = omega arith in
    record { so_far = rw (e, c.new-list.ensures.items) refl; few = rw c.new-list.ensures.items (omega arith) }

pub loop-k-preserved : goal.loop-k-preserved
loop-k-preserved c =
    let q = is_node_in c.args.plant.now c.args.span.now in
    let n = c.args.plant.now.nodes in
    let k = c.loop-k.k in
    let whole = nodes_in c.args.plant.now c.args.span.now in
    let made = c.loop-k.list.items in
    let rest = filter q (range_with_len (k + 1) (n - k)) in
    let left = filter q (range_with_len (k + 1 + 1) (n - (k + 1))) in
    let next = filter_range_next q (k + 1) n k c.loop-k-test.true in
    let marks = rw c.deref.ensures.value at c.is_kept.ensures in
    let is : c.is_kept.result ≡ q (k + 1) = marks ∙ kept_is c.args.plant.now c.args.span.now (n + 1) (k + 1) c.in_ok-joined.joined.items c.in_ok-joined.ensures (omega (arith, c.loop-k-test.true)) in
    elim c.if-is_kept.branch [
      | then-is_kept+in_ok-push w ↦ rw w.list-is (record {
        so_far = grown whole made rest ((k + 1) ∷ []) left _ c.loop-k.invariant.so_far
            (next ∙ ap (λ (l : List ℕ). l ++ left) (filter_yes q (k + 1) (sym is ∙ w.if-is_kept.true))) w.in_ok-push.ensures.items;
        few = omega (arith, ap length w.in_ok-push.ensures.items, length-append made ((k + 1) ∷ []), c.loop-k.invariant.few);
      })
      | else-is_kept w ↦ rw w.list-is (record {
        so_far = passed whole made rest left c.loop-k.invariant.so_far
            (next ∙ ap (λ (l : List ℕ). l ++ left) (filter_no q (k + 1) (sym is ∙ w.if-is_kept.false)));
        few = omega (arith, c.loop-k.invariant.few);
      })
    ]
