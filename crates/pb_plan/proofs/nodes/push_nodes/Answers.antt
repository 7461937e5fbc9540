use Rattle.std.proofs.Common.{◌+◌, [], ◌∷◌, ℕ, List, map, drop, get_or}
use Rattle.std.specs.List.{enumerate_from}
use Rattle.std.proofs.lemmas.List.{at_drop_more}
use Rattle.pb_plan.specs.Window.{window_node}
use Rattle.pb_plan.proofs.ListLemmas.{grown}
use Rattle.pb_plan.proofs.nodes.push_nodes.Goals as goal

pub loop-i-preserved : goal.loop-i-preserved
loop-i-preserved c =
    let list = c.args.list.now in
    let i = c.loop-i.i in
    let w = window_node c.args.period in
    let next = at_drop_more (λ (l : List ℕ). map w (enumerate_from (i + 1) l)) list i 0 c.loop-i-test.true in
    grown _ c.loop-i.nodes.items (map w (enumerate_from (i + 1) (drop i list))) (w (i + 1, get_or list i 0) ∷ [])
    (map w (enumerate_from (i + 1 + 1) (drop (i + 1) list))) _ c.loop-i.invariant next c.in_ok-push.ensures.items
