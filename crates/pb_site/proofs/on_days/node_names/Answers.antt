use Rattle.std.proofs.Common.{◌∙◌, ◌++◌, ◌∷◌, [], ℕ, List, map, ap, sym}
use Rattle.std.proofs.lemmas.List.{take_all}
use Rattle.pb_site.specs.OnDays.{name_at_node}
use Rattle.pb_site.proofs.PartLemmas.{names_next}
use Rattle.pb_site.proofs.on_days.node_names.Goals as goal

pub loop-node-preserved : goal.loop-node-preserved
loop-node-preserved c =
    let i = c.loop-node.node-index in
    let inside = c.requires i 0 c.loop-node-test.true in
    c.in_ok-push.ensures.appended ∙ ap (λ (names : List (List ℕ)). names ++ c.node_name.result ∷ []) c.loop-node.invariant
    ∙ sym (names_next c.args.site.now c.args.nodes.now i c.node_name.result c.loop-node-test.true inside c.node_name.ensures)

pub returns : goal.returns
returns c = c.loop-node.invariant ∙ ap (map (name_at_node c.args.site.now)) (take_all c.loop-node.node-index c.args.nodes.now c.loop-node-test.false)
