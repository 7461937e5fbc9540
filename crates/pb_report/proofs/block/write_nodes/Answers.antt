use Rattle.std.proofs.Common.{ℕ, ℤ, List, length, ap, ◌<◌, ◌∙◌, rules}
use Rattle.pb_report.specs.Block.{node_row}
use Rattle.pb_report.proofs.OutputLemmas.{one_row}
use Rattle.pb_report.proofs.block.write_nodes.Goals as goal

pub loop-node-preserved : goal.loop-node-preserved
loop-node-preserved c =
    let within : c.loop-node.node < length c.args.names.now = search rules in
    record {
      names = search rules;
      way = one_row (λ (n : ℕ) (name : List ℕ) (price : ℤ). node_row name price) c.args.output.now c.loop-node.output c.push.new.self _ c.as_slice-name-items.result.now c.args.names.now c.args.prices.now c.loop-node.node _ c.at.result.now _ c.as_slice-name-items.ensures within c.at.ensures c.loop-node.invariant.way (c.node_values.ensures ∙ ap (λ (name : List ℕ). node_row name c.at.result.now) c.name-item.is) c.in_ok-push.ensures;
    }
