use Rattle.std.proofs.Common.{arith}
use Rattle.pb_graph.proofs.PartLemmas.{labels_apart}
use Rattle.pb_graph.proofs.parts.Parts.new.Goals as goal

-- each node is its own label
pub returns : goal.returns
returns c = record {
  apart = λ streams may none.
      let made = c.in_ok-own_labels.field-0 in
      labels_apart streams c.args.nodes may made.items none (omega (arith, made.ok.0, c.in_ok-own_labels.ensures.each)) c.in_ok-own_labels.ensures.own;
}
