use Rattle.std.proofs.Common.{◌<◌, length, arith}
use Rattle.pb_report.proofs.PieceLemmas.{side_inside, side_outside}
use Rattle.pb_report.proofs.parts.side_text.Goals as goal
use Rattle.pb_report.proofs.parts.side_text.Goals.{then-inside+in_ok-add_piece, else-inside}

pub loop-node-preserved : goal.loop-node-preserved
loop-node-preserved c =
    let in_nodes : c.loop-node.node < length c.args.nodes.now = omega arith in
    elim c.if-inside.branch [
      | then-inside+in_ok-add_piece w ↦
          rw (w.text-is, w.first-is, w.in_ok-add_piece.ensures, w.at.ensures)
          (side_inside _ _ c.args.side.now c.args.nodes.now c.loop-node.node c.loop-node.first c.loop-node-test.true in_nodes w.if-inside.true c.loop-node.invariant)
      | else-inside w ↦
          rw (w.text-is, w.first-is) (side_outside _ _ c.args.side.now c.args.nodes.now c.loop-node.node c.loop-node.first c.loop-node-test.true in_nodes w.if-inside.false c.loop-node.invariant)
    ]
