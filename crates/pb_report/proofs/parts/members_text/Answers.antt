use Rattle.pb_report.specs.Certificate.{member_text}
use Rattle.pb_report.proofs.PieceLemmas.{piece_more, pieces_done}
use Rattle.pb_report.proofs.parts.members_text.Goals as goal

pub loop-i-preserved : goal.loop-i-preserved
loop-i-preserved c =
    rw (c.in_ok-add_part.ensures, c.at-name.ensures, c.enters.ensures)
    (piece_more (member_text c.args.streams.now) _ _ c.args.members.now c.loop-i.i _ c.loop-i-test.true c.loop-i.invariant)

pub returns : goal.returns
returns c = pieces_done (member_text c.args.streams.now) _ _ c.args.members.now c.loop-i.i c.loop-i-test.false c.loop-i.invariant
