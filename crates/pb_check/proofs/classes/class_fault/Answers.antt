use Rattle.std.proofs.Common.{arith}
use Rattle.std.proofs.lemmas.Option.{slice_get_within}
use Rattle.pb_check.specs.Asked.{HasClassAt}
use Rattle.pb_check.specs.Places.{AtStream}
use Rattle.pb_check.proofs.DecideLemmas.{one_more, fails_by}
use Rattle.pb_check.proofs.PlaceLemmas.{stream_fault}
use Rattle.pb_check.proofs.classes.class_fault.Goals as goal

pub returns-then-not-has_class_at : goal.returns-then-not-has_class_at
returns-then-not-has_class_at c =
    let stage = c.args.stage.now in
    let j = c.loop-j.j in
    stream_fault stage (HasClassAt stage) j c.at_stream.result (omega (arith, c.loop-j-test.true, c.len-j-end.ensures.value, c.requires.each_stream)) c.loop-j.invariant
    (fails_by (AtStream stage (HasClassAt stage) j) c.has_class_at.result c.has_class_at.ensures c.if-not-has_class_at.true) c.at_stream.ensures

pub loop-j-preserved : goal.loop-j-preserved
loop-j-preserved c =
    let stage = c.args.stage.now in
    one_more (AtStream stage (HasClassAt stage)) c.loop-j.j c.loop-j.invariant (c.has_class_at.ensures.0 c.if-not-has_class_at.false)

pub returns : goal.returns
returns c =
    λ j result there.
    let within = slice_get_within c.args.stage.now.streams j result there in
    c.loop-j.invariant j (omega (arith, within, c.loop-j-test.false, c.len-j-end.ensures.value, c.requires.each_stream)) result there
