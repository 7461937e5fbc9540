use Rattle.std.proofs.Common.{arith}
use Rattle.std.proofs.lemmas.Option.{slice_get_within}
use Rattle.pb_graph.specs.Certificates.{IsCertified}
use Rattle.pb_check.proofs.DecideLemmas.{one_more, fails_by}
use Rattle.pb_check.proofs.PlaceLemmas.{stream_fault}
use Rattle.pb_check.proofs.classes.witness_fault.Goals as goal
use Rattle.pb_check.specs.Places.{AtStream}

pub returns-then-not-is_shown_at : goal.returns-then-not-is_shown_at
returns-then-not-is_shown_at c =
    let stage = c.args.stage.now in
    let j = c.loop-j.j in
    stream_fault stage (λ j r. IsCertified stage.graph j r.classified) j c.at_stream.result (omega (arith, c.loop-j-test.true, c.len-j-end.ensures.value, c.requires.each_stream)) c.loop-j.invariant.each
    (fails_by (AtStream stage (λ j r. IsCertified stage.graph j r.classified) j) c.is_shown_at.result c.is_shown_at.ensures c.if-not-is_shown_at.true) c.at_stream.ensures

pub loop-j-preserved : goal.loop-j-preserved
loop-j-preserved c = record {
  each = one_more (AtStream c.args.stage.now (λ j r. IsCertified c.args.stage.now.graph j r.classified)) c.loop-j.j c.loop-j.invariant.each (c.is_shown_at.ensures.0 c.if-not-is_shown_at.false);
  known = c.cycle_after-known.ensures;
}

pub returns : goal.returns
returns c =
    λ j result there.
    let within = slice_get_within c.args.stage.now.streams j result there in
    c.loop-j.invariant.each j (omega (arith, within, c.loop-j-test.false, c.len-j-end.ensures.value, c.requires.each_stream)) result there
