use Rattle.std.proofs.Common.{◌≡◌, ◌<◌, ◌+◌, ◌∙◌, ℕ, List, ap, sym, subst, get_or, arith, length}
use Rattle.pb_graph.specs.declared.records.Stream.{Stream}
use Rattle.pb_graph.specs.ProcessGraph.{IsStream, some_stream}
use Rattle.pb_classify.specs.Points.{NodePoints}
use Rattle.pb_classify.specs.Tables.{points_of}
use Rattle.pb_classify.specs.CutLists.{with_stream, AreCutsBefore}
use Rattle.pb_classify.proofs.CutLemmas.{stream_more, cuts_end}
use Rattle.pb_classify.proofs.cuts.add_all.Goals as goal

-- one more stream
pub loop-j-preserved : goal.loop-j-preserved
loop-j-preserved c =
    let g = c.args.graph.now in
    let points : NodePoints = points_of c.args.points.now in
    let lists = c.loop-j.lists in
    let j = c.loop-j.j in
    let items = c.streams-stream-items.ensures.value in
    let lt : j < length g.streams = omega (arith, c.loop-j-test.true, ap length items) in
    let ends : IsStream points.nodes (get_or g.streams j some_stream) =
    subst (λ (n : ℕ). IsStream n (get_or g.streams j some_stream)) (sym c.requires.points.nodes) (c.requires.points.limits.joins j some_stream lt) in
    let is : c.add_stream.new.lists ≡ with_stream points.label lists j (get_or g.streams j some_stream) =
    c.in_ok-add_stream.ensures ∙ ap (λ (ss : List Stream). with_stream points.label lists j (get_or ss j some_stream)) items in
    record {
      each = c.add_stream.auto.lists ∙ c.loop-j.invariant.each;
      so_far = subst (AreCutsBefore points g.streams (j + 1)) (sym is)
          (stream_more points g.streams lists j lt c.loop-j.invariant.each ends c.requires.labels c.loop-j.invariant.so_far);
    }

pub returns : goal.returns
returns c =
    let g = c.args.graph.now in
    cuts_end g (points_of c.args.points.now) c.loop-j.lists c.loop-j.j c.requires.points c.loop-j.invariant.each c.requires.labels
    (omega (arith, c.loop-j-test.false, ap length c.streams-stream-items.ensures.value)) c.loop-j.invariant.so_far
