use Rattle.std.proofs.Common.{◌≡◌, ◌∙◌, ◌+◌, get_or, ap, sym, subst}
use Rattle.std.proofs.lemmas.Option.{get_or_from_slice_get}
use Rattle.pb_graph.specs.declared.records.Stream.{Stream}
use Rattle.pb_graph.specs.ProcessGraph.{some_stream}
use Rattle.pb_classify.specs.Tables.{number_of}
use Rattle.pb_classify.specs.Spans.{noted, AreOwn}
use Rattle.pb_classify.proofs.SpanLemmas.{own_same, own_more}
use Rattle.pb_classify.proofs.spans.note_leaps.Goals as goal
use Rattle.pb_classify.proofs.spans.note_leaps.Goals.{then-is_leap, else-is_leap}

-- one more stream
pub loop-j-preserved : goal.loop-j-preserved
loop-j-preserved c =
    let ss = c.args.graph.now.streams in
    let held = c.args.forest.now.held in
    let walk = c.args.walk.now in
    let j = c.loop-j.j in
    let spans = c.loop-j.spans in
    elim c.if-is_leap.branch [
      | then-is_leap w ↦
          let same : get_or ss j some_stream ≡ w.stream.result = get_or_from_slice_get ss j w.stream.result some_stream w.stream.ensures in
          let is = w.spans-is ∙ w.note_ends.ensures
          ∙ ap (λ (s : Stream). noted (noted spans (number_of walk s.from) (number_of walk s.to)) (number_of walk s.to) (number_of walk s.from)) (sym same) in
          subst (AreOwn ss held walk (j + 1)) (sym is) (own_more ss held walk j spans (sym c.is_leap.ensures ∙ w.if-is_leap.true) c.loop-j.invariant)
      | else-is_leap w ↦ subst (AreOwn ss held walk (j + 1)) (sym w.spans-is) (own_same ss held walk j spans (sym c.is_leap.ensures ∙ w.if-is_leap.false) c.loop-j.invariant)
    ]
