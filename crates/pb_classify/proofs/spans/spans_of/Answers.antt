use Rattle.std.proofs.Common.{◌≡◌, ◌∙◌, ℕ, ◌<◌, length, sym, subst, arith}
use Rattle.pb_classify.specs.Tables.{span_at}
use Rattle.pb_classify.specs.Spans.{own_span, AreOwn}
use Rattle.pb_classify.proofs.SpanLemmas.{own_none}
use Rattle.pb_classify.proofs.PointLemmas.{as_many}
use Rattle.pb_classify.proofs.spans.spans_of.Goals as goal

-- no stream counts yet
pub note_leaps-requires-clause-own : goal.note_leaps-requires-clause-own
note_leaps-requires-clause-own c =
    let ss = c.args.graph.now.streams in
    let held = c.args.forest.now.held in
    let w = c.args.walk.now in
    let spans = c.in_ok-spans.spans.items in
    let many : length w.list ≡ c.args.graph.now.nodes = as_many c.args.graph.now.nodes ss held w c.requires.walked in
    let own : (i : ℕ) → i < length w.list → span_at spans i ≡ own_span i = λ i lt. c.in_ok-spans.ensures.own i (omega (arith, lt, many, c.nodes.ensures.value)) in
    let made = own_none ss held w spans (c.in_ok-spans.ensures.each ∙ c.nodes.ensures.value ∙ sym many) own in
    subst (AreOwn ss held w 0) (sym c.deref_mut.ensures.value) made
