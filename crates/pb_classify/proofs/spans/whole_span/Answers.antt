use Rattle.std.proofs.Common.{ℕ, ◌+◌, ◌<◌, length, ap, sym, subst, arith}
use Rattle.pb_classify.specs.declared.walk.Entry.{Entry}
use Rattle.pb_classify.specs.Tables.{depth_at, span_at}
use Rattle.pb_classify.specs.Spans.{IsDeeper}
use Rattle.pb_classify.proofs.SpanLemmas.{deeper_more}
use Rattle.pb_classify.proofs.spans.whole_span.Goals as goal

-- the span after it is joined
pub loop-span-preserved : goal.loop-span-preserved
loop-span-preserved c =
    let ss = c.args.graph.now.streams in
    let held = c.args.forest.now.held in
    let w = c.args.walk.now in
    let i = c.args.i in
    let span = c.loop-span.span in
    let next : ℕ = span.last + 1 in
    let lt : next < length w.list = omega (arith, c.loop-span-test.true, c.len.ensures) in
    let own = ap (λ (y : Entry). y.depth) c.entry-depth.ensures in
    let other = ap (λ (y : Entry). y.depth) c.entry.ensures in
    let deep : depth_at w i < depth_at w next = omega (arith, own, other, c.if-entry-depth.true) in
    let whole = c.requires.behind.whole next (omega (arith, c.loop-span.invariant.from)) lt in
    subst (IsDeeper ss held w i) (sym c.both-span.ensures) (deeper_more ss held w i span (span_at c.args.spans.now next) c.loop-span.invariant deep whole)
