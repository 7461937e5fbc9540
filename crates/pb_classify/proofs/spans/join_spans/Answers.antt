use Rattle.std.proofs.Common.{rules, ◌≡◌, ℕ, ◌+◌, ◌-◌, ◌<◌, length, sym, refl, subst, arith}
use Rattle.pb_classify.specs.Spans.{AreWholeFrom}
use Rattle.pb_classify.proofs.SpanLemmas.{whole_none, whole_more}
use Rattle.pb_classify.proofs.spans.join_spans.Goals as goal

-- no span is whole yet
pub loop-i-init : goal.loop-i-init
loop-i-init c =
    let ss = c.args.graph.now.streams in
    let w = c.args.walk.now in
    subst (λ (n : ℕ). AreWholeFrom ss c.args.forest.now.held w n c.args.spans.now) (sym c.len-i.ensures) (whole_none ss c.args.forest.now.held w c.args.spans.now c.requires.own)

-- one more span is whole
pub loop-i-preserved : goal.loop-i-preserved
loop-i-preserved c =
    let ss = c.args.graph.now.streams in
    let held = c.args.forest.now.held in
    let w = c.args.walk.now in
    let i : ℕ = c.loop-i.i - 1 in
    let last : i < length w.list = search rules in
    let some : 0 < c.loop-i.i = search rules in
    let next : c.loop-i.i ≡ i + 1 = omega (arith, some) in
    let before : AreWholeFrom ss held w (i + 1) c.loop-i.spans = subst (λ (n : ℕ). AreWholeFrom ss held w n c.loop-i.spans) next c.loop-i.invariant in
    whole_more ss held w i c.loop-i.spans _ c.whole_span.result last before c.whole_span.ensures refl
