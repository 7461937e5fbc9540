use Rattle.std.proofs.Common.{◌≡◌, ◌∙◌, ℕ, ◌+◌, not, true, false, Some, length, get_or, slice_get, ap, sym, subst, arith}
use Rattle.std.proofs.lemmas.Option.{slice_get-get_or}
use Rattle.pb_graph.specs.declared.records.Stream.{Stream}
use Rattle.pb_graph.specs.ProcessGraph.{IsStream, is_measured, some_stream}
use Rattle.pb_graph.specs.Parts.{IsLabelling}
use Rattle.pb_graph.specs.Numbers.{unmeasured_before}
use Rattle.pb_graph.proofs.UnmeasuredPartLemmas.{one_more, labels_stay, labels_whole}
use Rattle.pb_graph.proofs.merge.join_all.Goals.{then-is_none, else-is_none}
use Rattle.pb_graph.proofs.merge.join_all.Goals as goal

-- the stream joins nodes that have labels
pub join-requires : goal.join-requires
join-requires c =
    subst (λ (n : ℕ). IsStream n (get_or c.args.streams.now c.loop-stream.stream-index some_stream)) (sym c.loop-stream.invariant.each) (c.requires.ends c.loop-stream.stream-index some_stream c.loop-stream-test.true)

-- one more stream
pub loop-stream-preserved : goal.loop-stream-preserved
loop-stream-preserved c =
    let ss = c.args.streams.now in
    let j = c.loop-stream.stream-index in
    let s : Stream = get_or ss j some_stream in
    let at : slice_get ss j ≡ Some s = slice_get-get_or ss j some_stream c.loop-stream-test.true in
    let nodes = length c.args.parts.now in
    let old = c.loop-stream.parts in
    let inv = c.loop-stream.invariant in
    let size : length old ≡ nodes = inv.each in
    elim c.if-is_none.branch [
      | then-is_none w ↦
          let plain : is_measured s ≡ false = c.is_none.ensures ∙ ap not w.if-is_none.true in
          let before : IsLabelling ss (length old) (unmeasured_before j) old = subst (λ (n : ℕ). IsLabelling ss n (unmeasured_before j) old) (sym size) inv in
          let after = w.join.ensures.joined ss (unmeasured_before j) (unmeasured_before (j + 1)) j (one_more ss j s at plain) before in
          rw w.parts-is (subst (λ (n : ℕ). IsLabelling ss n (unmeasured_before (j + 1)) w.join.new.self) size after)
      | else-is_none w ↦
          let measured : is_measured s ≡ true = c.is_none.ensures ∙ ap not w.if-is_none.false in
          rw w.parts-is (labels_stay ss nodes old j s at measured inv)
    ]

pub returns : goal.returns
returns c =
    let ss = c.args.streams.now in
    let nodes = length c.args.parts.now in
    let end : c.loop-stream.stream-index ≡ length ss = omega (arith, c.loop-stream.auto.stream-index-end, c.loop-stream-test.false) in
    labels_whole ss nodes c.loop-stream.parts (subst (λ (n : ℕ). IsLabelling ss nodes (unmeasured_before n) c.loop-stream.parts) end c.loop-stream.invariant)
