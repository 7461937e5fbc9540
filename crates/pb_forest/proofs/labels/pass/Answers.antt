use Rattle.std.proofs.Common.{◌≡◌, ◌∙◌, ℕ, ◌+◌, Bool, not, Some, length, get_or, slice_get, subst, sym, arith}
use Rattle.std.proofs.lemmas.Option.{slice_get_within, slice_get-get_or}
use Rattle.pb_graph.specs.declared.records.Stream.{Stream}
use Rattle.pb_graph.specs.ProcessGraph.{IsStream, is_measured, some_stream}
use Rattle.pb_graph.specs.Parts.{IsLabelling}
use Rattle.pb_forest.specs.Forest.{is_before, IsDecided}
use Rattle.pb_forest.proofs.LabelLemmas.{one_more, labels_stay, decided_by, marks_next, marks_stay, others_stay, beq_same, beq_other}
use Rattle.pb_forest.proofs.labels.pass.Goals.{then-is_some-measured, else-is_some-measured}
use Rattle.pb_forest.proofs.labels.pass.Goals as goal

-- the stream joins nodes that have labels
pub join-requires : goal.join-requires
join-requires c =
    let ss = c.args.streams.now in
    let j = c.loop-j.j in
    subst (λ (n : ℕ). IsStream n (get_or ss j some_stream)) (sym c.loop-j.invariant.labels.each) (c.requires.ends j some_stream c.loop-j-test.true)

-- one more stream of the kind, or of the other kind
pub loop-j-preserved : goal.loop-j-preserved
loop-j-preserved c =
    let ss = c.args.streams.now in
    let m = c.args.measured in
    let j = c.loop-j.j in
    let s : Stream = get_or ss j some_stream in
    let at : slice_get ss j ≡ Some s = slice_get-get_or ss j some_stream c.loop-j-test.true in
    let nodes = length c.args.parts.now in
    let old = c.loop-j.parts in
    let inv = c.loop-j.invariant in
    let size : length old ≡ nodes = inv.labels.each in
    elim c.if-is_some-measured.branch [
      | then-is_some-measured w ↦
          let kind : is_measured s ≡ m = sym c.is_some.ensures ∙ beq_same c.is_some.result m w.if-is_some-measured.true in
          let mark = decided_by ss nodes m old j s at (c.requires.ends j some_stream c.loop-j-test.true) kind inv.labels in
          let before : IsLabelling ss (length old) (is_before m j) old = subst (λ (n : ℕ). IsLabelling ss n (is_before m j) old) (sym size) inv.labels in
          let after = w.join.ensures.joined ss (is_before m j) (is_before m (j + 1)) j (one_more ss m j s at kind) before in
          rw (w.parts-is, w.held-is) (record {
            labels = subst (λ (n : ℕ). IsLabelling ss n (is_before m (j + 1)) w.join.new.self) size after;
            marks = marks_next ss m j c.loop-j.held w.join.result (omega (arith, c.loop-j.auto.held, c.requires.each, c.loop-j-test.true)) inv.marks (subst (λ (b : Bool). IsDecided ss j b) (sym w.join.ensures.apart) mark);
            others = λ k t here other. others_stay ss m j c.loop-j.held w.join.result s t k at kind here other ∙ inv.others k t here other;
          })
      | else-is_some-measured w ↦
          let other : is_measured s ≡ not m = sym c.is_some.ensures ∙ beq_other c.is_some.result m w.if-is_some-measured.false in
          rw (w.parts-is, w.held-is) (record {
            labels = labels_stay ss nodes m old j s at other inv.labels;
            marks = marks_stay ss m j c.loop-j.held s at other inv.marks;
            others = inv.others;
          })
    ]

pub returns-clause-marks : goal.returns-clause-marks
returns-clause-marks c j s at kind =
    let lt = slice_get_within c.args.streams.now j s at in
    c.loop-j.invariant.marks j s (omega (arith, lt, c.loop-j-test.false)) at kind

pub returns-clause-parts : goal.returns-clause-parts
returns-clause-parts c =
    let ss = c.args.streams.now in
    let end : c.loop-j.j ≡ length ss = omega (arith, c.loop-j.auto.j-end, c.loop-j-test.false) in
    subst (λ (n : ℕ). IsLabelling ss (length c.args.parts.now) (is_before c.args.measured n) c.loop-j.parts) end c.loop-j.invariant.labels
