use Rattle.std.proofs.Common.{◌≡◌, ◌≢◌, ◌∙◌, ℕ, ◌+◌, ◌<◌, Bool, true, false, not, ◌==◌, Some, length, get_or, set, slice_get, ap, refl, sym, subst, inl, inr, arith, get_or-set_same, get_or-set_other}
use Rattle.std.proofs.lemmas.Bool.{cases_eq}
use Rattle.std.proofs.lemmas.Option.{slice_get-get_or}
use Rattle.pb_graph.specs.declared.records.Stream.{Stream}
use Rattle.pb_graph.specs.ProcessGraph.{IsStream, some_stream}
use Rattle.pb_graph.specs.Parts.{IsLabelling, label_at}
use Rattle.pb_advise.specs.Order.{IsMarked, is_among, taken_at}
use Rattle.pb_advise.proofs.MarkLemmas.{one_taken, marked_by}
use Rattle.pb_advise.proofs.choice.choose.Goals as goal

pub loop-j-init : goal.loop-j-init
loop-j-init c = record {
  labels = c.requires.begins;
  marks = λ p lt. absurd (omega (arith, lt));
  others = λ k never. refl;
}

-- the stream joins nodes that have labels
pub join-requires : goal.join-requires
join-requires c =
    let place = taken_at c.args.order.now c.loop-j.j-index in
    subst (λ (n : ℕ). IsStream n (get_or c.args.streams.now place some_stream)) (sym c.loop-j.invariant.labels.each)
    (c.requires.ends place some_stream (c.requires.places.there c.loop-j.j-index c.loop-j-test.true))

not_not : (b : Bool) → not (not b) ≡ b
not_not true = refl
not_not false = refl

-- one more is marked
pub loop-j-preserved : goal.loop-j-preserved
loop-j-preserved c =
    let ss = c.args.streams.now in
    let list = c.args.order.now in
    let i = c.loop-j.j-index in
    let lt : i < length list = c.loop-j-test.true in
    let j = taken_at list i in
    let s : Stream = get_or ss j some_stream in
    let there = c.requires.places.there i lt in
    let at : slice_get ss j ≡ Some s = slice_get-get_or ss j some_stream there in
    let nodes = length c.args.parts.now in
    let inv = c.loop-j.invariant in
    let size : length c.loop-j.parts ≡ nodes = inv.labels.each in
    let marked = marked_by ss nodes list i c.loop-j.parts s at (c.requires.ends j some_stream there) inv.labels in
    let before : IsLabelling ss (length c.loop-j.parts) (is_among list i) c.loop-j.parts = subst (λ (n : ℕ). IsLabelling ss n (is_among list i) c.loop-j.parts) (sym size) inv.labels in
    let after = c.join.ensures.joined ss (is_among list i) (is_among list (i + 1)) j (one_taken ss list i s lt at) before in
    let wide : j < length c.loop-j.chosen = let a = c.loop-j.auto.chosen in let b = c.requires.each in omega (arith, there, a, b) in
    let mark = not c.join.result in
    let here : get_or (set c.loop-j.chosen j mark) j false ≡ mark = get_or-set_same c.loop-j.chosen j mark false wide in
    record {
      labels = subst (λ (n : ℕ). IsLabelling ss n (is_among list (i + 1)) c.join.new.self) size after;
      marks = λ p less. elim (cases_eq p i) [
        | inl same ↦
            subst (λ (q : ℕ). IsMarked ss list q (get_or (set c.loop-j.chosen j mark) (taken_at list q) false)) (sym same)
            (subst (λ (b : Bool). IsMarked ss list i b) (sym (here ∙ ap not c.join.ensures.apart ∙ not_not (label_at c.loop-j.parts s.from == label_at c.loop-j.parts s.to))) marked)
        | inr other ↦
            let earlier : p < i = omega (arith, less, other) in
            let differ : taken_at list p ≢ j = c.requires.places.differ p i earlier lt in
            subst (λ (b : Bool). IsMarked ss list p b) (sym (get_or-set_other c.loop-j.chosen j (taken_at list p) mark false differ)) (inv.marks p earlier)
      ];
      others = λ k never.
          let differ : k ≢ j = λ z. never i (omega arith) (sym z) in
          get_or-set_other c.loop-j.chosen j k mark false differ ∙ inv.others k (λ p less. never p (omega (arith, less)));
    }

pub returns-clause-marks : goal.returns-clause-marks
returns-clause-marks c p lt = c.loop-j.invariant.marks p (let end = c.loop-j-test.false in omega (arith, lt, end))

pub returns-clause-others : goal.returns-clause-others
returns-clause-others c k never =
    c.loop-j.invariant.others k (λ p less. never p (let within = c.loop-j.auto.j-index-end in omega (arith, less, within))) ∙ c.requires.none k
