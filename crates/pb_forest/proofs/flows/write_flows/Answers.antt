use Rattle.std.proofs.Common.{◌≡◌, ◌∙◌, ℕ, ◌<◌, ◌^◌, pos, unsigned_abs, List, All, length, ap, sym, subst, inl, inr, arith}
use Rattle.std.proofs.lemmas.List.{get_or_default, get_or_past}
use Rattle.std.proofs.lemmas.Int.{ints}
use Rattle.std.proofs.lemmas.Bool.{cases_lt}
use Rattle.pb_fixed.specs.Sums.{item}
use Rattle.pb_forest.specs.Flows.{most_given_flow}
use Rattle.pb_forest.specs.Balancing.{AreNets, Chord, IsChordWithin, chord_flow, chords_of, gathered}
use Rattle.pb_forest.proofs.SideLemmas.{one_balanced_law}
use Rattle.pb_forest.proofs.NetLemmas.{chord_small, nets_none, settled_balance}
use Rattle.pb_forest.proofs.ChordLemmas.{chords_within, few_chords, nets_all}
use Rattle.pb_forest.proofs.flows.write_flows.Goals as goal

pub gather-requires-clause-few : goal.gather-requires-clause-few
gather-requires-clause-few c =
    let ss = c.args.graph.now.streams in
    let few = few_chords ss c.args.held.now c.args.trees.now (length ss) in
    let limit = c.requires.kept.limits.few_streams in
    rw c.requires.kept.are_chords (omega (arith, few, limit))

pub gather-requires-clause-there : goal.gather-requires-clause-there
gather-requires-clause-there c =
    let ss = c.args.graph.now.streams in
    let each : length c.write_chords.new.out ≡ length ss = c.write_chords.auto.out ∙ c.requires.room in
    let within = chords_within c.args.graph.now.nodes ss c.args.held.now c.args.trees.now (length ss) c.requires.kept.rooted (omega arith) in
    let there : All (IsChordWithin (length ss)) c.args.chords.now = subst (All (IsChordWithin (length ss))) (sym c.requires.kept.are_chords) within in
    subst (λ (n : ℕ). All (IsChordWithin n) c.args.chords.now) (sym each) there

pub gather-requires-clause-start : goal.gather-requires-clause-start
gather-requires-clause-start c = λ k. elim (cases_lt k (length c.args.held.now)) [
  | inl lt ↦
      let is : item c.write_chords.new.out k ≡ chord_flow c.args.held.now c.args.off.now k = c.write_chords.ensures k lt in
      let small = chord_small c.args.held.now c.args.off.now most_given_flow c.requires.within k in
      omega (arith, ints, is, small)
  | inr past ↦
      let none = get_or_past c.write_chords.new.out k (pos 0) (omega (arith, past, c.write_chords.auto.out, c.requires.room, c.requires.kept.forest.each)) in
      omega (arith, ints, none)
]

pub settle_all-requires-clause-nets : goal.settle_all-requires-clause-nets
settle_all-requires-clause-nets c =
    let ss = c.args.graph.now.streams in
    let held = c.args.held.now in
    let off = c.args.off.now in
    let t = c.args.trees.now in
    let start : AreNets ss held off t 0 c.write_chords.new.out =
    nets_none c.args.graph.now.nodes ss held off t c.write_chords.new.out c.requires.kept.rooted (c.write_chords.auto.out ∙ c.requires.room)
    (λ k lt. c.write_chords.ensures k (omega (arith, lt, c.requires.kept.forest.each))) in
    let all = nets_all c.args.graph.now.nodes ss held off t (length ss) c.write_chords.new.out c.requires.kept.rooted start in
    let same : c.gather.new.out ≡ gathered (chords_of ss held t (length ss)) off c.write_chords.new.out =
    c.gather.ensures ∙ ap (λ (cs : List Chord). gathered cs off c.write_chords.new.out) c.requires.kept.are_chords in
    subst (AreNets ss held off t (length ss)) (sym same) all

pub returns-clause-balanced : goal.returns-clause-balanced
returns-clause-balanced c =
    settled_balance c.args.graph.now c.args.held.now c.args.off.now c.args.trees.now c.settle_all.new.out c.requires.kept.limits c.requires.kept.forest c.requires.kept.rooted c.settle_all.ensures

pub returns-clause-only : goal.returns-clause-only
returns-clause-only c = λ ys even agree.
    let out = c.settle_all.new.out in
    let limits = c.requires.kept.limits in
    let end = c.settle_all.ensures in
    let balanced = settled_balance c.args.graph.now c.args.held.now c.args.off.now c.args.trees.now out limits c.requires.kept.forest c.requires.kept.rooted end in
    one_balanced_law c.args.graph.now c.args.held.now ys out limits c.requires.kept.forest even balanced (λ k lt h. agree k lt h ∙ sym (end.agree k lt h))

pub returns-clause-within : goal.returns-clause-within
returns-clause-within c = λ k d lt.
    let small : unsigned_abs (item c.settle_all.new.out k) < 2 ^ 68 = c.settle_all.ensures.small k in
    rw (get_or_default c.settle_all.new.out k d (pos 0) lt) small
