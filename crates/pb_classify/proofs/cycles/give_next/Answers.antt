use Rattle.std.proofs.Common.{◌≡◌, ◌∙◌, ℕ, ◌<◌, true, false, None, All, List, length, get_or, ap, sym, subst}
use Rattle.std.proofs.lemmas.Option.{get_or_from_slice_get}
use Rattle.std.proofs.lemmas.Result.{on_ok_weaker}
use Rattle.pb_graph.specs.declared.records.Step.{Step}
use Rattle.pb_graph.specs.ProcessGraph.{is_measured}
use Rattle.pb_graph.proofs.WalkLemmas.{some_same}
use Rattle.pb_classify.specs.Chords.{IsChord, after_cycle}
use Rattle.pb_classify.proofs.RoundLemmas.{chord_joined, back_there}
use Rattle.pb_classify.proofs.CycleLemmas.{cycle_within, all_none, all_more}
use Rattle.pb_classify.proofs.cycles.give_next.Goals as goal
use Rattle.pb_classify.proofs.cycles.give_next.Goals.{then-is_some-via-then-is_some, then-is_some-via-else-is_some+then-holds}

-- a stream that is measured or held isn't a chord
pub returns-then-is_some : goal.returns-then-is_some
returns-then-is_some c =
    let g = c.args.graph.now in
    let held = c.args.forest.now.held in
    all_none g held c.args.e c.args.cycles.now (λ s chord.
    let same : c.stream.result ≡ s = some_same (sym c.stream.ensures ∙ chord.at) in
    elim c.then-is_some.branch [
      | then-is_some-via-then-is_some w ↦
          let measured : is_measured s ≡ true = ap is_measured (sym same) ∙ sym c.is_some.ensures ∙ w.if-is_some.true in
          cc (sym measured ∙ chord.unmeasured)
      | then-is_some-via-else-is_some+then-holds w ↦
          let in_it : get_or held c.args.e false ≡ true = get_or_from_slice_get held c.args.e w.holds.result false w.holds.ensures.mark ∙ w.if-holds.true in
          cc (sym in_it ∙ chord.outside)
    ]) c.requires.known

pub cycle_of-requires-clause-outside : goal.cycle_of-requires-clause-outside
cycle_of-requires-clause-outside c = get_or_from_slice_get c.args.forest.now.held c.args.e c.holds.result false c.holds.ensures.mark ∙ c.if-holds.false

pub cycle_of-requires-clause-joined : goal.cycle_of-requires-clause-joined
cycle_of-requires-clause-joined c =
    let g = c.args.graph.now in
    let held = c.args.forest.now.held in
    let outside : get_or held c.args.e false ≡ false = get_or_from_slice_get held c.args.e c.holds.result false c.holds.ensures.mark ∙ c.if-holds.false in
    λ s at.
    let same : c.stream.result ≡ s = some_same (sym c.stream.ensures ∙ at) in
    let chord : IsChord g held c.args.e s = record { at = at; unmeasured = ap is_measured (sym same) ∙ sym c.is_some.ensures ∙ c.if-is_some.false; outside = outside } in
    back_there g held s (chord_joined g held c.args.e s c.requires.forest.marks chord)

-- the cycle's streams are streams of the graph
pub give-requires : goal.give-requires
give-requires c =
    subst (λ (steps : List Step). All (λ (t : Step). t.stream < length c.args.cycles.now) steps) (sym c.as_slice.ensures)
    (cycle_within c.args.graph.now c.args.forest.now.held c.args.e (length c.args.cycles.now) c.in_ok-steps.steps c.requires.known.each c.in_ok-steps.ensures)

pub returns : goal.returns
returns c =
    let g = c.args.graph.now in
    let held = c.args.forest.now.held in
    let s = c.stream.result in
    let old = c.args.cycles.now in
    let new = c.give.new.cycles in
    let outside : get_or held c.args.e false ≡ false = get_or_from_slice_get held c.args.e c.holds.result false c.holds.ensures.mark ∙ c.if-holds.false in
    let chord : IsChord g held c.args.e s = record { at = c.stream.ensures; unmeasured = sym c.is_some.ensures ∙ c.if-is_some.false; outside = outside } in
    on_ok_weaker c.give.result (λ (given : (j : ℕ) → j < length old → get_or new j None ≡ after_cycle c.as_slice.result.now j (get_or old j None)).
    all_more g held c.args.e s c.in_ok-steps.steps old new c.requires.forest.marks chord c.in_ok-steps.ensures c.give.auto.cycles
    (subst (λ (steps : List Step). (j : ℕ) → j < length old → get_or new j None ≡ after_cycle steps j (get_or old j None)) c.as_slice.ensures given) c.requires.known) c.give.ensures
