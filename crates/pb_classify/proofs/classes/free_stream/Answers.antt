use Rattle.std.proofs.Common.{◌≢◌, ◌∙◌, List, Option, Some, None, length, sym, subst, refl}
use Rattle.std.specs.Prelude.{IsSome}
use Rattle.std.proofs.lemmas.Option.{slice_get_within}
use Rattle.pb_graph.specs.declared.records.Step.{Step}
use Rattle.pb_graph.specs.declared.records.Stream.{Stream}
use Rattle.pb_graph.specs.Walk.{ends_of, Reaches}
use Rattle.pb_graph.specs.Path.{is_open}
use Rattle.pb_graph.proofs.WalkLemmas.{some_same}
use Rattle.pb_classify.specs.Chords.{IsFirstBefore}
use Rattle.pb_classify.proofs.RoundLemmas.{measured_outside, measured_joined, back_there}
use Rattle.pb_classify.proofs.ChordLemmas.{some_has}
use Rattle.pb_classify.proofs.ItemLemmas.{nonredundant_item, unobservable_item}
use Rattle.pb_classify.proofs.classes.free_stream.Goals as goal

-- a measured stream whose ends unmeasured ones join is outside the forest
pub cycle_of-requires-clause-outside : goal.cycle_of-requires-clause-outside
cycle_of-requires-clause-outside c =
    measured_outside c.args.graph.now c.args.forest.now.held c.args.j c.args.stream.now c.requires.forest.marks c.requires.stream (sym c.is_some.ensures ∙ c.if-is_some.true) c.requires.joined

pub cycle_of-requires-clause-joined : goal.cycle_of-requires-clause-joined
cycle_of-requires-clause-joined c =
    let g = c.args.graph.now in
    let held = c.args.forest.now.held in
    let back = back_there g held c.args.stream.now (measured_joined g held c.args.j c.args.stream.now c.requires.forest.marks c.requires.joined) in
    λ u at. subst (λ (v : Stream). Reaches (ends_of (is_open held) g.streams) v.to v.from) (some_same (sym c.requires.stream ∙ at)) back

pub returns-then-is_some : goal.returns-then-is_some
returns-then-is_some c =
    nonredundant_item c.args.graph.now c.args.forest.now.held c.args.j c.args.stream.now c.in_ok-steps.steps c.requires.limits c.requires.forest.marks c.requires.stream
    (sym c.is_some.ensures ∙ c.if-is_some.true) c.requires.joined c.in_ok-steps.ensures

is_there : (o : Option (List Step)) → o ≢ None → IsSome o
is_there None other = absurd (other refl)
is_there (Some steps) other = refl

-- some unmeasured stream outside the forest has the stream on its cycle
pub unwrap-steps-requires : goal.unwrap-steps-requires
unwrap-steps-requires c = is_there c.args.first (λ none.
    let g = c.args.graph.now in
    let held = c.args.forest.now.held in
    let known = subst (IsFirstBefore g held (length g.streams) c.args.j) none c.requires.first in
    some_has g held c.args.j c.args.stream.now c.requires.forest.marks c.requires.stream (sym c.is_some.ensures ∙ c.if-is_some.false)
    (λ k s chord. known k s (slice_get_within g.streams k s chord.at) chord) c.requires.joined)

pub returns : goal.returns
returns c =
    let g = c.args.graph.now in
    let held = c.args.forest.now.held in
    unobservable_item g held c.args.j c.args.stream.now c.unwrap-steps.result c.requires.limits c.requires.forest.marks c.requires.stream (sym c.is_some.ensures ∙ c.if-is_some.false)
    (subst (IsFirstBefore g held (length g.streams) c.args.j) c.unwrap-steps.ensures c.requires.first)
