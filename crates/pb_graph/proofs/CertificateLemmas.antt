-- A certificate refers only to nodes and streams of its graph.
use Rattle.std.specs.List.{AllByRecursion}
use Rattle.std.proofs.Common.{◌≡◌, ◌+◌, ◌<◌, ◌≤◌, ℕ, List, [], ◌∷◌, length, Bool, true, false, Option, Some, None, slice_get, refl, inl, inr, arith}
use Rattle.std.proofs.lemmas.List.Elements.{All-from_recursion}
use Rattle.std.proofs.lemmas.Option.{slice_get_within}
use Rattle.pb_graph.specs.declared.records.Stream.{Stream}
use Rattle.pb_graph.specs.declared.records.Member.{Member}
use Rattle.pb_graph.specs.declared.records.Step.{Step}
use Rattle.pb_graph.specs.declared.records.Class.{Class}
use Rattle.pb_graph.specs.declared.records.Class.TheVariants.{Observable, Unobservable, Redundant, Nonredundant}
use Rattle.pb_graph.specs.declared.records.Witness.{Witness}
use Rattle.pb_graph.specs.declared.records.Witness.TheVariants.{Cut, Cycle}
use Rattle.pb_graph.specs.declared.records.Classified.{Classified}
use Rattle.pb_graph.specs.ProcessGraph.{ProcessGraph}
use Rattle.pb_graph.specs.Walk.{any_stream, ends_at, ends_of, is_in, Walks}
use Rattle.pb_graph.specs.Boundary.{IsCut, member_by, members_from, sign_at, with_first}
use Rattle.pb_graph.specs.Cycle.{start_of}
use Rattle.pb_graph.specs.Certificates.{GoesRound, Shows, IsCertified}
use Rattle.pb_graph.specs.WellFormed.{IsMember, IsStep, IsWitnessWithin}

-- one stream of a boundary
first_within : (g : ProcessGraph) (j : ℕ) (from_in to_in : Bool) (rest : List Member) → j < length g.streams → AllByRecursion (IsMember g) rest
    → AllByRecursion (IsMember g) (with_first (member_by j (sign_at from_in to_in)) rest)
first_within g j true true rest lt each = each
first_within g j true false rest lt each = (record { stream = lt; sign = inr refl }, each)
first_within g j false true rest lt each = (record { stream = lt; sign = inl refl }, each)
first_within g j false false rest lt each = each

members_within : (g : ProcessGraph) (side : List Bool) (j : ℕ) (ss : List Stream) → j + length ss ≤ length g.streams → AllByRecursion (IsMember g) (members_from side j ss)
members_within g side j [] within = tt
members_within g side j (s ∷ ss) within =
    first_within g j (is_in side s.from) (is_in side s.to) (members_from side (j + 1) ss) (omega (arith, within)) (members_within g side (j + 1) ss (omega (arith, within)))

cut_within : (g : ProcessGraph) (side : List Bool) (members : List Member) → IsCut g side members → IsWitnessWithin g (Cut side members)
cut_within g side members cut =
    let each : AllByRecursion (IsMember g) members = rw cut.boundary (members_within g side 0 g.streams (omega arith)) in
    (cut.each, All-from_recursion (IsMember g) members each)

-- the steps of a walk go along streams that exist
step_there : (ss : List Stream) (t : Step) (found : Option Stream) (ends : ℕ × ℕ) → slice_get ss t.stream ≡ found → ends_at any_stream t.stream t.forward found ≡ Some ends → t.stream < length ss
step_there ss t None ends at is = cc is
step_there ss t (Some s) ends at is = slice_get_within ss t.stream s at

steps_within : (ss : List Stream) (a b : ℕ) (steps : List Step) → Walks (ends_of any_stream ss) a steps b → AllByRecursion (λ (t : Step). t.stream < length ss) steps
steps_within ss a b [] walk = tt
steps_within ss a b (t ∷ rest) (c, ends, walk) = (step_there ss t (slice_get ss t.stream) (a, c) refl ends, steps_within ss c b rest walk)

cycle_within : (g : ProcessGraph) (j : ℕ) (steps : List Step) → GoesRound g j steps → IsWitnessWithin g (Cycle steps)
cycle_within g j steps round = All-from_recursion (IsStep g) steps (steps_within g.streams (start_of g steps) (start_of g steps) steps round.cycle.back)

shown_within : (g : ProcessGraph) (j : ℕ) (s : Stream) (class : Class) (witness : Witness) → Shows g j s class witness → IsWitnessWithin g witness
shown_within g j s Observable (Cut side members) (m, cut) = cut_within g side members cut.cut
shown_within g j s Redundant (Cut side members) (m, cut) = cut_within g side members cut.cut
shown_within g j s Unobservable (Cycle steps) (m, round) = cycle_within g j steps round
shown_within g j s Nonredundant (Cycle steps) (m, round) = cycle_within g j steps round
shown_within g j s Observable (Cycle steps) h = absurd h
shown_within g j s Redundant (Cycle steps) h = absurd h
shown_within g j s Unobservable (Cut side members) h = absurd h
shown_within g j s Nonredundant (Cut side members) h = absurd h

pub witness_within : (g : ProcessGraph) (j : ℕ) (c : Classified) → IsCertified g j c → IsWitnessWithin g c.witness
witness_within g j c (s, at, shows) = shown_within g j s c.class c.witness shows
