-- A closed walk in which all streams but one are unmeasured leaves that one free: any amount may circulate along it.
use Rattle.std.proofs.Common.{◌≡◌, ◌≢◌, ◌∙◌, ℕ, ◌<◌, pos, Bool, true, false, List, [], ◌∷◌, length, Some, None, slice_get, IsSome, refl, sym, ap, inl, inr, arith}
use Rattle.std.specs.List.{AllByRecursion}
use Rattle.std.proofs.lemmas.Bool.{cases_eq, ne_eqb}
use Rattle.std.proofs.lemmas.Option.{slice_get_within}
use Rattle.pb_fixed.specs.Sums.{item}
use Rattle.pb_graph.specs.declared.records.Stream.{Stream}
use Rattle.pb_graph.specs.declared.records.Step.{Step}
use Rattle.pb_graph.specs.ProcessGraph.{ProcessGraph, IsProcessGraph}
use Rattle.pb_graph.specs.Walk.{any_stream, ends_of, Walks}
use Rattle.pb_graph.specs.Cycle.{start_of}
use Rattle.pb_graph.specs.Balance.{IsBalanced}
use Rattle.pb_graph.specs.Classes.{IsFree}
use Rattle.pb_graph.specs.Certificates.{GoesRound}
use Rattle.pb_graph.proofs.WalkLemmas.{stream_of}
use Rattle.pb_graph.proofs.TurnLemmas.{turns, takes, length_turns, round_net, not_taken, taken_once}

-- a stream of these steps, unless it is the j-th, is unmeasured
abbrev pub AreUnmeasuredBut : ℕ → List Stream → List Step → Type 0
AreUnmeasuredBut j ss steps = AllByRecursion (λ (t : Step). t.stream ≢ j → (s : Stream) → slice_get ss t.stream ≡ Some s → s.meas ≡ None) steps

-- so no other measured stream is taken
measured_out : (j k : ℕ) (ss : List Stream) (s : Stream) (steps : List Step) → AreUnmeasuredBut j ss steps → slice_get ss k ≡ Some s → k ≢ j → IsSome s.meas
    → takes k steps ≡ false
measured_out j k ss s [] others at ne some = refl
measured_out j k ss s (t ∷ rest) others at ne some = elim (cases_eq t.stream k) [
  | inl same ↦
      let none : s.meas ≡ None = others.0 (λ z. ne (sym same ∙ z)) s (ap (slice_get ss) same ∙ at) in
      cc (rw none at some)
  | inr other ↦ rw (ne_eqb t.stream k other) (measured_out j k ss s rest others.1 at ne some)
]

round_balanced : (g : ProcessGraph) (may : ℕ → Stream → Bool) (a : ℕ) (steps : List Step) → Walks (ends_of may g.streams) a steps a → IsBalanced g (turns g.streams steps)
round_balanced g may a steps w = record {
  each = length_turns g.streams steps;
  even = λ n lt. round_net may g.streams n a steps w;
}

-- what circulates and no flow at all differ on stream j
pub round_frees : (g : ProcessGraph) (j : ℕ) (may : ℕ → Stream → Bool) (a : ℕ) (steps : List Step) → Walks (ends_of may g.streams) a steps a
    → AreUnmeasuredBut j g.streams steps → item (turns g.streams steps) j ≢ pos 0 → IsFree g j
round_frees g j may a steps w others some =
    let none = turns g.streams [] in
    let still = λ (k : ℕ). not_taken g.streams k [] refl in (
      turns g.streams steps,
      none,
      record {
        one = round_balanced g may a steps w;
        other = round_balanced g may a [] refl;
        agree = λ k s at ne m. not_taken g.streams k steps (measured_out j k g.streams s steps others at ne m) ∙ sym (still k);
        differ = λ e. some (e ∙ still j);
      },
    )

-- a stream that is taken is there
taken_within : (may : ℕ → Stream → Bool) (ss : List Stream) (j a b : ℕ) (steps : List Step) → Walks (ends_of may ss) a steps b → takes j steps ≡ true → j < length ss
taken_within may ss j a b [] w some = cc some
taken_within may ss j a b (t ∷ rest) (c, e, w) some = elim (cases_eq t.stream j) [
  | inl same ↦
      let (s, at, ok, goes) = stream_of may ss t (a, c) e in
      let lt = slice_get_within ss t.stream s at in
      omega (arith, same, lt)
  | inr other ↦ taken_within may ss j c b rest w (rw (ne_eqb t.stream j other) at some)
]

pub cycle_frees : (g : ProcessGraph) (j : ℕ) (steps : List Step) → IsProcessGraph g → GoesRound g j steps → IsFree g j
cycle_frees g j steps is goes =
    let start = start_of g steps in
    let lt = taken_within any_stream g.streams j start start steps goes.cycle.back goes.has in
    round_frees g j any_stream start steps goes.cycle.back goes.others (taken_once g.streams j steps lt goes.cycle.each_stream goes.has)
