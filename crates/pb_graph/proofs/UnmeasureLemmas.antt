-- A graph without one measurement is within the limits.
use Rattle.std.proofs.Common.{◌≡◌, ℕ, zero, suc, ◌<◌, List, [], ◌∷◌, length, All, get_or, set, None, ◌⊎◌, ap, sym, refl, subst, inl, inr, arith}
use Rattle.pb_graph.specs.declared.records.Stream.{Stream}
use Rattle.pb_graph.specs.ProcessGraph.{ProcessGraph, IsStream, IsWithinLimits, IsProcessGraph, unmeasured_at}

abbrev pub bare : Stream → Stream
bare s = record { from = s.from; to = s.to; meas = None }

pub set-unmeasured : (ss : List Stream) (j : ℕ) (d : Stream) → j < length ss → set ss j (bare (get_or ss j d)) ≡ unmeasured_at j ss
set-unmeasured [] j d lt = absurd (omega (arith, lt))
set-unmeasured (s ∷ ss) zero d lt = refl
set-unmeasured (s ∷ ss) (suc j) d lt = ap (λ (l : List Stream). s ∷ l) (set-unmeasured ss j d (omega (arith, lt)))

pub length-unmeasured : (j : ℕ) (ss : List Stream) → length (unmeasured_at j ss) ≡ length ss
length-unmeasured j [] = refl
length-unmeasured zero (s ∷ ss) = refl
length-unmeasured (suc j) (s ∷ ss) = omega (arith, length-unmeasured j ss)

unmeasured-get : (j k : ℕ) (ss : List Stream) (d : Stream) → (get_or (unmeasured_at j ss) k d ≡ get_or ss k d) ⊎ (get_or (unmeasured_at j ss) k d ≡ bare (get_or ss k d))
unmeasured-get j k [] d = inl refl
unmeasured-get zero zero (s ∷ ss) d = inr refl
unmeasured-get zero (suc k) (s ∷ ss) d = inl refl
unmeasured-get (suc j) zero (s ∷ ss) d = inl refl
unmeasured-get (suc j) (suc k) (s ∷ ss) d = unmeasured-get j k ss d

all-unmeasured : (P : Stream → Type 0) (j : ℕ) (ss : List Stream) → ((s : Stream) → P s → P (bare s)) → All P ss → All P (unmeasured_at j ss)
all-unmeasured P j ss keep all = λ k d lt.
    let here = all k d (omega (arith, lt, length-unmeasured j ss)) in
    elim (unmeasured-get j k ss d) [
      | inl same ↦ subst P (sym same) here
      | inr changed ↦ subst P (sym changed) (keep (get_or ss k d) here)
    ]

pub unmeasured_graph : (g : ProcessGraph) (j : ℕ) → IsProcessGraph g → IsProcessGraph (record { nodes = g.nodes; streams = unmeasured_at j g.streams })
unmeasured_graph g j is = record {
  env = is.env;
  few_nodes = is.few_nodes;
  few_streams = omega (arith, is.few_streams, length-unmeasured j g.streams);
  joins = all-unmeasured (IsStream g.nodes) j g.streams (λ s p. record { from = p.from; to = p.to; apart = p.apart }) is.joins;
  limits = all-unmeasured IsWithinLimits j g.streams (λ s p. tt) is.limits;
}
