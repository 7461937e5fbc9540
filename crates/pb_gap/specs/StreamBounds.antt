-- Statement. The bounds of one stream, according to its class and its certificate.
use Rattle.std.specs.Prelude.{◌==◌, ℕ, ℤ, pos, neg_ℤ, ◌*ℤ◌, ◌≤ℤ◌, List, [], ◌∷◌, Option, Some, None, option_map, if◌then◌else◌}
use Rattle.pb_fixed.specs.Sums.{item}
use Rattle.pb_graph.specs.declared.records.Stream.{Stream}
use Rattle.pb_graph.specs.declared.records.Member.{Member}
use Rattle.pb_graph.specs.declared.records.Class.{Class}
use Rattle.pb_graph.specs.declared.records.Class.TheVariants.{Observable, Unobservable, Redundant, Nonredundant}
use Rattle.pb_graph.specs.declared.records.Witness.{Witness}
use Rattle.pb_graph.specs.declared.records.Witness.TheVariants.{Cut, Cycle}
use Rattle.pb_graph.specs.declared.records.Classified.{Classified}
use Rattle.pb_study.specs.declared.results.Bounds.{Bounds}
use Rattle.pb_graph.specs.Squares.{Fractional}
use Rattle.pb_gap.specs.Gap.{Gap}
use Rattle.pb_gap.specs.Bounds.{bounds_of}

-- the sign of stream j in a list of members, or 0 if it isn't among them
abbrev pub sign_in : ℕ → List Member → ℤ
sign_in j [] = pos 0
sign_in j (m ∷ ms) = if m.stream == j then m.sign else sign_in j ms

-- the members other than stream j, each with its sign times z
abbrev pub others_times : ℕ → ℤ → List Member → List Member
others_times j z [] = []
others_times j z (m ∷ ms) = if m.stream == j then others_times j z ms else record { stream = m.stream; sign = m.sign *ℤ z } ∷ others_times j z ms

-- A list of measured streams whose signed sum is the flow of stream j. A measured stream stands for itself. An observable one is
-- found from the other members of its cut, each with its sign times -1 times the sign of the stream. An unobservable one has none.
abbrev pub sum_for : ℕ → Class → Witness → Option (List Member)
sum_for j Redundant witness = Some (record { stream = j; sign = pos 1 } ∷ [])
sum_for j Nonredundant witness = Some (record { stream = j; sign = pos 1 } ∷ [])
sum_for j Observable (Cut side members) = Some (others_times j (neg_ℤ (sign_in j members)) members)
sum_for j Observable (Cycle steps) = None
sum_for j Unobservable witness = None

-- the bounds of the flow of stream j, or none if it is unobservable
abbrev pub stream_bounds : (ℕ → ℤ) → List Stream → Gap → ℕ → Classified → Option Bounds
stream_bounds price ss gap j c = option_map (bounds_of price ss gap) (sum_for j c.class c.witness)

-- the flow of stream j is within the bounds
pub record IsStreamWithin (x : Fractional) (j : ℕ) (bounds : Bounds) : Type 0 where
  pub from : (x.denominator *ℤ bounds.lo) ≤ℤ item x.numerators j
  pub to : item x.numerators j ≤ℤ (x.denominator *ℤ bounds.hi)
