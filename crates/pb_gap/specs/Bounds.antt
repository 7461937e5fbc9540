-- Statement. Bounds of a signed sum of measured flows.
use Rattle.std.specs.Prelude.{◌≡◌, ◌⊎◌, ℕ, ℤ, pos, negsuc, ◌+ℤ◌, ◌-ℤ◌, ◌*ℤ◌, ◌≤ℤ◌, List, [], ◌∷◌, Some, slice_get}
use Rattle.std.specs.List.{AllByRecursion}
use Rattle.std.specs.Option.{option_map_or}
use Rattle.pb_fixed.specs.Sums.{sum_over, AreDistinctBy}
use Rattle.pb_fixed.specs.Quotients.{floor_div, ceil_div}
use Rattle.pb_fixed.specs.Roots.{scaled_root_of}
use Rattle.pb_fixed.specs.Blocks.{half_width_of}
use Rattle.pb_graph.specs.declared.records.Meas.{Meas}
use Rattle.pb_graph.specs.declared.records.Stream.{Stream}
use Rattle.pb_graph.specs.declared.records.Member.{Member}
use Rattle.pb_study.specs.declared.results.Bounds.{Bounds}
use Rattle.pb_graph.specs.ProcessGraph.{ProcessGraph}
use Rattle.pb_graph.specs.Squares.{Fractional}
use Rattle.pb_graph.specs.PricedSums.{signed_sum}
use Rattle.pb_graph.specs.Variance.{variance_of}
use Rattle.pb_dual.specs.DualValue.{scale, dual_flow}
use Rattle.pb_gap.specs.Gap.{Gap}

-- a measured stream, with a sign
pub record IsSigned (g : ProcessGraph) (m : Member) : Type 0 where
  pub stream : Stream
  pub meas : Meas
  pub is : slice_get g.streams m.stream ≡ Some stream
  pub measured : stream.meas ≡ Some meas
  pub sign : (m.sign ≡ pos 1) ⊎ (m.sign ≡ negsuc 0)

-- a signed list of measured streams, each at most once
pub record AreSigned (g : ProcessGraph) (members : List Member) : Type 0 where
  pub each : AllByRecursion (IsSigned g) members
  pub distinct : AreDistinctBy (λ (m : Member). m.stream) members

-- the signed sum of the dual flows of a list of streams
abbrev pub dual_flow_sum : (ℕ → ℤ) → List Stream → List Member → ℤ
dual_flow_sum price ss members =
    sum_over (λ (m : Member). m.sign *ℤ option_map_or (dual_flow price) (slice_get ss m.stream) (pos 0)) members

-- the sum of the variances of a list of streams
abbrev pub variance_sum : List Stream → List Member → ℤ
variance_sum ss members =
    sum_over (λ (m : Member). option_map_or (λ (s : Stream). variance_of s.meas) (slice_get ss m.stream) (pos 0)) members

-- The half width of the bounds of a signed sum: the gap times the standard deviation of the sum, rounded up; 0 if there is no stream.
-- The root is rounded down, so 1 is added to it.
abbrev pub half_width_in : List Stream → Gap → List Member → ℤ
half_width_in ss gap [] = pos 0
half_width_in ss gap (m ∷ ms) = half_width_of (scaled_root_of (variance_sum ss (m ∷ ms)) +ℤ pos 1) gap.g gap.h

-- The bounds of a signed sum of flows, in grams: the sum of its dual flows, rounded outward, less and plus the half width.
abbrev pub bounds_of : (ℕ → ℤ) → List Stream → Gap → List Member → Bounds
bounds_of price ss gap members = record {
  lo = floor_div (dual_flow_sum price ss members) scale -ℤ half_width_in ss gap members;
  hi = ceil_div (dual_flow_sum price ss members) scale +ℤ half_width_in ss gap members;
}

-- the signed sum of fractional flows is within the bounds
pub record IsWithin (x : Fractional) (members : List Member) (bounds : Bounds) : Type 0 where
  pub from : (x.denominator *ℤ bounds.lo) ≤ℤ signed_sum members x.numerators
  pub to : signed_sum members x.numerators ≤ℤ (x.denominator *ℤ bounds.hi)
