-- The ends of certified stages are in order.
use Rattle.std.proofs.Common.{◌≡◌, ℕ, ℤ, pos, ◌*ℤ◌, ◌≤ℤ◌, List, Option, Some, None, slice_get, refl, sym, subst, ap, arith}
use Rattle.std.specs.Prelude.{IfSome, MatchOption}
use Rattle.std.proofs.lemmas.Int.{ints}
use Rattle.pb_fixed.specs.Sums.{item}
use Rattle.pb_fixed.proofs.Order.{le_by_eq, le_trans, mul_cancel, mul_positive}
use Rattle.pb_fixed.proofs.RingLaws.{mul_comm}
use Rattle.pb_graph.specs.declared.records.Class.{Class}
use Rattle.pb_graph.specs.ProcessGraph.{ProcessGraph}
use Rattle.pb_graph.specs.Squares.{AreSquaresAtLeast, AreSquaresAtMost, Fractional, IsBalancedFractional, IsLeast, IsNoWorse, squares_unit, variance_product, weighted_squares, whole_flows}
use Rattle.pb_study.specs.declared.results.Bounds.{Bounds}
use Rattle.pb_study.specs.declared.results.Stage.{Stage}
use Rattle.pb_study.specs.declared.results.StreamResult.{StreamResult}
use Rattle.pb_gap.proofs.GapLaws.{have_weights}
use Rattle.pb_gap.specs.StreamBounds.{IsStreamWithin}
use Rattle.pb_least.specs.Laws.{SomeLeastLaw}
use Rattle.pb_stage.specs.Printed.{HasLeastBounds, printed_flows}
use Rattle.pb_stage.specs.Certified.{IsAsGood, IsCertifiedStage, IsEnclosed}
use Rattle.pb_laws.specs.Agreement.{AreOfOneGraph, AreStreamsOf, BoundsMeetLaw, DoMeet, LeastBoundsMeetLaw, MeetIfThere, StatisticOrderLaw, StatisticsMeetLaw}

-- ---- the statistic
-- the printed flows balance
pub flows_balance : (stage : Stage) → IsCertifiedStage stage → IsBalancedFractional stage.graph (whole_flows (printed_flows stage))
flows_balance stage certified = record { positive = omega (arith, ints); balanced = certified.shown.balanced }

-- the unit of weighted squares is above 0
pub unit_positive : (graph : ProcessGraph) (x : Fractional) → pos 1 ≤ℤ variance_product graph.streams → pos 1 ≤ℤ x.denominator → pos 1 ≤ℤ squares_unit graph x
unit_positive graph x product_pos q_pos =
    let q = x.denominator in
    let square_is = mul_positive q q (omega (arith, ints, q_pos)) (omega (arith, ints, q_pos)) in
    let is = mul_positive (q *ℤ q) (variance_product graph.streams) square_is (omega (arith, ints, product_pos)) in
    omega (arith, ints, is)

between : (low high unit squares : ℤ) → pos 1 ≤ℤ unit → (low *ℤ unit) ≤ℤ squares → squares ≤ℤ (high *ℤ unit) → low ≤ℤ high
between low high unit squares unit_pos from to = mul_cancel low high unit (le_trans _ _ _ from to) (omega (arith, ints, unit_pos))

pub statistics_meet : StatisticsMeetLaw
statistics_meet one other are = by other.high are.second.most
  where
    flows : Fractional
    flows = whole_flows (printed_flows other)

    even : IsBalancedFractional one.graph flows
    even = subst (λ (g : ProcessGraph). IsBalancedFractional g flows) are.graph (flows_balance other are.second)

    unit : pos 1 ≤ℤ squares_unit one.graph flows
    unit = unit_positive one.graph flows (have_weights one.graph are.first.shown.limits).positive (omega (arith, ints))

    by : (o : Option ℤ) → IfSome o (AreSquaresAtMost other.graph flows) → IfSome o (λ high. one.low ≤ℤ high)
    by None most = tt
    by (Some high) most =
        between one.low high (squares_unit one.graph flows) (pos 1000 *ℤ weighted_squares one.graph flows) unit (are.first.least flows even)
        (subst (λ (g : ProcessGraph). AreSquaresAtMost g flows high) are.graph most)

pub statistic_order : StatisticOrderLaw
statistic_order stage certified = statistics_meet stage stage (record { first = certified; second = certified; graph = refl })

-- ---- bounds
-- what is within two bounds shows that they meet
within_both : (x : Fractional) (j : ℕ) (a b : Bounds) → pos 1 ≤ℤ x.denominator → IsStreamWithin x j a → IsStreamWithin x j b → DoMeet a b
within_both x j a b q_pos here there = record {
  from = meets a.lo b.hi here.from there.to;
  to = meets b.lo a.hi there.from here.to;
}
  where
    meets : (lo hi : ℤ) → (x.denominator *ℤ lo) ≤ℤ item x.numerators j → item x.numerators j ≤ℤ (x.denominator *ℤ hi) → lo ≤ℤ hi
    meets lo hi from to =
        mul_cancel lo hi x.denominator (le_by_eq _ _ _ _ (mul_comm lo x.denominator) (mul_comm hi x.denominator) (le_trans _ _ _ from to)) (omega (arith, ints, q_pos))

both_enclose : (x : Fractional) (j : ℕ) (class other : Class) (a b : Option Bounds) → pos 1 ≤ℤ x.denominator → IsEnclosed x j class a → IsEnclosed x j other b → MeetIfThere a b
both_enclose x j class other None b q_pos here there = tt
both_enclose x j class other (Some a) None q_pos here there = tt
both_enclose x j class other (Some a) (Some b) q_pos here there = within_both x j a b q_pos here there

-- a least vector is as good as the printed flows
least_as_good : (stage : Stage) (x : Fractional) → IsCertifiedStage stage → IsLeast stage.graph x → IsAsGood stage x
least_as_good stage x certified least = record {
  balanced = least.0;
  no_worse = least.1 (whole_flows (printed_flows stage)) (flows_balance stage certified);
}

pub bounds_meet : SomeLeastLaw → BoundsMeetLaw
bounds_meet some one other j r s are results =
    let (x, least) = some one.graph are.first.shown.limits in
    let there = subst (λ (g : ProcessGraph). IsLeast g x) (sym are.graph) least in
    both_enclose x j r.classified.class s.classified.class r.bounds s.bounds least.0.positive
    (are.first.enclosed x (least_as_good one x are.first least) j r results.first)
    (are.second.enclosed x (least_as_good other x are.second there) j s results.second)

pub least_bounds_meet : SomeLeastLaw → LeastBoundsMeetLaw
least_bounds_meet some one other j r s are results has has_too =
    let (x, least) = some one.graph are.first.shown.limits in
    let there = subst (λ (g : ProcessGraph). IsLeast g x) (sym are.graph) least in
    both_enclose x j r.classified.class s.classified.class r.least s.least least.0.positive
    (are.first.hypercircle has x least j r results.first)
    (are.second.hypercircle has_too x there j s results.second)
