-- How wide least bounds are, and their range.
use Rattle.std.proofs.Common.{◌^◌, ◌<◌, ◌≤◌, ℤ, pos, ◌+ℤ◌, ◌-ℤ◌, ◌*ℤ◌, ◌≤ℤ◌, ◌<ℤ◌, unsigned_abs, ◌∷◌, arith}
use Rattle.std.proofs.lemmas.Int.{ints}
use Rattle.std.proofs.lemmas.Option.{slice_get_within}
use Rattle.pb_fixed.specs.Sums.{item}
use Rattle.pb_fixed.proofs.Lists.{AllByRecursion-map}
use Rattle.pb_fixed.proofs.Sums.{sum_over-bound}
use Rattle.pb_fixed.specs.Quotients.{IsCeiling, floor_div, ceil_div}
use Rattle.pb_fixed.specs.Roots.{scaled_root_of}
use Rattle.pb_fixed.proofs.QuotientLaws.{ceiling_is, ceiling_only, ceiling_size, floor_is, floor_size}
use Rattle.pb_graph.specs.declared.records.Member.{Member}
use Rattle.pb_study.specs.WellFormed.{AreBoundsWithin}
use Rattle.pb_graph.specs.PricedSums.{signed_sum}
use Rattle.pb_dual.specs.DualValue.{scale}
use Rattle.pb_gap.specs.Gap.{gap_of, gap_size}
use Rattle.pb_gap.specs.Bounds.{IsSigned, dual_flow_sum, half_width_in, variance_sum}
use Rattle.pb_gap.specs.RangeLaws.{AreNumbersWithin}
use Rattle.pb_gap.specs.LeastBoundsLaws.{LeastWidthLaw, LeastRangeLaw}
use Rattle.pb_gap.proofs.MemberLists.{members_few}
use Rattle.pb_gap.proofs.RangeLemmas.{ranges}
use Rattle.pb_gap.proofs.SmallFlowLemmas.{turned}

-- half of a number rounded up, rounded up, is rounded up once
half_again : (n c w : ℤ) → IsCeiling n (pos (2 ^ 40)) c → IsCeiling c (pos 2) w → IsCeiling n (pos (2 ^ 41)) w
half_again n c w one two =
    let above = one.above in
    let last = one.last in
    let wide = two.above in
    let near = two.last in
    record { above = omega (arith, ints, above, wide); last = omega (arith, ints, last, near) }

pub half_once : LeastWidthLaw
half_once streams gap m ms =
    let n = (scaled_root_of (variance_sum streams (m ∷ ms)) +ℤ pos 1) *ℤ pos (gap_size gap) in
    let c = ceil_div n (pos (2 ^ 40)) in
    ceiling_only n (pos (2 ^ 41)) (ceil_div c (pos 2)) (omega (arith, ints))
    (half_again n c (ceil_div c (pos 2)) (ceiling_is n (pos (2 ^ 40)) (omega (arith, ints))) (ceiling_is c (pos 2) (omega (arith, ints))))

-- ---- the range
-- half of a sum is within the range if the bounds about the sum are
half_within : (f half low high : ℤ) → unsigned_abs f ≤ 2 ^ 80 → unsigned_abs (low -ℤ half) ≤ 2 ^ 126 → unsigned_abs (high +ℤ half) ≤ 2 ^ 126
    → AreBoundsWithin (record { lo = floor_div (f +ℤ low) (pos 2) -ℤ ceil_div half (pos 2); hi = ceil_div (f +ℤ high) (pos 2) +ℤ ceil_div half (pos 2) })
half_within f half low high flows lo hi =
    let down = floor_is (f +ℤ low) (pos 2) (omega (arith, ints)) in
    let up = ceiling_is (f +ℤ high) (pos 2) (omega (arith, ints)) in
    let wide = ceiling_is half (pos 2) (omega (arith, ints)) in
    record { lo = low_end (floor_div (f +ℤ low) (pos 2)) (ceil_div half (pos 2)) down.below down.next wide.above wide.last; hi = high_end (ceil_div (f +ℤ high) (pos 2)) (ceil_div half (pos 2)) up.above up.last wide.above wide.last }
  where
    low_end : (c w : ℤ) → (c *ℤ pos 2) ≤ℤ (f +ℤ low) → (f +ℤ low) <ℤ ((c *ℤ pos 2) +ℤ pos 2) → half ≤ℤ (w *ℤ pos 2) → (w *ℤ pos 2) <ℤ (half +ℤ pos 2) → unsigned_abs (c -ℤ w) ≤ 2 ^ 126
    low_end c w below next above last = omega (arith, ints, flows, lo, below, next, above, last)

    high_end : (c w : ℤ) → (f +ℤ high) ≤ℤ (c *ℤ pos 2) → (c *ℤ pos 2) <ℤ ((f +ℤ high) +ℤ pos 2) → half ≤ℤ (w *ℤ pos 2) → (w *ℤ pos 2) <ℤ (half +ℤ pos 2) → unsigned_abs (c +ℤ w) ≤ 2 ^ 126
    high_end c w above last wide near = omega (arith, ints, flows, hi, above, last, wide, near)

-- the same for wider sums
pub middle_within : (flows dual_flows half : ℤ) → unsigned_abs flows < 2 ^ 124 → unsigned_abs dual_flows < 2 ^ 124 → pos 0 ≤ℤ half → half ≤ℤ pos (2 ^ 118)
    → AreBoundsWithin (record { lo = floor_div (flows +ℤ floor_div dual_flows scale) (pos 2) -ℤ ceil_div half (pos 2); hi = ceil_div (flows +ℤ ceil_div dual_flows scale) (pos 2) +ℤ ceil_div half (pos 2) })
middle_within f t half flows dual_flows least most =
    let two : pos 0 <ℤ pos 2 = omega (arith, ints) in
    let low = floor_div t scale in
    let high = ceil_div t scale in
    let width = ceiling_size half (pos 2) two in
    let low_size = floor_size t scale (omega (arith, ints)) in
    let high_size = ceiling_size t scale (omega (arith, ints)) in
    let down = floor_size (f +ℤ low) (pos 2) two in
    let up = ceiling_size (f +ℤ high) (pos 2) two in
    record {
      lo = low_end low (floor_div (f +ℤ low) (pos 2)) (ceil_div half (pos 2)) (omega (arith, low_size, dual_flows)) down width;
      hi = high_end high (ceil_div (f +ℤ high) (pos 2)) (ceil_div half (pos 2)) (omega (arith, high_size, dual_flows)) up width;
    }
  where
    low_end : (low c w : ℤ) → unsigned_abs low < 2 ^ 124 → unsigned_abs c ≤ unsigned_abs (f +ℤ low) → unsigned_abs w ≤ unsigned_abs half → unsigned_abs (c -ℤ w) ≤ 2 ^ 126
    low_end low c w small size wide = omega (arith, ints, flows, least, most, small, size, wide)

    high_end : (high c w : ℤ) → unsigned_abs high < 2 ^ 124 → unsigned_abs c ≤ unsigned_abs (f +ℤ high) → unsigned_abs w ≤ unsigned_abs half → unsigned_abs (c +ℤ w) ≤ 2 ^ 126
    high_end high c w small size wide = omega (arith, ints, flows, least, most, small, size, wide)

pub least_range : LeastRangeLaw
least_range g price flows ms limits fit rounded signed =
    let all : AreNumbersWithin g price flows = ranges g price flows limits fit rounded in
    let few = members_few g ms signed in
    let many = limits.few_streams in
    let each = rounded.balanced.each in
    let flow : Member → ℤ = λ m. m.sign *ℤ item flows m.stream in
    let small : (m : Member) → IsSigned g m → unsigned_abs (flow m) ≤ 2 ^ 68 = λ m is.
    let there = slice_get_within g.streams m.stream is.stream is.is in
    let own = all.each_flow m.stream (pos 0) (omega (arith, there, each)) in
    turned m.sign (item flows m.stream) (2 ^ 68) is.sign (omega (arith, own)) in
    let sum = sum_over-bound flow (2 ^ 68) ms (AllByRecursion-map (IsSigned g) (λ m. unsigned_abs (flow m) ≤ 2 ^ 68) ms small signed.each) in
    let bounds = all.bounds ms signed in
    let t = dual_flow_sum price g.streams ms in
    half_within (signed_sum ms flows) (half_width_in g.streams (gap_of price g.streams flows) ms) (floor_div t scale) (ceil_div t scale) (omega (arith, sum, few, many)) bounds.lo bounds.hi
