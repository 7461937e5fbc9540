-- The numbers of a state are within their ranges.
use Rattle.std.proofs.Common.{◌≡◌, ℕ, zero, suc, ◌+◌, ◌*◌, ◌^◌, ◌<◌, ◌≤◌, ℤ, pos, neg_ℤ, ◌+ℤ◌, ◌-ℤ◌, ◌*ℤ◌, ◌≤ℤ◌, ◌<ℤ◌, unsigned_abs, Bool, true, false, List, [], ◌∷◌, length, Option, Some, None, slice_get, refl, sym, subst, arith}
use Rattle.std.specs.Prelude.{◌||◌, int_lt, nat_lt, IfSome, if◌then◌else◌}
use Rattle.std.specs.Int.{int_max, int_min}
use Rattle.std.specs.List.{AllByRecursion, list_any}
use Rattle.std.proofs.lemmas.Int.{ints}
use Rattle.pb_limits.specs.Limits.{most_streams, most_variance}
use Rattle.pb_fixed.specs.Sums.{item}
use Rattle.pb_fixed.proofs.Lists.{All-from_recursion, AllByRecursion-from_all, AllByRecursion-map, some_same}
use Rattle.pb_fixed.proofs.Order.{square_mono}
use Rattle.pb_fixed.proofs.Sums.{sum_over-bound, sum_over-nonneg}
use Rattle.pb_fixed.specs.Quotients.{floor_div, ceil_div, nearest_div}
use Rattle.pb_fixed.specs.Roots.{scaled_root_of}
use Rattle.pb_fixed.specs.Blocks.{IsBlockItem, FitBlocks, block_exponent_of, block_squares_of, blocks_of}
use Rattle.pb_fixed.proofs.QuotientLaws.{ceiling_size, ceiling_to, floor_size, floor_to, nearest_from, nearest_to}
use Rattle.pb_fixed.proofs.RootLaws.{root_ceil_is, scaled_root_is, scaled_root_width}
use Rattle.pb_fixed.proofs.BlockLaws.{block_exponent_is, blocks_nonneg, blocks_width, half_width_nonneg, half_width_width, square_width}
use Rattle.pb_graph.specs.declared.records.Meas.{Meas}
use Rattle.pb_graph.specs.declared.records.Stream.{Stream}
use Rattle.pb_graph.specs.declared.records.Member.{Member}
use Rattle.pb_graph.specs.ProcessGraph.{ProcessGraph, IsProcessGraph, IsMeasurement, IsWithinLimits}
use Rattle.pb_graph.specs.Prices.{IsInBox, rise_of}
use Rattle.pb_study.specs.WellFormed.{AreBoundsWithin}
use Rattle.pb_graph.specs.WellFormed.{IsFlow}
use Rattle.pb_graph.specs.Variance.{variance_of}
use Rattle.pb_dual.specs.DualValue.{scale, dual_flow, flow_at, most_dual_flow}
use Rattle.pb_forest.specs.Flows.{IsGivenFlow, most_given_flow}
use Rattle.pb_gap.specs.Gap.{Gap, deviation_at, deviations_of, gap_from, gap_of, gap_size}
use Rattle.pb_gap.specs.GapRange.{IsGapInRange}
use Rattle.pb_gap.specs.Bounds.{AreSigned, IsSigned, bounds_of, dual_flow_sum, half_width_in, variance_sum}
use Rattle.pb_gap.specs.Statistic.{adjustment_above, adjustment_at, adjustment_below, adjustments_by, capped_squares, full_squares, high_of, low_of, adjustment_cap}
use Rattle.pb_gap.specs.State.{nearest_flows}
use Rattle.pb_gap.specs.RangeLaws.{IsEnd, RangeLaw}
use Rattle.pb_gap.proofs.Columns.{length-adjustments, length-deviations}
use Rattle.pb_gap.proofs.MemberLists.{members_few}
use Rattle.pb_gap.proofs.Widths.{ceiling_nonneg, deviation_width, floor_nonneg, measured_root}
use Rattle.pb_gap.proofs.SmallFlowLemmas.{small_flows, turned}
use Rattle.pb_gap.proofs.Found.{dual_flow_in, variance_in}

-- what holds of each item holds of the item at a place, and past the end if it holds of 0
item_has : (P : ℤ → Type 0) (xs : List ℤ) (k : ℕ) → P (pos 0) → AllByRecursion P xs → P (item xs k)
item_has P [] k none all = none
item_has P (x ∷ xs) zero none all = all.0
item_has P (x ∷ xs) (suc k) none all = item_has P xs k none all.1

-- ---- dual flows
IsDual : ℤ → Type 0
IsDual u = unsigned_abs u ≤ most_dual_flow

dual_within : (o : Option Meas) (d : ℤ) → IfSome o IsMeasurement → IfSome o (λ m. unsigned_abs (m.variance *ℤ d) ≤ 2 ^ 112) → unsigned_abs (flow_at o d) ≤ most_dual_flow
dual_within None d limits box = omega arith
dual_within (Some m) d limits box = omega (arith, ints, limits.value, box)

duals_within : (price : ℕ → ℤ) (ss : List Stream) → AllByRecursion IsWithinLimits ss → AllByRecursion (IsInBox price) ss → AllByRecursion (λ s. unsigned_abs (dual_flow price s) ≤ most_dual_flow) ss
duals_within price [] limits box = tt
duals_within price (s ∷ ss) limits box = (dual_within s.meas (rise_of price s) limits.0 box.0, duals_within price ss limits.1 box.1)

-- to the nearest gram
gram_small : (u : ℤ) → unsigned_abs u ≤ most_dual_flow → unsigned_abs (nearest_div u scale) ≤ most_given_flow
gram_small u small =
    let to = nearest_to (pos most_given_flow) u scale (omega (arith, ints)) (omega (arith, ints, small)) in
    let from = nearest_from (neg_ℤ (pos most_given_flow)) u scale (omega (arith, ints)) (omega (arith, ints, small)) in
    omega (arith, ints, to, from)

grams_small : (price : ℕ → ℤ) (ss : List Stream) → AllByRecursion (λ s. unsigned_abs (dual_flow price s) ≤ most_dual_flow) ss → AllByRecursion IsGivenFlow (nearest_flows price ss)
grams_small price [] all = tt
grams_small price (s ∷ ss) all = (gram_small (dual_flow price s) all.0, grams_small price ss all.1)

-- ---- the gap
deviation_item : (o : Option Meas) (d p : ℤ) → IfSome o IsMeasurement → unsigned_abs (flow_at o d) ≤ most_dual_flow → IsFlow p → IsBlockItem (deviation_at o d p)
deviation_item None d p limits dual flow = (omega (arith, ints), omega (arith, ints))
deviation_item (Some m) d p limits dual flow =
    let u = flow_at (Some m) d in
    let far : unsigned_abs ((p *ℤ scale) -ℤ u) < 2 ^ 125 = omega (arith, ints, dual, flow) in
    deviation_width (pos (unsigned_abs ((p *ℤ scale) -ℤ u))) (scaled_root_of m.variance) (omega (arith, ints)) (omega (arith, ints, far)) (measured_root m limits).from

deviations_within : (price : ℕ → ℤ) (ss : List Stream) (ps : List ℤ) → AllByRecursion IsWithinLimits ss → AllByRecursion (λ s. unsigned_abs (dual_flow price s) ≤ most_dual_flow) ss
    → AllByRecursion IsFlow ps → AllByRecursion IsBlockItem (deviations_of price ss ps)
deviations_within price [] ps limits dual flow = tt
deviations_within price (s ∷ ss) [] limits dual flow = tt
deviations_within price (s ∷ ss) (p ∷ ps) limits dual flow =
    (deviation_item s.meas (rise_of price s) p limits.0 dual.0 flow.0, deviations_within price ss ps limits.1 dual.1 flow.1)

square_small : (h : ℕ) (a : ℤ) → IsBlockItem a → a ≤ℤ pos (2 ^ (57 + h)) → unsigned_abs (blocks_of h a *ℤ blocks_of h a) ≤ 2 ^ 114
square_small h a is fit =
    let nonneg = blocks_nonneg h a is.0 in
    let width = square_width (blocks_of h a) nonneg (blocks_width h a fit) in
    let least = square_mono (pos 0) (blocks_of h a) (omega (arith, ints)) nonneg in
    omega (arith, ints, width, least)

squares_small : (h : ℕ) (xs : List ℤ) → AllByRecursion IsBlockItem xs → AllByRecursion (λ (a : ℤ). a ≤ℤ pos (2 ^ (57 + h))) xs → AllByRecursion (λ (a : ℤ). unsigned_abs (blocks_of h a *ℤ blocks_of h a) ≤ 2 ^ 114) xs
squares_small h [] are fit = tt
squares_small h (x ∷ xs) are fit = (square_small h x are.0 fit.0, squares_small h xs are.1 fit.1)

gap_within : (xs : List ℤ) → length xs ≤ most_streams → AllByRecursion IsBlockItem xs → IsGapInRange (gap_from xs)
gap_within xs few are =
    let h = block_exponent_of xs in
    let is = block_exponent_is xs in
    let fit32 : FitBlocks 32 xs = All-from_recursion (λ (a : ℤ). a ≤ℤ pos (2 ^ (57 + 32))) xs (AllByRecursion-map IsBlockItem (λ (a : ℤ). a ≤ℤ pos (2 ^ (57 + 32))) xs (λ a item. omega (arith, ints, item.1)) are) in
    let fit = AllByRecursion-from_all (λ (a : ℤ). a ≤ℤ pos (2 ^ (57 + h))) xs is.fit in
    let bound = sum_over-bound (λ (a : ℤ). blocks_of h a *ℤ blocks_of h a) (2 ^ 114) xs (squares_small h xs are fit) in
    let n = unsigned_abs (block_squares_of xs h) in
    let g = (root_ceil_is n).least (2 ^ 63) (omega (arith, bound, few)) in
    record { most_g = g; most_h = is.least 32 fit32 }

-- ---- the statistic
adjustment_nonneg : (m : Meas) (p : ℤ) → pos 0 ≤ℤ adjustment_at m p
adjustment_nonneg m p = omega (arith, ints)

below_nonneg : (o : Option Meas) (p : ℤ) → IfSome o IsMeasurement → pos 0 ≤ℤ adjustment_below o p
below_nonneg None p limits = omega (arith, ints)
below_nonneg (Some m) p limits =
    let root = (measured_root m limits).from in
    floor_nonneg (adjustment_at m p) (scaled_root_of m.variance +ℤ pos 1) (adjustment_nonneg m p) (omega (arith, ints, root))

above_nonneg : (o : Option Meas) (p : ℤ) → IfSome o IsMeasurement → pos 0 ≤ℤ adjustment_above o p
above_nonneg None p limits = omega (arith, ints)
above_nonneg (Some m) p limits =
    let root = (measured_root m limits).from in
    ceiling_nonneg (adjustment_at m p) (scaled_root_of m.variance) (adjustment_nonneg m p) (omega (arith, ints, root))

adjustments_nonneg : (r : Option Meas → ℤ → ℤ) → ((o : Option Meas) (p : ℤ) → IfSome o IsMeasurement → pos 0 ≤ℤ r o p) → (ss : List Stream) (ps : List ℤ)
    → AllByRecursion IsWithinLimits ss → AllByRecursion (λ (b : ℤ). pos 0 ≤ℤ b) (adjustments_by r ss ps)
adjustments_nonneg r each [] ps limits = tt
adjustments_nonneg r each (s ∷ ss) [] limits = tt
adjustments_nonneg r each (s ∷ ss) (p ∷ ps) limits = (each s.meas p limits.0, adjustments_nonneg r each ss ps limits.1)

-- the square of an adjustment that is at most the cap
square_of : (b : ℤ) → pos 0 ≤ℤ b → b ≤ℤ adjustment_cap → (pos 0 ≤ℤ (b *ℤ b)) × (unsigned_abs (b *ℤ b) ≤ 2 ^ 104)
square_of b least most =
    let low = square_mono (pos 0) b (omega (arith, ints)) least in
    let high = square_mono b adjustment_cap least most in
    (omega (arith, ints, low), omega (arith, ints, low, high))

capped : (b : ℤ) → pos 0 ≤ℤ b → (pos 0 ≤ℤ int_min b adjustment_cap) × (int_min b adjustment_cap ≤ℤ adjustment_cap)
capped b least = (grind (arith, ints, least), grind (arith, ints, least))

capped_sum : (bs : List ℤ) → AllByRecursion (λ (b : ℤ). pos 0 ≤ℤ b) bs → (pos 0 ≤ℤ capped_squares bs) × (unsigned_abs (capped_squares bs) ≤ length bs * 2 ^ 104)
capped_sum bs nonneg =
    let one : ℤ → ℤ = λ b. int_min b adjustment_cap *ℤ int_min b adjustment_cap in
    let each : (b : ℤ) → pos 0 ≤ℤ b → (pos 0 ≤ℤ one b) × (unsigned_abs (one b) ≤ 2 ^ 104) = λ b least. let (from, to) = capped b least in square_of (int_min b adjustment_cap) from to in (
      sum_over-nonneg one bs (AllByRecursion-map (λ (b : ℤ). pos 0 ≤ℤ b) (λ b. pos 0 ≤ℤ one b) bs (λ b least. (each b least).0) nonneg),
      sum_over-bound one (2 ^ 104) bs (AllByRecursion-map (λ (b : ℤ). pos 0 ≤ℤ b) (λ b. unsigned_abs (one b) ≤ 2 ^ 104) bs (λ b least. (each b least).1) nonneg),
    )

not_passed : (b : ℤ) → int_lt adjustment_cap b ≡ false → b ≤ℤ adjustment_cap
not_passed b none = omega (arith, ints, none)

any_parts : (a b : Bool) → (a || b) ≡ false → (a ≡ false) × (b ≡ false)
any_parts true b h = cc h
any_parts false b h = (refl, h)

full_parts : (bs : List ℤ) → AllByRecursion (λ (b : ℤ). pos 0 ≤ℤ b) bs → list_any (λ b. int_lt adjustment_cap b) bs ≡ false
    → AllByRecursion (λ (b : ℤ). (pos 0 ≤ℤ (b *ℤ b)) × (unsigned_abs (b *ℤ b) ≤ 2 ^ 104)) bs
full_parts [] nonneg none = tt
full_parts (b ∷ bs) nonneg none =
    let parts = any_parts (int_lt adjustment_cap b) (list_any (λ b. int_lt adjustment_cap b) bs) none in
    (square_of b nonneg.0 (not_passed b parts.0), full_parts bs nonneg.1 parts.1)

full_sum : (bs : List ℤ) → AllByRecursion (λ (b : ℤ). pos 0 ≤ℤ b) bs → list_any (λ b. int_lt adjustment_cap b) bs ≡ false
    → (pos 0 ≤ℤ full_squares bs) × (unsigned_abs (full_squares bs) ≤ length bs * 2 ^ 104)
full_sum bs nonneg none =
    let P : ℤ → Type 0 = λ b. (pos 0 ≤ℤ (b *ℤ b)) × (unsigned_abs (b *ℤ b) ≤ 2 ^ 104) in
    let parts = full_parts bs nonneg none in (
      sum_over-nonneg (λ (b : ℤ). b *ℤ b) bs (AllByRecursion-map P (λ (b : ℤ). pos 0 ≤ℤ (b *ℤ b)) bs (λ b p. p.0) parts),
      sum_over-bound (λ (b : ℤ). b *ℤ b) (2 ^ 104) bs (AllByRecursion-map P (λ (b : ℤ). unsigned_abs (b *ℤ b) ≤ 2 ^ 104) bs (λ b p. p.1) parts),
    )

-- ---- the low end
at_least_zero : (low : ℤ) → low ≤ℤ pos (2 ^ 126) → IsEnd (int_max (pos 0) low)
at_least_zero low most = record { least = grind (arith, ints); wide = grind (arith, ints, most) }

low_end : (squares : ℤ) (size : ℕ) → squares ≤ℤ pos (most_streams * 2 ^ 104)
    → IsEnd (int_max (pos 0) (floor_div (pos 1000 *ℤ (squares -ℤ (pos size *ℤ pos size))) (pos (2 ^ 40))))
low_end squares size most =
    let size_square = pos size *ℤ pos size in
    let n = pos 1000 *ℤ (squares -ℤ size_square) in
    at_least_zero (floor_div n (pos (2 ^ 40))) (floor_to (pos (2 ^ 126)) n (pos (2 ^ 40)) (omega (arith, ints)) (omega (arith, ints, most)))

zero_end : IsEnd (pos 0)
zero_end = record { least = omega (arith, ints); wide = omega arith }

either_end : (b : Bool) (x y : ℤ) → IsEnd x → IsEnd y → IsEnd (if b then x else y)
either_end true x y here there = here
either_end false x y here there = there

low_within : (ss : List Stream) (ps : List ℤ) (gap : Gap) → length ss ≤ most_streams → length ps ≡ length ss → AllByRecursion IsWithinLimits ss → IsEnd (low_of ss ps gap)
low_within ss ps gap few each limits =
    let bs = adjustments_by adjustment_below ss ps in
    let (least, most) = capped_sum bs (adjustments_nonneg adjustment_below below_nonneg ss ps limits) in
    let count = length-adjustments adjustment_below ss ps each in
    either_end (nat_lt (2 ^ 57) (gap_size gap)) (pos 0) _ zero_end (low_end (capped_squares bs) (gap_size gap) (omega (arith, ints, least, most, count, few)))

-- ---- the high end
high_end : (squares : ℤ) → pos 0 ≤ℤ squares → squares ≤ℤ pos (most_streams * 2 ^ 104) → IsEnd (ceil_div (pos 1000 *ℤ squares) (pos (2 ^ 40)))
high_end squares least most =
    let n = pos 1000 *ℤ squares in
    let from = ceiling_nonneg n (pos (2 ^ 40)) (omega (arith, ints, least)) (omega (arith, ints)) in
    let to = ceiling_to (pos (2 ^ 126)) n (pos (2 ^ 40)) (omega (arith, ints)) (omega (arith, ints, most)) in
    record { least = from; wide = omega (arith, ints, from, to) }

unless : (b : Bool) (x : ℤ) → (b ≡ false → IsEnd x) → IfSome (if b then None else Some x) IsEnd
unless true x is = tt
unless false x is = is refl

high_within : (ss : List Stream) (ps : List ℤ) → length ss ≤ most_streams → length ps ≡ length ss → AllByRecursion IsWithinLimits ss → IfSome (high_of ss ps) IsEnd
high_within ss ps few each limits =
    let bs = adjustments_by adjustment_above ss ps in
    let count = length-adjustments adjustment_above ss ps each in
    unless (list_any (λ b. int_lt adjustment_cap b) bs) (ceil_div (pos 1000 *ℤ full_squares bs) (pos (2 ^ 40))) (λ none.
    let (least, most) = full_sum bs (adjustments_nonneg adjustment_above above_nonneg ss ps limits) none in
    high_end (full_squares bs) least (omega (arith, ints, least, most, count, few)))

-- ---- bounds
at_stream : (P : Stream → Type 0) (ss : List Stream) (k : ℕ) (s : Stream) → AllByRecursion P ss → slice_get ss k ≡ Some s → P s
at_stream P [] k s all at = cc at
at_stream P (t ∷ ss) zero s all at = subst P (some_same at) all.0
at_stream P (t ∷ ss) (suc k) s all at = at_stream P ss k s all.1 at

dual_part : (price : ℕ → ℤ) (g : ProcessGraph) (m : Member) → AllByRecursion (λ s. unsigned_abs (dual_flow price s) ≤ most_dual_flow) g.streams → IsSigned g m
    → unsigned_abs (m.sign *ℤ dual_flow_in price (slice_get g.streams m.stream)) ≤ most_dual_flow
dual_part price g m duals is =
    turned m.sign (dual_flow_in price (slice_get g.streams m.stream)) most_dual_flow is.sign
    (subst (λ (o : Option Stream). unsigned_abs (dual_flow_in price o) ≤ most_dual_flow) (sym is.is) (at_stream (λ s. unsigned_abs (dual_flow price s) ≤ most_dual_flow) g.streams m.stream is.stream duals is.is))

abbrev IsVariance : ℤ → Type 0
IsVariance v = (pos 0 ≤ℤ v) × (unsigned_abs v ≤ most_variance)

variance_within : (o : Option Meas) → IfSome o IsMeasurement → IsVariance (variance_of o)
variance_within None limits = (omega (arith, ints), omega arith)
variance_within (Some m) limits = (omega (arith, ints, limits.least), omega (arith, ints, limits.least, limits.greatest))

variance_part : (g : ProcessGraph) (m : Member) → AllByRecursion IsWithinLimits g.streams → IsSigned g m → IsVariance (variance_in (slice_get g.streams m.stream))
variance_part g m limits is =
    subst (λ (o : Option Stream). IsVariance (variance_in o)) (sym is.is) (variance_within is.stream.meas (at_stream IsWithinLimits g.streams m.stream is.stream limits is.is))

half_within : (ss : List Stream) (gap : Gap) (ms : List Member) → IsGapInRange gap → pos 0 ≤ℤ variance_sum ss ms → variance_sum ss ms <ℤ pos (2 ^ 86)
    → (pos 0 ≤ℤ half_width_in ss gap ms) × (half_width_in ss gap ms ≤ℤ pos (2 ^ 118))
half_within ss gap [] range least most = (omega (arith, ints), omega (arith, ints))
half_within ss gap (m ∷ ms) range least most =
    let v = variance_sum ss (m ∷ ms) in
    let root = scaled_root_is v least in
    let width = scaled_root_width v (scaled_root_of v) root most in
    let from : pos 0 ≤ℤ (scaled_root_of v +ℤ pos 1) = omega (arith, ints, root.nonneg) in
    (half_width_nonneg (scaled_root_of v +ℤ pos 1) gap.g gap.h from, half_width_width (scaled_root_of v +ℤ pos 1) gap.g gap.h from (omega (arith, ints, width)) range.most_g range.most_h)

bounds_within : (price : ℕ → ℤ) (g : ProcessGraph) (gap : Gap) (ms : List Member) → IsProcessGraph g → AllByRecursion (λ s. unsigned_abs (dual_flow price s) ≤ most_dual_flow) g.streams
    → IsGapInRange gap → AreSigned g ms → AreBoundsWithin (bounds_of price g.streams gap ms)
bounds_within price g gap ms limits duals range signed =
    let within = AllByRecursion-from_all IsWithinLimits g.streams limits.limits in
    let few = members_few g ms signed in
    let many = limits.few_streams in
    let dual : Member → ℤ = λ m. m.sign *ℤ dual_flow_in price (slice_get g.streams m.stream) in
    let variance : Member → ℤ = λ m. variance_in (slice_get g.streams m.stream) in
    let sum = sum_over-bound dual most_dual_flow ms (AllByRecursion-map (IsSigned g) (λ m. unsigned_abs (dual m) ≤ most_dual_flow) ms (λ m is. dual_part price g m duals is) signed.each) in
    let least = sum_over-nonneg variance ms (AllByRecursion-map (IsSigned g) (λ m. pos 0 ≤ℤ variance m) ms (λ m is. (variance_part g m within is).0) signed.each) in
    let most = sum_over-bound variance most_variance ms (AllByRecursion-map (IsSigned g) (λ m. unsigned_abs (variance m) ≤ most_variance) ms (λ m is. (variance_part g m within is).1) signed.each) in
    let (half_from, half_to) = half_within g.streams gap ms range least (omega (arith, ints, least, most, few, many)) in
    let lo = floor_size (dual_flow_sum price g.streams ms) scale (omega (arith, ints)) in
    let hi = ceiling_size (dual_flow_sum price g.streams ms) scale (omega (arith, ints)) in
    record { lo = omega (arith, ints, lo, sum, few, many, half_from, half_to); hi = omega (arith, ints, hi, sum, few, many, half_from, half_to) }

-- ---- all of them
pub ranges : RangeLaw
ranges g price flows limits fit rounded =
    let within = AllByRecursion-from_all IsWithinLimits g.streams limits.limits in
    let duals = duals_within price g.streams within (AllByRecursion-from_all (IsInBox price) g.streams fit.box) in
    let given : (k : ℕ) → IsGivenFlow (item (nearest_flows price g.streams) k) = λ k. item_has IsGivenFlow (nearest_flows price g.streams) k (omega arith) (grams_small price g.streams duals) in
    let small = small_flows g rounded.held flows (nearest_flows price g.streams) limits rounded.forest rounded.balanced rounded.nearest given in
    let each = rounded.balanced.each in
    let deviations = deviations_within price g.streams flows within duals (AllByRecursion-from_all IsFlow flows small) in
    let gap = gap_within (deviations_of price g.streams flows) (omega (arith, length-deviations price g.streams flows each, limits.few_streams)) deviations in
    record {
      each_flow = small;
      gap = gap;
      low = low_within g.streams flows (gap_of price g.streams flows) limits.few_streams each within;
      high = high_within g.streams flows limits.few_streams each within;
      bounds = λ ms signed. bounds_within price g (gap_of price g.streams flows) ms limits duals gap signed;
    }
