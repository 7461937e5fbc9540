-- The two numbers of a gap.
use Rattle.std.proofs.Common.{◌≡◌, ◌∙◌, ◌*◌, ◌≤◌, ℕ, ℤ, pos, ◌*ℤ◌, ◌≤ℤ◌, unsigned_abs, List, ap, ap₂, arith}
use Rattle.std.proofs.lemmas.Int.{ints}
use Rattle.pb_fixed.proofs.Lists.{AllByRecursion-every}
use Rattle.pb_fixed.proofs.Order.{square_pos}
use Rattle.pb_fixed.proofs.Sums.{sum_over-nonneg}
use Rattle.pb_fixed.specs.Roots.{root_ceil_of}
use Rattle.pb_fixed.specs.Blocks.{block_exponent_of, block_squares_of, blocks_of}
use Rattle.pb_fixed.proofs.BlockLaws.{block_exponent_is, block_exponent_only}
use Rattle.pb_fixed.proofs.RootLaws.{root_ceil_is, root_ceil_only}
use Rattle.pb_gap.specs.Gap.{Gap, IsGap, gap_from}
use Rattle.pb_gap.specs.Laws.{AreGaps}

squares_nonneg : (items : List ℤ) (h : ℕ) → pos 0 ≤ℤ block_squares_of items h
squares_nonneg items h =
    sum_over-nonneg (λ a. blocks_of h a *ℤ blocks_of h a) items (AllByRecursion-every (λ a. pos 0 ≤ℤ (blocks_of h a *ℤ blocks_of h a)) items (λ a. square_pos (blocks_of h a)))

at_most : (b : ℤ) (n : ℕ) → b ≤ℤ pos n → pos 0 ≤ℤ b → unsigned_abs b ≤ n
at_most b n h k = omega (arith, ints, h, k)

at_least : (b : ℤ) (n : ℕ) → unsigned_abs b ≤ n → b ≤ℤ pos n
at_least b n h = omega (arith, ints, h)

gap_is : (deviations : List ℤ) → IsGap deviations (gap_from deviations)
gap_is deviations =
    let h = block_exponent_of deviations in
    let b = block_squares_of deviations h in
    let g = root_ceil_of (unsigned_abs b) in
    let root = root_ceil_is (unsigned_abs b) in
    record { exponent = block_exponent_is deviations; above = at_least b (g * g) root.above; least = λ k le. root.least k (at_most b (k * k) le (squares_nonneg deviations h)) }

gap_only : (deviations : List ℤ) (gap : Gap) → IsGap deviations gap → gap ≡ gap_from deviations
gap_only deviations gap is =
    let h = block_exponent_only deviations gap.h is.exponent in
    let b = block_squares_of deviations gap.h in
    let g : gap.g ≡ root_ceil_of (unsigned_abs b) =
    root_ceil_only (unsigned_abs b) gap.g (record { above = at_most b (gap.g * gap.g) is.above (squares_nonneg deviations gap.h); least = λ k le. is.least k (at_least b (k * k) le) }) in
    ap₂ (λ (g h : ℕ). record { g = g; h = h }) (g ∙ ap (λ (h : ℕ). root_ceil_of (unsigned_abs (block_squares_of deviations h))) h) h

pub gaps : AreGaps
gaps = record { is = gap_is; only = gap_only }
