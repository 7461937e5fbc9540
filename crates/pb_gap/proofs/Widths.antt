-- Widths of the numbers of the study.
use Rattle.std.proofs.Common.{◌≡◌, ◌∙◌, ◌-◌, ◌^◌, ◌<◌, ◌≤◌, ℤ, pos, ◌+ℤ◌, ◌-ℤ◌, ◌*ℤ◌, ◌≤ℤ◌, ◌<ℤ◌, unsigned_abs, Option, Some, inl, inr, ap, ap₂, sym, subst, arith}
use Rattle.std.specs.Prelude.{IfSome, int_lt, true, false}
use Rattle.std.proofs.lemmas.Bool.{cases_Bool}
use Rattle.std.proofs.lemmas.Int.{ints}
use Rattle.pb_limits.specs.Limits.{most_variance}
use Rattle.pb_fixed.proofs.Order.{root_strict}
use Rattle.pb_fixed.specs.Quotients.{floor_div, ceil_div}
use Rattle.pb_fixed.specs.Roots.{scaled_root_of}
use Rattle.pb_fixed.specs.Blocks.{IsBlockItem}
use Rattle.pb_fixed.proofs.QuotientLaws.{ceiling_from, ceiling_to, floor_from}
use Rattle.pb_fixed.proofs.RootLaws.{scaled_root_is, scaled_root_width}
use Rattle.pb_graph.specs.declared.records.Meas.{Meas}
use Rattle.pb_graph.specs.ProcessGraph.{IsMeasurement}
use Rattle.pb_dual.specs.DualValue.{scale, flow_at, most_dual_flow}
use Rattle.pb_gap.specs.Gap.{deviation_at, standard_deviation_of}
use Rattle.pb_gap.specs.Statistic.{adjustment_at, adjustment_below, adjustment_above}

-- the scaled root of a variance
pub record IsRoot (r : ℤ) : Type 0 where
  pub from : pos (2 ^ 20) ≤ℤ r
  pub to : r <ℤ pos (2 ^ 63)

root_from : (r v : ℤ) → pos 1 ≤ℤ v → pos 0 ≤ℤ r → (v *ℤ pos (2 ^ 40)) <ℤ ((r +ℤ pos 1) *ℤ (r +ℤ pos 1)) → pos (2 ^ 20) ≤ℤ r
root_from r v v_pos r_pos next =
    let less = root_strict (pos (2 ^ 20)) (r +ℤ pos 1) (omega (arith, ints, r_pos)) (omega (arith, ints, next, v_pos)) in omega (arith, ints, less)

pub root_width : (v : ℤ) → pos 1 ≤ℤ v → v ≤ℤ pos most_variance → IsRoot (scaled_root_of v)
root_width v v_pos most =
    let is = scaled_root_is v (omega (arith, ints, v_pos)) in
    record { from = root_from (scaled_root_of v) v v_pos is.nonneg is.next; to = scaled_root_width v (scaled_root_of v) is (omega (arith, ints, most)) }

pub measured_root : (m : Meas) → IsMeasurement m → IsRoot (scaled_root_of m.variance)
measured_root m limits = root_width m.variance limits.least limits.greatest

pub deviation_width : (n r : ℤ) → pos 0 ≤ℤ n → n <ℤ pos (2 ^ 125) → pos (2 ^ 20) ≤ℤ r → IsBlockItem (ceil_div n (r *ℤ pos (2 ^ 16)))
deviation_width n r n_pos n_most r_from =
    let d_pos : pos 0 <ℤ (r *ℤ pos (2 ^ 16)) = omega (arith, ints, r_from) in
    (ceiling_from (pos 0) n (r *ℤ pos (2 ^ 16)) d_pos (omega (arith, ints, n_pos)), ceiling_to (pos (2 ^ 89)) n (r *ℤ pos (2 ^ 16)) d_pos (omega (arith, ints, n_most, r_from)))

pub deviation_narrow : (p u r : ℤ) → unsigned_abs p < 2 ^ 68 → unsigned_abs u ≤ most_dual_flow → pos (2 ^ 20) ≤ℤ r
    → ceil_div (pos (unsigned_abs ((p *ℤ scale) -ℤ u))) (r *ℤ pos (2 ^ 16)) <ℤ pos (2 ^ 89)
deviation_narrow p u r flow dual r_from =
    let n : ℤ = pos (unsigned_abs ((p *ℤ scale) -ℤ u)) in
    let d : ℤ = r *ℤ pos (2 ^ 16) in
    let most : n ≤ℤ (pos (2 ^ 89 - 1) *ℤ d) = omega (arith, ints, flow, dual, r_from) in
    let at_most = ceiling_to (pos (2 ^ 89 - 1)) n d (omega (arith, ints, r_from)) most in omega (arith, ints, at_most)

pub floor_nonneg : (n d : ℤ) → pos 0 ≤ℤ n → pos 0 <ℤ d → pos 0 ≤ℤ floor_div n d
floor_nonneg n d n_pos d_pos = floor_from (pos 0) n d d_pos (omega (arith, ints, n_pos))

pub ceiling_nonneg : (n d : ℤ) → pos 0 ≤ℤ n → pos 0 <ℤ d → pos 0 ≤ℤ ceil_div n d
ceiling_nonneg n d n_pos d_pos = ceiling_from (pos 0) n d d_pos (omega (arith, ints, n_pos))

-- the root of a measured stream
pub record IsRootOf (m : Meas) (r : ℤ) : Type 0 where
  pub is : r ≡ scaled_root_of m.variance
  pub width : IsRoot r
  pub limits : IsMeasurement m

pub rooted : (o : Option Meas) (m : Meas) (r : ℤ) → IfSome o IsMeasurement → r ≡ standard_deviation_of o → o ≡ Some m → IsRootOf m r
rooted o m r limits root is =
    let l : IsMeasurement m = subst (λ (o : Option Meas). IfSome o IsMeasurement) is limits in
    let e : r ≡ scaled_root_of m.variance = root ∙ ap standard_deviation_of is in
    record { is = e; width = subst IsRoot (sym e) (measured_root m l); limits = l }

pub deviation_is : (o : Option Meas) (m : Meas) (d u p r x : ℤ) → o ≡ Some m → u ≡ flow_at o d → r ≡ scaled_root_of m.variance
    → x ≡ ceil_div (pos (unsigned_abs ((p *ℤ scale) -ℤ u))) (r *ℤ pos (2 ^ 16)) → x ≡ deviation_at o d p
deviation_is o m d u p r x is flow root value =
    subst (λ (o : Option Meas). x ≡ deviation_at o d p) (sym is)
    (value ∙ ap₂ (λ (u r : ℤ). ceil_div (pos (unsigned_abs ((p *ℤ scale) -ℤ u))) (r *ℤ pos (2 ^ 16))) (flow ∙ ap (λ (o : Option Meas). flow_at o d) is) root)

pub below_is : (o : Option Meas) (m : Meas) (p r n x : ℤ) → o ≡ Some m → n ≡ adjustment_at m p → r ≡ scaled_root_of m.variance → x ≡ floor_div n (r +ℤ pos 1)
    → x ≡ adjustment_below o p
below_is o m p r n x is adjustment root value =
    subst (λ (o : Option Meas). x ≡ adjustment_below o p) (sym is) (value ∙ ap₂ (λ (n r : ℤ). floor_div n (r +ℤ pos 1)) adjustment root)

pub above_is : (o : Option Meas) (m : Meas) (p r n x : ℤ) → o ≡ Some m → n ≡ adjustment_at m p → r ≡ scaled_root_of m.variance → x ≡ ceil_div n r
    → x ≡ adjustment_above o p
above_is o m p r n x is adjustment root value = subst (λ (o : Option Meas). x ≡ adjustment_above o p) (sym is) (value ∙ ap₂ ceil_div adjustment root)

-- what a test of order says
pub int_lt_yes : (a b : ℤ) → a <ℤ b → int_lt a b ≡ true
int_lt_yes a b less = elim (cases_Bool (int_lt a b)) [ inl yes_ ↦ yes_ | inr no_ ↦ absurd (omega (arith, ints, less, no_)) ]

pub int_lt_no : (a b : ℤ) → b ≤ℤ a → int_lt a b ≡ false
int_lt_no a b le = elim (cases_Bool (int_lt a b)) [ inl yes_ ↦ absurd (omega (arith, ints, le, yes_)) | inr no_ ↦ no_ ]
