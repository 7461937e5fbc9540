-- What a decided test says of the weighted squares.
use Rattle.std.proofs.Common.{◌≡◌, ℤ, pos, ◌+ℤ◌, ◌-ℤ◌, ◌*ℤ◌, ◌≤ℤ◌, ◌<ℤ◌, true, List, [], ◌∷◌, Option, Some, None, refl, arith}
use Rattle.std.specs.Prelude.{IfSome, ◌==◌}
use Rattle.std.proofs.lemmas.Int.{ints, int_max_is}
use Rattle.pb_fixed.proofs.Order.{add_mono, le_refl, mul_mono, mul_positive, mul_strict}
use Rattle.pb_fixed.proofs.Ring.{var, plus, times, ring}
use Rattle.pb_graph.specs.ProcessGraph.{ProcessGraph, IsProcessGraph}
use Rattle.pb_graph.specs.Squares.{Fractional, AreSquaresAtMost, squares_unit, variance_product, weighted_squares, whole_flows}
use Rattle.pb_gap.specs.Laws.{WeightLaw}
use Rattle.pb_stage.specs.Verdicts.{verdict_at}
use Rattle.pb_stage.specs.Drop.{drop_high, drop_low, without_measurement}
use Rattle.pb_stage.specs.Laws.{GlobalRejectLaw, GlobalAcceptLaw, DropRejectLaw, DropAcceptLaw}
use Rattle.pb_stage.proofs.VerdictLemmas.{accepted, is_at_most, rejected, tested}
use Rattle.pb_stage.proofs.DropLemmas.{without_limits}

-- ---- by cross products
at_last : (a b c : ℤ) → a <ℤ b → b ≤ℤ c → a <ℤ c
at_last a b c h k = omega (arith, ints, h, k)

join_strict : (a b e f g h : ℤ) → a ≤ℤ b → b ≡ e → e <ℤ f → f ≡ g → g ≤ℤ h → a <ℤ h
join_strict a b e f g h one is less same two = omega (arith, ints, one, is, less, same, two)

join_most : (a b e f : ℤ) → a ≤ℤ b → b ≡ e → e ≤ℤ f → a ≤ℤ f
join_most a b e f one is two = omega (arith, ints, one, is, two)

nonneg : (a : ℤ) → pos 0 <ℤ a → pos 0 ≤ℤ a
nonneg a h = omega (arith, ints, h)

-- n over d is at least low, m over e at most high, and low is above c and high
above_by : (c high low n m d e : ℤ) → pos 0 <ℤ d → pos 0 <ℤ e → (c +ℤ high) <ℤ low → m ≤ℤ (high *ℤ e) → (low *ℤ d) ≤ℤ n
    → (((c *ℤ e) +ℤ m) *ℤ d) <ℤ (n *ℤ e)
above_by c high low n m d e d_pos e_pos less most least =
    let vs : List ℤ = c ∷ high ∷ low ∷ d ∷ e ∷ [] in
    let one = mul_mono ((c *ℤ e) +ℤ m) ((c *ℤ e) +ℤ (high *ℤ e)) d (add_mono (c *ℤ e) (c *ℤ e) m (high *ℤ e) (le_refl (c *ℤ e)) most) (nonneg d d_pos) in
    let left : ((c *ℤ e) +ℤ (high *ℤ e)) *ℤ d ≡ (c +ℤ high) *ℤ (d *ℤ e) =
    ring vs (times (plus (times (var 0) (var 4)) (times (var 1) (var 4))) (var 3)) (times (plus (var 0) (var 1)) (times (var 3) (var 4))) refl in
    let two = mul_strict (c +ℤ high) low (d *ℤ e) less (mul_positive d e d_pos e_pos) in
    let right : low *ℤ (d *ℤ e) ≡ (low *ℤ d) *ℤ e = ring vs (times (var 2) (times (var 3) (var 4))) (times (times (var 2) (var 3)) (var 4)) refl in
    join_strict _ _ _ _ _ _ one left two right (mul_mono (low *ℤ d) n e least (nonneg e e_pos))

-- n over d is at most high, m over e at least low, and high is at most c and low
within_by : (c high low n m d e : ℤ) → pos 0 <ℤ d → pos 0 <ℤ e → high ≤ℤ (c +ℤ low) → n ≤ℤ (high *ℤ d) → (low *ℤ e) ≤ℤ m
    → (n *ℤ e) ≤ℤ (((c *ℤ e) +ℤ m) *ℤ d)
within_by c high low n m d e d_pos e_pos most above below =
    let vs : List ℤ = c ∷ high ∷ low ∷ d ∷ e ∷ [] in
    let one = mul_mono n (high *ℤ d) e above (nonneg e e_pos) in
    let left : (high *ℤ d) *ℤ e ≡ high *ℤ (d *ℤ e) = ring vs (times (times (var 1) (var 3)) (var 4)) (times (var 1) (times (var 3) (var 4))) refl in
    let two = mul_mono high (c +ℤ low) (d *ℤ e) most (nonneg (d *ℤ e) (mul_positive d e d_pos e_pos)) in
    let right : (c +ℤ low) *ℤ (d *ℤ e) ≡ ((c *ℤ e) +ℤ (low *ℤ e)) *ℤ d =
    ring vs (times (plus (var 0) (var 2)) (times (var 3) (var 4))) (times (plus (times (var 0) (var 4)) (times (var 2) (var 4))) (var 3)) refl in
    let three = mul_mono ((c *ℤ e) +ℤ (low *ℤ e)) ((c *ℤ e) +ℤ m) d (add_mono (c *ℤ e) (c *ℤ e) (low *ℤ e) m (le_refl (c *ℤ e)) below) (nonneg d d_pos) in
    join_most _ _ _ _ one left (join_most _ _ _ _ two right three)

-- what weighted squares are a fraction of is above 0
unit_positive : WeightLaw → (g : ProcessGraph) (x : Fractional) → IsProcessGraph g → pos 1 ≤ℤ x.denominator → pos 0 <ℤ squares_unit g x
unit_positive weights g x limits q_pos =
    let q = x.denominator in
    let l_pos = (weights g limits).positive in
    let q_above : pos 0 <ℤ q = omega (arith, ints, q_pos) in
    mul_positive (q *ℤ q) (variance_product g.streams) (mul_positive q q q_above q_above) (omega (arith, ints, l_pos))

-- ---- the global test
pub global_reject_by : WeightLaw → GlobalRejectLaw
global_reject_by weights g flows low high dof c x limits ends verdict even =
    let d = squares_unit g x in
    let less = rejected low high c (tested (dof == 0) (verdict_at low high c) verdict (λ e. cc e)) in
    at_last _ _ _ (mul_strict c low d less (unit_positive weights g x limits even.positive)) (ends.least x even)

most_by : (g : ProcessGraph) (x : Fractional) (c : ℤ) (high : Option ℤ) → pos 0 <ℤ squares_unit g x → IfSome high (AreSquaresAtMost g x) → is_at_most c high ≡ true → AreSquaresAtMost g x c
most_by g x c None d_pos most at = cc at
most_by g x c (Some high) d_pos most at =
    let within : high ≤ℤ c = omega (arith, ints, at) in
    let more = mul_mono high c (squares_unit g x) within (nonneg _ d_pos) in
    join_most _ _ _ _ most refl more

one_positive : pos 1 ≤ℤ pos 1
one_positive = omega (arith, ints)

pub global_accept_by : WeightLaw → GlobalAcceptLaw
global_accept_by weights g flows low high dof c limits ends verdict =
    most_by g (whole_flows flows) c high (unit_positive weights g (whole_flows flows) limits one_positive) ends.most (accepted low high c (tested (dof == 0) (verdict_at low high c) verdict (λ e. cc e)))

-- ---- the drop
-- a drop whose low end is above a critical value of at least 0 has a high end without the measurement
reject_drop : (g : ProcessGraph) (y : Fractional) (low : ℤ) (high : Option ℤ) (c : ℤ) → pos 0 ≤ℤ c → c <ℤ drop_low low high → IfSome high (AreSquaresAtMost g y)
    → (h : ℤ) × ((c +ℤ h) <ℤ low) × AreSquaresAtMost g y h
reject_drop g y low None c c_pos less most = absurd (omega (arith, ints, c_pos, less))
reject_drop g y low (Some h) c c_pos less most =
    let is = int_max_is (pos 0) (low -ℤ h) in
    (h, omega (arith, ints, c_pos, less, is), most)

pub drop_reject_by : WeightLaw → DropRejectLaw
drop_reject_by weights g stream flows others low low_without high high_without c x limits ends without c_pos verdict even =
    let other = without_measurement stream g in
    let y = whole_flows others in
    let less = rejected (drop_low low high_without) (drop_high high low_without) c verdict in
    let (h, apart, most) = reject_drop other y low high_without c c_pos less without.most in
    above_by c h low (pos 1000 *ℤ weighted_squares g x) (pos 1000 *ℤ weighted_squares other y) (squares_unit g x) (squares_unit other y)
    (unit_positive weights g x limits even.positive) (unit_positive weights other y (without_limits stream g limits) one_positive) apart most (ends.least x even)

accept_drop : (g : ProcessGraph) (x : Fractional) (high : Option ℤ) (low c : ℤ) → is_at_most c (drop_high high low) ≡ true → IfSome high (AreSquaresAtMost g x)
    → (h : ℤ) × (h ≤ℤ (c +ℤ low)) × AreSquaresAtMost g x h
accept_drop g x None low c at most = cc at
accept_drop g x (Some h) low c at most = (h, omega (arith, ints, at), most)

pub drop_accept_by : WeightLaw → DropAcceptLaw
drop_accept_by weights g stream flows others low low_without high high_without c y limits ends without verdict even =
    let other = without_measurement stream g in
    let x = whole_flows flows in
    let at = accepted (drop_low low high_without) (drop_high high low_without) c verdict in
    let (h, near, most) = accept_drop g x high low_without c at ends.most in
    within_by c h low_without (pos 1000 *ℤ weighted_squares g x) (pos 1000 *ℤ weighted_squares other y) (squares_unit g x) (squares_unit other y)
    (unit_positive weights g x limits one_positive) (unit_positive weights other y (without_limits stream g limits) even.positive) near most (without.least y even)
