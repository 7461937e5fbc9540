-- The enclosure of balanced vectors that are no worse than balanced whole flows.
use Rattle.std.proofs.Common.{◌≡◌, ◌∙◌, ◌^◌, ℕ, ℤ, pos, neg_ℤ, ◌+ℤ◌, ◌-ℤ◌, ◌*ℤ◌, ◌≤ℤ◌, ◌<ℤ◌, unsigned_abs, List, [], ◌∷◌, Option, Some, None, refl, sym, subst, ap, arith}
use Rattle.std.specs.Int.{int_div_euclid}
use Rattle.std.proofs.lemmas.Int.{by_lt_z, ints}
use Rattle.pb_fixed.proofs.Order.{le_by_eq, le_trans, le_of_eq, add_mono, mul_cancel, mul_mono, mul_positive, square_pos}
use Rattle.pb_fixed.proofs.Ring.{var, lit, plus, times, less, square, ring}
use Rattle.pb_fixed.proofs.RingLaws.{mul_comm, mul_zero}
use Rattle.pb_fixed.specs.Quotients.{floor_div, ceil_div}
use Rattle.pb_fixed.specs.Roots.{scaled_root_of, root_ceil_of}
use Rattle.pb_fixed.specs.Blocks.{block_squares_of, blocks_of}
use Rattle.pb_fixed.proofs.QuotientLaws.{ceiling_is, floor_is}
use Rattle.pb_fixed.proofs.RootLaws.{root_ceil_is, scaled_root_is}
use Rattle.pb_fixed.proofs.BlockLaws.{pow_mono}
use Rattle.pb_graph.specs.declared.records.Meas.{Meas}
use Rattle.pb_graph.specs.declared.records.Stream.{Stream}
use Rattle.pb_graph.specs.declared.records.Member.{Member}
use Rattle.pb_graph.specs.ProcessGraph.{ProcessGraph}
use Rattle.pb_graph.specs.Balance.{IsBalanced}
use Rattle.pb_graph.specs.Squares.{Fractional, IsNoWorse, variance_product, weighted_squares, whole_flows}
use Rattle.pb_graph.specs.Prices.{rise_of}
use Rattle.pb_graph.specs.PricedSums.{signed_sum}
use Rattle.pb_dual.specs.DualValue.{scale, flow_at, dual_value}
use Rattle.pb_gap.specs.Residuals.{residual_squares, residuals_of, residual_of}
use Rattle.pb_gap.specs.Gap.{deviation_at, deviations_of, gap_of, gap_size}
use Rattle.pb_gap.specs.Bounds.{AreSigned, dual_flow_sum, variance_sum, half_width_in}
use Rattle.pb_gap.specs.Laws.{IsDualPair, EnclosureLaw, GapLaw, gap_square}
use Rattle.pb_gap.proofs.Weights.{Weighs, WeighAll, product_of, weigh_all}
use Rattle.pb_gap.proofs.Identity.{identity}
use Rattle.pb_gap.proofs.InnerProductLemmas.{residual_square_at, residuals_from, by_stream_length}
use Rattle.pb_gap.proofs.SchwarzLemmas.{error_schwarz, sum_residual, variances_nonneg}
use Rattle.pb_gap.proofs.Rounding.{bound, bound_add, bound_mono, bound_nonneg, square_in_blocks, HasHalfWidth, from_above, from_below}

pub power_positive : (h : ℕ) → pos 0 <ℤ pos (2 ^ h)
power_positive h = let one = pow_mono 0 h (omega arith) in omega (arith, ints, one)

-- a scaled root of a variance is above 0
pub root_positive : (v : ℤ) → pos 1 ≤ℤ v → pos 0 <ℤ scaled_root_of v
root_positive v v_pos =
    let is = scaled_root_is v (omega (arith, ints, v_pos)) in
    above (scaled_root_of v) v v_pos is.nonneg is.next
  where
    above : (r v : ℤ) → pos 1 ≤ℤ v → pos 0 ≤ℤ r → (v *ℤ pos (2 ^ 40)) <ℤ ((r +ℤ pos 1) *ℤ (r +ℤ pos 1)) → pos 0 <ℤ r
    above r v v_pos r_pos next = by_lt_z (pos 0) r (λ ok. ok) (λ le.
        let zero : r ≡ pos 0 = omega (arith, ints, r_pos, le) in
        let small = subst (λ (z : ℤ). (v *ℤ pos (2 ^ 40)) <ℤ ((z +ℤ pos 1) *ℤ (z +ℤ pos 1))) zero next in
        absurd (omega (arith, ints, small, v_pos)))

pub root_below : (v : ℤ) → pos 1 ≤ℤ v → (scaled_root_of v *ℤ scaled_root_of v) ≤ℤ (v *ℤ pos (2 ^ 40))
root_below v v_pos = (scaled_root_is v (omega (arith, ints, v_pos))).below

-- a number is within the blocks that its absolute value takes
in_blocks : (e a u r p : ℤ) → pos (unsigned_abs e) ≤ℤ (a *ℤ u) → a ≤ℤ (r *ℤ p) → pos 0 ≤ℤ u → (e ≤ℤ ((r *ℤ p) *ℤ u)) × (neg_ℤ e ≤ℤ ((r *ℤ p) *ℤ u))
in_blocks e a u r p above blocks u_pos =
    let m = mul_mono a (r *ℤ p) u blocks u_pos in (omega (arith, ints, above, m), omega (arith, ints, above, m))

one_stream : (l d : ℤ) (h : ℕ) (o : Option Meas) (y : ℤ) → pos 1 ≤ℤ l → Weighs l o d
    → residual_square_at l (pos 1) o d y ≤ℤ bound l (pos (2 ^ h)) (blocks_of h (deviation_at o d y) *ℤ blocks_of h (deviation_at o d y))
one_stream l d h None y l_pos w = bound_nonneg l (pos (2 ^ h)) (blocks_of h (pos 0) *ℤ blocks_of h (pos 0)) l_pos (square_pos (blocks_of h (pos 0)))
one_stream l d h (Some m) y l_pos w =
    let v = m.variance in
    let flow = flow_at (Some m) d in
    let e = (y *ℤ scale) -ℤ flow in
    let s = scaled_root_of v in
    let a = deviation_at (Some m) d y in
    let r = blocks_of h a in
    let s_pos = root_positive v w.variance in
    let u_pos : pos 0 <ℤ (s *ℤ pos (2 ^ 16)) = mul_positive s (pos (2 ^ 16)) s_pos (omega (arith, ints)) in
    let up = ceiling_is (pos (unsigned_abs e)) (s *ℤ pos (2 ^ 16)) u_pos in
    let blocks = ceiling_is a (pos (2 ^ h)) (power_positive h) in
    let both = in_blocks e a (s *ℤ pos (2 ^ 16)) r (pos (2 ^ h)) up.above blocks.above (omega (arith, ints, u_pos)) in
    let same : (y *ℤ scale) -ℤ (pos 1 *ℤ flow) ≡ e = ring (y ∷ flow ∷ []) (less (times (var 0) (lit scale)) (times (lit (pos 1)) (var 1))) (less (times (var 0) (lit scale)) (var 1)) refl in
    subst (λ (x : ℤ). (int_div_euclid l v *ℤ (x *ℤ x)) ≤ℤ bound l (pos (2 ^ h)) (r *ℤ r)) (sym same)
    (square_in_blocks l (int_div_euclid l v) v e r (pos (2 ^ h)) s (record {
      weight = w.weight;
      nonneg = w.nonneg;
      root = root_below v w.variance;
      above = both.0;
      below = both.1;
    }))

-- the residuals of whole flows are within the blocks of their deviations
in_all_blocks : (l : ℤ) (h : ℕ) (price : ℕ → ℤ) (ss : List Stream) (ps : List ℤ) → pos 1 ≤ℤ l → WeighAll l price ss
    → residuals_from l (pos 1) price ss ps ≤ℤ bound l (pos (2 ^ h)) (block_squares_of (deviations_of price ss ps) h)
in_all_blocks l h price [] ps l_pos w = bound_nonneg l (pos (2 ^ h)) (pos 0) l_pos (omega (arith, ints))
in_all_blocks l h price (s ∷ ss) [] l_pos w = bound_nonneg l (pos (2 ^ h)) (pos 0) l_pos (omega (arith, ints))
in_all_blocks l h price (s ∷ ss) (y ∷ ps) l_pos w =
    let r = blocks_of h (deviation_at s.meas (rise_of price s) y) in
    le_by_eq _ _ _ _ refl (bound_add l (pos (2 ^ h)) (r *ℤ r) (block_squares_of (deviations_of price ss ps) h))
    (add_mono _ _ _ _ (one_stream l (rise_of price s) h s.meas y l_pos w.0) (in_all_blocks l h price ss ps l_pos w.1))

-- a number is at most the square of the root of its absolute value, rounded up
below_root : (b : ℤ) → b ≤ℤ (pos (root_ceil_of (unsigned_abs b)) *ℤ pos (root_ceil_of (unsigned_abs b)))
below_root b = let up = (root_ceil_is (unsigned_abs b)).above in omega (arith, ints, up)

-- the weighted squares of the residuals of whole flows are at most the square of the gap
pub within_gap : (g : ProcessGraph) (price : ℕ → ℤ) (ps : List ℤ) → pos 1 ≤ℤ variance_product g.streams → WeighAll (variance_product g.streams) price g.streams
    → residual_squares price g (whole_flows ps) ≤ℤ (variance_product g.streams *ℤ gap_square (gap_of price g.streams ps))
within_gap g price ps l_pos w =
    let l = variance_product g.streams in
    let gap = gap_of price g.streams ps in
    let p = pos (2 ^ gap.h) in
    let b = block_squares_of (deviations_of price g.streams ps) gap.h in
    let root = pos gap.g in
    let form : bound l p (root *ℤ root) ≡ l *ℤ (pos (2 ^ 72) *ℤ ((root *ℤ p) *ℤ (root *ℤ p))) =
    ring (l ∷ p ∷ root ∷ []) (times (var 0) (times (lit (pos (2 ^ 72))) (times (square (var 1)) (square (var 2))))) (times (var 0) (times (lit (pos (2 ^ 72))) (square (times (var 2) (var 1))))) refl in
    le_trans _ _ _ (in_all_blocks l gap.h price g.streams ps l_pos w) (le_by_eq _ _ _ _ refl (sym form) (bound_mono l p b (root *ℤ root) l_pos (below_root b)))

glue : (a b x y z : ℤ) → a ≤ℤ b → a ≡ x +ℤ y → b ≡ x +ℤ z → y ≤ℤ z
glue a b x y z h e f = omega (arith, ints, h, e, f)

-- whole flows in place of a balanced vector
pub whole_pair : (g : ProcessGraph) (price : ℕ → ℤ) (ps : List ℤ) (x : Fractional) → IsDualPair g price x → IsBalanced g ps → IsDualPair g price (whole_flows ps)
whole_pair g price ps x h even = record { limits = h.limits; fit = h.fit; balanced = record { positive = omega (arith, ints); balanced = even } }

-- the residuals of a vector that is no worse
no_worse : (k l q x y v dx dp : ℤ) → pos 1 ≤ℤ l → pos 0 ≤ℤ k → (x *ℤ ((pos 1 *ℤ pos 1) *ℤ l)) ≤ℤ (y *ℤ ((q *ℤ q) *ℤ l)) → k *ℤ x ≡ (((q *ℤ q) *ℤ l) *ℤ v) +ℤ dx
    → k *ℤ y ≡ (((pos 1 *ℤ pos 1) *ℤ l) *ℤ v) +ℤ dp → dx ≤ℤ ((q *ℤ q) *ℤ dp)
no_worse k l q x y v dx dp l_pos k_pos better ex ey =
    let one : x ≤ℤ (y *ℤ (q *ℤ q)) = mul_cancel x (y *ℤ (q *ℤ q)) l
    (le_by_eq _ _ _ _ (ring (x ∷ l ∷ []) (times (var 0) (var 1)) (times (var 0) (times (square (lit (pos 1))) (var 1))) refl)
    (ring (y ∷ q ∷ l ∷ []) (times (times (var 0) (square (var 1))) (var 2)) (times (var 0) (times (square (var 1)) (var 2))) refl) better) (omega (arith, ints, l_pos)) in
    let two = mul_mono x (y *ℤ (q *ℤ q)) k one k_pos in
    let left : x *ℤ k ≡ (((q *ℤ q) *ℤ l) *ℤ v) +ℤ dx = mul_comm x k ∙ ex in
    let right : (y *ℤ (q *ℤ q)) *ℤ k ≡ (((q *ℤ q) *ℤ l) *ℤ v) +ℤ ((q *ℤ q) *ℤ dp) =
    ring (y ∷ q ∷ k ∷ []) (times (times (var 0) (square (var 1))) (var 2)) (times (square (var 1)) (times (var 2) (var 0))) refl
    ∙ ap (λ (z : ℤ). (q *ℤ q) *ℤ z) ey
    ∙ ring (q ∷ l ∷ v ∷ dp ∷ []) (times (square (var 0)) (plus (times (times (square (lit (pos 1))) (var 1)) (var 2)) (var 3)))
    (plus (times (times (square (var 0)) (var 1)) (var 2)) (times (square (var 0)) (var 3))) refl in
    glue (x *ℤ k) ((y *ℤ (q *ℤ q)) *ℤ k) (((q *ℤ q) *ℤ l) *ℤ v) dx ((q *ℤ q) *ℤ dp) two left right

no_worse_residuals : (g : ProcessGraph) (price : ℕ → ℤ) (ps : List ℤ) (x : Fractional) → IsDualPair g price x → IsBalanced g ps → IsNoWorse g x (whole_flows ps)
    → residual_squares price g x ≤ℤ ((x.denominator *ℤ x.denominator) *ℤ residual_squares price g (whole_flows ps))
no_worse_residuals g price ps x h even better =
    no_worse (scale *ℤ scale) (variance_product g.streams) x.denominator (weighted_squares g x) (weighted_squares g (whole_flows ps)) (dual_value price g.streams)
    (residual_squares price g x) (residual_squares price g (whole_flows ps)) (product_of g h.limits) (omega (arith, ints)) better
    (identity g price x h) (identity g price (whole_flows ps) (whole_pair g price ps x h even))

-- the residual of a signed sum, over the sum of the variances
member_schwarz : (g : ProcessGraph) (price : ℕ → ℤ) (x : Fractional) (ms : List Member) → IsDualPair g price x → AreSigned g ms
    → (variance_product g.streams *ℤ (((signed_sum ms x.numerators *ℤ scale) -ℤ (x.denominator *ℤ dual_flow_sum price g.streams ms)) *ℤ ((signed_sum ms x.numerators *ℤ scale) -ℤ (x.denominator *ℤ dual_flow_sum price g.streams ms))))
    ≤ℤ (variance_sum g.streams ms *ℤ residual_squares price g x)
member_schwarz g price x ms h is =
    let each = h.balanced.balanced.each in
    let errors = residuals_of price g.streams x in
    subst (λ (z : ℤ). (variance_product g.streams *ℤ (z *ℤ z)) ≤ℤ (variance_sum g.streams ms *ℤ residual_squares price g x)) (sum_residual g price x ms each is.each)
    (error_schwarz g errors ms h.limits (by_stream_length (residual_of x.denominator price) g.streams x.numerators each) is)

-- the half width of a list that isn't empty
half_width : (g : ProcessGraph) (price : ℕ → ℤ) (ps : List ℤ) (x : Fractional) (m : Member) (ms : List Member) → IsDualPair g price x → IsBalanced g ps
    → IsNoWorse g x (whole_flows ps) → AreSigned g (m ∷ ms)
    → HasHalfWidth (variance_product g.streams) x.denominator ((signed_sum (m ∷ ms) x.numerators *ℤ scale) -ℤ (x.denominator *ℤ dual_flow_sum price g.streams (m ∷ ms))) (variance_sum g.streams (m ∷ ms)) (residual_squares price g x)
    (pos (gap_size (gap_of price g.streams ps))) (scaled_root_of (variance_sum g.streams (m ∷ ms))) (half_width_in g.streams (gap_of price g.streams ps) (m ∷ ms))
half_width g price ps x m ms h even better is =
    let l = variance_product g.streams in
    let q = x.denominator in
    let gap = gap_of price g.streams ps in
    let s = variance_sum g.streams (m ∷ ms) in
    let l_pos = product_of g h.limits in
    let s_nonneg = variances_nonneg g (m ∷ ms) h.limits is in
    let root = scaled_root_is s s_nonneg in
    let own = within_gap g price ps l_pos (weigh_all g price h.limits h.fit) in
    let scaled = mul_mono (residual_squares price g (whole_flows ps)) (l *ℤ gap_square gap) (q *ℤ q) own (square_pos q) in
    let half = ceiling_is ((scaled_root_of s +ℤ pos 1) *ℤ pos (gap_size gap)) (pos (2 ^ 40)) (omega (arith, ints)) in
    record {
      l_pos = l_pos;
      q_pos = h.balanced.positive;
      s_nonneg = s_nonneg;
      g_nonneg = omega (arith, ints);
      root_nonneg = root.nonneg;
      schwarz = member_schwarz g price x (m ∷ ms) h is;
      squares = le_trans _ _ _ (no_worse_residuals g price ps x h even better) (le_by_eq _ _ _ _ (mul_comm (q *ℤ q) (residual_squares price g (whole_flows ps))) (mul_comm (q *ℤ q) (l *ℤ gap_square gap)) scaled);
      root_above = strict_le _ _ root.next;
      half_above = half.above;
    }
  where
    strict_le : (a b : ℤ) → a <ℤ b → a ≤ℤ b
    strict_le a b h = omega (arith, ints, h)

pub enclosure : EnclosureLaw
enclosure g price ps x [] h even better is = record { from = le_of_eq _ _ (mul_zero x.denominator); to = le_of_eq _ _ (sym (mul_zero x.denominator)) }
enclosure g price ps x (m ∷ ms) h even better is =
    let members = m ∷ ms in
    let l = variance_product g.streams in
    let q = x.denominator in
    let t = dual_flow_sum price g.streams members in
    let s = variance_sum g.streams members in
    let b = residual_squares price g x in
    let gg = pos (gap_size (gap_of price g.streams ps)) in
    let half = half_width_in g.streams (gap_of price g.streams ps) members in
    let y = signed_sum members x.numerators in
    let has = half_width g price ps x m ms h even better is in
    let down = floor_is t scale (omega (arith, ints)) in
    let up = ceiling_is t scale (omega (arith, ints)) in
    record {
      from = from_below l q s b gg (scaled_root_of s) half y t (floor_div t scale) has down.below;
      to = from_above l q s b gg (scaled_root_of s) half y t (ceil_div t scale) has up.above;
    }

-- the weighted squares of whole flows exceed the dual value by at most the square of the gap
in_gap : (l k w v r gg : ℤ) → k *ℤ w ≡ (((pos 1 *ℤ pos 1) *ℤ l) *ℤ v) +ℤ r → r ≤ℤ (l *ℤ gg) → (k *ℤ w) ≤ℤ (((pos 1 *ℤ pos 1) *ℤ l) *ℤ (v +ℤ gg))
in_gap l k w v r gg own within =
    let split : ((pos 1 *ℤ pos 1) *ℤ l) *ℤ (v +ℤ gg) ≡ (((pos 1 *ℤ pos 1) *ℤ l) *ℤ v) +ℤ (l *ℤ gg) =
    ring (l ∷ v ∷ gg ∷ []) (times (times (square (lit (pos 1))) (var 0)) (plus (var 1) (var 2))) (plus (times (times (square (lit (pos 1))) (var 0)) (var 1)) (times (var 0) (var 2))) refl in
    le_by_eq _ _ _ _ own split (add_mono _ _ _ _ (le_of_eq _ _ refl) within)

pub gap_excess : GapLaw
gap_excess g price ps h =
    in_gap (variance_product g.streams) (scale *ℤ scale) (weighted_squares g (whole_flows ps)) (dual_value price g.streams) (residual_squares price g (whole_flows ps)) (gap_square (gap_of price g.streams ps))
    (identity g price (whole_flows ps) h) (within_gap g price ps (product_of g h.limits) (weigh_all g price h.limits h.fit))
