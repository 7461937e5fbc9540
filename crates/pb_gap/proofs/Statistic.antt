-- The low and the high end of the statistic.
use Rattle.std.proofs.Common.{◌≡◌, ◌∙◌, ◌^◌, ℤ, pos, ◌+ℤ◌, ◌-ℤ◌, ◌*ℤ◌, ◌≤ℤ◌, ◌<ℤ◌, unsigned_abs, Bool, true, false, cond, List, [], ◌∷◌, Option, Some, None, refl, sym, subst, ap, arith}
use Rattle.std.specs.Prelude.{IfSome, int_lt, nat_lt}
use Rattle.std.specs.Int.{int_div_euclid, int_min}
use Rattle.std.specs.List.{AllByRecursion, list_any}
use Rattle.std.proofs.lemmas.Int.{int_min_is, ints}
use Rattle.pb_fixed.proofs.Order.{le_by_eq, le_trans, le_of_eq, mul_cancel, mul_mono, mul_nonneg, square_mono, square_pos, unsigned_abs_square}
use Rattle.pb_fixed.proofs.Ring.{var, lit, plus, times, less, square, ring}
use Rattle.pb_fixed.proofs.RingLaws.{zero_mul}
use Rattle.pb_fixed.specs.Quotients.{floor_div, ceil_div}
use Rattle.pb_fixed.specs.Roots.{scaled_root_of}
use Rattle.pb_fixed.proofs.QuotientLaws.{ceiling_is, floor_is, floor_from}
use Rattle.pb_fixed.proofs.RootLaws.{scaled_root_is}
use Rattle.pb_graph.specs.declared.records.Meas.{Meas}
use Rattle.pb_graph.specs.declared.records.Stream.{Stream}
use Rattle.pb_graph.specs.Squares.{variance_product, weighted_squares, squares_unit, whole_flows, errors_of}
use Rattle.pb_dual.specs.DualValue.{scale, dual_value}
use Rattle.pb_gap.specs.Residuals.{residual_squares}
use Rattle.pb_gap.specs.Gap.{gap_of, gap_size}
use Rattle.pb_gap.specs.Statistic.{adjustment_at, adjustment_below, adjustment_above, adjustments_by, adjustment_cap, capped_squares, full_squares}
use Rattle.pb_gap.specs.Laws.{LowLaw, HighLaw}
use Rattle.pb_gap.proofs.Weights.{MayWeigh, product_of, weights_of, weigh_all}
use Rattle.pb_gap.proofs.InnerProductLemmas.{square_at, squares_from, squares_nonneg}
use Rattle.pb_gap.proofs.Identity.{identity, weak_duality}
use Rattle.pb_gap.proofs.Enclosure.{root_below, root_positive, whole_pair, within_gap}

-- ---- the squares from below
-- what an adjustment counts for is not more than the adjustment
capped : (b : ℤ) → pos 0 ≤ℤ b → (pos 0 ≤ℤ int_min b adjustment_cap) × (int_min b adjustment_cap ≤ℤ b)
capped b h = let e = int_min_is b adjustment_cap in (omega (arith, ints, h, e), omega (arith, ints, h, e))

-- c roots of the variance v, rounded up to r, are within the adjustment x, in whole numbers
square_below : (l w v c r x : ℤ) → w *ℤ v ≡ l → pos 0 ≤ℤ w → (v *ℤ pos (2 ^ 40)) ≤ℤ (r *ℤ r) → pos 0 ≤ℤ (c *ℤ r) → (c *ℤ r) ≤ℤ (pos (unsigned_abs x) *ℤ pos (2 ^ 40))
    → (l *ℤ (c *ℤ c)) ≤ℤ ((w *ℤ (x *ℤ x)) *ℤ pos (2 ^ 40))
square_below l w v c r x e w_pos root c_pos below =
    let d = pos (unsigned_abs x) in
    let k = w *ℤ (c *ℤ c) in
    let one = mul_mono (v *ℤ pos (2 ^ 40)) (r *ℤ r) k root (mul_nonneg w (c *ℤ c) w_pos (square_pos c)) in
    let two = mul_mono ((c *ℤ r) *ℤ (c *ℤ r)) ((d *ℤ pos (2 ^ 40)) *ℤ (d *ℤ pos (2 ^ 40))) w (square_mono (c *ℤ r) (d *ℤ pos (2 ^ 40)) c_pos below) w_pos in
    let vs : List ℤ = w ∷ v ∷ c ∷ r ∷ d ∷ [] in
    let left : (l *ℤ (c *ℤ c)) *ℤ pos (2 ^ 40) ≡ (v *ℤ pos (2 ^ 40)) *ℤ k =
    ap (λ (z : ℤ). (z *ℤ (c *ℤ c)) *ℤ pos (2 ^ 40)) (sym e)
    ∙ ring vs (times (times (times (var 0) (var 1)) (square (var 2))) (lit (pos (2 ^ 40)))) (times (times (var 1) (lit (pos (2 ^ 40)))) (times (var 0) (square (var 2)))) refl in
    let mid : (r *ℤ r) *ℤ k ≡ ((c *ℤ r) *ℤ (c *ℤ r)) *ℤ w = ring vs (times (square (var 3)) (times (var 0) (square (var 2)))) (times (square (times (var 2) (var 3))) (var 0)) refl in
    let right : ((w *ℤ (x *ℤ x)) *ℤ pos (2 ^ 40)) *ℤ pos (2 ^ 40) ≡ ((d *ℤ pos (2 ^ 40)) *ℤ (d *ℤ pos (2 ^ 40))) *ℤ w =
    ap (λ (z : ℤ). ((w *ℤ z) *ℤ pos (2 ^ 40)) *ℤ pos (2 ^ 40)) (sym (unsigned_abs_square x))
    ∙ ring vs (times (times (times (var 0) (square (var 4))) (lit (pos (2 ^ 40)))) (lit (pos (2 ^ 40)))) (times (square (times (var 4) (lit (pos (2 ^ 40))))) (var 0)) refl in
    mul_cancel (l *ℤ (c *ℤ c)) ((w *ℤ (x *ℤ x)) *ℤ pos (2 ^ 40)) (pos (2 ^ 40))
    (le_by_eq _ _ _ _ left right (le_trans _ _ _ one (le_by_eq _ _ _ _ mid refl two))) (omega (arith, ints))

-- a whole flow less a value, written in two ways
one_times : (w y b : ℤ) → w *ℤ ((y -ℤ (pos 1 *ℤ b)) *ℤ (y -ℤ (pos 1 *ℤ b))) ≡ w *ℤ ((y -ℤ b) *ℤ (y -ℤ b))
one_times w y b = ring (w ∷ y ∷ b ∷ []) (times (var 0) (square (less (var 1) (times (lit (pos 1)) (var 2))))) (times (var 0) (square (less (var 1) (var 2)))) refl

above_strict : (a b : ℤ) → a <ℤ b → a ≤ℤ b
above_strict a b h = omega (arith, ints, h)

one_low : (l : ℤ) (o : Option Meas) (y : ℤ) → MayWeigh l o
    → (l *ℤ (int_min (adjustment_below o y) adjustment_cap *ℤ int_min (adjustment_below o y) adjustment_cap)) ≤ℤ (square_at l (pos 1) o y *ℤ pos (2 ^ 40))
one_low l None y h = le_of_eq _ _ (ring (l ∷ []) (times (var 0) (square (lit (pos 0)))) (times (lit (pos 0)) (lit (pos (2 ^ 40)))) refl)
one_low l (Some m) y h =
    let v = m.variance in
    let w = int_div_euclid l v in
    let x = y -ℤ m.value in
    let size = adjustment_at m y in
    let r = scaled_root_of v +ℤ pos 1 in
    let b = adjustment_below (Some m) y in
    let c = int_min b adjustment_cap in
    let v_pos = h.variance in
    let s_pos = root_positive v v_pos in
    let r_pos : pos 0 <ℤ r = omega (arith, ints, s_pos) in
    let r_nonneg = above_strict (pos 0) r r_pos in
    let down = floor_is size r r_pos in
    let none : (pos 0 *ℤ r) ≤ℤ size = le_by_eq _ _ _ _ (zero_mul r) refl (mul_nonneg (pos (unsigned_abs x)) (pos (2 ^ 40)) (omega (arith, ints)) (omega (arith, ints))) in
    let cap = capped b (floor_from (pos 0) size r r_pos none) in
    subst (λ (z : ℤ). (l *ℤ (c *ℤ c)) ≤ℤ (z *ℤ pos (2 ^ 40))) (sym (one_times w y m.value))
    (square_below l w v c r x h.weight h.nonneg (above_strict _ _ (scaled_root_is v (omega (arith, ints, v_pos))).next) (mul_nonneg c r cap.0 r_nonneg)
    (le_trans _ _ _ (mul_mono c b r cap.1 r_nonneg) down.below))

add_two : (a b x y p q : ℤ) → p ≡ a +ℤ b → q ≡ x +ℤ y → a ≤ℤ x → b ≤ℤ y → p ≤ℤ q
add_two a b x y p q e f h k = omega (arith, ints, e, f, h, k)

no_stream : (l : ℤ) → l *ℤ pos 0 ≡ pos 0 *ℤ pos (2 ^ 40)
no_stream l = ring (l ∷ []) (times (var 0) (lit (pos 0))) (times (lit (pos 0)) (lit (pos (2 ^ 40)))) refl

split_left : (l x y : ℤ) → l *ℤ (x +ℤ y) ≡ (l *ℤ x) +ℤ (l *ℤ y)
split_left l x y = ring (l ∷ x ∷ y ∷ []) (times (var 0) (plus (var 1) (var 2))) (plus (times (var 0) (var 1)) (times (var 0) (var 2))) refl

split_right : (x y : ℤ) → (x +ℤ y) *ℤ pos (2 ^ 40) ≡ (x *ℤ pos (2 ^ 40)) +ℤ (y *ℤ pos (2 ^ 40))
split_right x y = ring (x ∷ y ∷ []) (times (plus (var 0) (var 1)) (lit (pos (2 ^ 40)))) (plus (times (var 0) (lit (pos (2 ^ 40)))) (times (var 1) (lit (pos (2 ^ 40))))) refl

all_low : (l : ℤ) (ss : List Stream) (ys : List ℤ) → AllByRecursion (λ s. MayWeigh l s.meas) ss
    → (l *ℤ capped_squares (adjustments_by adjustment_below ss ys)) ≤ℤ (squares_from l (pos 1) ss ys *ℤ pos (2 ^ 40))
all_low l [] ys h = le_of_eq _ _ (no_stream l)
all_low l (s ∷ ss) [] h = le_of_eq _ _ (no_stream l)
all_low l (s ∷ ss) (y ∷ ys) h =
    let c = int_min (adjustment_below s.meas y) adjustment_cap in
    add_two _ _ _ _ _ _ (split_left l (c *ℤ c) (capped_squares (adjustments_by adjustment_below ss ys))) (split_right (square_at l (pos 1) s.meas y) (squares_from l (pos 1) ss ys))
    (one_low l s.meas y h.0) (all_low l ss ys h.1)

-- ---- the squares from above
square_above : (l w v b s x : ℤ) → w *ℤ v ≡ l → pos 0 ≤ℤ w → (s *ℤ s) ≤ℤ (v *ℤ pos (2 ^ 40)) → (pos (unsigned_abs x) *ℤ pos (2 ^ 40)) ≤ℤ (b *ℤ s)
    → ((w *ℤ (x *ℤ x)) *ℤ pos (2 ^ 40)) ≤ℤ (l *ℤ (b *ℤ b))
square_above l w v b s x e w_pos root above =
    let d = pos (unsigned_abs x) in
    let k = w *ℤ (b *ℤ b) in
    let d_nonneg = mul_nonneg d (pos (2 ^ 40)) (omega (arith, ints)) (omega (arith, ints)) in
    let one = mul_mono ((d *ℤ pos (2 ^ 40)) *ℤ (d *ℤ pos (2 ^ 40))) ((b *ℤ s) *ℤ (b *ℤ s)) w (square_mono (d *ℤ pos (2 ^ 40)) (b *ℤ s) d_nonneg above) w_pos in
    let two = mul_mono (s *ℤ s) (v *ℤ pos (2 ^ 40)) k root (mul_nonneg w (b *ℤ b) w_pos (square_pos b)) in
    let vs : List ℤ = w ∷ v ∷ b ∷ s ∷ d ∷ [] in
    let left : ((w *ℤ (x *ℤ x)) *ℤ pos (2 ^ 40)) *ℤ pos (2 ^ 40) ≡ ((d *ℤ pos (2 ^ 40)) *ℤ (d *ℤ pos (2 ^ 40))) *ℤ w =
    ap (λ (z : ℤ). ((w *ℤ z) *ℤ pos (2 ^ 40)) *ℤ pos (2 ^ 40)) (sym (unsigned_abs_square x))
    ∙ ring vs (times (times (times (var 0) (square (var 4))) (lit (pos (2 ^ 40)))) (lit (pos (2 ^ 40)))) (times (square (times (var 4) (lit (pos (2 ^ 40))))) (var 0)) refl in
    let mid : ((b *ℤ s) *ℤ (b *ℤ s)) *ℤ w ≡ (s *ℤ s) *ℤ k = ring vs (times (square (times (var 2) (var 3))) (var 0)) (times (square (var 3)) (times (var 0) (square (var 2)))) refl in
    let right : (l *ℤ (b *ℤ b)) *ℤ pos (2 ^ 40) ≡ (v *ℤ pos (2 ^ 40)) *ℤ k =
    ap (λ (z : ℤ). (z *ℤ (b *ℤ b)) *ℤ pos (2 ^ 40)) (sym e)
    ∙ ring vs (times (times (times (var 0) (var 1)) (square (var 2))) (lit (pos (2 ^ 40)))) (times (times (var 1) (lit (pos (2 ^ 40)))) (times (var 0) (square (var 2)))) refl in
    mul_cancel ((w *ℤ (x *ℤ x)) *ℤ pos (2 ^ 40)) (l *ℤ (b *ℤ b)) (pos (2 ^ 40))
    (le_by_eq _ _ _ _ left right (le_trans _ _ _ one (le_by_eq _ _ _ _ mid refl two))) (omega (arith, ints))

one_high : (l : ℤ) (o : Option Meas) (y : ℤ) → MayWeigh l o → (square_at l (pos 1) o y *ℤ pos (2 ^ 40)) ≤ℤ (l *ℤ (adjustment_above o y *ℤ adjustment_above o y))
one_high l None y h = le_of_eq _ _ (ring (l ∷ []) (times (lit (pos 0)) (lit (pos (2 ^ 40)))) (times (var 0) (square (lit (pos 0)))) refl)
one_high l (Some m) y h =
    let v = m.variance in
    let w = int_div_euclid l v in
    let s = scaled_root_of v in
    let b = adjustment_above (Some m) y in
    let up = ceiling_is (adjustment_at m y) s (root_positive v h.variance) in
    subst (λ (z : ℤ). (z *ℤ pos (2 ^ 40)) ≤ℤ (l *ℤ (b *ℤ b))) (sym (one_times w y m.value))
    (square_above l w v b s (y -ℤ m.value) h.weight h.nonneg (root_below v h.variance) up.above)

all_high : (l : ℤ) (ss : List Stream) (ys : List ℤ) → AllByRecursion (λ s. MayWeigh l s.meas) ss
    → (squares_from l (pos 1) ss ys *ℤ pos (2 ^ 40)) ≤ℤ (l *ℤ full_squares (adjustments_by adjustment_above ss ys))
all_high l [] ys h = le_of_eq _ _ (sym (no_stream l))
all_high l (s ∷ ss) [] h = le_of_eq _ _ (sym (no_stream l))
all_high l (s ∷ ss) (y ∷ ys) h =
    let b = adjustment_above s.meas y in
    add_two _ _ _ _ _ _ (split_right (square_at l (pos 1) s.meas y) (squares_from l (pos 1) ss ys)) (split_left l (b *ℤ b) (full_squares (adjustments_by adjustment_above ss ys)))
    (one_high l s.meas y h.0) (all_high l ss ys h.1)

-- ---- the low end
-- x is the squares of a vector, n those of the flows, v the dual value times l, e the residuals of the flows
join_low : (n v e b gg : ℤ) → pos (2 ^ 112) *ℤ n ≡ v +ℤ e → e ≤ℤ (pos (2 ^ 72) *ℤ gg) → b ≤ℤ (n *ℤ pos (2 ^ 40)) → (pos (2 ^ 72) *ℤ (b -ℤ gg)) ≤ℤ v
join_low n v e b gg i j k = omega (arith, ints, i, j, k)

last : (lw x v m k : ℤ) → (lw *ℤ pos (2 ^ 40)) ≤ℤ k → pos 1000 *ℤ m ≡ k *ℤ pos (2 ^ 72) → m ≤ℤ v → v ≤ℤ (pos (2 ^ 112) *ℤ x) → lw ≤ℤ (pos 1000 *ℤ x)
last lw x v m k a e b c = omega (arith, ints, a, e, b, c)

lowest : (lw q l v x n e b gg : ℤ) → pos 1 ≤ℤ l → (((q *ℤ q) *ℤ l) *ℤ v) ≤ℤ ((scale *ℤ scale) *ℤ x) → (scale *ℤ scale) *ℤ n ≡ (((pos 1 *ℤ pos 1) *ℤ l) *ℤ v) +ℤ e
    → e ≤ℤ (l *ℤ (pos (2 ^ 72) *ℤ gg)) → (l *ℤ b) ≤ℤ (n *ℤ pos (2 ^ 40)) → (lw *ℤ pos (2 ^ 40)) ≤ℤ (pos 1000 *ℤ (b -ℤ gg)) → (lw *ℤ ((q *ℤ q) *ℤ l)) ≤ℤ (pos 1000 *ℤ x)
lowest lw q l v x n e b gg l_pos weak own gap below floor =
    let qq = q *ℤ q in
    let own' : pos (2 ^ 112) *ℤ n ≡ (l *ℤ v) +ℤ e = own ∙ ring (l ∷ v ∷ e ∷ []) (plus (times (times (square (lit (pos 1))) (var 0)) (var 1)) (var 2)) (plus (times (var 0) (var 1)) (var 2)) refl in
    let gap' : e ≤ℤ (pos (2 ^ 72) *ℤ (l *ℤ gg)) = le_by_eq _ _ _ _ refl (ring (l ∷ gg ∷ []) (times (lit (pos (2 ^ 72))) (times (var 0) (var 1))) (times (var 0) (times (lit (pos (2 ^ 72))) (var 1))) refl) gap in
    let two = join_low n (l *ℤ v) e (l *ℤ b) (l *ℤ gg) own' gap' below in
    let three = mul_mono (pos (2 ^ 72) *ℤ ((l *ℤ b) -ℤ (l *ℤ gg))) (l *ℤ v) qq two (square_pos q) in
    let four = mul_mono (lw *ℤ pos (2 ^ 40)) (pos 1000 *ℤ (b -ℤ gg)) (qq *ℤ l) floor (mul_nonneg qq l (square_pos q) (omega (arith, ints, l_pos))) in
    let vs : List ℤ = q ∷ l ∷ b ∷ gg ∷ v ∷ lw ∷ [] in
    let M = times (times (lit (pos (2 ^ 72))) (less (times (var 1) (var 2)) (times (var 1) (var 3)))) (square (var 0)) in
    let U = times (square (var 0)) (var 1) in
    let five : pos 1000 *ℤ ((pos (2 ^ 72) *ℤ ((l *ℤ b) -ℤ (l *ℤ gg))) *ℤ qq) ≡ ((pos 1000 *ℤ (b -ℤ gg)) *ℤ (qq *ℤ l)) *ℤ pos (2 ^ 72) =
    ring vs (times (lit (pos 1000)) M) (times (times (times (lit (pos 1000)) (less (var 2) (var 3))) U) (lit (pos (2 ^ 72)))) refl in
    let six : (l *ℤ v) *ℤ qq ≡ (qq *ℤ l) *ℤ v = ring vs (times (times (var 1) (var 4)) (square (var 0))) (times U (var 4)) refl in
    let seven : (lw *ℤ pos (2 ^ 40)) *ℤ (qq *ℤ l) ≡ (lw *ℤ (qq *ℤ l)) *ℤ pos (2 ^ 40) = ring vs (times (times (var 5) (lit (pos (2 ^ 40)))) U) (times (times (var 5) U) (lit (pos (2 ^ 40)))) refl in
    last (lw *ℤ (qq *ℤ l)) x ((qq *ℤ l) *ℤ v) ((pos (2 ^ 72) *ℤ ((l *ℤ b) -ℤ (l *ℤ gg))) *ℤ qq) ((pos 1000 *ℤ (b -ℤ gg)) *ℤ (qq *ℤ l))
    (le_by_eq _ _ _ _ (sym seven) refl four) five (le_by_eq _ _ _ _ refl (sym six) three) weak

-- what holds of two numbers holds of the number that is chosen
either : (P : ℤ → Type 0) (b : Bool) (x y : ℤ) → P x → P y → P (cond b x y)
either P true x y h k = h
either P false x y h k = k

pub low : LowLaw
low g price ps x h even =
    let l = variance_product g.streams in
    let ss = g.streams in
    let gap = gap_of price ss ps in
    let gg = pos (gap_size gap) *ℤ pos (gap_size gap) in
    let b = capped_squares (adjustments_by adjustment_below ss ps) in
    let pass = λ (z : ℤ). (z *ℤ squares_unit g x) ≤ℤ (pos 1000 *ℤ weighted_squares g x) in
    let l_pos = product_of g h.limits in
    let weights = weights_of g h.limits in
    let down = floor_is (pos 1000 *ℤ (b -ℤ gg)) (pos (2 ^ 40)) (omega (arith, ints)) in
    let whole = whole_pair g price ps x h even in
    let zero : pass (pos 0) =
    le_by_eq _ _ _ _ (zero_mul (squares_unit g x)) refl (mul_nonneg (pos 1000) (weighted_squares g x) (omega (arith, ints)) (squares_nonneg l ss (errors_of ss x) weights)) in
    let floor : pass (floor_div (pos 1000 *ℤ (b -ℤ gg)) (pos (2 ^ 40))) =
    lowest (floor_div (pos 1000 *ℤ (b -ℤ gg)) (pos (2 ^ 40))) x.denominator l (dual_value price ss) (weighted_squares g x) (weighted_squares g (whole_flows ps))
    (residual_squares price g (whole_flows ps)) b gg l_pos (weak_duality g price x h) (identity g price (whole_flows ps) whole)
    (within_gap g price ps l_pos (weigh_all g price h.limits h.fit)) (all_low l ss ps weights) down.below in
    let top = floor_div (pos 1000 *ℤ (b -ℤ gg)) (pos (2 ^ 40)) in
    either pass (nat_lt (2 ^ 57) (gap_size gap)) (pos 0) (cond (int_lt top (pos 0)) (pos 0) top) zero (either pass (int_lt top (pos 0)) (pos 0) top zero floor)

-- ---- the high end
highest : (n l b high : ℤ) → (n *ℤ pos (2 ^ 40)) ≤ℤ (l *ℤ b) → (pos 1000 *ℤ b) ≤ℤ (high *ℤ pos (2 ^ 40)) → pos 0 ≤ℤ l → (pos 1000 *ℤ n) ≤ℤ (high *ℤ ((pos 1 *ℤ pos 1) *ℤ l))
highest n l b high h k l_pos =
    let one = mul_mono (pos 1000 *ℤ b) (high *ℤ pos (2 ^ 40)) l k l_pos in
    let left : (pos 1000 *ℤ b) *ℤ l ≡ pos 1000 *ℤ (l *ℤ b) = ring (l ∷ b ∷ []) (times (times (lit (pos 1000)) (var 1)) (var 0)) (times (lit (pos 1000)) (times (var 0) (var 1))) refl in
    let right : (high *ℤ pos (2 ^ 40)) *ℤ l ≡ (high *ℤ ((pos 1 *ℤ pos 1) *ℤ l)) *ℤ pos (2 ^ 40) =
    ring (high ∷ l ∷ []) (times (times (var 0) (lit (pos (2 ^ 40)))) (var 1)) (times (times (var 0) (times (square (lit (pos 1))) (var 1))) (lit (pos (2 ^ 40)))) refl in
    joined n (high *ℤ ((pos 1 *ℤ pos 1) *ℤ l)) (l *ℤ b) _ _ h one left right
  where
    joined : (n x lb p q : ℤ) → (n *ℤ pos (2 ^ 40)) ≤ℤ lb → p ≤ℤ q → p ≡ pos 1000 *ℤ lb → q ≡ x *ℤ pos (2 ^ 40) → (pos 1000 *ℤ n) ≤ℤ x
    joined n x lb p q h one e f = omega (arith, ints, h, one, e, f)

if_some : (P : ℤ → Type 0) (b : Bool) (z : ℤ) → P z → IfSome (cond b None (Some z)) P
if_some P true z h = tt
if_some P false z h = h

pub high : HighLaw
high g ps is =
    let l = variance_product g.streams in
    let bs = adjustments_by adjustment_above g.streams ps in
    let l_pos = product_of g is in
    let up = ceiling_is (pos 1000 *ℤ full_squares bs) (pos (2 ^ 40)) (omega (arith, ints)) in
    let top = ceil_div (pos 1000 *ℤ full_squares bs) (pos (2 ^ 40)) in
    if_some (λ (z : ℤ). (pos 1000 *ℤ weighted_squares g (whole_flows ps)) ≤ℤ (z *ℤ squares_unit g (whole_flows ps))) (list_any (λ b. int_lt adjustment_cap b) bs) top
    (highest (weighted_squares g (whole_flows ps)) l (full_squares bs) top (all_high l g.streams ps (weights_of g is)) up.above (omega (arith, ints, l_pos)))
