-- The weighted squares of balanced flows, the dual value, and the weighted squares of the residuals.
use Rattle.std.proofs.Common.{◌≡◌, ◌∙◌, ℕ, ℤ, pos, neg_ℤ, ◌+ℤ◌, ◌-ℤ◌, ◌*ℤ◌, ◌≤ℤ◌, List, [], ◌∷◌, length, Option, Some, None, refl, sym, subst, ap, arith}
use Rattle.std.specs.Int.{int_div_euclid}
use Rattle.std.proofs.lemmas.Int.{ints}
use Rattle.pb_fixed.specs.Sums.{sum_over}
use Rattle.pb_fixed.proofs.Ring.{var, lit, plus, times, minus, less, square, ring}
use Rattle.pb_graph.specs.declared.records.Meas.{Meas}
use Rattle.pb_graph.specs.declared.records.Stream.{Stream}
use Rattle.pb_graph.specs.Squares.{variance_product, weighted_squares, squares_unit}
use Rattle.pb_graph.specs.Prices.{rise_of}
use Rattle.pb_graph.specs.PricedSums.{priced_streams}
use Rattle.pb_graph.proofs.BalanceLaws.{balanced_sum}
use Rattle.pb_dual.specs.DualValue.{scale, cost_at}
use Rattle.pb_gap.specs.Residuals.{residual_squares, residuals_of}
use Rattle.pb_gap.specs.Laws.{IdentityLaw, DualityLaw}
use Rattle.pb_gap.proofs.Weights.{Weighs, WeighAll, weigh_all, weights_of}
use Rattle.pb_gap.proofs.InnerProductLemmas.{square_at, squares_from, residual_square_at, residuals_from, squares_nonneg}

-- one stream: its square and its cost make its residual and what its rise of the price adds
abbrev One : ℤ → ℤ → ℤ → Option Meas → ℤ → Type 0
One l q d o y = ((scale *ℤ scale) *ℤ square_at l q o y) +ℤ (((q *ℤ q) *ℤ l) *ℤ cost_at o d)
    ≡ residual_square_at l q o d y +ℤ (((pos 2 *ℤ scale) *ℤ (q *ℤ l)) *ℤ (d *ℤ y))

measured : (w v l q d b y : ℤ) → w *ℤ v ≡ l
    → ((scale *ℤ scale) *ℤ (w *ℤ ((y -ℤ (q *ℤ b)) *ℤ (y -ℤ (q *ℤ b))))) +ℤ (((q *ℤ q) *ℤ l) *ℤ (((pos 2 *ℤ scale) *ℤ (d *ℤ b)) +ℤ (v *ℤ (d *ℤ d))))
    ≡ (w *ℤ (((y *ℤ scale) -ℤ (q *ℤ ((scale *ℤ b) +ℤ (v *ℤ d)))) *ℤ ((y *ℤ scale) -ℤ (q *ℤ ((scale *ℤ b) +ℤ (v *ℤ d))))))
    +ℤ (((pos 2 *ℤ scale) *ℤ (q *ℤ l)) *ℤ (d *ℤ y))
measured w v l q d b y e =
    let Q = var 0 in
    let D = var 1 in
    let Y = var 2 in
    let B = var 3 in
    let V = var 4 in
    let W = var 5 in
    let L = times W V in
    let S = lit scale in
    let P = less Y (times Q B) in
    let E = less (times Y S) (times Q (plus (times S B) (times V D))) in
    let cost = plus (times (times (lit (pos 2)) S) (times D B)) (times V (square D)) in
    subst (λ (z : ℤ). ((scale *ℤ scale) *ℤ (w *ℤ ((y -ℤ (q *ℤ b)) *ℤ (y -ℤ (q *ℤ b))))) +ℤ (((q *ℤ q) *ℤ z) *ℤ (((pos 2 *ℤ scale) *ℤ (d *ℤ b)) +ℤ (v *ℤ (d *ℤ d))))
    ≡ (w *ℤ (((y *ℤ scale) -ℤ (q *ℤ ((scale *ℤ b) +ℤ (v *ℤ d)))) *ℤ ((y *ℤ scale) -ℤ (q *ℤ ((scale *ℤ b) +ℤ (v *ℤ d))))))
    +ℤ (((pos 2 *ℤ scale) *ℤ (q *ℤ z)) *ℤ (d *ℤ y))) e
    (ring (q ∷ d ∷ y ∷ b ∷ v ∷ w ∷ []) (plus (times (times S S) (times W (square P))) (times (times (square Q) L) cost))
    (plus (times W (square E)) (times (times (times (lit (pos 2)) S) (times Q L)) (times D Y))) refl)

one : (l q d : ℤ) (o : Option Meas) (y : ℤ) → Weighs l o d → One l q d o y
one l q d None y h = subst (λ (x : ℤ). One l q x None y) (sym h)
    (let zero = lit (pos 0) in
    ring (q ∷ l ∷ y ∷ []) (plus (times (times (lit scale) (lit scale)) zero) (times (times (times (var 0) (var 0)) (var 1)) zero))
    (plus zero (times (times (times (lit (pos 2)) (lit scale)) (times (var 0) (var 1))) (times zero (var 2)))) refl)
one l q d (Some m) y h = measured (int_div_euclid l m.variance) m.variance l q d m.value y h.weight

-- two such equations combined
add : (c k p a b x y e f g h : ℤ) → (c *ℤ a) +ℤ (k *ℤ x) ≡ e +ℤ (p *ℤ g) → (c *ℤ b) +ℤ (k *ℤ y) ≡ f +ℤ (p *ℤ h)
    → (c *ℤ (a +ℤ b)) +ℤ (k *ℤ (x +ℤ y)) ≡ (e +ℤ f) +ℤ (p *ℤ (g +ℤ h))
add c k p a b x y e f g h first rest =
    let left : (c *ℤ (a +ℤ b)) +ℤ (k *ℤ (x +ℤ y)) ≡ ((c *ℤ a) +ℤ (k *ℤ x)) +ℤ ((c *ℤ b) +ℤ (k *ℤ y)) =
    ring (c ∷ k ∷ a ∷ b ∷ x ∷ y ∷ []) (plus (times (var 0) (plus (var 2) (var 3))) (times (var 1) (plus (var 4) (var 5))))
    (plus (plus (times (var 0) (var 2)) (times (var 1) (var 4))) (plus (times (var 0) (var 3)) (times (var 1) (var 5)))) refl in
    let right : (e +ℤ f) +ℤ (p *ℤ (g +ℤ h)) ≡ (e +ℤ (p *ℤ g)) +ℤ (f +ℤ (p *ℤ h)) =
    ring (e ∷ f ∷ p ∷ g ∷ h ∷ []) (plus (plus (var 0) (var 1)) (times (var 2) (plus (var 3) (var 4))))
    (plus (plus (var 0) (times (var 2) (var 3))) (plus (var 1) (times (var 2) (var 4)))) refl in
    omega (arith, ints, left, right, first, rest)

abbrev cost : (ℕ → ℤ) → Stream → ℤ
cost price s = cost_at s.meas (rise_of price s)

-- any vector, balanced or not
any_vector : (l q : ℤ) (price : ℕ → ℤ) (ss : List Stream) (ys : List ℤ) → WeighAll l price ss → length ys ≡ length ss
    → ((scale *ℤ scale) *ℤ squares_from l q ss ys) +ℤ (((q *ℤ q) *ℤ l) *ℤ sum_over (cost price) ss)
    ≡ residuals_from l q price ss ys +ℤ (((pos 2 *ℤ scale) *ℤ (q *ℤ l)) *ℤ priced_streams price ss ys)
any_vector l q price [] ys h each =
    let zero = lit (pos 0) in
    ring (q ∷ l ∷ []) (plus (times (times (lit scale) (lit scale)) zero) (times (times (times (var 0) (var 0)) (var 1)) zero))
    (plus zero (times (times (times (lit (pos 2)) (lit scale)) (times (var 0) (var 1))) zero)) refl
any_vector l q price (s ∷ ss) [] h each = absurd (omega arith)
any_vector l q price (s ∷ ss) (y ∷ ys) h each =
    add (scale *ℤ scale) ((q *ℤ q) *ℤ l) ((pos 2 *ℤ scale) *ℤ (q *ℤ l)) (square_at l q s.meas y) (squares_from l q ss ys) (cost price s) (sum_over (cost price) ss)
    (residual_square_at l q s.meas (rise_of price s) y) (residuals_from l q price ss ys) (rise_of price s *ℤ y) (priced_streams price ss ys)
    (one l q (rise_of price s) s.meas y h.0) (any_vector l q price ss ys h.1 (omega arith))

turned : (a k c e p x : ℤ) → a +ℤ (k *ℤ c) ≡ e +ℤ (p *ℤ x) → x ≡ pos 0 → a ≡ (k *ℤ neg_ℤ c) +ℤ e
turned a k c e p x h none =
    let zero : p *ℤ x ≡ pos 0 = ap (λ (z : ℤ). p *ℤ z) none ∙ ring (p ∷ []) (times (var 0) (lit (pos 0))) (lit (pos 0)) refl in
    let out : k *ℤ neg_ℤ c ≡ neg_ℤ (k *ℤ c) = ring (k ∷ c ∷ []) (times (var 0) (minus (var 1))) (minus (times (var 0) (var 1))) refl in
    omega (arith, ints, h, zero, out)

pub identity : IdentityLaw
identity g price x h =
    let l = variance_product g.streams in
    let q = x.denominator in
    turned ((scale *ℤ scale) *ℤ weighted_squares g x) (squares_unit g x) (sum_over (cost price) g.streams) (residual_squares price g x) ((pos 2 *ℤ scale) *ℤ (q *ℤ l))
    (priced_streams price g.streams x.numerators) (any_vector l q price g.streams x.numerators (weigh_all g price h.limits h.fit) h.balanced.balanced.each)
    (balanced_sum g price x.numerators h.limits h.balanced.balanced)

at_least : (x a b : ℤ) → x ≡ a +ℤ b → pos 0 ≤ℤ b → a ≤ℤ x
at_least x a b e h = omega (arith, ints, e, h)

pub weak_duality : DualityLaw
weak_duality g price x h =
    at_least _ _ _ (identity g price x h) (squares_nonneg (variance_product g.streams) g.streams (residuals_of price g.streams x) (weights_of g h.limits))
