-- At a least vector the errors are orthogonal to every balanced vector.
use Rattle.std.proofs.Common.{◌≡◌, ◌∙◌, ◌==◌, ◌^◌, ℕ, suc, ℤ, pos, negsuc, neg_ℤ, ◌+ℤ◌, ◌-ℤ◌, ◌*ℤ◌, ◌≤ℤ◌, ◌<ℤ◌, Bool, true, false, cond, List, [], ◌∷◌, length, Option, Some, None, refl, sym, ap, arith}
use Rattle.std.specs.Int.{int_div_euclid}
use Rattle.std.proofs.lemmas.Int.{by_lt_z, ints}
use Rattle.pb_fixed.proofs.Order.{le_by_eq, mul_cancel, mul_mono, mul_positive, square_pos}
use Rattle.pb_fixed.proofs.Ring.{var, lit, plus, times, minus, less, square, ring}
use Rattle.pb_fixed.proofs.RingLaws.{one_mul}
use Rattle.pb_graph.specs.declared.records.Meas.{Meas}
use Rattle.pb_graph.specs.declared.records.Stream.{Stream}
use Rattle.pb_graph.specs.ProcessGraph.{ProcessGraph, IsProcessGraph}
use Rattle.pb_graph.specs.Balance.{IsBalanced, net_of}
use Rattle.pb_graph.specs.Squares.{Fractional, IsBalancedFractional, IsLeast, variance_product, weighted_product, inner_product, weighted_sum_of_squares, by_stream, value_or_zero, error_of, errors_of, weighted_squares, whole_flows}
use Rattle.pb_dual.specs.DualValue.{dual_value}
use Rattle.pb_gap.specs.Gap.{gap_of, gap_size}
use Rattle.pb_gap.specs.Laws.{IsDualPair}
use Rattle.pb_gap.specs.Least.{combination, squared_distance, OrthogonalityLaw, ExcessLaw, DistanceLaw}
use Rattle.pb_gap.proofs.Weights.{product_of, weights_of}
use Rattle.pb_gap.proofs.InnerProductLemmas.{square_at, squares_from, squares_nonneg}
use Rattle.pb_gap.proofs.Identity.{weak_duality}
use Rattle.pb_gap.proofs.Enclosure.{gap_excess}

-- ---- a combination of balanced flows is balanced
chosen : (a b x y : ℤ) (p q : Bool) → cond p ((a *ℤ x) +ℤ (b *ℤ y)) (pos 0) -ℤ cond q ((a *ℤ x) +ℤ (b *ℤ y)) (pos 0)
    ≡ (a *ℤ (cond p x (pos 0) -ℤ cond q x (pos 0))) +ℤ (b *ℤ (cond p y (pos 0) -ℤ cond q y (pos 0)))
chosen a b x y true true =
    let Z = plus (times (var 0) (var 2)) (times (var 1) (var 3)) in
    ring (a ∷ b ∷ x ∷ y ∷ []) (less Z Z) (plus (times (var 0) (less (var 2) (var 2))) (times (var 1) (less (var 3) (var 3)))) refl
chosen a b x y true false =
    let Z = plus (times (var 0) (var 2)) (times (var 1) (var 3)) in
    ring (a ∷ b ∷ x ∷ y ∷ []) (less Z (lit (pos 0))) (plus (times (var 0) (less (var 2) (lit (pos 0)))) (times (var 1) (less (var 3) (lit (pos 0))))) refl
chosen a b x y false true =
    let Z = plus (times (var 0) (var 2)) (times (var 1) (var 3)) in
    ring (a ∷ b ∷ x ∷ y ∷ []) (less (lit (pos 0)) Z) (plus (times (var 0) (less (lit (pos 0)) (var 2))) (times (var 1) (less (lit (pos 0)) (var 3)))) refl
chosen a b x y false false =
    let none = less (lit (pos 0)) (lit (pos 0)) in
    ring (a ∷ b ∷ []) none (plus (times (var 0) none) (times (var 1) none)) refl

add_net : (a b u v x y p q : ℤ) → u ≡ (a *ℤ x) +ℤ (b *ℤ y) → v ≡ (a *ℤ p) +ℤ (b *ℤ q) → u +ℤ v ≡ (a *ℤ (x +ℤ p)) +ℤ (b *ℤ (y +ℤ q))
add_net a b u v x y p q e f =
    let form = ring (a ∷ b ∷ x ∷ y ∷ p ∷ q ∷ []) (plus (plus (times (var 0) (var 2)) (times (var 1) (var 3))) (plus (times (var 0) (var 4)) (times (var 1) (var 5))))
    (plus (times (var 0) (plus (var 2) (var 4))) (times (var 1) (plus (var 3) (var 5)))) refl in
    (λ i. e i +ℤ f i) ∙ form

combined_net : (n : ℕ) (a b : ℤ) (ss : List Stream) (xs ys : List ℤ) → length xs ≡ length ss → length ys ≡ length ss
    → net_of n ss (combination a b xs ys) ≡ (a *ℤ net_of n ss xs) +ℤ (b *ℤ net_of n ss ys)
combined_net n a b [] xs ys h k = ring (a ∷ b ∷ []) (lit (pos 0)) (plus (times (var 0) (lit (pos 0))) (times (var 1) (lit (pos 0)))) refl
combined_net n a b (s ∷ ss) [] ys h k = absurd (omega (arith, h))
combined_net n a b (s ∷ ss) (x ∷ xs) [] h k = absurd (omega (arith, k))
combined_net n a b (s ∷ ss) (x ∷ xs) (y ∷ ys) h k =
    add_net a b _ _ _ _ _ _ (chosen a b x y (s.to == n) (s.from == n)) (combined_net n a b ss xs ys (omega (arith, h)) (omega (arith, k)))

combined_length : (a b : ℤ) (xs ys : List ℤ) → length xs ≡ length ys → length (combination a b xs ys) ≡ length ys
combined_length a b [] ys h = h
combined_length a b (x ∷ xs) [] h = absurd (omega (arith, h))
combined_length a b (x ∷ xs) (y ∷ ys) h = ap suc (combined_length a b xs ys (omega (arith, h)))

none_of : (a b u v : ℤ) → u ≡ pos 0 → v ≡ pos 0 → (a *ℤ u) +ℤ (b *ℤ v) ≡ pos 0
none_of a b u v e f = (λ i. (a *ℤ e i) +ℤ (b *ℤ f i)) ∙ ring (a ∷ b ∷ []) (plus (times (var 0) (lit (pos 0))) (times (var 1) (lit (pos 0)))) (lit (pos 0)) refl

combined_balance : (g : ProcessGraph) (a b : ℤ) (xs ys : List ℤ) → IsBalanced g xs → IsBalanced g ys → IsBalanced g (combination a b xs ys)
combined_balance g a b xs ys h k = record {
  each = combined_length a b xs ys (h.each ∙ sym k.each) ∙ k.each;
  even = λ n lt. combined_net n a b g.streams xs ys h.each k.each ∙ none_of a b _ _ (h.even n lt) (k.even n lt);
}

-- ---- the squares of a vector that is moved
-- two equations between sums of squares and of products, combined
add_squares : (k p q r a b c d e f g h : ℤ) → k *ℤ a ≡ ((p *ℤ b) +ℤ (q *ℤ c)) +ℤ (r *ℤ d) → k *ℤ e ≡ ((p *ℤ f) +ℤ (q *ℤ g)) +ℤ (r *ℤ h)
    → k *ℤ (a +ℤ e) ≡ ((p *ℤ (b +ℤ f)) +ℤ (q *ℤ (c +ℤ g))) +ℤ (r *ℤ (d +ℤ h))
add_squares k p q r a b c d e f g h one two =
    let left : k *ℤ (a +ℤ e) ≡ (k *ℤ a) +ℤ (k *ℤ e) = ring (k ∷ a ∷ e ∷ []) (times (var 0) (plus (var 1) (var 2))) (plus (times (var 0) (var 1)) (times (var 0) (var 2))) refl in
    let right = ring (p ∷ q ∷ r ∷ b ∷ c ∷ d ∷ f ∷ g ∷ h ∷ [])
    (plus (plus (plus (times (var 0) (var 3)) (times (var 1) (var 4))) (times (var 2) (var 5))) (plus (plus (times (var 0) (var 6)) (times (var 1) (var 7))) (times (var 2) (var 8))))
    (plus (plus (times (var 0) (plus (var 3) (var 6))) (times (var 1) (plus (var 4) (var 7)))) (times (var 2) (plus (var 5) (var 8)))) refl in
    left ∙ (λ i. one i +ℤ two i) ∙ right

no_squares : (k p q r : ℤ) → k *ℤ pos 0 ≡ ((p *ℤ pos 0) +ℤ (q *ℤ pos 0)) +ℤ (r *ℤ pos 0)
no_squares k p q r =
    let zero = lit (pos 0) in
    ring (k ∷ p ∷ q ∷ r ∷ []) (times (var 0) zero) (plus (plus (times (var 1) zero) (times (var 2) zero)) (times (var 3) zero)) refl

-- n·x + t·y, over n times the denominator
moved_one : (l n q t : ℤ) (o : Option Meas) (x y : ℤ) → pos 1 *ℤ square_at l (n *ℤ q) o ((n *ℤ x) +ℤ (t *ℤ y))
    ≡ (((n *ℤ n) *ℤ square_at l q o x) +ℤ (((pos 2 *ℤ n) *ℤ t) *ℤ weighted_product l o (x -ℤ (q *ℤ value_or_zero o)) y)) +ℤ ((t *ℤ t) *ℤ weighted_product l o y y)
moved_one l n q t None x y = no_squares (pos 1) (n *ℤ n) ((pos 2 *ℤ n) *ℤ t) (t *ℤ t)
moved_one l n q t (Some m) x y =
    let N = var 0 in
    let Q = var 1 in
    let T = var 2 in
    let X = var 3 in
    let Y = var 4 in
    let W = var 5 in
    let B = var 6 in
    let E = less X (times Q B) in
    let moved = less (plus (times N X) (times T Y)) (times (times N Q) B) in
    ring (n ∷ q ∷ t ∷ x ∷ y ∷ int_div_euclid l m.variance ∷ m.value ∷ []) (times (lit (pos 1)) (times W (square moved)))
    (plus (plus (times (square N) (times W (square E))) (times (times (times (lit (pos 2)) N) T) (times W (times E Y)))) (times (square T) (times W (square Y)))) refl

moved_squares : (l n q t : ℤ) (ss : List Stream) (xs ys : List ℤ) → length xs ≡ length ss → length ys ≡ length ss
    → pos 1 *ℤ squares_from l (n *ℤ q) ss (combination n t xs ys)
    ≡ (((n *ℤ n) *ℤ squares_from l q ss xs) +ℤ (((pos 2 *ℤ n) *ℤ t) *ℤ inner_product l ss (by_stream (error_of q) ss xs) ys)) +ℤ ((t *ℤ t) *ℤ weighted_sum_of_squares l ss ys)
moved_squares l n q t [] xs ys h k = no_squares (pos 1) (n *ℤ n) ((pos 2 *ℤ n) *ℤ t) (t *ℤ t)
moved_squares l n q t (s ∷ ss) [] ys h k = absurd (omega (arith, h))
moved_squares l n q t (s ∷ ss) (x ∷ xs) [] h k = absurd (omega (arith, k))
moved_squares l n q t (s ∷ ss) (x ∷ xs) (y ∷ ys) h k =
    add_squares (pos 1) (n *ℤ n) ((pos 2 *ℤ n) *ℤ t) (t *ℤ t)
    (square_at l (n *ℤ q) s.meas ((n *ℤ x) +ℤ (t *ℤ y))) (square_at l q s.meas x) (weighted_product l s.meas (x -ℤ (q *ℤ value_or_zero s.meas)) y) (weighted_product l s.meas y y)
    (squares_from l (n *ℤ q) ss (combination n t xs ys)) (squares_from l q ss xs) (inner_product l ss (by_stream (error_of q) ss xs) ys) (weighted_sum_of_squares l ss ys)
    (moved_one l n q t s.meas x y) (moved_squares l n q t ss xs ys (omega (arith, h)) (omega (arith, k)))

-- p over r, from x over q
from_one : (l r q : ℤ) (o : Option Meas) (p x : ℤ) → (q *ℤ q) *ℤ square_at l r o p
    ≡ (((r *ℤ r) *ℤ square_at l q o x) +ℤ ((pos 2 *ℤ r) *ℤ weighted_product l o (x -ℤ (q *ℤ value_or_zero o)) ((q *ℤ p) +ℤ (neg_ℤ r *ℤ x))))
    +ℤ (pos 1 *ℤ weighted_product l o ((q *ℤ p) +ℤ (neg_ℤ r *ℤ x)) ((q *ℤ p) +ℤ (neg_ℤ r *ℤ x)))
from_one l r q None p x = no_squares (q *ℤ q) (r *ℤ r) (pos 2 *ℤ r) (pos 1)
from_one l r q (Some m) p x =
    let R = var 0 in
    let Q = var 1 in
    let P = var 2 in
    let X = var 3 in
    let W = var 4 in
    let B = var 5 in
    let D = plus (times Q P) (times (minus R) X) in
    let E = less X (times Q B) in
    ring (r ∷ q ∷ p ∷ x ∷ int_div_euclid l m.variance ∷ m.value ∷ []) (times (square Q) (times W (square (less P (times R B)))))
    (plus (plus (times (square R) (times W (square E))) (times (times (lit (pos 2)) R) (times W (times E D)))) (times (lit (pos 1)) (times W (square D)))) refl

from_squares : (l r q : ℤ) (ss : List Stream) (ps xs : List ℤ) → length ps ≡ length ss → length xs ≡ length ss
    → (q *ℤ q) *ℤ squares_from l r ss ps
    ≡ (((r *ℤ r) *ℤ squares_from l q ss xs) +ℤ ((pos 2 *ℤ r) *ℤ inner_product l ss (by_stream (error_of q) ss xs) (combination q (neg_ℤ r) ps xs)))
    +ℤ (pos 1 *ℤ weighted_sum_of_squares l ss (combination q (neg_ℤ r) ps xs))
from_squares l r q [] ps xs h k = no_squares (q *ℤ q) (r *ℤ r) (pos 2 *ℤ r) (pos 1)
from_squares l r q (s ∷ ss) [] xs h k = absurd (omega (arith, h))
from_squares l r q (s ∷ ss) (p ∷ ps) [] h k = absurd (omega (arith, k))
from_squares l r q (s ∷ ss) (p ∷ ps) (x ∷ xs) h k =
    let d = (q *ℤ p) +ℤ (neg_ℤ r *ℤ x) in
    let ds = combination q (neg_ℤ r) ps xs in
    add_squares (q *ℤ q) (r *ℤ r) (pos 2 *ℤ r) (pos 1)
    (square_at l r s.meas p) (square_at l q s.meas x) (weighted_product l s.meas (x -ℤ (q *ℤ value_or_zero s.meas)) d) (weighted_product l s.meas d d)
    (squares_from l r ss ps) (squares_from l q ss xs) (inner_product l ss (by_stream (error_of q) ss xs) ds) (weighted_sum_of_squares l ss ds)
    (from_one l r q s.meas p x) (from_squares l r q ss ps xs (omega (arith, h)) (omega (arith, k)))

-- ---- orthogonality
-- w is the squares of x, wz those of n·x + t·y, i the inner product of the errors of x with y, s the squares of y
not_less : (w wz n q l t i s : ℤ) → pos 1 ≤ℤ l → pos 1 ≤ℤ q → (w *ℤ (((n *ℤ q) *ℤ (n *ℤ q)) *ℤ l)) ≤ℤ (wz *ℤ ((q *ℤ q) *ℤ l))
    → pos 1 *ℤ wz ≡ (((n *ℤ n) *ℤ w) +ℤ (((pos 2 *ℤ n) *ℤ t) *ℤ i)) +ℤ ((t *ℤ t) *ℤ s) → pos 0 ≤ℤ ((((pos 2 *ℤ n) *ℤ t) *ℤ i) +ℤ ((t *ℤ t) *ℤ s))
not_less w wz n q l t i s l_pos q_pos least is =
    let unit = (q *ℤ q) *ℤ l in
    let unit_pos : pos 0 <ℤ unit = mul_positive (q *ℤ q) l (mul_positive q q (omega (arith, ints, q_pos)) (omega (arith, ints, q_pos))) (omega (arith, ints, l_pos)) in
    let left : ((n *ℤ n) *ℤ w) *ℤ unit ≡ w *ℤ (((n *ℤ q) *ℤ (n *ℤ q)) *ℤ l) =
    ring (w ∷ n ∷ q ∷ l ∷ []) (times (times (square (var 1)) (var 0)) (times (square (var 2)) (var 3))) (times (var 0) (times (square (times (var 1) (var 2))) (var 3))) refl in
    let less = mul_cancel ((n *ℤ n) *ℤ w) wz unit (le_by_eq _ _ _ _ left refl least) unit_pos in
    rest ((n *ℤ n) *ℤ w) wz (((pos 2 *ℤ n) *ℤ t) *ℤ i) ((t *ℤ t) *ℤ s) less (sym (one_mul wz) ∙ is)
  where
    rest : (a b c d : ℤ) → a ≤ℤ b → b ≡ (a +ℤ c) +ℤ d → pos 0 ≤ℤ (c +ℤ d)
    rest a b c d h e = omega (arith, ints, h, e)

-- both ways, far enough
none_left : (i s : ℤ) → pos 0 ≤ℤ s → pos 0 ≤ℤ ((((pos 2 *ℤ (s +ℤ pos 1)) *ℤ pos 1) *ℤ i) +ℤ ((pos 1 *ℤ pos 1) *ℤ s))
    → pos 0 ≤ℤ ((((pos 2 *ℤ (s +ℤ pos 1)) *ℤ negsuc 0) *ℤ i) +ℤ ((negsuc 0 *ℤ negsuc 0) *ℤ s)) → i ≡ pos 0
none_left i s s_pos up down =
    let k = i *ℤ (s +ℤ pos 1) in
    let n_pos : pos 0 ≤ℤ (s +ℤ pos 1) = omega (arith, ints, s_pos) in
    let I = var 0 in
    let S = var 1 in
    let N = plus S (lit (pos 1)) in
    let form = λ (t : ℤ). ring (i ∷ s ∷ []) (plus (times (times (times (lit (pos 2)) N) (lit t)) I) (times (times (lit t) (lit t)) S)) (plus (times (lit (pos 2 *ℤ t)) (times I N)) (times (lit (t *ℤ t)) S)) in
    let up' : pos 0 ≤ℤ ((pos 2 *ℤ k) +ℤ s) = le_by_eq _ _ _ _ refl
    (ring (i ∷ s ∷ []) (plus (times (lit (pos 2)) (times I N)) S) (plus (times (times (times (lit (pos 2)) N) (lit (pos 1))) I) (times (times (lit (pos 1)) (lit (pos 1))) S)) refl) up in
    let down' : pos 0 ≤ℤ (s -ℤ (pos 2 *ℤ k)) = le_by_eq _ _ _ _ refl
    (ring (i ∷ s ∷ []) (less S (times (lit (pos 2)) (times I N))) (plus (times (times (times (lit (pos 2)) N) (lit (negsuc 0))) I) (times (times (lit (negsuc 0)) (lit (negsuc 0))) S)) refl) down in
    by_lt_z (pos 0) i (λ more.
    let far = mul_mono (pos 1) i (s +ℤ pos 1) (omega (arith, ints, more)) n_pos in
    let own : pos 1 *ℤ (s +ℤ pos 1) ≡ s +ℤ pos 1 = one_mul (s +ℤ pos 1) in
    absurd (too_far s k (le_by_eq _ _ _ _ (sym own) refl far) s_pos down')) (λ le. by_lt_z i (pos 0) (λ less.
    let far = mul_mono i (negsuc 0) (s +ℤ pos 1) (omega (arith, ints, less)) n_pos in
    let own : negsuc 0 *ℤ (s +ℤ pos 1) ≡ neg_ℤ (s +ℤ pos 1) = ring (s ∷ []) (times (lit (negsuc 0)) (plus (var 0) (lit (pos 1)))) (minus (plus (var 0) (lit (pos 1)))) refl in
    absurd (too_low s k (le_by_eq _ _ _ _ refl (sym own) far) s_pos up')) (λ ge. omega (arith, ints, le, ge)))
  where
    too_far : (s k : ℤ) → (s +ℤ pos 1) ≤ℤ k → pos 0 ≤ℤ s → pos 0 ≤ℤ (s -ℤ (pos 2 *ℤ k)) → ⊥
    too_far s k far s_pos down = omega (arith, ints, far, s_pos, down)

    too_low : (s k : ℤ) → k ≤ℤ neg_ℤ (s +ℤ pos 1) → pos 0 ≤ℤ s → pos 0 ≤ℤ ((pos 2 *ℤ k) +ℤ s) → ⊥
    too_low s k far s_pos up = omega (arith, ints, far, s_pos, up)

-- whole flows that balance have inner product 0 with the errors of a least vector
whole_orthogonal : (g : ProcessGraph) (x : Fractional) (ys : List ℤ) → IsProcessGraph g → IsLeast g x → IsBalanced g ys
    → inner_product (variance_product g.streams) g.streams (errors_of g.streams x) ys ≡ pos 0
whole_orthogonal g x ys limits least even =
    let l = variance_product g.streams in
    let ss = g.streams in
    let q = x.denominator in
    let xs = x.numerators in
    let i = inner_product l ss (errors_of ss x) ys in
    let s = weighted_sum_of_squares l ss ys in
    let n = s +ℤ pos 1 in
    let l_pos = product_of g limits in
    let q_pos = least.0.positive in
    let s_pos = squares_nonneg l ss ys (weights_of g limits) in
    let n_pos : pos 0 <ℤ n = omega (arith, ints, s_pos) in
    let nq_pos = mul_positive n q n_pos (omega (arith, ints, q_pos)) in
    let moved : (t : ℤ) → pos 0 ≤ℤ ((((pos 2 *ℤ n) *ℤ t) *ℤ i) +ℤ ((t *ℤ t) *ℤ s)) = λ t.
    let z : Fractional = record { numerators = combination n t xs ys; denominator = n *ℤ q } in
    let balanced : IsBalancedFractional g z = record { positive = omega (arith, ints, nq_pos); balanced = combined_balance g n t xs ys least.0.balanced even } in
    not_less (weighted_squares g x) (weighted_squares g z) n q l t i s l_pos q_pos (least.1 z balanced) (moved_squares l n q t ss xs ys least.0.balanced.each even.each) in
    none_left i s s_pos (moved (pos 1)) (moved (negsuc 0))

pub orthogonality : OrthogonalityLaw
orthogonality g x y limits least even = whole_orthogonal g x y.numerators limits least even.balanced

-- ---- Pythagoras
without_product : (a b r i d : ℤ) → a ≡ (b +ℤ ((pos 2 *ℤ r) *ℤ i)) +ℤ (pos 1 *ℤ d) → i ≡ pos 0 → a ≡ b +ℤ d
without_product a b r i d is none =
    is ∙ (λ k. (b +ℤ ((pos 2 *ℤ r) *ℤ none k)) +ℤ (pos 1 *ℤ d))
    ∙ ring (b ∷ r ∷ d ∷ []) (plus (plus (var 0) (times (times (lit (pos 2)) (var 1)) (lit (pos 0)))) (times (lit (pos 1)) (var 2))) (plus (var 0) (var 2)) refl

pub excess : ExcessLaw
excess g p x limits even least =
    let l = variance_product g.streams in
    let q = x.denominator in
    let r = p.denominator in
    let difference = combination q (neg_ℤ r) p.numerators x.numerators in
    without_product _ _ r _ _ (from_squares l r q g.streams p.numerators x.numerators even.balanced.each least.0.balanced.each)
    (whole_orthogonal g x difference limits least (combined_balance g q (neg_ℤ r) p.numerators x.numerators even.balanced least.0.balanced))

-- ---- the distance of whole flows
-- w is the squares of the flows, x those of the least vector over q, d those of the difference, v the dual value, gg the square of
-- the gap
within_gap : (k l q w x d v gg : ℤ) → pos 1 ≤ℤ l → (pos (2 ^ 112) *ℤ w) ≤ℤ (((pos 1 *ℤ pos 1) *ℤ l) *ℤ (v +ℤ (pos (2 ^ 72) *ℤ gg)))
    → (((q *ℤ q) *ℤ l) *ℤ v) ≤ℤ (pos (2 ^ 112) *ℤ x) → (q *ℤ q) *ℤ w ≡ ((pos 1 *ℤ pos 1) *ℤ x) +ℤ d → (d *ℤ pos (2 ^ 40)) ≤ℤ (gg *ℤ (((pos 1 *ℤ q) *ℤ (pos 1 *ℤ q)) *ℤ l))
within_gap k l q w x d v gg l_pos gap weak excess =
    let qq = q *ℤ q in
    let one = mul_mono (pos (2 ^ 112) *ℤ w) (((pos 1 *ℤ pos 1) *ℤ l) *ℤ (v +ℤ (pos (2 ^ 72) *ℤ gg))) qq gap (square_pos q) in
    let Q = var 0 in
    let L = var 1 in
    let V = var 2 in
    let G = var 3 in
    let W = var 4 in
    let X = var 5 in
    let D = var 6 in
    let vs : List ℤ = q ∷ l ∷ v ∷ gg ∷ w ∷ x ∷ d ∷ [] in
    let left : (pos (2 ^ 112) *ℤ w) *ℤ qq ≡ pos (2 ^ 112) *ℤ (qq *ℤ w) = ring vs (times (times (lit (pos (2 ^ 112))) W) (square Q)) (times (lit (pos (2 ^ 112))) (times (square Q) W)) refl in
    let right : (((pos 1 *ℤ pos 1) *ℤ l) *ℤ (v +ℤ (pos (2 ^ 72) *ℤ gg))) *ℤ qq ≡ ((qq *ℤ l) *ℤ v) +ℤ (pos (2 ^ 72) *ℤ (gg *ℤ (((pos 1 *ℤ q) *ℤ (pos 1 *ℤ q)) *ℤ l))) =
    ring vs (times (times (times (square (lit (pos 1))) L) (plus V (times (lit (pos (2 ^ 72))) G))) (square Q))
    (plus (times (times (square Q) L) V) (times (lit (pos (2 ^ 72))) (times G (times (square (times (lit (pos 1)) Q)) L)))) refl in
    joined (qq *ℤ w) x d ((qq *ℤ l) *ℤ v) (gg *ℤ (((pos 1 *ℤ q) *ℤ (pos 1 *ℤ q)) *ℤ l)) _ _ one left right weak (excess ∙ ap (λ (z : ℤ). z +ℤ d) (one_mul x))
  where
    joined : (w x d v m a b : ℤ) → a ≤ℤ b → a ≡ pos (2 ^ 112) *ℤ w → b ≡ v +ℤ (pos (2 ^ 72) *ℤ m) → v ≤ℤ (pos (2 ^ 112) *ℤ x) → w ≡ x +ℤ d → (d *ℤ pos (2 ^ 40)) ≤ℤ m
    joined w x d v m a b h e f weak is = omega (arith, ints, h, e, f, weak, is)

pub distance : DistanceLaw
distance g price ps x h least =
    let l = variance_product g.streams in
    let gap = gap_of price g.streams ps in
    let pair : IsDualPair g price x = record { limits = h.limits; fit = h.fit; balanced = least.0 } in
    within_gap (pos 0) l x.denominator (weighted_squares g (whole_flows ps)) (weighted_squares g x) (squared_distance g (whole_flows ps) x) (dual_value price g.streams)
    (pos (gap_size gap) *ℤ pos (gap_size gap)) (product_of g h.limits) (gap_excess g price ps h) (weak_duality g price x pair) (excess g (whole_flows ps) x h.limits h.balanced least)
