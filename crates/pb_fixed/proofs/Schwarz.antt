-- The inequality of Cauchy and Schwarz, one item at a time.
use Rattle.std.proofs.Common.{◌≡◌, ℤ, pos, ◌+ℤ◌, ◌-ℤ◌, ◌*ℤ◌, ◌≤ℤ◌, ◌<ℤ◌, List, [], ◌∷◌, refl, sym, subst, arith}
use Rattle.std.specs.List.{AllByRecursion}
use Rattle.std.proofs.lemmas.Int.{ints}
use Rattle.pb_fixed.specs.Sums.{sum_over}
use Rattle.pb_fixed.specs.IntegerLaws.{IsWeighed}
use Rattle.pb_fixed.proofs.Lists.{AllByRecursion-map}
use Rattle.pb_fixed.proofs.Order.{le_of_eq, mul_cancel, mul_mono, mul_nonneg, mul_positive, square_pos}
use Rattle.pb_fixed.proofs.Ring.{var, lit, plus, times, less, square, ring}
use Rattle.pb_fixed.proofs.Sums.{sum_over-positive}

-- both sides taken apart, with one part in common
joined : (x y p q r c d : ℤ) → x ≡ (p +ℤ q) +ℤ r → y ≡ (c +ℤ d) +ℤ r → p ≤ℤ c → q ≤ℤ d → x ≤ℤ y
joined x y p q r c d e f g h = omega (arith, ints, e, f, g, h)

between : (x p q r t y : ℤ) → x +ℤ p ≡ q +ℤ r → pos 0 ≤ℤ p → r ≤ℤ t → y ≡ q +ℤ t → x ≤ℤ y
between x p q r t y e low le f = omega (arith, ints, e, low, le, f)

-- one more item in front: a is the sum so far, s that of the variances, b the weighted sum of squares, e, v and w those of the item
pub schwarz_more : (a s b e v w : ℤ) → pos 0 <ℤ s → pos 0 <ℤ v → pos 0 ≤ℤ (w *ℤ v) → ((w *ℤ v) *ℤ (a *ℤ a)) ≤ℤ (s *ℤ b)
    → ((w *ℤ v) *ℤ ((e +ℤ a) *ℤ (e +ℤ a))) ≤ℤ ((v +ℤ s) *ℤ ((w *ℤ (e *ℤ e)) +ℤ b))
schwarz_more a s b e v w s_pos v_pos l_pos so_far =
    let vs : List ℤ = a ∷ s ∷ b ∷ e ∷ v ∷ w ∷ [] in
    let A = var 0 in
    let S = var 1 in
    let B = var 2 in
    let E = var 3 in
    let V = var 4 in
    let W = var 5 in
    let L = times W V in
    let D = less (times S E) (times V A) in
    let X = times (lit (pos 2)) (times L (times A E)) in
    let Y = plus (times S (times W (square E))) (times V B) in
    let l = w *ℤ v in
    let d = (s *ℤ e) -ℤ (v *ℤ a) in
    let x = pos 2 *ℤ (l *ℤ (a *ℤ e)) in
    let y = (s *ℤ (w *ℤ (e *ℤ e))) +ℤ (v *ℤ b) in
    let cross : (x *ℤ (s *ℤ v)) +ℤ (l *ℤ (d *ℤ d)) ≡ ((s *ℤ s) *ℤ (l *ℤ (e *ℤ e))) +ℤ ((l *ℤ (a *ℤ a)) *ℤ (v *ℤ v)) =
    ring vs (plus (times X (times S V)) (times L (square D))) (plus (times (square S) (times L (square E))) (times (times L (square A)) (square V))) refl in
    let whole : y *ℤ (s *ℤ v) ≡ ((s *ℤ s) *ℤ (l *ℤ (e *ℤ e))) +ℤ ((s *ℤ b) *ℤ (v *ℤ v)) =
    ring vs (times Y (times S V)) (plus (times (square S) (times L (square E))) (times (times S B) (square V))) refl in
    let scaled : (x *ℤ (s *ℤ v)) ≤ℤ (y *ℤ (s *ℤ v)) =
    between _ _ _ _ _ _ cross (mul_nonneg l (d *ℤ d) l_pos (square_pos d)) (mul_mono (l *ℤ (a *ℤ a)) (s *ℤ b) (v *ℤ v) so_far (square_pos v)) whole in
    let step : x ≤ℤ y = mul_cancel x y (s *ℤ v) scaled (mul_positive s v s_pos v_pos) in
    let left : l *ℤ ((e +ℤ a) *ℤ (e +ℤ a)) ≡ ((l *ℤ (a *ℤ a)) +ℤ x) +ℤ (l *ℤ (e *ℤ e)) =
    ring vs (times L (square (plus E A))) (plus (plus (times L (square A)) X) (times L (square E))) refl in
    let right : (v +ℤ s) *ℤ ((w *ℤ (e *ℤ e)) +ℤ b) ≡ ((s *ℤ b) +ℤ y) +ℤ (l *ℤ (e *ℤ e)) =
    ring vs (times (plus V S) (plus (times W (square E)) B)) (plus (plus (times S B) Y) (times L (square E))) refl in
    joined _ _ _ _ _ _ _ left right so_far step

one_item : (e v w : ℤ) → (w *ℤ v) *ℤ ((e +ℤ pos 0) *ℤ (e +ℤ pos 0)) ≡ (v +ℤ pos 0) *ℤ ((w *ℤ (e *ℤ e)) +ℤ pos 0)
one_item e v w =
    let zero = lit (pos 0) in
    ring (e ∷ v ∷ w ∷ []) (times (times (var 2) (var 1)) (square (plus (var 0) zero))) (times (plus (var 1) zero) (plus (times (var 2) (square (var 0))) zero)) refl

no_item : (l : ℤ) → l *ℤ (pos 0 *ℤ pos 0) ≡ pos 0
no_item l = ring (l ∷ []) (times (var 0) (square (lit (pos 0)))) (lit (pos 0)) refl

pub schwarz : {A : Type 0} (f variance weight : A → ℤ) (l : ℤ) (xs : List A) → pos 0 ≤ℤ l → AllByRecursion (IsWeighed variance weight l) xs
    → (l *ℤ (sum_over f xs *ℤ sum_over f xs)) ≤ℤ (sum_over variance xs *ℤ sum_over (λ x. weight x *ℤ (f x *ℤ f x)) xs)
schwarz f variance weight l [] l_pos h = let none = no_item l in omega (arith, ints, none)
schwarz f variance weight l (x ∷ []) l_pos h =
    subst (λ (z : ℤ). (z *ℤ (sum_over f (x ∷ []) *ℤ sum_over f (x ∷ []))) ≤ℤ (sum_over variance (x ∷ []) *ℤ sum_over (λ x. weight x *ℤ (f x *ℤ f x)) (x ∷ []))) h.0.weight_is
    (le_of_eq _ _ (one_item (f x) (variance x) (weight x)))
schwarz f variance weight l (x ∷ y ∷ xs) l_pos h =
    let squares = λ (x : _). weight x *ℤ (f x *ℤ f x) in
    subst (λ (z : ℤ). (z *ℤ (sum_over f (x ∷ y ∷ xs) *ℤ sum_over f (x ∷ y ∷ xs))) ≤ℤ (sum_over variance (x ∷ y ∷ xs) *ℤ sum_over squares (x ∷ y ∷ xs))) h.0.weight_is
    (schwarz_more (sum_over f (y ∷ xs)) (sum_over variance (y ∷ xs)) (sum_over squares (y ∷ xs)) (f x) (variance x) (weight x)
    (sum_over-positive variance y xs (AllByRecursion-map (IsWeighed variance weight l) (λ z. pos 0 <ℤ variance z) (y ∷ xs) (λ z p. p.positive) h.1)) h.0.positive
    (subst (λ (z : ℤ). pos 0 ≤ℤ z) (sym h.0.weight_is) l_pos)
    (subst (λ (z : ℤ). (z *ℤ (sum_over f (y ∷ xs) *ℤ sum_over f (y ∷ xs))) ≤ℤ (sum_over variance (y ∷ xs) *ℤ sum_over squares (y ∷ xs))) (sym h.0.weight_is) (schwarz f variance weight l (y ∷ xs) l_pos h.1)))
