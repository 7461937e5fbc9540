-- What the variance of the grams covers.
use Rattle.std.proofs.Common.{◌≡◌, ◌+◌, ◌^◌, ℤ, pos, ◌+ℤ◌, ◌-ℤ◌, ◌*ℤ◌, ◌≤ℤ◌, [], ◌∷◌, refl, sym, subst, arith}
use Rattle.std.proofs.lemmas.Int.{ints}
use Rattle.pb_fixed.proofs.Order.{le_by_eq, le_trans, mul_mono_both, mul_mono_left, mul_nonneg, root_mono, square_mono, square_pos}
use Rattle.pb_fixed.proofs.Ring.{var, lit, plus, times, square, less, ring}
use Rattle.pb_grades.specs.Grade.{IsCarried, carried, carried_grams, carried_variance, grams_error}
use Rattle.pb_grades.specs.Laws.{ErrorLaw}
use Rattle.pb_grades.proofs.CarriedLemmas.{carried_is}

-- twice a product is no more than the sum of what bounds the squares of its factors
mixed : (x r a b k : ℤ) → pos 0 ≤ℤ a → pos 0 ≤ℤ b → pos 0 ≤ℤ k → (x *ℤ x) ≤ℤ (k *ℤ a) → (r *ℤ r) ≤ℤ b
    → (pos 2 *ℤ (x *ℤ r)) ≤ℤ ((k *ℤ b) +ℤ a)
mixed x r a b k a_pos b_pos k_pos x_small r_small = root_mono twice bound bound_pos (le_by_eq (twice *ℤ twice) (bound *ℤ bound) left right twice_is bound_is enough)
  where
    twice : ℤ
    twice = pos 2 *ℤ (x *ℤ r)

    bound : ℤ
    bound = (k *ℤ b) +ℤ a

    left : ℤ
    left = pos 4 *ℤ ((x *ℤ x) *ℤ (r *ℤ r))

    right : ℤ
    right = (((k *ℤ b) -ℤ a) *ℤ ((k *ℤ b) -ℤ a)) +ℤ (pos 4 *ℤ ((k *ℤ a) *ℤ b))

    bound_pos : pos 0 ≤ℤ bound
    bound_pos = let more = mul_nonneg k b k_pos b_pos in omega (arith, ints, more, a_pos)

    twice_is : twice *ℤ twice ≡ left
    twice_is = ring (x ∷ r ∷ []) (square (times (lit (pos 2)) (times (var 0) (var 1)))) (times (lit (pos 4)) (times (square (var 0)) (square (var 1)))) refl

    bound_is : bound *ℤ bound ≡ right
    bound_is = ring (k ∷ b ∷ a ∷ []) (square (plus (times (var 0) (var 1)) (var 2)))
        (plus (square (less (times (var 0) (var 1)) (var 2))) (times (lit (pos 4)) (times (times (var 0) (var 2)) (var 1)))) refl

    enough : left ≤ℤ right
    enough =
        let products = mul_mono_both (x *ℤ x) (k *ℤ a) (r *ℤ r) b x_small r_small (square_pos r) (mul_nonneg k a k_pos a_pos) in
        let rest = square_pos ((k *ℤ b) -ℤ a) in
        omega (arith, ints, products, rest)

-- the square of a sum, by what bounds the squares of its parts
pub sum_squared : (x r a b k : ℤ) → pos 0 ≤ℤ a → pos 0 ≤ℤ b → pos 0 ≤ℤ k → (x *ℤ x) ≤ℤ (k *ℤ a) → (r *ℤ r) ≤ℤ b
    → ((x +ℤ r) *ℤ (x +ℤ r)) ≤ℤ ((k +ℤ pos 1) *ℤ (a +ℤ b))
sum_squared x r a b k a_pos b_pos k_pos x_small r_small = le_by_eq ((x +ℤ r) *ℤ (x +ℤ r)) ((k +ℤ pos 1) *ℤ (a +ℤ b)) left right left_is right_is enough
  where
    left : ℤ
    left = ((x *ℤ x) +ℤ (pos 2 *ℤ (x *ℤ r))) +ℤ (r *ℤ r)

    right : ℤ
    right = ((k *ℤ a) +ℤ ((k *ℤ b) +ℤ a)) +ℤ b

    left_is : (x +ℤ r) *ℤ (x +ℤ r) ≡ left
    left_is = ring (x ∷ r ∷ []) (square (plus (var 0) (var 1))) (plus (plus (square (var 0)) (times (lit (pos 2)) (times (var 0) (var 1)))) (square (var 1))) refl

    right_is : (k +ℤ pos 1) *ℤ (a +ℤ b) ≡ right
    right_is = ring (k ∷ a ∷ b ∷ []) (times (plus (var 0) (lit (pos 1))) (plus (var 1) (var 2)))
        (plus (plus (times (var 0) (var 1)) (plus (times (var 0) (var 2)) (var 1))) (var 2)) refl

    enough : left ≤ℤ right
    enough = let both = mixed x r a b k a_pos b_pos k_pos x_small r_small in omega (arith, ints, x_small, r_small, both)

-- the error of a flow's part by the error of its grade
part_error : (flow ppm grade k variance : ℤ) → ((ppm -ℤ grade) *ℤ (ppm -ℤ grade)) ≤ℤ (k *ℤ variance)
    → ((flow *ℤ (ppm -ℤ grade)) *ℤ (flow *ℤ (ppm -ℤ grade))) ≤ℤ (k *ℤ ((flow *ℤ flow) *ℤ variance))
part_error flow ppm grade k variance small =
    let e : (flow *ℤ (ppm -ℤ grade)) *ℤ (flow *ℤ (ppm -ℤ grade)) ≡ (flow *ℤ flow) *ℤ ((ppm -ℤ grade) *ℤ (ppm -ℤ grade)) =
    ring (flow ∷ ppm ∷ grade ∷ []) (square (times (var 0) (less (var 1) (var 2)))) (times (square (var 0)) (square (less (var 1) (var 2)))) refl in
    let f : k *ℤ ((flow *ℤ flow) *ℤ variance) ≡ (flow *ℤ flow) *ℤ (k *ℤ variance) =
    ring (flow ∷ k ∷ variance ∷ []) (times (var 1) (times (square (var 0)) (var 2))) (times (square (var 0)) (times (var 1) (var 2))) refl in
    le_by_eq _ _ _ _ e f (mul_mono_left ((ppm -ℤ grade) *ℤ (ppm -ℤ grade)) (k *ℤ variance) (flow *ℤ flow) small (square_pos flow))

-- the error of the grams is that of the flow's part, and the rounding
error_parts : (flow ppm grade grams million : ℤ)
    → (flow *ℤ ppm) -ℤ (million *ℤ grams) ≡ (flow *ℤ (ppm -ℤ grade)) +ℤ ((flow *ℤ grade) -ℤ (grams *ℤ million))
error_parts flow ppm grade grams million = ring (flow ∷ ppm ∷ grade ∷ grams ∷ million ∷ [])
    (less (times (var 0) (var 1)) (times (var 4) (var 3)))
    (plus (times (var 0) (less (var 1) (var 2))) (less (times (var 0) (var 2)) (times (var 3) (var 4)))) refl

pub error_is : ErrorLaw
error_is flow ppm grade k is small = le_trans (error *ℤ error) ((pos k +ℤ pos 1) *ℤ (weighted +ℤ pos (10 ^ 12))) goal_bound squares wider
  where
    grams : ℤ
    grams = carried_grams flow grade

    error : ℤ
    error = grams_error flow ppm grade

    weighted : ℤ
    weighted = (flow *ℤ flow) *ℤ grade.variance

    rounding : ℤ
    rounding = (flow *ℤ grade.ppm) -ℤ (grams *ℤ pos (10 ^ 6))

    part : ℤ
    part = flow *ℤ (ppm -ℤ grade.ppm)

    goal_bound : ℤ
    goal_bound = pos (k + 1) *ℤ (pos (10 ^ 12) *ℤ carried_variance flow grade)

    is_carried : IsCarried flow grade (carried flow grade)
    is_carried = carried_is flow grade

    rounded : (rounding *ℤ rounding) ≤ℤ pos (10 ^ 12)
    rounded =
        let below = is_carried.grams.below in
        let next = is_carried.grams.next in
        square_mono rounding (pos (10 ^ 6)) (omega (arith, ints, below)) (omega (arith, ints, next))

    parts : error ≡ part +ℤ rounding
    parts = error_parts flow ppm grade.ppm grams (pos (10 ^ 6))

    sum : ((part +ℤ rounding) *ℤ (part +ℤ rounding)) ≤ℤ ((pos k +ℤ pos 1) *ℤ (weighted +ℤ pos (10 ^ 12)))
    sum = sum_squared part rounding weighted (pos (10 ^ 12)) (pos k) (mul_nonneg (flow *ℤ flow) grade.variance (square_pos flow) is.exact)
        (omega (arith, ints)) (omega (arith, ints)) (part_error flow ppm grade.ppm (pos k) grade.variance small) rounded

    squares : (error *ℤ error) ≤ℤ ((pos k +ℤ pos 1) *ℤ (weighted +ℤ pos (10 ^ 12)))
    squares = subst (λ (e : ℤ). (e *ℤ e) ≤ℤ ((pos k +ℤ pos 1) *ℤ (weighted +ℤ pos (10 ^ 12)))) (sym parts) sum

    wider : ((pos k +ℤ pos 1) *ℤ (weighted +ℤ pos (10 ^ 12))) ≤ℤ goal_bound
    wider =
        let above = is_carried.variance.above in
        mul_mono_left (weighted +ℤ pos (10 ^ 12)) (pos (10 ^ 12) *ℤ carried_variance flow grade) (pos k +ℤ pos 1) (omega (arith, ints, above)) (omega (arith, ints))
