-- Directed quotients.
use Rattle.std.proofs.Common.{◌≡◌, ◌∙◌, ℕ, zero, suc, ◌-◌, ◌^◌, ◌<◌, ◌≤◌, ℤ, pos, negsuc, neg_ℤ, ◌+ℤ◌, ◌-ℤ◌, ◌*ℤ◌, ◌≤ℤ◌, ◌<ℤ◌, unsigned_abs, [], ◌∷◌, refl, sym, ap, subst, arith}
use Rattle.std.specs.Int.{int_rem_euclid, int_shr}
use Rattle.std.proofs.lemmas.Int.{ints}
use Rattle.std.proofs.lemmas.Nat.{pow_pos}
use Rattle.std.proofs.Math.Nat.{two-pow-succ}
use Rattle.pb_fixed.proofs.Order.{le_antisym, le_by_eq, le_trans, lt_by_eq, mul_cancel_strict, mul_mono, mul_strict}
use Rattle.pb_fixed.proofs.Ring.{var, lit, plus, times, minus, ring}
use Rattle.pb_fixed.proofs.RingLaws.{add_mul, mul_assoc, one_mul}
use Rattle.pb_fixed.specs.Quotients.{IsFloor, IsCeiling, IsNearest, floor_div, ceil_div, nearest_div}

-- ---- rounded down
pub floor_is : (n d : ℤ) → pos 0 <ℤ d → IsFloor n d (floor_div n d)
floor_is (pos n) (pos d) h = record { below = omega (arith, ints); next = omega (arith, ints) }
floor_is (negsuc n) (pos d) h = record { below = omega (arith, ints); next = omega (arith, ints) }
floor_is n (negsuc d) h = absurd (omega (arith, ints))

next_multiple : (q d : ℤ) → (q *ℤ d) +ℤ d ≡ (q +ℤ pos 1) *ℤ d
next_multiple q d = ring (q ∷ d ∷ []) (plus (times (var 0) (var 1)) (var 1)) (times (plus (var 0) (lit (pos 1))) (var 1)) refl

-- the floor is the greatest number that is not above the quotient
pub floor_greatest : (k n d q : ℤ) → pos 0 <ℤ d → IsFloor n d q → (k *ℤ d) ≤ℤ n → k ≤ℤ q
floor_greatest k n d q d_pos h le =
    let next = next_multiple q d in
    let above = h.next in
    let less = mul_cancel_strict k (q +ℤ pos 1) d (omega (arith, ints, next, above, le)) d_pos in
    omega (arith, ints, less)

pub floor_unique : (n d p q : ℤ) → pos 0 <ℤ d → IsFloor n d p → IsFloor n d q → p ≡ q
floor_unique n d p q d_pos h k = le_antisym p q (floor_greatest p n d q d_pos k h.below) (floor_greatest q n d p d_pos h k.below)

pub floor_only : (n d q : ℤ) → pos 0 <ℤ d → IsFloor n d q → q ≡ floor_div n d
floor_only n d q d_pos h = floor_unique n d q (floor_div n d) d_pos h (floor_is n d d_pos)

pub floor_from : (k n d : ℤ) → pos 0 <ℤ d → (k *ℤ d) ≤ℤ n → k ≤ℤ floor_div n d
floor_from k n d d_pos le = floor_greatest k n d (floor_div n d) d_pos (floor_is n d d_pos) le

pub floor_to : (k n d : ℤ) → pos 0 <ℤ d → n ≤ℤ (k *ℤ d) → floor_div n d ≤ℤ k
floor_to k n d d_pos le =
    let next = next_multiple k d in
    let below = (floor_is n d d_pos).below in
    let less = mul_cancel_strict (floor_div n d) (k +ℤ pos 1) d (omega (arith, ints, next, below, le, d_pos)) d_pos in
    omega (arith, ints, less)

pub floor_mono : (n m d : ℤ) → pos 0 <ℤ d → n ≤ℤ m → floor_div n d ≤ℤ floor_div m d
floor_mono n m d d_pos le = floor_from (floor_div n d) m d d_pos (le_trans _ _ _ (floor_is n d d_pos).below le)

pub floor_multiple : (k d : ℤ) → pos 0 <ℤ d → floor_div (k *ℤ d) d ≡ k
floor_multiple k d d_pos = le_antisym _ _ (floor_to k (k *ℤ d) d d_pos (omega (arith, ints))) (floor_from k (k *ℤ d) d d_pos (omega (arith, ints)))

pub floor_shift : (k n d : ℤ) → pos 0 <ℤ d → floor_div (n +ℤ (k *ℤ d)) d ≡ floor_div n d +ℤ k
floor_shift k n d d_pos =
    let q = floor_div n d in
    let h = floor_is n d d_pos in
    let below = h.below in
    let next = h.next in
    let e = add_mul q k d in
    sym (floor_only (n +ℤ (k *ℤ d)) d (q +ℤ k) d_pos (record { below = omega (arith, ints, e, below); next = omega (arith, ints, e, next) }))

-- ---- rounded up: the negative of the negative rounded down
neg_multiple : (q d : ℤ) → neg_ℤ q *ℤ d ≡ neg_ℤ (q *ℤ d)
neg_multiple q d = ring (q ∷ d ∷ []) (times (minus (var 0)) (var 1)) (minus (times (var 0) (var 1))) refl

pub ceiling_from_floor : (n d q : ℤ) → IsFloor (neg_ℤ n) d q → IsCeiling n d (neg_ℤ q)
ceiling_from_floor n d q h =
    let e = neg_multiple q d in
    let below = h.below in
    let next = h.next in
    record { above = omega (arith, ints, e, below); last = omega (arith, ints, e, next) }

pub floor_from_ceiling : (n d q : ℤ) → IsCeiling n d q → IsFloor (neg_ℤ n) d (neg_ℤ q)
floor_from_ceiling n d q h =
    let e = neg_multiple q d in
    let above = h.above in
    let last = h.last in
    record { below = omega (arith, ints, e, above); next = omega (arith, ints, e, last) }

pub ceiling_is : (n d : ℤ) → pos 0 <ℤ d → IsCeiling n d (ceil_div n d)
ceiling_is n d d_pos = ceiling_from_floor n d (floor_div (neg_ℤ n) d) (floor_is (neg_ℤ n) d d_pos)

pub ceiling_only : (n d q : ℤ) → pos 0 <ℤ d → IsCeiling n d q → q ≡ ceil_div n d
ceiling_only n d q d_pos h =
    let e = floor_only (neg_ℤ n) d (neg_ℤ q) d_pos (floor_from_ceiling n d q h) in
    omega (arith, ints, e)

pub ceiling_unique : (n d p q : ℤ) → pos 0 <ℤ d → IsCeiling n d p → IsCeiling n d q → p ≡ q
ceiling_unique n d p q d_pos h k = ceiling_only n d p d_pos h ∙ sym (ceiling_only n d q d_pos k)

pub ceiling_to : (k n d : ℤ) → pos 0 <ℤ d → n ≤ℤ (k *ℤ d) → ceil_div n d ≤ℤ k
ceiling_to k n d d_pos le =
    let e = neg_multiple k d in
    let from = floor_from (neg_ℤ k) (neg_ℤ n) d d_pos (omega (arith, ints, e, le)) in
    omega (arith, ints, from)

pub ceiling_from : (k n d : ℤ) → pos 0 <ℤ d → (k *ℤ d) ≤ℤ n → k ≤ℤ ceil_div n d
ceiling_from k n d d_pos le =
    let e = neg_multiple k d in
    let to = floor_to (neg_ℤ k) (neg_ℤ n) d d_pos (omega (arith, ints, e, le)) in
    omega (arith, ints, to)

pub ceiling_mono : (n m d : ℤ) → pos 0 <ℤ d → n ≤ℤ m → ceil_div n d ≤ℤ ceil_div m d
ceiling_mono n m d d_pos le = ceiling_to (ceil_div m d) n d d_pos (le_trans _ _ _ le (ceiling_is m d d_pos).above)

pub ceiling_multiple : (k d : ℤ) → pos 0 <ℤ d → ceil_div (k *ℤ d) d ≡ k
ceiling_multiple k d d_pos = le_antisym _ _ (ceiling_to k (k *ℤ d) d d_pos (omega (arith, ints))) (ceiling_from k (k *ℤ d) d d_pos (omega (arith, ints)))

pub ceiling_shift : (k n d : ℤ) → pos 0 <ℤ d → ceil_div (n +ℤ (k *ℤ d)) d ≡ ceil_div n d +ℤ k
ceiling_shift k n d d_pos =
    let q = ceil_div n d in
    let h = ceiling_is n d d_pos in
    let above = h.above in
    let last = h.last in
    let e = add_mul q k d in
    sym (ceiling_only (n +ℤ (k *ℤ d)) d (q +ℤ k) d_pos (record { above = omega (arith, ints, e, above); last = omega (arith, ints, e, last) }))

-- ---- rounded to the nearest
twice_positive : (d : ℤ) → pos 0 <ℤ d → pos 0 <ℤ (pos 2 *ℤ d)
twice_positive d d_pos = omega (arith, ints, d_pos)

twice_multiple : (q d : ℤ) → q *ℤ (pos 2 *ℤ d) ≡ pos 2 *ℤ (q *ℤ d)
twice_multiple q d = ring (q ∷ d ∷ []) (times (var 0) (times (lit (pos 2)) (var 1))) (times (lit (pos 2)) (times (var 0) (var 1))) refl

pub nearest_is : (n d : ℤ) → pos 0 <ℤ d → IsNearest n d (nearest_div n d)
nearest_is n d d_pos = floor_is ((pos 2 *ℤ n) +ℤ d) (pos 2 *ℤ d) (twice_positive d d_pos)

pub nearest_only : (n d q : ℤ) → pos 0 <ℤ d → IsNearest n d q → q ≡ nearest_div n d
nearest_only n d q d_pos h = floor_only ((pos 2 *ℤ n) +ℤ d) (pos 2 *ℤ d) q (twice_positive d d_pos) h

pub nearest_from : (k n d : ℤ) → pos 0 <ℤ d → (k *ℤ d) ≤ℤ n → k ≤ℤ nearest_div n d
nearest_from k n d d_pos le =
    let e = twice_multiple k d in
    floor_from k ((pos 2 *ℤ n) +ℤ d) (pos 2 *ℤ d) (twice_positive d d_pos) (omega (arith, ints, e, le, d_pos))

pub nearest_to : (k n d : ℤ) → pos 0 <ℤ d → n ≤ℤ (k *ℤ d) → nearest_div n d ≤ℤ k
nearest_to k n d d_pos le =
    let q = nearest_div n d in
    let e = twice_multiple q d in
    let below = (nearest_is n d d_pos).below in
    let f = add_mul k (pos 1) d in
    let g = one_mul d in
    let less = mul_cancel_strict q (k +ℤ pos 1) d (omega (arith, ints, e, below, le, f, g, d_pos)) d_pos in
    omega (arith, ints, less)

pub nearest_mono : (n m d : ℤ) → pos 0 <ℤ d → n ≤ℤ m → nearest_div n d ≤ℤ nearest_div m d
nearest_mono n m d d_pos le = floor_mono ((pos 2 *ℤ n) +ℤ d) ((pos 2 *ℤ m) +ℤ d) (pos 2 *ℤ d) (twice_positive d d_pos) (omega (arith, ints, le))

pub nearest_multiple : (k d : ℤ) → pos 0 <ℤ d → nearest_div (k *ℤ d) d ≡ k
nearest_multiple k d d_pos = le_antisym _ _ (nearest_to k (k *ℤ d) d d_pos (omega (arith, ints))) (nearest_from k (k *ℤ d) d d_pos (omega (arith, ints)))

pub nearest_shift : (k n d : ℤ) → pos 0 <ℤ d → nearest_div (n +ℤ (k *ℤ d)) d ≡ nearest_div n d +ℤ k
nearest_shift k n d d_pos =
    let e : (pos 2 *ℤ (n +ℤ (k *ℤ d))) +ℤ d ≡ ((pos 2 *ℤ n) +ℤ d) +ℤ (k *ℤ (pos 2 *ℤ d)) =
    ring (k ∷ n ∷ d ∷ []) (plus (times (lit (pos 2)) (plus (var 1) (times (var 0) (var 2)))) (var 2))
    (plus (plus (times (lit (pos 2)) (var 1)) (var 2)) (times (var 0) (times (lit (pos 2)) (var 2)))) refl in
    ap (λ (x : ℤ). floor_div x (pos 2 *ℤ d)) e ∙ floor_shift k ((pos 2 *ℤ n) +ℤ d) (pos 2 *ℤ d) (twice_positive d d_pos)

-- the nearest quotient by an even divisor: half the divisor is added, and the quotient rounded down
pub nearest_even : (n h : ℤ) → pos 0 <ℤ h → nearest_div n (pos 2 *ℤ h) ≡ floor_div (n +ℤ h) (pos 2 *ℤ h)
nearest_even n h h_pos =
    let d = pos 2 *ℤ h in
    let q = floor_div (n +ℤ h) d in
    let floor = floor_is (n +ℤ h) d (twice_positive h h_pos) in
    let below = floor.below in
    let next = floor.next in
    let e = twice_multiple q d in
    sym (nearest_only n d q (twice_positive h h_pos) (record { below = omega (arith, ints, e, below); next = omega (arith, ints, e, next) }))

twice_power : (k : ℕ) → pos (2 ^ suc k) ≡ pos 2 *ℤ pos (2 ^ k)
twice_power k = let e = two-pow-succ k in omega (arith, ints, e)

-- the nearest quotient by a power of two, from 2 on
pub nearest_power : (n : ℤ) (k : ℕ) → 0 < k → nearest_div n (pos (2 ^ k)) ≡ floor_div (n +ℤ pos (2 ^ (k - 1))) (pos (2 ^ k))
nearest_power n zero h = absurd (omega (arith, h))
nearest_power n (suc k) h =
    let e : suc k - 1 ≡ k = omega arith in
    let even = nearest_even n (pos (2 ^ k)) (let some = pow_pos k in omega (arith, ints, some)) in
    rw e (subst (λ (d : ℤ). nearest_div n d ≡ floor_div (n +ℤ pos (2 ^ k)) d) (sym (twice_power k)) even)

-- a shift to the right is the quotient by a power of two, rounded down
pub shift_floor : (n : ℤ) (k : ℕ) → int_shr n k ≡ floor_div n (pos (2 ^ k))
shift_floor (pos n) k = refl
shift_floor (negsuc n) k = refl

-- twice the error of a nearest quotient, in units of 1/d
pub nearest_error_below : (n d q : ℤ) → IsNearest n d q → neg_ℤ d <ℤ ((pos 2 *ℤ (q *ℤ d)) -ℤ (pos 2 *ℤ n))
nearest_error_below n d q h = let e = twice_multiple q d in let next = h.next in omega (arith, ints, e, next)

pub nearest_error_above : (n d q : ℤ) → IsNearest n d q → ((pos 2 *ℤ (q *ℤ d)) -ℤ (pos 2 *ℤ n)) ≤ℤ d
nearest_error_above n d q h = let e = twice_multiple q d in let below = h.below in omega (arith, ints, e, below)

-- ---- the three in order
pub floor_to_nearest : (n d : ℤ) → pos 0 <ℤ d → floor_div n d ≤ℤ nearest_div n d
floor_to_nearest n d d_pos = nearest_from (floor_div n d) n d d_pos (floor_is n d d_pos).below

pub nearest_to_ceiling : (n d : ℤ) → pos 0 <ℤ d → nearest_div n d ≤ℤ ceil_div n d
nearest_to_ceiling n d d_pos = nearest_to (ceil_div n d) n d d_pos (ceiling_is n d d_pos).above

pub ceiling_to_floor : (n d : ℤ) → pos 0 <ℤ d → ceil_div n d ≤ℤ (floor_div n d +ℤ pos 1)
ceiling_to_floor n d d_pos =
    let e = next_multiple (floor_div n d) d in
    let next = (floor_is n d d_pos).next in
    ceiling_to (floor_div n d +ℤ pos 1) n d d_pos (omega (arith, ints, e, next))

-- ---- no quotient by a whole number is greater than the dividend
size_from : (n d : ℤ) → pos 0 <ℤ d → (neg_ℤ (pos (unsigned_abs n)) *ℤ d) ≤ℤ n
size_from n d d_pos =
    let m = mul_mono (pos 1) d (pos (unsigned_abs n)) (omega (arith, ints, d_pos)) (omega (arith, ints)) in
    let e = neg_multiple (pos (unsigned_abs n)) d in
    omega (arith, ints, m, e)

size_to : (n d : ℤ) → pos 0 <ℤ d → n ≤ℤ (pos (unsigned_abs n) *ℤ d)
size_to n d d_pos =
    let m = mul_mono (pos 1) d (pos (unsigned_abs n)) (omega (arith, ints, d_pos)) (omega (arith, ints)) in
    omega (arith, ints, m)

both_sides : (q : ℤ) (m : ℕ) → neg_ℤ (pos m) ≤ℤ q → q ≤ℤ pos m → unsigned_abs q ≤ m
both_sides q m from to = omega (arith, ints, from, to)

pub floor_size : (n d : ℤ) → pos 0 <ℤ d → unsigned_abs (floor_div n d) ≤ unsigned_abs n
floor_size n d d_pos = both_sides (floor_div n d) (unsigned_abs n) (floor_from _ n d d_pos (size_from n d d_pos)) (floor_to _ n d d_pos (size_to n d d_pos))

pub ceiling_size : (n d : ℤ) → pos 0 <ℤ d → unsigned_abs (ceil_div n d) ≤ unsigned_abs n
ceiling_size n d d_pos = both_sides (ceil_div n d) (unsigned_abs n) (ceiling_from _ n d d_pos (size_from n d d_pos)) (ceiling_to _ n d d_pos (size_to n d d_pos))

pub nearest_size : (n d : ℤ) → pos 0 <ℤ d → unsigned_abs (nearest_div n d) ≤ unsigned_abs n
nearest_size n d d_pos = both_sides (nearest_div n d) (unsigned_abs n) (nearest_from _ n d d_pos (size_from n d d_pos)) (nearest_to _ n d d_pos (size_to n d d_pos))

-- ---- a quotient rounded up, by the remainder
remainder_is : (n d : ℤ) → pos 0 <ℤ d → (floor_div n d *ℤ d) +ℤ int_rem_euclid n d ≡ n
remainder_is (pos n) (pos d) h = omega (arith, ints)
remainder_is (negsuc n) (pos d) h = omega (arith, ints)
remainder_is n (negsuc d) h = absurd (omega (arith, ints))

pub ceiling_exact : (n d r : ℤ) → pos 0 <ℤ d → r ≡ int_rem_euclid n d → r ≡ pos 0 → floor_div n d ≡ ceil_div n d
ceiling_exact n d r d_pos is none =
    let e = remainder_is n d d_pos in
    ceiling_only n d (floor_div n d) d_pos (record { above = omega (arith, ints, e, is, none); last = omega (arith, ints, e, is, none, d_pos) })

pub ceiling_more : (n d r : ℤ) → pos 0 <ℤ d → r ≡ int_rem_euclid n d → pos 0 <ℤ r → floor_div n d +ℤ pos 1 ≡ ceil_div n d
ceiling_more n d r d_pos is some =
    let e = remainder_is n d d_pos in
    let f = next_multiple (floor_div n d) d in
    let next = (floor_is n d d_pos).next in
    ceiling_only n d (floor_div n d +ℤ pos 1) d_pos (record { above = omega (arith, ints, next, f); last = omega (arith, ints, e, f, is, some) })

-- a common factor cancels
pub ceiling_scaled : (k n d q : ℤ) → pos 0 <ℤ k → IsCeiling n d q → IsCeiling (n *ℤ k) (d *ℤ k) q
ceiling_scaled k n d q k_pos h =
    let e : q *ℤ (d *ℤ k) ≡ (q *ℤ d) *ℤ k = sym (mul_assoc q d k) in
    let f : (n *ℤ k) +ℤ (d *ℤ k) ≡ (n +ℤ d) *ℤ k = sym (add_mul n d k) in
    let above = mul_mono n (q *ℤ d) k h.above (omega (arith, ints, k_pos)) in
    let last = mul_strict (q *ℤ d) (n +ℤ d) k h.last k_pos in
    record { above = le_by_eq _ _ _ _ refl e above; last = lt_by_eq _ _ _ _ e f last }
