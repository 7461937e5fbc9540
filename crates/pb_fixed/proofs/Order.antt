-- Whole numbers in order: products, squares, roots, absolute values.
use Rattle.std.proofs.Common.{◌≡◌, ℕ, ◌+◌, ◌*◌, ◌≤◌, ℤ, pos, negsuc, neg_ℤ, ◌+ℤ◌, ◌-ℤ◌, ◌*ℤ◌, ◌≤ℤ◌, ◌<ℤ◌, unsigned_abs, [], ◌∷◌, refl, arith}
use Rattle.std.proofs.lemmas.Int.{by_lt_z, ints}
use Rattle.std.proofs.Math.Nat.{mul-le-mul_right}
use borrow.Author.Differences.{le_out}
use Rattle.pb_fixed.proofs.RingLaws.{add_mul, one_mul}
use Rattle.pb_fixed.proofs.Ring.{var, lit, plus, times, minus, square, ring}

pub le_refl : (a : ℤ) → a ≤ℤ a
le_refl a = omega (arith, ints)

pub le_of_eq : (a b : ℤ) → a ≡ b → a ≤ℤ b
le_of_eq a b e = omega (arith, ints, e)

pub le_trans : (a b c : ℤ) → a ≤ℤ b → b ≤ℤ c → a ≤ℤ c
le_trans a b c h k = omega (arith, ints, h, k)

pub le_antisym : (a b : ℤ) → a ≤ℤ b → b ≤ℤ a → a ≡ b
le_antisym a b h k = omega (arith, ints, h, k)

-- both sides by what they are equal to
pub le_by_eq : (a b c d : ℤ) → a ≡ c → b ≡ d → c ≤ℤ d → a ≤ℤ b
le_by_eq a b c d e f h = omega (arith, ints, e, f, h)

pub lt_by_eq : (a b c d : ℤ) → a ≡ c → b ≡ d → c <ℤ d → a <ℤ b
lt_by_eq a b c d e f h = omega (arith, ints, e, f, h)

pub add_mono : (a b c d : ℤ) → a ≤ℤ b → c ≤ℤ d → (a +ℤ c) ≤ℤ (b +ℤ d)
add_mono a b c d h k = omega (arith, ints, h, k)

pub neg_mono : (a b : ℤ) → a ≤ℤ b → neg_ℤ b ≤ℤ neg_ℤ a
neg_mono a b h = omega (arith, ints, h)

-- ---- products
pub mul_mono : (a b c : ℤ) → a ≤ℤ b → pos 0 ≤ℤ c → (a *ℤ c) ≤ℤ (b *ℤ c)
mul_mono a b (pos k) h n = let m = mul-le-mul_right k (le_out a b h) in omega (arith, ints, m)
mul_mono a b (negsuc k) h n = absurd (omega (arith, ints))

pub mul_mono_left : (a b c : ℤ) → a ≤ℤ b → pos 0 ≤ℤ c → (c *ℤ a) ≤ℤ (c *ℤ b)
mul_mono_left a b c h n = let m = mul_mono a b c h n in omega (arith, ints, m)

-- a factor that is not positive turns the order round
pub mul_anti : (a b c : ℤ) → a ≤ℤ b → c ≤ℤ pos 0 → (b *ℤ c) ≤ℤ (a *ℤ c)
mul_anti a b c h n =
    let m = mul_mono a b (neg_ℤ c) h (omega (arith, ints, n)) in
    let e : a *ℤ neg_ℤ c ≡ neg_ℤ (a *ℤ c) = ring (a ∷ c ∷ []) (times (var 0) (minus (var 1))) (minus (times (var 0) (var 1))) refl in
    let f : b *ℤ neg_ℤ c ≡ neg_ℤ (b *ℤ c) = ring (b ∷ c ∷ []) (times (var 0) (minus (var 1))) (minus (times (var 0) (var 1))) refl in
    omega (arith, ints, m, e, f)

pub mul_nonneg : (a b : ℤ) → pos 0 ≤ℤ a → pos 0 ≤ℤ b → pos 0 ≤ℤ (a *ℤ b)
mul_nonneg a b h k = let m = mul_mono (pos 0) a b h k in omega (arith, ints, m)

pub mul_positive : (a b : ℤ) → pos 0 <ℤ a → pos 0 <ℤ b → pos 0 <ℤ (a *ℤ b)
mul_positive a b h k = let m = mul_mono (pos 1) a b (omega (arith, ints, h)) (omega (arith, ints, k)) in omega (arith, ints, m, k)

pub mul_negative : (a b : ℤ) → pos 0 <ℤ a → b <ℤ pos 0 → (a *ℤ b) <ℤ pos 0
mul_negative a b h k = let m = mul_mono b (negsuc 0) a (omega (arith, ints, k)) (omega (arith, ints, h)) in omega (arith, ints, m, h)

pub mul_strict : (a b c : ℤ) → a <ℤ b → pos 0 <ℤ c → (a *ℤ c) <ℤ (b *ℤ c)
mul_strict a b c h n =
    let m = mul_mono (a +ℤ pos 1) b c (omega (arith, ints, h)) (omega (arith, ints, n)) in
    let e = add_mul a (pos 1) c in
    let one = one_mul c in
    omega (arith, ints, m, e, one, n)

-- both factors grow
pub mul_mono_both : (a b c d : ℤ) → a ≤ℤ b → c ≤ℤ d → pos 0 ≤ℤ c → pos 0 ≤ℤ b → (a *ℤ c) ≤ℤ (b *ℤ d)
mul_mono_both a b c d h k c_pos b_pos = le_trans _ _ _ (mul_mono a b c h c_pos) (mul_mono_left c d b k b_pos)

-- a positive factor cancels
pub mul_cancel : (a b c : ℤ) → (a *ℤ c) ≤ℤ (b *ℤ c) → pos 0 <ℤ c → a ≤ℤ b
mul_cancel a b c h n = by_lt_z b a
    (λ less. let m = mul_strict b a c less n in absurd (omega (arith, ints, m, h)))
    (λ ok. ok)

pub mul_cancel_strict : (a b c : ℤ) → (a *ℤ c) <ℤ (b *ℤ c) → pos 0 <ℤ c → a <ℤ b
mul_cancel_strict a b c h n = by_lt_z a b
    (λ less. less)
    (λ ge. let m = mul_mono b a c ge (omega (arith, ints, n)) in absurd (omega (arith, ints, m, h)))

pub mul_cancel_eq : (a b c : ℤ) → a *ℤ c ≡ b *ℤ c → pos 0 <ℤ c → a ≡ b
mul_cancel_eq a b c e n = le_antisym a b (mul_cancel a b c (omega (arith, ints, e)) n) (mul_cancel b a c (omega (arith, ints, e)) n)

-- ---- squares and roots
pub square_pos : (a : ℤ) → pos 0 ≤ℤ (a *ℤ a)
square_pos (pos n) = omega (arith, ints)
square_pos (negsuc n) = omega (arith, ints)

pub neg_square : (a : ℤ) → neg_ℤ a *ℤ neg_ℤ a ≡ a *ℤ a
neg_square a = ring (a ∷ []) (square (minus (var 0))) (square (var 0)) refl

pub square_mono : (a b : ℤ) → pos 0 ≤ℤ a → a ≤ℤ b → (a *ℤ a) ≤ℤ (b *ℤ b)
square_mono a b h k = mul_mono_both a b a b k k h (omega (arith, ints, h, k))

-- a number from -b to b
pub square_within : (a b : ℤ) → a ≤ℤ b → neg_ℤ a ≤ℤ b → (a *ℤ a) ≤ℤ (b *ℤ b)
square_within a b h k = by_lt_z a (pos 0)
    (λ less. let m = square_mono (neg_ℤ a) b (omega (arith, ints, less)) k in let e = neg_square a in omega (arith, ints, m, e))
    (λ ge. square_mono a b ge h)

pub root_mono : (a b : ℤ) → pos 0 ≤ℤ b → (a *ℤ a) ≤ℤ (b *ℤ b) → a ≤ℤ b
root_mono a b h k = by_lt_z b a
    (λ less.
    let m = square_mono (b +ℤ pos 1) a (omega (arith, ints, h)) (omega (arith, ints, less)) in
    let e : (b +ℤ pos 1) *ℤ (b +ℤ pos 1) ≡ ((b *ℤ b) +ℤ (pos 2 *ℤ b)) +ℤ pos 1 =
    ring (b ∷ []) (square (plus (var 0) (lit (pos 1)))) (plus (plus (square (var 0)) (times (lit (pos 2)) (var 0))) (lit (pos 1))) refl in
    absurd (omega (arith, ints, m, e, k, h)))
    (λ ok. ok)

pub root_strict : (a b : ℤ) → pos 0 ≤ℤ b → (a *ℤ a) <ℤ (b *ℤ b) → a <ℤ b
root_strict a b h k = by_lt_z a b
    (λ less. less)
    (λ ge. let m = square_mono b a h ge in absurd (omega (arith, ints, m, k)))

-- ---- absolute values
pub unsigned_abs-neg : (a : ℤ) → unsigned_abs (neg_ℤ a) ≡ unsigned_abs a
unsigned_abs-neg a = omega (arith, ints)

-- the triangle inequality
pub unsigned_abs-add : (a b : ℤ) → unsigned_abs (a +ℤ b) ≤ unsigned_abs a + unsigned_abs b
unsigned_abs-add a b = omega (arith, ints)

pub unsigned_abs-sub : (a b : ℤ) → unsigned_abs (a -ℤ b) ≤ unsigned_abs a + unsigned_abs b
unsigned_abs-sub a b = omega (arith, ints)

pub unsigned_abs-le : (a : ℤ) (n : ℕ) → a ≤ℤ pos n → neg_ℤ a ≤ℤ pos n → unsigned_abs a ≤ n
unsigned_abs-le a n h k = omega (arith, ints, h, k)

pub le_unsigned_abs : (a : ℤ) → a ≤ℤ pos (unsigned_abs a)
le_unsigned_abs a = omega (arith, ints)

pub neg_le_unsigned_abs : (a : ℤ) → neg_ℤ a ≤ℤ pos (unsigned_abs a)
neg_le_unsigned_abs a = omega (arith, ints)

pub unsigned_abs_square : (a : ℤ) → pos (unsigned_abs a * unsigned_abs a) ≡ a *ℤ a
unsigned_abs_square (pos n) = omega (arith, ints)
unsigned_abs_square (negsuc n) = omega (arith, ints)
