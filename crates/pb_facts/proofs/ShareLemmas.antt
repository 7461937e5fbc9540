-- Shares of neighbouring days add up.
use Rattle.std.proofs.Common.{◌≡◌, ◌<◌, ◌≤◌, ◌*◌, ◌+◌, ◌/◌, ◌∙◌, ℕ, zero, suc, ℤ, pos, negsuc, ◌+ℤ◌, ◌*ℤ◌, ◌≤ℤ◌, unsigned_abs, arith, ap}
use Rattle.std.specs.Prelude.{◌-ℤ◌}
use Rattle.std.specs.Int.{int_div_euclid}
use Rattle.std.proofs.Math.Nat.{div-mul-le_self, mul-div_cancel, mul-le-mul_left, zero-div}
use Rattle.std.proofs.lemmas.Int.{ints}
use Rattle.std.proofs.lemmas.Nat.{div-mul-add, le-div}
use Rattle.pb_facts.specs.Share.{SharesLaw, share_of, up_to}

-- no days have nothing of the total
pub up_to_none : (total : ℤ) (n : ℕ) → up_to total n 0 ≡ pos 0
up_to_none total n = ap (λ (z : ℤ). int_div_euclid z (pos n)) (times_zero total) ∙ ap pos (zero-div n)
  where
    times_zero : (z : ℤ) → z *ℤ pos 0 ≡ pos 0
    times_zero z = omega (arith, ints)

-- all days have the whole total
pub up_to_all : (total : ℤ) (n : ℕ) → 0 < n → up_to total n n ≡ total
up_to_all (pos t) n some = ap pos (mul-div_cancel t some)
up_to_all (negsuc t) zero some = absurd (omega arith)
up_to_all (negsuc t) (suc n) some =
    let below : negsuc t *ℤ pos (suc n) ≡ negsuc (t * suc n + n) = omega (arith, ints) in
    ap (λ (z : ℤ). int_div_euclid z (pos (suc n))) below ∙ ap negsuc (div-mul-add t (suc n) n (omega arith))

-- a total less nothing
pub less_none : (total : ℤ) → total -ℤ pos 0 ≡ total
less_none total = omega (arith, ints)

difference : (a b c : ℤ) → (b -ℤ a) +ℤ (c -ℤ b) ≡ c -ℤ a
difference a b c = omega (arith, ints)

pub add_up : SharesLaw
add_up = record {
  neighbours = λ total n a b c. difference (up_to total n a) (up_to total n b) (up_to total n c);
  whole = λ total n some. rw (up_to_none total n, up_to_all total n some) (omega (arith, ints));
}

-- ---- no share is more than the total

div_mono : (m k n : ℕ) → 0 < n → m ≤ k → m / n ≤ k / n
div_mono m k n some le = let below = div-mul-le_self m n in le-div (m / n) k n some (omega (arith, below, le))

pub floor_mono : (z w : ℤ) (n : ℕ) → 0 < n → z ≤ℤ w → int_div_euclid z (pos n) ≤ℤ int_div_euclid w (pos n)
floor_mono (pos a) (pos b) n some le = let below = div_mono a b n some (omega (arith, ints, le)) in omega (arith, ints, below)
floor_mono (pos a) (negsuc b) n some le = absurd (omega (arith, ints, le))
floor_mono (negsuc a) (pos b) n some le = omega (arith, ints)
floor_mono (negsuc a) (negsuc b) n some le = let below = div_mono b a n some (omega (arith, ints, le)) in omega (arith, ints, below)

-- more days have more of a total that isn't negative, and less of a negative one
more_days : (t n a b : ℕ) → 0 < n → a ≤ b → up_to (pos t) n a ≤ℤ up_to (pos t) n b
more_days t n a b some le =
    let product = mul-le-mul_left t le in
    floor_mono (pos t *ℤ pos a) (pos t *ℤ pos b) n some (omega (arith, ints, product))

fewer_days : (t n a b : ℕ) → 0 < n → a ≤ b → up_to (negsuc t) n b ≤ℤ up_to (negsuc t) n a
fewer_days t n a b some le =
    let product = mul-le-mul_left (suc t) le in
    floor_mono (negsuc t *ℤ pos b) (negsuc t *ℤ pos a) n some (omega (arith, ints, product))

-- a share has the sign of the total, and isn't more than it
pub record IsPart (total share : ℤ) : Type 0 where
  pub not_negative : pos 0 ≤ℤ total → pos 0 ≤ℤ share
  pub no_more : unsigned_abs share ≤ unsigned_abs total

pub part : (total : ℤ) (n a b : ℕ) → 0 < n → a ≤ b → b ≤ n → IsPart total (share_of total n a b)
part (pos t) n a b some order within =
    let none = up_to_none (pos t) n in
    let all = up_to_all (pos t) n some in
    let start = more_days t n 0 a some (omega arith) in
    let between = more_days t n a b some order in
    let end = more_days t n b n some within in
    record { not_negative = λ _. omega (arith, ints, between); no_more = omega (arith, ints, none, all, start, between, end) }
part (negsuc t) n a b some order within =
    let none = up_to_none (negsuc t) n in
    let all = up_to_all (negsuc t) n some in
    let start = fewer_days t n 0 a some (omega arith) in
    let between = fewer_days t n a b some order in
    let end = fewer_days t n b n some within in
    record { not_negative = λ is. absurd (omega (arith, ints, is)); no_more = omega (arith, ints, none, all, start, between, end) }
