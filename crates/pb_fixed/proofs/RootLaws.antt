-- Square roots.
use Rattle.std.specs.Prelude.{Bool, true, nat_le}
use Rattle.std.proofs.Common.{◌≡◌, ℕ, zero, suc, ◌+◌, ◌*◌, ◌^◌, ◌<◌, ◌≤◌, ℤ, pos, negsuc, ◌≤ℤ◌, ◌<ℤ◌, inl, inr, ap, arith}
use Rattle.std.proofs.lemmas.Bool.{cases_lt, le-leb, leb-true}
use Rattle.std.proofs.lemmas.Int.{ints}
use Rattle.std.proofs.Math.Nat.{mul-le-mul}
use Rattle.pb_fixed.proofs.Order.{root_strict}
use Rattle.pb_fixed.specs.Roots.{IsRootFloor, IsRootCeiling, IsScaledRoot, root_floor_of, root_ceil_of, scaled_root_of}
use Rattle.pb_fixed.proofs.SearchLaws.{greatest_upto-greatest, greatest_upto-passes, least_upto-least, least_upto-passes}

-- a number is no greater than another if its square is below the square of the next
below_next : (s r n : ℕ) → s * s ≤ n → n < (r + 1) * (r + 1) → s ≤ r
below_next s r n low high = elim (cases_lt r s) [
  | inl less ↦
      let m = mul-le-mul {n₁ = r + 1} {m₁ = r + 1} {n₂ = s} {m₂ = s} (omega (arith, less)) (omega (arith, less)) in
      absurd (omega (arith, m, low, high))
  | inr le ↦ le
]

-- a number is at most its square
own_square : (n : ℕ) → n ≤ n * n
own_square zero = omega arith
own_square (suc n) = omega arith

-- ---- rounded down
pub root_floor_is : (n : ℕ) → IsRootFloor n (root_floor_of n)
root_floor_is n =
    let pass : ℕ → Bool = λ r. nat_le (r * r) n in
    let r = root_floor_of n in
    let below : r * r ≤ n = leb-true (r * r) n (greatest_upto-passes pass n (le-leb (0 * 0) n (omega arith))) in
    record {
      below = below;
      next = elim (cases_lt n ((r + 1) * (r + 1))) [
        | inl less ↦ less
        | inr le ↦
            let small : r + 1 ≤ n = omega (arith, own_square (r + 1), le) in
            let greatest = greatest_upto-greatest pass n (r + 1) small (le-leb ((r + 1) * (r + 1)) n le) in
            absurd (omega (arith, greatest))
      ];
    }

pub root_floor_greatest : (n r s : ℕ) → IsRootFloor n r → s * s ≤ n → s ≤ r
root_floor_greatest n r s h le = below_next s r n le h.next

pub root_floor_unique : (n r s : ℕ) → IsRootFloor n r → IsRootFloor n s → r ≡ s
root_floor_unique n r s h k =
    let a = root_floor_greatest n s r k h.below in
    let b = root_floor_greatest n r s h k.below in
    omega (arith, a, b)

pub root_floor_only : (n r : ℕ) → IsRootFloor n r → r ≡ root_floor_of n
root_floor_only n r h = root_floor_unique n r (root_floor_of n) h (root_floor_is n)

pub root_floor_mono : (n m : ℕ) → n ≤ m → root_floor_of n ≤ root_floor_of m
root_floor_mono n m le =
    let below = (root_floor_is n).below in
    root_floor_greatest m (root_floor_of m) (root_floor_of n) (root_floor_is m) (omega (arith, below, le))

-- ---- rounded up
pub root_ceil_is : (n : ℕ) → IsRootCeiling n (root_ceil_of n)
root_ceil_is n =
    let pass : ℕ → Bool = λ r. nat_le n (r * r) in
    let enough : pass n ≡ true = le-leb n (n * n) (own_square n) in
    let r = root_ceil_of n in
    record {
      above = leb-true n (r * r) (least_upto-passes pass n n (omega arith) enough);
      least = λ s h. elim (cases_lt n s) [
        | inl less ↦ let most = least_upto-least pass n n (omega arith) enough in omega (arith, most, less)
        | inr le ↦ least_upto-least pass n s le (le-leb n (s * s) h)
      ];
    }

pub root_ceil_unique : (n r s : ℕ) → IsRootCeiling n r → IsRootCeiling n s → r ≡ s
root_ceil_unique n r s h k =
    let a = h.least s k.above in
    let b = k.least r h.above in
    omega (arith, a, b)

pub root_ceil_only : (n r : ℕ) → IsRootCeiling n r → r ≡ root_ceil_of n
root_ceil_only n r h = root_ceil_unique n r (root_ceil_of n) h (root_ceil_is n)

pub root_ceil_mono : (n m : ℕ) → n ≤ m → root_ceil_of n ≤ root_ceil_of m
root_ceil_mono n m le =
    let above = (root_ceil_is m).above in
    (root_ceil_is n).least (root_ceil_of m) (omega (arith, above, le))

-- ---- in units of 2 ^ -20
pub scaled_root_is : (v : ℤ) → pos 0 ≤ℤ v → IsScaledRoot v (scaled_root_of v)
scaled_root_is (pos v) h =
    let r = root_floor_is (v * 2 ^ 40) in
    let below = r.below in
    let next = r.next in
    record { nonneg = omega (arith, ints); below = omega (arith, ints, below); next = omega (arith, ints, next) }
scaled_root_is (negsuc v) h = absurd (omega (arith, ints))

pub scaled_root_only : (v r : ℤ) → pos 0 ≤ℤ v → IsScaledRoot v r → r ≡ scaled_root_of v
scaled_root_only (pos v) (pos r) v_pos h =
    let below = h.below in
    let next = h.next in
    ap pos (root_floor_only (v * 2 ^ 40) r (record { below = omega (arith, ints, below); next = omega (arith, ints, next) }))
scaled_root_only (pos v) (negsuc r) v_pos h = absurd (omega (arith, ints, h.nonneg))
scaled_root_only (negsuc v) r v_pos h = absurd (omega (arith, ints, v_pos))

pub scaled_root_mono : (v w : ℤ) → pos 0 ≤ℤ v → v ≤ℤ w → scaled_root_of v ≤ℤ scaled_root_of w
scaled_root_mono (pos v) (pos w) h le = let m = root_floor_mono (v * 2 ^ 40) (w * 2 ^ 40) (omega (arith, ints, le)) in omega (arith, ints, m)
scaled_root_mono (pos v) (negsuc w) h le = absurd (omega (arith, ints, le))
scaled_root_mono (negsuc v) w h le = absurd (omega (arith, ints, h))

pub scaled_root_width : (v r : ℤ) → IsScaledRoot v r → v <ℤ pos (2 ^ 86) → r <ℤ pos (2 ^ 63)
scaled_root_width v r h le = let below = h.below in root_strict r (pos (2 ^ 63)) (omega (arith, ints)) (omega (arith, ints, below, le))
