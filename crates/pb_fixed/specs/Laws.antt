-- Statement. What follows from the definitions of quotients, roots and blocks.
use Rattle.std.specs.Prelude.{◌≡◌, ℕ, ◌-◌, ◌*◌, ◌^◌, ◌<◌, ◌≤◌, ℤ, pos, neg_ℤ, ◌+ℤ◌, ◌-ℤ◌, ◌*ℤ◌, ◌≤ℤ◌, ◌<ℤ◌, List}
use Rattle.pb_fixed.specs.Quotients.{IsFloor, IsCeiling, IsNearest, floor_div, ceil_div, nearest_div}
use Rattle.pb_fixed.specs.Roots.{IsRootFloor, IsRootCeiling, IsScaledRoot, root_floor_of, root_ceil_of, scaled_root_of}
use Rattle.pb_fixed.specs.Blocks.{FitBlocks, IsBlockExponent, block_exponent_of}

-- a way of rounding quotients: it is exact at multiples, keeps the order, and shifts with multiples of the divisor
pub record RoundsQuotients (rounded : ℤ → ℤ → ℤ) : Type 0 where
  pub multiple : (k d : ℤ) → pos 0 <ℤ d → rounded (k *ℤ d) d ≡ k
  pub mono : (n m d : ℤ) → pos 0 <ℤ d → n ≤ℤ m → rounded n d ≤ℤ rounded m d
  pub from : (k n d : ℤ) → pos 0 <ℤ d → (k *ℤ d) ≤ℤ n → k ≤ℤ rounded n d
  pub to : (k n d : ℤ) → pos 0 <ℤ d → n ≤ℤ (k *ℤ d) → rounded n d ≤ℤ k
  pub shift : (k n d : ℤ) → pos 0 <ℤ d → rounded (n +ℤ (k *ℤ d)) d ≡ rounded n d +ℤ k

-- floor, nearest and ceiling are what their names say, are unique, and are in this order
pub record AreDirected : Type 0 where
  pub floor : (n d : ℤ) → pos 0 <ℤ d → IsFloor n d (floor_div n d)
  pub floor_only : (n d q : ℤ) → pos 0 <ℤ d → IsFloor n d q → q ≡ floor_div n d
  pub ceiling : (n d : ℤ) → pos 0 <ℤ d → IsCeiling n d (ceil_div n d)
  pub ceiling_only : (n d q : ℤ) → pos 0 <ℤ d → IsCeiling n d q → q ≡ ceil_div n d
  pub nearest : (n d : ℤ) → pos 0 <ℤ d → IsNearest n d (nearest_div n d)
  pub nearest_only : (n d q : ℤ) → pos 0 <ℤ d → IsNearest n d q → q ≡ nearest_div n d
  pub floor_to_nearest : (n d : ℤ) → pos 0 <ℤ d → floor_div n d ≤ℤ nearest_div n d
  pub nearest_to_ceiling : (n d : ℤ) → pos 0 <ℤ d → nearest_div n d ≤ℤ ceil_div n d
  pub ceiling_to_floor : (n d : ℤ) → pos 0 <ℤ d → ceil_div n d ≤ℤ (floor_div n d +ℤ pos 1)
  -- the nearest quotient by an even divisor, such as a power of two from 2 on: half the divisor is added, and the quotient
  -- rounded down
  pub nearest_even : (n h : ℤ) → pos 0 <ℤ h → nearest_div n (pos 2 *ℤ h) ≡ floor_div (n +ℤ h) (pos 2 *ℤ h)
  pub nearest_power : (n : ℤ) (k : ℕ) → 0 < k → nearest_div n (pos (2 ^ k)) ≡ floor_div (n +ℤ pos (2 ^ (k - 1))) (pos (2 ^ k))
  -- twice the error of a nearest quotient, in units of 1/d, is above -d and at most d
  pub error_below : (n d : ℤ) → pos 0 <ℤ d → neg_ℤ d <ℤ ((pos 2 *ℤ (nearest_div n d *ℤ d)) -ℤ (pos 2 *ℤ n))
  pub error_above : (n d : ℤ) → pos 0 <ℤ d → ((pos 2 *ℤ (nearest_div n d *ℤ d)) -ℤ (pos 2 *ℤ n)) ≤ℤ d

-- the roots are what their names say, are unique, and keep the order
pub record AreRoots : Type 0 where
  pub floor : (n : ℕ) → IsRootFloor n (root_floor_of n)
  pub floor_only : (n r : ℕ) → IsRootFloor n r → r ≡ root_floor_of n
  pub floor_greatest : (n s : ℕ) → s * s ≤ n → s ≤ root_floor_of n
  pub floor_mono : (n m : ℕ) → n ≤ m → root_floor_of n ≤ root_floor_of m
  pub ceiling : (n : ℕ) → IsRootCeiling n (root_ceil_of n)
  pub ceiling_only : (n r : ℕ) → IsRootCeiling n r → r ≡ root_ceil_of n
  pub ceiling_mono : (n m : ℕ) → n ≤ m → root_ceil_of n ≤ root_ceil_of m
  pub scaled : (v : ℤ) → pos 0 ≤ℤ v → IsScaledRoot v (scaled_root_of v)
  pub scaled_only : (v r : ℤ) → pos 0 ≤ℤ v → IsScaledRoot v r → r ≡ scaled_root_of v
  pub scaled_mono : (v w : ℤ) → pos 0 ≤ℤ v → v ≤ℤ w → scaled_root_of v ≤ℤ scaled_root_of w

-- the block exponent is the least that fits, and is unique, and each greater number fits too
pub record AreBlockExponents : Type 0 where
  pub exponent : (items : List ℤ) → IsBlockExponent items (block_exponent_of items)
  pub only : (items : List ℤ) (h : ℕ) → IsBlockExponent items h → h ≡ block_exponent_of items
  pub fit_above : (items : List ℤ) (h : ℕ) → block_exponent_of items ≤ h → FitBlocks h items
