-- Block exponents, sums of squares in blocks, half widths.
use Rattle.std.specs.Prelude.{true, int_le}
use Rattle.std.specs.List.{AllByRecursion}
use Rattle.std.proofs.Common.{◌≡◌, ◌∙◌, ℕ, zero, suc, ◌+◌, ◌-◌, ◌*◌, ◌^◌, ◌<◌, ◌≤◌, max, ℤ, pos, ◌*ℤ◌, ◌≤ℤ◌, ◌<ℤ◌, unsigned_abs, List, [], ◌∷◌, get_or, inl, inr, refl, sym, ap, subst, arith}
use Rattle.std.proofs.lemmas.Bool.{and_parts, cases_lt}
use Rattle.std.proofs.lemmas.Int.{ints}
use Rattle.std.proofs.lemmas.Nat.{pow_pos, pow-add}
use Rattle.std.proofs.Math.Nat.{mul-le-mul, pow-le-pow_right}
use Rattle.pb_fixed.specs.Sums.{sum_over}
use Rattle.pb_fixed.proofs.Lists.{All-from_recursion, AllByRecursion-from_all}
use Rattle.pb_fixed.proofs.Order.{le_trans, mul_mono_both, mul_nonneg, square_mono}
use Rattle.pb_fixed.proofs.RingLaws.{mul_assoc}
use Rattle.pb_fixed.specs.Quotients.{IsCeiling}
use Rattle.pb_fixed.specs.Blocks.{FitBlocks, IsBlockExponent, block_exponent_of, blocks_of, fit_blocks, half_width_of}
use Rattle.pb_fixed.proofs.QuotientLaws.{ceiling_from, ceiling_only, ceiling_scaled, ceiling_to}
use Rattle.pb_fixed.proofs.SearchLaws.{least_upto-least, least_upto-passes}

-- ---- powers of two
pub pow_mono : (i j : ℕ) → i ≤ j → 2 ^ i ≤ 2 ^ j
pow_mono i j le = pow-le-pow_right {n = 2} (omega arith) {i = i} {j = j} le

-- a power is below another only if its exponent is
pow_below : (i j : ℕ) → 2 ^ i < 2 ^ j → i < j
pow_below i j less = elim (cases_lt i j) [
  | inl lt ↦ lt
  | inr ge ↦ let m = pow_mono j i ge in absurd (omega (arith, m, less))
]

-- a number is below its power of two
own_power : (n : ℕ) → n < 2 ^ n
own_power zero = omega arith
own_power (suc n) = let h = own_power n in let e = pow-add 2 1 n in omega (arith, h, e)

le_true : (a b : ℤ) → a ≤ℤ b → int_le a b ≡ true
le_true a b h = grind (arith, ints)

-- ---- the exponent of a list
fits_from : (h : ℕ) (items : List ℤ) → fit_blocks items h ≡ true → AllByRecursion (λ a. a ≤ℤ pos (2 ^ (57 + h))) items
fits_from h [] pass = tt
fits_from h (a ∷ items) pass = let p = and_parts (int_le a (pos (2 ^ (57 + h)))) (fit_blocks items h) pass in (omega (arith, ints, p.0), fits_from h items p.1)

fits_to : (h : ℕ) (items : List ℤ) → AllByRecursion (λ a. a ≤ℤ pos (2 ^ (57 + h))) items → fit_blocks items h ≡ true
fits_to h [] each = refl
fits_to h (a ∷ items) each = let first : int_le a (pos (2 ^ (57 + h))) ≡ true = le_true a _ each.0 in rw first (fits_to h items each.1)

-- each item is below two to the power of the sum of all
sizes_nonneg : (items : List ℤ) → pos 0 ≤ℤ sum_over (λ a. pos (unsigned_abs a)) items
sizes_nonneg [] = omega (arith, ints)
sizes_nonneg (a ∷ items) = let h = sizes_nonneg items in omega (arith, ints, h)

below_sum : (n : ℕ) (items : List ℤ) → sum_over (λ a. pos (unsigned_abs a)) items ≤ℤ pos n → AllByRecursion (λ a. a ≤ℤ pos (2 ^ (57 + n))) items
below_sum n [] h = tt
below_sum n (a ∷ items) h =
    let rest = sizes_nonneg items in
    let size = own_power n in
    let m = pow_mono n (57 + n) (omega arith) in
    (omega (arith, ints, h, rest, size, m), below_sum n items (omega (arith, ints, h)))

sum_fits : (items : List ℤ) → fit_blocks items (unsigned_abs (sum_over (λ a. pos (unsigned_abs a)) items)) ≡ true
sum_fits items =
    let n = unsigned_abs (sum_over (λ a. pos (unsigned_abs a)) items) in
    fits_to n items (below_sum n items (omega (arith, ints)))

pub FitBlocks-mono : (h k : ℕ) (items : List ℤ) → h ≤ k → FitBlocks h items → FitBlocks k items
FitBlocks-mono h k items le fit j d lt = let m = pow_mono (57 + h) (57 + k) (omega (arith, le)) in let f = fit j d lt in omega (arith, ints, m, f)

pub block_exponent_is : (items : List ℤ) → IsBlockExponent items (block_exponent_of items)
block_exponent_is items =
    let n = unsigned_abs (sum_over (λ a. pos (unsigned_abs a)) items) in
    record {
      fit = All-from_recursion _ items (fits_from (block_exponent_of items) items (least_upto-passes (fit_blocks items) n n (omega arith) (sum_fits items)));
      least = λ k fit. elim (cases_lt n k) [
        | inl less ↦ let most = least_upto-least (fit_blocks items) n n (omega arith) (sum_fits items) in omega (arith, most, less)
        | inr le ↦ least_upto-least (fit_blocks items) n k le (fits_to k items (AllByRecursion-from_all _ items fit))
      ];
    }

pub block_exponent_unique : (items : List ℤ) (h k : ℕ) → IsBlockExponent items h → IsBlockExponent items k → h ≡ k
block_exponent_unique items h k p q = let a = p.least k q.fit in let b = q.least h p.fit in omega (arith, a, b)

pub block_exponent_only : (items : List ℤ) (h : ℕ) → IsBlockExponent items h → h ≡ block_exponent_of items
block_exponent_only items h p = block_exponent_unique items h (block_exponent_of items) p (block_exponent_is items)

pub FitBlocks-above : (items : List ℤ) (h : ℕ) → block_exponent_of items ≤ h → FitBlocks h items
FitBlocks-above items h le = FitBlocks-mono (block_exponent_of items) h items le (block_exponent_is items).fit

-- ---- the exponent of one item, by the binary logarithm of the number below it
-- a loop's step: the greatest exponent so far
pub fit_more : (items : List ℤ) (i most next e : ℕ) → next ≡ max e most → ((j : ℕ) (d : ℤ) → j < i → get_or items j d ≤ℤ pos (2 ^ (57 + most)))
    → ((d : ℤ) → get_or items i d ≤ℤ pos (2 ^ (57 + e))) → (j : ℕ) (d : ℤ) → j < i + 1 → get_or items j d ≤ℤ pos (2 ^ (57 + next))
fit_more items i most next e is before here j d lt =
    let m = pow_mono (57 + most) (57 + next) (omega (arith, is)) in
    let n = pow_mono (57 + e) (57 + next) (omega (arith, is)) in
    elim (cases_lt j i) [
      | inl less ↦ let h = before j d less in omega (arith, ints, m, h)
      | inr ge ↦
          let same : i ≡ j = omega (arith, ge, lt) in
          let h = here d in
          subst (λ (k : ℕ). get_or items k d ≤ℤ pos (2 ^ (57 + next))) same (omega (arith, ints, n, h))
    ]

pub exponent_low : (item : ℤ) (n e : ℕ) → item ≡ pos (n + 1) → pos (2 ^ 57) <ℤ item → n < 2 * 2 ^ e → 57 ≤ e
exponent_low item n e is above next =
    let twice = pow-add 2 1 e in
    let less = pow_below 57 (1 + e) (omega (arith, ints, is, above, next, twice)) in
    omega (arith, less)

pub exponent_fits : (item : ℤ) (n e : ℕ) → item ≡ pos (n + 1) → pos (2 ^ 57) <ℤ item → n < 2 * 2 ^ e → item ≤ℤ pos (2 ^ (57 + (e - 56)))
exponent_fits item n e is above next =
    let low = exponent_low item n e is above next in
    let twice = pow-add 2 1 e in
    let same : 1 + e ≡ 57 + (e - 56) = omega (arith, low) in
    subst (λ (x : ℕ). item ≤ℤ pos (2 ^ x)) same (omega (arith, ints, is, next, twice))

pub exponent_least : (item : ℤ) (n e k : ℕ) → item ≡ pos (n + 1) → 2 ^ e ≤ n → item ≤ℤ pos (2 ^ (57 + k)) → e - 56 ≤ k
exponent_least item n e k is low fits =
    let less = pow_below e (57 + k) (omega (arith, ints, is, low, fits)) in
    omega (arith, less)

-- ---- an item in blocks
power_positive : (h : ℕ) → pos 0 <ℤ pos (2 ^ h)
power_positive h = let p = pow_pos h in omega (arith, ints, p)

pub blocks_nonneg : (h : ℕ) (a : ℤ) → pos 0 ≤ℤ a → pos 0 ≤ℤ blocks_of h a
blocks_nonneg h a a_pos = ceiling_from (pos 0) a (pos (2 ^ h)) (power_positive h) (omega (arith, ints, a_pos))

pub blocks_width : (h : ℕ) (a : ℤ) → a ≤ℤ pos (2 ^ (57 + h)) → blocks_of h a ≤ℤ pos (2 ^ 57)
blocks_width h a le =
    let e = pow-add 2 57 h in
    ceiling_to (pos (2 ^ 57)) a (pos (2 ^ h)) (power_positive h) (omega (arith, ints, le, e))

pub square_width : (n : ℤ) → pos 0 ≤ℤ n → n ≤ℤ pos (2 ^ 57) → (n *ℤ n) ≤ℤ pos (2 ^ 114)
square_width n n_pos le = square_mono n (pos (2 ^ 57)) n_pos le

-- ---- half widths
pub half_width_is : (root : ℤ) (g h : ℕ) (q : ℤ) → h ≤ 40 → IsCeiling (root *ℤ pos g) (pos (2 ^ (40 - h))) q → IsCeiling (root *ℤ pos (g * 2 ^ h)) (pos (2 ^ 40)) q
half_width_is root g h q le c =
    let whole : (40 - h) + h ≡ 40 = omega (arith, le) in
    let split : 2 ^ (40 - h) * 2 ^ h ≡ 2 ^ 40 = sym (pow-add 2 (40 - h) h) ∙ ap (λ (x : ℕ). 2 ^ x) whole in
    let scaled = ceiling_scaled (pos (2 ^ h)) (root *ℤ pos g) (pos (2 ^ (40 - h))) q (power_positive h) c in
    subst (λ (x : ℤ). IsCeiling x (pos (2 ^ 40)) q) (mul_assoc root (pos g) (pos (2 ^ h)))
    (subst (λ (x : ℕ). IsCeiling ((root *ℤ pos g) *ℤ pos (2 ^ h)) (pos x) q) split scaled)

pub half_width_only : (root : ℤ) (g h : ℕ) (q : ℤ) → h ≤ 40 → IsCeiling (root *ℤ pos g) (pos (2 ^ (40 - h))) q → q ≡ half_width_of root g h
half_width_only root g h q le c = ceiling_only (root *ℤ pos (g * 2 ^ h)) (pos (2 ^ 40)) q (omega (arith, ints)) (half_width_is root g h q le c)

half_product : (root : ℤ) (g h most : ℕ) → pos 0 ≤ℤ root → root ≤ℤ pos (2 ^ 63) → g ≤ most → h ≤ 32 → (root *ℤ pos (g * 2 ^ h)) ≤ℤ (pos (2 ^ 63) *ℤ pos (most * 2 ^ 32))
half_product root g h most root_pos root_le g_le h_le =
    let m = mul-le-mul {n₁ = g} {m₁ = 2 ^ h} {n₂ = most} {m₂ = 2 ^ 32} g_le (pow_mono h 32 h_le) in
    mul_mono_both root (pos (2 ^ 63)) (pos (g * 2 ^ h)) (pos (most * 2 ^ 32)) root_le (omega (arith, ints, m)) (omega (arith, ints)) (omega (arith, ints))

pub half_width_nonneg : (root : ℤ) (g h : ℕ) → pos 0 ≤ℤ root → pos 0 ≤ℤ half_width_of root g h
half_width_nonneg root g h root_pos =
    ceiling_from (pos 0) (root *ℤ pos (g * 2 ^ h)) (pos (2 ^ 40)) (omega (arith, ints)) (mul_nonneg root (pos (g * 2 ^ h)) root_pos (omega (arith, ints)))

pub half_width_width : (root : ℤ) (g h : ℕ) → pos 0 ≤ℤ root → root ≤ℤ pos (2 ^ 63) → g ≤ 2 ^ 63 → h ≤ 32 → half_width_of root g h ≤ℤ pos (2 ^ 118)
half_width_width root g h root_pos root_le g_le h_le =
    ceiling_to (pos (2 ^ 118)) (root *ℤ pos (g * 2 ^ h)) (pos (2 ^ 40)) (omega (arith, ints)) (half_product root g h (2 ^ 63) root_pos root_le g_le h_le)

pub half_width_narrow : (root : ℤ) (g h : ℕ) → pos 0 ≤ℤ root → root ≤ℤ pos (2 ^ 63) → g < 2 ^ 63 → h ≤ 32 → half_width_of root g h <ℤ pos (2 ^ 118)
half_width_narrow root g h root_pos root_le g_lt h_le =
    let product = half_product root g h (2 ^ 63 - 1) root_pos root_le (omega (arith, g_lt)) h_le in
    let below = ceiling_to (pos (2 ^ 118 - 1)) (root *ℤ pos (g * 2 ^ h)) (pos (2 ^ 40)) (omega (arith, ints)) (le_trans _ _ _ product (omega (arith, ints))) in
    omega (arith, ints, below)
