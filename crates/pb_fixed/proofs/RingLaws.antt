-- The laws of the ring of whole numbers.
use Rattle.std.proofs.Common.{◌≡◌, ◌∙◌, ℕ, ◌*◌, ℤ, pos, ◌+ℤ◌, ◌*ℤ◌, sym, ap, arith}
use Rattle.std.proofs.lemmas.Int.{ints}
use borrow.Author.Differences.{up, down, sum_is_lem, product_is}
pub use Rattle.std.proofs.Math.IntN.{+ℤ_comm as add_comm, +ℤ_assoc as add_assoc, +ℤ_idl as zero_add, +ℤ_idr as add_zero, *ℤ_comm as mul_comm, zero-*ℤ as zero_mul, *ℤ-zero as mul_zero, *ℤ-one as mul_one}

pub one_mul : (a : ℤ) → pos 1 *ℤ a ≡ a
one_mul a = omega (arith, ints)

pub add_mul : (a b c : ℤ) → (a +ℤ b) *ℤ c ≡ (a *ℤ c) +ℤ (b *ℤ c)
add_mul a b c =
    let s = sum_is_lem a b in
    omega (arith, ints, ap (λ (x : ℕ). x * up c) s, ap (λ (x : ℕ). x * down c) s)

pub mul_add : (a b c : ℤ) → a *ℤ (b +ℤ c) ≡ (a *ℤ b) +ℤ (a *ℤ c)
mul_add a b c =
    let s = sum_is_lem b c in
    omega (arith, ints, ap (λ (x : ℕ). x * up a) s, ap (λ (x : ℕ). x * down a) s)

pub mul_assoc : (a b c : ℤ) → (a *ℤ b) *ℤ c ≡ a *ℤ (b *ℤ c)
mul_assoc a b c =
    let p = product_is a b in
    let q = product_is b c in
    omega (
      arith,
      ints,
      ap (λ (x : ℕ). x * up c) p.0,
      ap (λ (x : ℕ). x * down c) p.0,
      ap (λ (x : ℕ). x * up c) p.1,
      ap (λ (x : ℕ). x * down c) p.1,
      ap (λ (x : ℕ). up a * x) q.0,
      ap (λ (x : ℕ). down a * x) q.0,
      ap (λ (x : ℕ). up a * x) q.1,
      ap (λ (x : ℕ). down a * x) q.1,
    )

-- a factor goes past another
pub mul_swap : (a b c : ℤ) → a *ℤ (b *ℤ c) ≡ b *ℤ (a *ℤ c)
mul_swap a b c = sym (mul_assoc a b c) ∙ ap (λ (x : ℤ). x *ℤ c) (mul_comm a b) ∙ mul_assoc b a c

pub mul_pairs : (a b c d : ℤ) → (a *ℤ b) *ℤ (c *ℤ d) ≡ (a *ℤ c) *ℤ (b *ℤ d)
mul_pairs a b c d = mul_assoc a b (c *ℤ d) ∙ ap (λ (x : ℤ). a *ℤ x) (mul_swap b c d) ∙ sym (mul_assoc a c (b *ℤ d))
