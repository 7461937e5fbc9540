-- A sum over some places of a list is at most the sum of the list.
use Rattle.std.proofs.Common.{◌≡◌, ◌≢◌, ℕ, zero, suc, ℤ, pos, ◌+ℤ◌, ◌≤ℤ◌, List, [], ◌∷◌, refl, ap, ap₂, arith}
use Rattle.std.specs.List.{AllByRecursion}
use Rattle.std.proofs.lemmas.Int.{ints}
use Rattle.pb_fixed.specs.Sums.{sum_over, total, item, AreDistinctBy}
use Rattle.pb_fixed.proofs.Sums.{sum_over-nonneg}

-- the list with 0 at a place
abbrev without : List ℤ → ℕ → List ℤ
without [] j = []
without (x ∷ xs) zero = pos 0 ∷ xs
without (x ∷ xs) (suc j) = x ∷ without xs j

without-total : (xs : List ℤ) (j : ℕ) → item xs j +ℤ total (without xs j) ≡ total xs
without-total [] j = refl
without-total (x ∷ xs) zero = omega (arith, ints)
without-total (x ∷ xs) (suc j) = let h = without-total xs j in omega (arith, ints, h)

without-nonneg : (xs : List ℤ) (j : ℕ) → AllByRecursion (λ x. pos 0 ≤ℤ x) xs → AllByRecursion (λ x. pos 0 ≤ℤ x) (without xs j)
without-nonneg [] j h = h
without-nonneg (x ∷ xs) zero h = (omega (arith, ints), h.1)
without-nonneg (x ∷ xs) (suc j) h = (h.0, without-nonneg xs j h.1)

item-without : (xs : List ℤ) (j k : ℕ) → k ≢ j → item (without xs j) k ≡ item xs k
item-without [] j k ne = refl
item-without (x ∷ xs) zero zero ne = absurd (ne refl)
item-without (x ∷ xs) zero (suc k) ne = refl
item-without (x ∷ xs) (suc j) zero ne = refl
item-without (x ∷ xs) (suc j) (suc k) ne = item-without xs j k (λ e. ne (ap suc e))

without-elsewhere : {A : Type 0} (key : A → ℕ) (xs : List ℤ) (j : ℕ) (some : List A) → AllByRecursion (λ m. key m ≢ j) some
    → sum_over (λ m. item (without xs j) (key m)) some ≡ sum_over (λ m. item xs (key m)) some
without-elsewhere key xs j [] h = refl
without-elsewhere key xs j (m ∷ some) h = ap₂ (λ (x y : ℤ). x +ℤ y) (item-without xs j (key m) h.0) (without-elsewhere key xs j some h.1)

pub partial_sum : {A : Type 0} (key : A → ℕ) (xs : List ℤ) (some : List A) → AllByRecursion (λ x. pos 0 ≤ℤ x) xs → AreDistinctBy key some
    → sum_over (λ m. item xs (key m)) some ≤ℤ total xs
partial_sum key xs [] h d = sum_over-nonneg (λ (x : ℤ). x) xs h
partial_sum key xs (m ∷ some) h d =
    let rest = partial_sum key (without xs (key m)) some (without-nonneg xs (key m) h) d.1 in
    let same = without-elsewhere key xs (key m) some d.0 in
    let sum = without-total xs (key m) in
    omega (arith, ints, rest, same, sum)
