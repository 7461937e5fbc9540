-- Statement. Sums over lists of signed whole numbers.
use Rattle.std.specs.Prelude.{ℕ, zero, suc, ℤ, pos, ◌+ℤ◌, ◌≢◌, List, [], ◌∷◌, get_or}
use Rattle.std.specs.List.{AllByRecursion}

-- the sum of f over the items of a list
abbrev pub sum_over : {A : Type 0} → (A → ℤ) → List A → ℤ
sum_over f [] = pos 0
sum_over f (x ∷ xs) = f x +ℤ sum_over f xs

-- the sum of a list
abbrev pub total : List ℤ → ℤ
total xs = sum_over (λ (x : ℤ). x) xs

-- the sum of f over 0, 1, .. up to but not including n
abbrev pub sum_below : (ℕ → ℤ) → ℕ → ℤ
sum_below f zero = pos 0
sum_below f (suc n) = sum_below f n +ℤ f n

-- the number at a place of a list, or 0 past its end
abbrev pub item : List ℤ → ℕ → ℤ
item xs j = get_or xs j (pos 0)

-- no two items of a list have the same key
abbrev pub AreDistinctBy : {A : Type 0} → (A → ℕ) → List A → Type 0
AreDistinctBy key [] = Unit {0}
AreDistinctBy key (x ∷ xs) = AllByRecursion (λ y. key y ≢ key x) xs × AreDistinctBy key xs
