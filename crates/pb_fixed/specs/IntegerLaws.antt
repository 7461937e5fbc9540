-- Statement. What is proved about signed whole numbers and their sums, law by law.
use Rattle.std.specs.Prelude.{◌≡◌, ℕ, ◌+◌, ◌*◌, ◌≤◌, ℤ, pos, neg_ℤ, ◌+ℤ◌, ◌*ℤ◌, ◌≤ℤ◌, ◌<ℤ◌, List, length, unsigned_abs}
use Rattle.std.specs.List.{AllByRecursion}
use Rattle.pb_fixed.specs.Sums.{sum_over, total, item, AreDistinctBy}

-- whole numbers with their sum and product are a commutative ring
pub record IsRing : Type 0 where
  pub add_assoc : (a b c : ℤ) → (a +ℤ b) +ℤ c ≡ a +ℤ (b +ℤ c)
  pub add_comm : (a b : ℤ) → a +ℤ b ≡ b +ℤ a
  pub zero_add : (a : ℤ) → pos 0 +ℤ a ≡ a
  pub neg_add : (a : ℤ) → neg_ℤ a +ℤ a ≡ pos 0
  pub mul_assoc : (a b c : ℤ) → (a *ℤ b) *ℤ c ≡ a *ℤ (b *ℤ c)
  pub mul_comm : (a b : ℤ) → a *ℤ b ≡ b *ℤ a
  pub one_mul : (a : ℤ) → pos 1 *ℤ a ≡ a
  pub mul_add : (a b c : ℤ) → a *ℤ (b +ℤ c) ≡ (a *ℤ b) +ℤ (a *ℤ c)

-- The order is compatible with the ring: a factor that isn't negative keeps it, a positive factor cancels, squares aren't negative,
-- and a number whose square is at most the square of a number that isn't negative is at most this number.
pub record IsOrderedRing : Type 0 where
  pub mul_mono : (a b c : ℤ) → a ≤ℤ b → pos 0 ≤ℤ c → (a *ℤ c) ≤ℤ (b *ℤ c)
  pub mul_cancel : (a b c : ℤ) → (a *ℤ c) ≤ℤ (b *ℤ c) → pos 0 <ℤ c → a ≤ℤ b
  pub square_nonneg : (a : ℤ) → pos 0 ≤ℤ (a *ℤ a)
  pub root_mono : (a b : ℤ) → pos 0 ≤ℤ b → (a *ℤ a) ≤ℤ (b *ℤ b) → a ≤ℤ b

-- the triangle inequality, for two numbers and for a sum over a list
pub record HasTriangle (A : Type 0) : Type 0 where
  pub of_two : (a b : ℤ) → unsigned_abs (a +ℤ b) ≤ unsigned_abs a + unsigned_abs b
  pub of_sum : (f : A → ℤ) (xs : List A) → pos (unsigned_abs (sum_over f xs)) ≤ℤ sum_over (λ x. pos (unsigned_abs (f x))) xs
  pub of_bound : (f : A → ℤ) (bound : ℕ) (xs : List A) → AllByRecursion (λ x. unsigned_abs (f x) ≤ bound) xs → unsigned_abs (sum_over f xs) ≤ length xs * bound

-- what a weighted sum of squares is made of: a positive variance, and a weight that is some number over the variance
pub record IsWeighed {A : Type 0} (variance weight : A → ℤ) (l : ℤ) (x : A) : Type 0 where
  pub positive : pos 0 <ℤ variance x
  pub weight_is : weight x *ℤ variance x ≡ l

-- the inequality of Cauchy and Schwarz: the square of a sum, over the sum of the variances, is at most the weighted sum of squares
abbrev pub SchwarzLaw : Type 0 → Type 0
SchwarzLaw A = (f variance weight : A → ℤ) (l : ℤ) (xs : List A) → pos 0 ≤ℤ l → AllByRecursion (IsWeighed variance weight l) xs
    → (l *ℤ (sum_over f xs *ℤ sum_over f xs)) ≤ℤ (sum_over variance xs *ℤ sum_over (λ x. weight x *ℤ (f x *ℤ f x)) xs)

-- a sum over some places of a list of numbers that aren't negative, each place at most once, is at most the sum of the list
abbrev pub PartialSumLaw : Type 0 → Type 0
PartialSumLaw A = (key : A → ℕ) (xs : List ℤ) (some : List A) → AllByRecursion (λ x. pos 0 ≤ℤ x) xs → AreDistinctBy key some
    → sum_over (λ m. item xs (key m)) some ≤ℤ total xs

-- a sum over a list of sums over a list, in either order
abbrev pub DoubleSumLaw : Type 0 → Type 0 → Type 0
DoubleSumLaw A B = (f : A → B → ℤ) (xs : List A) (ys : List B) → sum_over (λ x. sum_over (f x) ys) xs ≡ sum_over (λ y. sum_over (λ x. f x y) xs) ys
