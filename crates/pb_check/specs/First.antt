-- Statement. The first place in order at which something fails.
use Rattle.std.specs.Prelude.{◌≡◌, ℕ, ◌<◌, List, length, Some, slice_get}

-- the first of the places below a count, in order, that doesn't have what each should have
pub record IsFirstWithout (P : ℕ → Type 0) (count first : ℕ) : Type 0 where
  pub within : first < count
  pub before : (k : ℕ) → k < first → P k
  pub without : P first → ⊥

-- what is reported of the first item of a list that doesn't have what each should have at its place
pub record FirstFails {A : Type 0} (P : ℕ → A → Type 0) (items : List A) (Reports : ℕ → A → Type 0) : Type 0 where
  pub place : ℕ
  pub item : A
  pub first : IsFirstWithout (λ k. (other : A) → slice_get items k ≡ Some other → P k other) (length items) place
  pub item_is : slice_get items place ≡ Some item
  pub reported : Reports place item
