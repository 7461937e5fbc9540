-- Lists that are gone through up to the first place that fails.
use Rattle.std.proofs.Common.{◌≡◌, ◌∙◌, ℕ, ◌+◌, ◌<◌, Bool, false, List, length, All, Some, slice_get, get_or, sym, ap, subst, inl, inr, arith}
use Rattle.std.specs.List.{list_any}
use Rattle.std.proofs.lemmas.Bool.{cases_Bool, cases_eq}
use Rattle.std.proofs.lemmas.List.Folds.{list_any_at}
use Rattle.std.proofs.lemmas.Option.{get_or_from_slice_get, slice_get-get_or, slice_get_within}
use Rattle.pb_fixed.proofs.Lists.{some_same}

-- one more place
pub place_more : (P : ℕ → Type 0) (j : ℕ) → ((k : ℕ) → k < j → P k) → P j → (k : ℕ) → k < j + 1 → P k
place_more P j before here k lt = elim (cases_eq k j) [
  | inl same ↦ subst P (sym same) here
  | inr other ↦ before k (omega (arith, lt, other))
]

-- a fact of the item at a place, from that of the item that is there
pub at_place : {A : Type 0} (P : A → Type 0) (xs : List A) (j : ℕ) (x : A) → slice_get xs j ≡ Some x → P x → (y : A) → slice_get xs j ≡ Some y → P y
at_place P xs j x at is y there = subst P (some_same (sym at ∙ there)) is

-- what holds at all places holds of all items
pub all_places : {A : Type 0} (P : A → Type 0) (xs : List A) → ((k : ℕ) → k < length xs → (x : A) → slice_get xs k ≡ Some x → P x) → All P xs
all_places P xs each k d lt = each k lt (get_or xs k d) (slice_get-get_or xs k d lt)

-- a test that no item passes is failed by each
pub each_fails : {A : Type 0} (p : A → Bool) (xs : List A) (j : ℕ) (x : A) → list_any p xs ≡ false → slice_get xs j ≡ Some x → p x ≡ false
each_fails p xs j x none at = elim (cases_Bool (p x)) [
  | inl true_is ↦
      let there = list_any_at p xs j x (slice_get_within xs j x at) (ap p (get_or_from_slice_get xs j x x at) ∙ true_is) in
      cc (none, there)
  | inr false_is ↦ false_is
]
