-- Lists that are made item by item, and what holds of their items.
use Rattle.std.specs.Prelude.{filter, position, IfSome}
use Rattle.std.specs.List.{AllByRecursion, cons_option, enumerate_from, filter_map, flat_map, list_any, position_or_len, range_with_len}
use Rattle.std.proofs.Common.{◌≡◌, ◌∙◌, ℕ, zero, suc, ◌+◌, ◌-◌, ◌<◌, ◌≤◌, Bool, true, false, ◌||◌, List, [], ◌∷◌, ◌++◌, length, get_or, Option, None, Some, inl, inr, refl, sym, ap, append_assoc, arith}
use Rattle.std.specs.Prelude.{nat_lt}
use Rattle.std.proofs.lemmas.Bool.{cases_Bool, ltb-false}
use Rattle.std.proofs.lemmas.List.Elements.{filter-append, filter_map-append}
use Rattle.std.proofs.lemmas.List.Sums.{fails_before_first}

-- ---- what is made, and the rest

pub append_piece : {A : Type 0} (whole made rest piece left : List A) → whole ≡ made ++ rest → rest ≡ piece ++ left → whole ≡ (made ++ piece) ++ left
append_piece {A} whole made rest piece left so_far next = so_far ∙ ap (λ (r : List A). made ++ r) next ∙ sym (append_assoc made piece left)

-- the same, by what is made then
pub grown : {A : Type 0} (whole made rest piece left new : List A) → whole ≡ made ++ rest → rest ≡ piece ++ left → new ≡ made ++ piece → whole ≡ new ++ left
grown {A} whole made rest piece left new so_far next is = append_piece whole made rest piece left so_far next ∙ ap (λ (r : List A). r ++ left) (sym is)

-- the same if nothing is added
pub passed : {A : Type 0} (whole made rest left : List A) → whole ≡ made ++ rest → rest ≡ left → whole ≡ made ++ left
passed {A} whole made rest left so_far next = so_far ∙ ap (λ (r : List A). made ++ r) next

-- the next number of a range
pub range_next : (a n k : ℕ) → k < n → range_with_len a (n - k) ≡ a ∷ range_with_len (a + 1) (n - (k + 1))
range_next a n k lt = let e : n - k ≡ suc (n - (k + 1)) = omega (arith, lt) in rw e refl

pub filter_range_next : (p : ℕ → Bool) (a n k : ℕ) → k < n → filter p (range_with_len a (n - k)) ≡ filter p (a ∷ []) ++ filter p (range_with_len (a + 1) (n - (k + 1)))
filter_range_next p a n k lt = ap (filter p) (range_next a n k lt) ∙ filter-append p (a ∷ []) (range_with_len (a + 1) (n - (k + 1)))

pub filter_map_range_next : {B : Type 0} (h : ℕ → Option B) (a n k : ℕ) → k < n → filter_map h (range_with_len a (n - k)) ≡ filter_map h (a ∷ []) ++ filter_map h (range_with_len (a + 1) (n - (k + 1)))
filter_map_range_next h a n k lt = ap (filter_map h) (range_next a n k lt) ∙ filter_map-append h (a ∷ []) (range_with_len (a + 1) (n - (k + 1)))

pub filter_yes : {A : Type 0} (p : A → Bool) (x : A) → p x ≡ true → filter p (x ∷ []) ≡ x ∷ []
filter_yes p x passes = rw passes refl

pub filter_no : {A : Type 0} (p : A → Bool) (x : A) → p x ≡ false → filter p (x ∷ []) ≡ []
filter_no p x fails = rw fails refl

pub filter_map_some : {A B : Type 0} (h : A → Option B) (x : A) (y : B) → h x ≡ Some y → filter_map h (x ∷ []) ≡ y ∷ []
filter_map_some h x y is = rw is refl

pub filter_map_none : {A B : Type 0} (h : A → Option B) (x : A) → h x ≡ None → filter_map h (x ∷ []) ≡ []
filter_map_none h x is = rw is refl

-- ---- some item passes a test

pub or_true : (b : Bool) → (b || true) ≡ true
or_true true = refl
or_true false = refl

pub no_place : {A : Type 0} (p : A → Bool) (xs : List A) (d : A) → position p xs ≡ None → (k : ℕ) → k < length xs → p (get_or xs k d) ≡ false
no_place p xs d is k lt = fails_before_first p xs k d (omega (arith, lt, past))
  where
    past : length xs ≤ position_or_len p xs
    past = elim (cases_Bool (nat_lt (position_or_len p xs) (length xs))) [
      | inl passes ↦ cc (rw passes at is)
      | inr fails ↦ omega (arith, ltb-false (position_or_len p xs) (length xs) fails)
    ]

none_any : {A : Type 0} (p : A → Bool) (d : A) (xs : List A) → ((k : ℕ) → k < length xs → p (get_or xs k d) ≡ false) → list_any p xs ≡ false
none_any p d [] fails = refl
none_any p d (x ∷ xs) fails = rw (fails 0 (omega arith)) (none_any p d xs (λ k lt. fails (suc k) (omega (arith, lt))))

pub none_passes : {A : Type 0} (p : A → Bool) (d : A) (xs : List A) → position p xs ≡ None → list_any p xs ≡ false
none_passes p d xs is = none_any p d xs (no_place p xs d is)

-- ---- what holds of each item

pub all_join : {A : Type 0} (P : A → Type 0) (xs ys : List A) → AllByRecursion P xs → AllByRecursion P ys → AllByRecursion P (xs ++ ys)
all_join P [] ys one other = other
all_join P (x ∷ xs) ys one other = (one.0, all_join P xs ys one.1 other)

pub all_numbered : {A : Type 0} (P : A → Type 0) (n : ℕ) (xs : List A) → AllByRecursion P xs → AllByRecursion (λ (numbered : ℕ × A). P numbered.1) (enumerate_from n xs)
all_numbered P n [] are = tt
all_numbered P n (x ∷ xs) are = (are.0, all_numbered P (n + 1) xs are.1)

pub all_kept : {A : Type 0} (P : A → Type 0) (p : A → Bool) (xs : List A) → AllByRecursion P xs → AllByRecursion (λ (x : A). P x × (p x ≡ true)) (filter p xs)
all_kept P p [] are = tt
all_kept P p (x ∷ xs) are = elim (cases_Bool (p x)) [
  | inl passes ↦ rw passes ((are.0, passes), all_kept P p xs are.1)
  | inr fails ↦ rw fails (all_kept P p xs are.1)
]

all_cons : {B : Type 0} (Q : B → Type 0) (o : Option B) (ys : List B) → IfSome o Q → AllByRecursion Q ys → AllByRecursion Q (cons_option o ys)
all_cons Q None ys is are = are
all_cons Q (Some y) ys is are = (is, are)

pub all_mapped : {A B : Type 0} (P : A → Type 0) (Q : B → Type 0) (h : A → Option B) → ((x : A) → P x → IfSome (h x) Q)
    → (xs : List A) → AllByRecursion P xs → AllByRecursion Q (filter_map h xs)
all_mapped P Q h gives [] are = tt
all_mapped P Q h gives (x ∷ xs) are = all_cons Q (h x) (filter_map h xs) (gives x are.0) (all_mapped P Q h gives xs are.1)

pub all_flat : {A B : Type 0} (P : A → Type 0) (Q : B → Type 0) (f : A → List B) → ((x : A) → P x → AllByRecursion Q (f x))
    → (xs : List A) → AllByRecursion P xs → AllByRecursion Q (flat_map f xs)
all_flat P Q f gives [] are = tt
all_flat P Q f gives (x ∷ xs) are = all_join Q (f x) (flat_map f xs) (gives x are.0) (all_flat P Q f gives xs are.1)

pub all_range : (P : ℕ → Type 0) → ((k : ℕ) → P k) → (a n : ℕ) → AllByRecursion P (range_with_len a n)
all_range P holds a zero = tt
all_range P holds a (suc n) = (holds a, all_range P holds (a + 1) n)
