-- Lists by their places.
use Rattle.std.proofs.Common.{◌≡◌, ◌∙◌, ℕ, ◌<◌, List, [], ◌∷◌, ◌++◌, length, Option, None, Some, slice_get, get_or, map, option_map, zero, suc, refl, sym, ap, ap₂, subst, inl, inr, arith}
use Rattle.std.specs.Prelude.{IsSome, IsSomeAnd}
use Rattle.std.proofs.lemmas.Bool.{cases_lt}
use Rattle.std.proofs.lemmas.List.{get_or_append_left, get_or_push, length_push}
use Rattle.std.proofs.lemmas.Option.{get_or_from_slice_get, slice_get-get_or, slice_get_within, slice_get-map}
use Rattle.pb_graph.proofs.WalkLemmas.{some_same}

-- what holds for each item of a list, by its place
abbrev pub AtEach : {A : Type 0} → (ℕ → A → Type 0) → List A → Type 0
AtEach {A} P xs = (k : ℕ) (x : A) → slice_get xs k ≡ Some x → P k x

-- one more item
pub each_push : {A : Type 0} (P : ℕ → A → Type 0) (xs : List A) (x : A) → AtEach P xs → P (length xs) x → AtEach P (xs ++ x ∷ [])
each_push P xs x each last k y at =
    let within = slice_get_within (xs ++ x ∷ []) k y at in
    let is : get_or (xs ++ x ∷ []) k y ≡ y = get_or_from_slice_get (xs ++ x ∷ []) k y y at in
    elim (cases_lt k (length xs)) [
      | inl less ↦ each k y (slice_get-get_or xs k y less ∙ ap Some (sym (get_or_append_left xs (x ∷ []) y k less) ∙ is))
      | inr more ↦
          let end : length xs ≡ k = omega (arith, more, within, length_push xs x) in
          subst (λ i. P i y) end (subst (P (length xs)) (sym (get_or_push xs x y k end) ∙ is) last)
    ]

-- lists of the same length with the same items are the same
pub same_items : {A : Type 0} (xs ys : List A) → length xs ≡ length ys → ((k : ℕ) (x y : A) → slice_get xs k ≡ Some x → slice_get ys k ≡ Some y → x ≡ y) → xs ≡ ys
same_items [] [] len each = refl
same_items [] (y ∷ ys) len each = absurd (omega (arith, len))
same_items (x ∷ xs) [] len each = absurd (omega (arith, len))
same_items {A} (x ∷ xs) (y ∷ ys) len each =
    ap₂ (λ (a : A) (rest : List A). a ∷ rest) (each zero x y refl refl) (same_items xs ys (omega (arith, len)) (λ k a b f g. each (suc k) a b f g))

-- the image of an item
pub at_map : {A B : Type 0} (f : A → B) (xs : List A) (k : ℕ) (x : A) → slice_get xs k ≡ Some x → slice_get (map f xs) k ≡ Some (f x)
at_map f xs k x at = slice_get-map f xs k ∙ ap (option_map f) at

pub from_map : {A B : Type 0} (f : A → B) (xs : List A) (k : ℕ) (y : B) → slice_get (map f xs) k ≡ Some y → (x : A) × (slice_get xs k ≡ Some x) × (f x ≡ y)
from_map f [] k y at = cc at
from_map f (x ∷ xs) zero y at = (x, refl, some_same at)
from_map f (x ∷ xs) (suc k) y at = from_map f xs k y at

-- the item at a place of a list
pub some_at : {A : Type 0} (xs : List A) (k : ℕ) → k < length xs → (x : A) × (slice_get xs k ≡ Some x)
some_at [] k lt = absurd (omega (arith, lt))
some_at (x ∷ xs) zero lt = (x, refl)
some_at (x ∷ xs) (suc k) lt = some_at xs k (omega (arith, lt))

-- an item before the last
pub get_push : {A : Type 0} (xs : List A) (x : A) (k : ℕ) → k < length xs → slice_get (xs ++ x ∷ []) k ≡ slice_get xs k
get_push [] x k lt = absurd (omega (arith, lt))
get_push (y ∷ xs) x zero lt = refl
get_push (y ∷ xs) x (suc k) lt = get_push xs x k (omega (arith, lt))

-- the last item
pub get_last : {A : Type 0} (xs : List A) (x : A) → slice_get (xs ++ x ∷ []) (length xs) ≡ Some x
get_last [] x = refl
get_last (y ∷ xs) x = get_last xs x

-- what an option holds
pub the_some : {A : Type 0} (o : Option A) → IsSome o → (x : A) × (o ≡ Some x)
the_some None some = cc some
the_some (Some x) some = (x, refl)

pub some_and : {A : Type 0} (o : Option A) (x : A) (P : A → Type 0) → o ≡ Some x → P x → IsSomeAnd o P
some_and None x P there holds = cc there
some_and (Some y) x P there holds = subst P (some_same (sym there)) holds

pub from_and : {A : Type 0} (o : Option A) (x : A) (P : A → Type 0) → o ≡ Some x → IsSomeAnd o P → P x
from_and None x P there holds = cc there
from_and (Some y) x P there holds = subst P (some_same there) holds
