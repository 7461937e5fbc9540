-- The first item of a list at which something fails.
use Rattle.std.proofs.Common.{◌≡◌, ◌∙◌, ◌⊎◌, ℕ, zero, suc, ◌<◌, List, [], ◌∷◌, length, Option, Some, None, slice_get, refl, sym, ap, subst, inl, inr, arith}
use Rattle.std.specs.Prelude.{IsSomeAnd}
use Rattle.std.proofs.lemmas.Option.{slice_get_within}
use Rattle.pb_fixed.proofs.Lists.{some_same}
use Rattle.pb_graph.proofs.ReachLemmas.{IsDecidable}
use Rattle.pb_study.specs.declared.results.StreamResult.{StreamResult}
use Rattle.pb_study.specs.declared.results.Stage.{Stage}
use Rattle.pb_check.specs.declared.faults.Fault.{Fault}
use Rattle.pb_check.specs.declared.faults.Place.{Place}
use Rattle.pb_check.specs.Faults.{bare_fault_at}
use Rattle.pb_check.specs.Places.{AtStream, IsStreamFault}
use Rattle.pb_check.specs.First.{FirstFails, IsFirstWithout}
use Rattle.pb_check.proofs.DecideLemmas.{each_or_first, one_first}

-- what holds of the value that is there
pub some_and : {A : Type 0} (o : Option A) (P : A → Type 0) (x : A) → o ≡ Some x → P x → IsSomeAnd o P
some_and o P x is p = subst (λ (o : Option _). IsSomeAnd o P) (sym is) p

pub of_some_and : {A : Type 0} (o : Option A) (P : A → Type 0) → IsSomeAnd o P → (x : A) × (o ≡ Some x) × P x
of_some_and None P holds = absurd holds
of_some_and (Some x) P holds = (x, refl, holds)

-- an item below the length of a list
pub some_at : {A : Type 0} (xs : List A) (k : ℕ) → k < length xs → (x : A) × (slice_get xs k ≡ Some x)
some_at [] k lt = absurd (omega (arith, lt))
some_at (x ∷ xs) zero lt = (x, refl)
some_at (x ∷ xs) (suc k) lt = some_at xs k (omega (arith, lt))

-- the item at a place is the first that fails
pub fails_here : {A : Type 0} (P : ℕ → A → Type 0) (items : List A) (R : ℕ → A → Type 0) (j : ℕ) (x : A) → slice_get items j ≡ Some x
    → ((k : ℕ) → k < j → (other : A) → slice_get items k ≡ Some other → P k other) → (P j x → ⊥) → R j x → FirstFails P items R
fails_here P items R j x at before fails reported = record {
  place = j;
  item = x;
  first = record { within = slice_get_within items j x at; before = before; without = λ all. fails (all x at) };
  item_is = at;
  reported = reported;
}

-- none fails, or there is a first that does
pub each_or_fails : {A : Type 0} (P : ℕ → A → Type 0) (items : List A) → ((k : ℕ) → k < length items → IsDecidable ((x : A) → slice_get items k ≡ Some x → P k x))
    → ((k : ℕ) (x : A) → slice_get items k ≡ Some x → P k x)
    ⊎ ((j : ℕ) × (x : A) × IsFirstWithout (λ k. (y : A) → slice_get items k ≡ Some y → P k y) (length items) j × (slice_get items j ≡ Some x))
each_or_fails P items decided = elim (each_or_first (λ k. (y : _) → slice_get items k ≡ Some y → P k y) (length items) decided) [
  | inl each ↦ inl (λ k x at. each k (slice_get_within items k x at) x at)
  | inr (j, first) ↦ let (x, at) = some_at items j first.within in inr (j, x, first, at)
]

-- not both
pub none_fails : {A : Type 0} (P : ℕ → A → Type 0) (items : List A) (R : ℕ → A → Type 0) → FirstFails P items R
    → ((k : ℕ) (x : A) → slice_get items k ≡ Some x → P k x) → ⊥
none_fails P items R fails each = fails.first.without (λ x at. each fails.place x at)

-- not two
pub same_first : {A : Type 0} (P : ℕ → A → Type 0) (items : List A) (R S : ℕ → A → Type 0) (one : FirstFails P items R) (other : FirstFails P items S)
    → (one.place ≡ other.place) × (one.item ≡ other.item)
same_first P items R S one other =
    let place = one_first _ (length items) one.place other.place one.first other.first in
    (place, some_same (sym one.item_is ∙ ap (slice_get items) place ∙ other.item_is))

-- the stream at a place is the first that fails
pub stream_fault : (stage : Stage) (P : ℕ → StreamResult → Type 0) (j : ℕ) (fault : Fault) → j < length stage.streams → ((k : ℕ) → k < j → AtStream stage P k)
    → (AtStream stage P j → ⊥) → fault ≡ bare_fault_at (Place.Stream j) → IsStreamFault stage P fault
stream_fault stage P j fault lt before fails is =
    let (r, at) = some_at stage.streams j lt in
    fails_here P stage.streams _ j r at before (λ holds. fails (λ other there. subst (P j) (some_same (sym at ∙ there)) holds)) is
