-- Names: that of the first of several things, and the same name the other way round.
use Rattle.std.specs.Prelude.{position, not, map}
use Rattle.std.specs.Cmp.Lexicographic.{bytes_decides}
use Rattle.std.specs.List.{list_any, prefix_len}
use Rattle.std.proofs.Common.{◌≡◌, ◌∙◌, ℕ, ◌+◌, List, [], ◌∷◌, Bool, cond, refl, sym, ap, inl, inr}
use Rattle.std.proofs.lemmas.Bool.{cases_Bool}
use Rattle.std.proofs.lemmas.List.{length-map}
use Rattle.pb_rows.specs.Name.{same_name}

prefix_map : {X Y : Type 0} (p : Y → Bool) (f : X → Y) (xs : List X) → prefix_len p (map f xs) ≡ prefix_len (λ x. p (f x)) xs
prefix_map p f [] = refl
prefix_map p f (x ∷ xs) = ap (λ (n : ℕ). cond (p (f x)) (1 + n) 0) (prefix_map p f xs)

-- the place of the first image that passes is that of the first item whose image does
pub position_map : {X Y : Type 0} (p : Y → Bool) (f : X → Y) (xs : List X) → position p (map f xs) ≡ position (λ x. p (f x)) xs
position_map p f xs = rw (prefix_map (λ y. not (p y)) f xs, length-map xs f) refl

-- some image passes iff some item's image does
pub any_map : {X Y : Type 0} (p : Y → Bool) (f : X → Y) (xs : List X) → list_any p (map f xs) ≡ list_any (λ x. p (f x)) xs
any_map p f [] = refl
any_map p f (x ∷ xs) = rw (any_map p f xs) refl

pub same_flip : (a b : List ℕ) → same_name a b ≡ same_name b a
same_flip a b = elim (cases_Bool (same_name a b)) [
  | inl same ↦ same ∙ sym ((bytes_decides b a).1 (sym ((bytes_decides a b).0 same)))
  | inr other ↦ elim (cases_Bool (same_name b a)) [
    | inl same ↦ cc (sym other ∙ (bytes_decides a b).1 (sym ((bytes_decides b a).0 same)))
    | inr apart ↦ other ∙ sym apart
  ]
]
