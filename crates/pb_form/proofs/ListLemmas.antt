-- The first image that passes a test.
use Rattle.std.specs.Prelude.{position, not, map}
use Rattle.std.specs.List.{list_any, prefix_len}
use Rattle.std.proofs.Common.{◌≡◌, ◌∙◌, ◌≤◌, ◌-◌, length, take, drop, sym, arith, ℕ, ◌+◌, List, [], ◌∷◌, Bool, cond, refl, ap}
use Rattle.std.proofs.lemmas.List.{drop-drop, drop-take, length-drop, length-map, length-take-le}

prefix_map : {X Y : Type 0} (p : Y → Bool) (f : X → Y) (xs : List X) → prefix_len p (map f xs) ≡ prefix_len (λ x. p (f x)) xs
prefix_map p f [] = refl
prefix_map p f (x ∷ xs) = ap (λ (n : ℕ). cond (p (f x)) (1 + n) 0) (prefix_map p f xs)

-- the place of the first image that passes is the place of the first item whose image passes
pub position_map : {X Y : Type 0} (p : Y → Bool) (f : X → Y) (xs : List X) → position p (map f xs) ≡ position (λ x. p (f x)) xs
position_map p f xs = rw (prefix_map (λ y. not (p y)) f xs, length-map xs f) refl

-- some image passes exactly when some item's image does
pub any_map : {X Y : Type 0} (p : Y → Bool) (f : X → Y) (xs : List X) → list_any p (map f xs) ≡ list_any (λ x. p (f x)) xs
any_map p f [] = refl
any_map p f (x ∷ xs) = rw (any_map p f xs) refl

-- the items of a part from a place on
pub part_skipped : {X : Type 0} (xs : List X) (start len place : ℕ) → place ≤ len → take (len - place) (drop (start + place) xs) ≡ drop place (take len (drop start xs))
part_skipped xs start len place within =
    let whole : place + (len - place) ≡ len = omega (arith, within) in
    sym (ap (take (len - place)) (drop-drop place start xs)) ∙ sym (drop-take place (len - place) (drop start xs)) ∙ ap (λ n. drop place (take n (drop start xs))) whole

-- how many items a part has
pub length_part : {X : Type 0} (xs : List X) (start len : ℕ) → start + len ≤ length xs → length (take len (drop start xs)) ≡ len
length_part xs start len within = length-take-le len (drop start xs) (omega (arith, length-drop start xs, within))
