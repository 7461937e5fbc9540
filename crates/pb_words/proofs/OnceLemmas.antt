-- Parts that are about different things, as a walk over their words meets them.
use Rattle.std.proofs.Common.{◌≡◌, ◌∙◌, ◌||◌, Bool, true, false, refl, sym, ap, subst, List, [], ◌∷◌, ◌++◌, ℕ, map, append_assoc, true≢false}
use Rattle.std.specs.Prelude.{flat_map}
use Rattle.std.specs.List.{AllByRecursion, IsDistinct, list_any}
use Rattle.std.specs.Str.{bytes_eq}
use Rattle.std.proofs.lemmas.Map.Keys.{IsDistinct-cons, IsDistinct-head, IsDistinct-tail}
use Rattle.pb_words.specs.Parts.{Part, name_of, words_of}

pub neither : (a b : Bool) → (a || b) ≡ false → (a ≡ false) × (b ≡ false)
neither true b e = absurd (true≢false e)
neither false b e = (refl, e)

-- the words of the parts, in order
abbrev pub words_of_parts : List Part → List (List ℕ)
words_of_parts parts = flat_map words_of parts

-- whether one of the parts is about this name
abbrev pub is_mentioned : List ℕ → List Part → Bool
is_mentioned name parts = list_any (λ part. bytes_eq (name_of part) name) parts

-- no part is about what an earlier part was about
abbrev pub EachOnce : List Part → Type 0
EachOnce parts = (before after : List Part) (part : Part) → parts ≡ before ++ part ∷ after → is_mentioned (name_of part) before ≡ false

-- what holds of the names of all parts holds of the name of one of them
named_among : (P : List ℕ → Type 0) (before after : List Part) (part : Part) → AllByRecursion P (map name_of (before ++ part ∷ after)) → P (name_of part)
named_among P [] after part each = each.0
named_among P (x ∷ xs) after part each = named_among P xs after part each.1

mentioned_once : (before after : List Part) (part : Part) → IsDistinct bytes_eq (map name_of (before ++ part ∷ after)) → is_mentioned (name_of part) before ≡ false
mentioned_once [] after part distinct = refl
mentioned_once (x ∷ xs) after part distinct =
    let names = map name_of (xs ++ part ∷ after) in
    rw (named_among (λ y. bytes_eq (name_of x) y ≡ false) xs after part (IsDistinct-head bytes_eq (name_of x) names distinct))
    (mentioned_once xs after part (IsDistinct-tail bytes_eq (name_of x) names distinct))

pub each_once : (parts : List Part) → IsDistinct bytes_eq (map name_of parts) → EachOnce parts
each_once parts distinct before after part is = mentioned_once before after part (subst (λ (l : List Part). IsDistinct bytes_eq (map name_of l)) is distinct)

-- a first part is about something else than each later one
first_apart : (p : Part) (parts : List Part) → EachOnce (p ∷ parts) → (before rest : List Part) → parts ≡ before ++ rest
    → AllByRecursion (λ y. bytes_eq (name_of p) y ≡ false) (map name_of rest)
first_apart p parts once before [] is = tt
first_apart p parts once before (q ∷ rest) is = (
  (neither (bytes_eq (name_of p) (name_of q)) _ (once (p ∷ before) rest q (ap (λ (l : List Part). p ∷ l) is))).0,
  first_apart p parts once (before ++ q ∷ []) rest (is ∙ sym (append_assoc before (q ∷ []) rest)),
)

pub distinct_names : (parts : List Part) → EachOnce parts → IsDistinct bytes_eq (map name_of parts)
unfolding IsDistinct
distinct_names [] once = tt
distinct_names (p ∷ rest) once =
    IsDistinct-cons bytes_eq (name_of p) (map name_of rest) (first_apart p rest once [] rest refl)
    (distinct_names rest (λ before after part is. (neither (bytes_eq (name_of p) (name_of part)) _ (once (p ∷ before) after part (ap (λ (l : List Part). p ∷ l) is))).1))
