-- The rows of `clap`'s matches, one for each part.
use Rattle.std.proofs.Common.{◌≡◌, ◌∙◌, Bool, cond, true, false, refl, sym, ap, List, [], ◌∷◌, ◌++◌, map, Option, Some, None, option_map, option_and_then, append-nil}
use Rattle.std.specs.List.{find, list_any}
use Rattle.std.specs.Str.{bytes_eq}
use Rattle.std.specs.Prelude.{slice_get}
use Rattle.clap.specs.Walk.{Row, Text, at_row, first_of, has_row, more_values, with_values, without}
use Rattle.clap.specs.declared.builder.value_parser.Reading.{Reading}
use Rattle.clap.specs.declared.builder.value_parser.Reading.TheVariants.{AsWritten}
use Rattle.clap.specs.declared.parser.matches.ValueSource.{ValueSource}
use Rattle.clap.specs.declared.parser.matches.ValueSource.TheVariants.{CommandLine}
use Rattle.clap.proofs.WalkLemmas.{find-map, list_any-map}
use Rattle.pb_words.specs.Parts.{Part, name_of, said_by, text_of}
use Rattle.pb_words.proofs.OnceLemmas.{is_mentioned, neither}

-- the row of a text that the words give for an id
abbrev pub row_with : Text → Text → Row
row_with id text = record { id = id; values = text ∷ []; count = None; source = Some CommandLine; reading = AsWritten }

-- the row of a part
abbrev pub row_of : Part → Row
row_of part = row_with (name_of part) (text_of part)

-- a row of an id that has no row yet is added at the end
pub at_new_row : (id : Text) (change : Row → List Row) (missing rows : List Row) → has_row id rows ≡ false → at_row id change missing rows ≡ rows ++ missing
at_new_row id change missing [] none = refl
at_new_row id change missing (r ∷ rs) none =
    let parts = neither (bytes_eq r.id id) _ none in
    rw parts.0 (ap (λ rest. r ∷ rest) (at_new_row id change missing rs parts.1))

pub without_none : (id : Text) (rows : List Row) → has_row id rows ≡ false → without id rows ≡ rows
without_none id rows none = at_new_row id (λ _. []) [] rows none ∙ append-nil rows

pub new_values : (id : Text) (how : Reading) (s : ValueSource) (values : List Text) (rows : List Row) → has_row id rows ≡ false
    → with_values id how s values rows ≡ rows ++ record { id = id; values = values; count = None; source = Some s; reading = how } ∷ []
new_values id how s values rows none = at_new_row id (more_values s values) _ rows none

pub used_values : (id text : Text) (rows : List Row) → has_row id rows ≡ false
    → with_values id AsWritten CommandLine (text ∷ []) (without id rows) ≡ rows ++ row_with id text ∷ []
used_values id text rows none =
    ap (with_values id AsWritten CommandLine (text ∷ [])) (without_none id rows none) ∙ new_values id AsWritten CommandLine (text ∷ []) rows none

-- an id has a row among those of the parts iff a part has its name
pub named_row : (id : Text) (parts : List Part) → has_row id (map row_of parts) ≡ is_mentioned id parts
named_row id parts = sym (list_any-map (λ (r : Row). bytes_eq r.id id) row_of parts)

-- and their texts are what the parts say
pub said_row : (id : Text) (parts : List Part) → first_of id (map row_of parts) ≡ said_by parts id
said_row id parts = ap (option_and_then (λ (r : Row). slice_get r.values 0)) (sym (find-map (λ (r : Row). bytes_eq r.id id) row_of parts)) ∙ go (find (λ part. bytes_eq (name_of part) id) parts)
  where
    go : (o : Option Part) → option_and_then (λ (r : Row). slice_get r.values 0) (option_map row_of o) ≡ option_map text_of o
    go None = refl
    go (Some part) = refl

-- ---- one more row at the end

pub find_past : {X : Type 0} (p : X → Bool) (xs : List X) (x : X) → p x ≡ false → find p (xs ++ x ∷ []) ≡ find p xs
find_past p [] x miss = rw miss refl
find_past p (y ∷ ys) x miss = ap (λ o. cond (p y) (Some y) o) (find_past p ys x miss)

pub find_last : {X : Type 0} (p : X → Bool) (xs : List X) (x : X) → list_any p xs ≡ false → p x ≡ true → find p (xs ++ x ∷ []) ≡ Some x
find_last p [] x none hit = rw hit refl
find_last p (y ∷ ys) x none hit =
    let parts = neither (p y) _ none in
    rw parts.0 (find_last p ys x parts.1 hit)

pub find_none : {X : Type 0} (p : X → Bool) (xs : List X) → list_any p xs ≡ false → find p xs ≡ None
find_none p [] none = refl
find_none p (y ∷ ys) none =
    let parts = neither (p y) _ none in
    rw parts.0 (find_none p ys parts.1)
