-- What a field says fits its column.
use Rattle.std.specs.Prelude.{◌&&◌, ◌==◌, bytes_eq, int_le, position, Some, None, Option, if◌then◌else◌}
use Rattle.std.proofs.Common.{◌≡◌, ◌≤ℤ◌, ℕ, ℤ, Bool, true, false, List, [], length, refl, sym, arith}
use Rattle.std.proofs.lemmas.Int.{ints}
use Rattle.std.proofs.lemmas.List.Quantifiers.{position-Some}
use Rattle.std.proofs.lemmas.Slice.Eq.{bytes_eq-Decides}
use Rattle.pb_rows.specs.Number.{within}
use Rattle.pb_form.specs.Holds as holds
use Rattle.pb_form.specs.Value.{Word}
use Rattle.pb_form.specs.Writing.{FitsIn, word_at}

-- the word at the place of a field among words is the field
pub word_found : (words : List (List ℕ)) (field : List ℕ) (place : ℕ) → position (bytes_eq field) words ≡ Some place → word_at words place ≡ field
word_found words field place found =
    let at = position-Some (bytes_eq field) words place [] found in
    sym ((bytes_eq-Decides field (word_at words place)).0 at.1)

-- so a word that was found fits
pub word_fits : (words : List (List ℕ)) (field : List ℕ) (place : ℕ) (optional : Bool) → position (bytes_eq field) words ≡ Some place
    → (optional && (length field == 0)) ≡ false → FitsIn (holds.Word words) optional (Word place)
word_fits words field place optional found told = rw (word_found words field place found) (found, told)

-- a number that passes lies within its range
pub number_fits : (lo hi z : ℤ) (number : Option ℤ) → within lo hi number ≡ Some z → (lo ≤ℤ z) × (z ≤ℤ hi)
number_fits lo hi z None passes = cc passes
number_fits lo hi z (Some n) passes = by (int_le lo n) refl (int_le n hi) refl passes
  where
    by : (a : Bool) → int_le lo n ≡ a → (b : Bool) → int_le n hi ≡ b → (if a && b then Some n else None) ≡ Some z → (lo ≤ℤ z) × (z ≤ℤ hi)
    by true low true high is =
        let same : n ≡ z = cc is in
        let least : lo ≤ℤ n = grind (arith, ints) in
        let most : n ≤ℤ hi = grind (arith, ints) in
        rw (← same) (least, most)
    by true low false high is = cc is
    by false low b high is = cc is
