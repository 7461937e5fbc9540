-- What a field of the form of a whole number reads as.
use Rattle.std.proofs.Common.{◌≡◌, ◌<◌, ◌≤◌, ◌+◌, ◌-◌, ◌*◌, ◌^◌, ◌∷◌, [], ◌∙◌, ℕ, zero, suc, ℤ, List, true, false, length, take, get_or, arith, refl, inl, inr, rules, tests}
use Rattle.std.specs.Prelude.{◌==◌, not, FitsSigned, None, Result, Ok, Err, slice_index, IsUtf8}
use Rattle.std.specs.Char.{digit_value, is_ascii_digit}
use Rattle.std.specs.List.{list_all}
use Rattle.std.specs.Result.{OkIff}
use Rattle.std.specs.Str.{IsAscii}
use Rattle.std.specs.Str.Parse.{IsNumeral, ParsesSigned, digits_value, signed_digits_value, without_leading_sign}
use Rattle.std.proofs.lemmas.Bool.{and_parts, cases_Bool, eqb-true, ne_eqb}
use Rattle.std.proofs.lemmas.Fmt.{IsAscii-from_digits}
use Rattle.std.proofs.lemmas.Int.Digits.{digits_value_more}
use Rattle.std.proofs.lemmas.List.{length-take-le}
use Rattle.std.proofs.lemmas.Str.{IsUtf8-from_ascii, digit_value_digit}
use Rattle.std.proofs.lemmas.Str.Parse.{IsNumeralModel, numerals_by_value, digit_from_value, digits_value-take-le, digits_value_short}
use mir.Syntax.{w128}
use Rattle.pb_rows.specs.Bytes.{dash}
use Rattle.pb_rows.specs.Forms.{are_digits}
use Rattle.pb_rows.specs.Number.{is_plain, is_whole, number, whole_value}

own : IsNumeralModel (λ ds. list_all is_ascii_digit ds ≡ true) (digits_value 10)
own = numerals_by_value (λ ds. list_all is_ascii_digit ds ≡ true) (search rules)

-- a field of digits without leading zeros is a numeral
plain_numeral : (field : List ℕ) → is_plain field ≡ true → IsNumeral 10 field
plain_numeral field plain =
    let digits : are_digits field ≡ true = (and_parts (are_digits field) _ plain).0 in
    let parts = and_parts (not (length field == 0)) _ digits in
    (some field parts.0, own.to field parts.1)
  where
    some : (xs : List ℕ) → not (length xs == 0) ≡ true → 0 < length xs
    some [] e = cc e
    some (x ∷ xs) e = omega arith

-- a numeral begins with a digit
numeral_first : (first : ℕ) (rest : List ℕ) → IsNumeral 10 (first ∷ rest) → (first == 43) ≡ false
numeral_first first rest numeral =
    let digit = digit_from_value first numeral.1.0 in
    ne_eqb first 43 (λ e. absurd (omega (arith, digit, e)))

-- what std reads in a field of the form
pub whole_reads : (field : List ℕ) → is_whole field ≡ true → IsNumeral 10 (without_leading_sign field) × (signed_digits_value 10 field ≡ whole_value field)
whole_reads [] whole = cc whole
whole_reads (first ∷ rest) whole = elim (cases_Bool (first == 45)) [
  | inl minus ↦ rw minus (plain_numeral rest (and_parts (is_plain rest) _ (rw minus at whole)).0, refl)
  | inr none ↦
      let numeral = plain_numeral (first ∷ rest) (rw none at whole) in
      rw (none, numeral_first first rest numeral) (numeral, refl)
]

-- a field of the form is ASCII
whole_ascii : (field : List ℕ) → is_whole field ≡ true → IsAscii field
whole_ascii [] whole = cc whole
whole_ascii (first ∷ rest) whole = elim (cases_Bool (first == 45)) [
  | inl minus ↦
      let digits = IsAscii-from_digits rest (plain_numeral rest (and_parts (is_plain rest) _ (rw minus at whole)).0).1 in
      by (eqb-true first 45 minus) digits
  | inr none ↦ IsAscii-from_digits (first ∷ rest) (plain_numeral (first ∷ rest) (rw none at whole)).1
]
  where
    by : first ≡ 45 → IsAscii rest → (i : ℕ) → slice_index (first ∷ rest) i < 128
    by e digits zero = omega (arith, e)
    by e digits (suc i) = digits i

pub whole_utf8 : (field : List ℕ) → is_whole field ≡ true → IsUtf8 field
whole_utf8 field whole = IsUtf8-from_ascii field (whole_ascii field whole)

-- what `parse` returns for a field of the form
pub parsed_ok : {E : Type 0} (field : List ℕ) (r : Result ℤ E) → is_whole field ≡ true → ParsesSigned w128 10 field r → OkIff r (FitsSigned w128 (whole_value field)) (whole_value field)
parsed_ok field (Ok z) whole parses =
    let reads = whole_reads field whole in
    let fits : FitsSigned w128 (whole_value field) = rw reads.1 at parses.0.1 in
    let value : z ≡ whole_value field = parses.1 ∙ reads.1 in
    (fits, value)
parsed_ok field (Err e) whole parses =
    let reads = whole_reads field whole in
    λ fits. parses (reads.0, rw reads.1 fits)

-- digits that were read so far, and one more digit
pub more_digits : (field : List ℕ) (i : ℕ) → i < length field → is_ascii_digit (get_or field i 0) ≡ true
    → digits_value 10 (take i field) * 10 + (get_or field i 0 - 48) ≡ digits_value 10 (take (i + 1) field)
more_digits field i lt digit =
    let value = digit_value_digit (get_or field i 0) (search (rules, tests)) in
    let more = digits_value_more 10 field i lt in
    omega (arith, more, value)

-- fewer than 19 digits write a number of 64 bits, and ten times that number and one more digit are one too
pub few_digits : (field : List ℕ) (i : ℕ) → i < length field → length field ≤ 19 → list_all is_ascii_digit (take i field) ≡ true
    → digits_value 10 (take i field) < 10 ^ 18
few_digits field i lt few digits = digits_value_short own (take i field) 18 digits (omega (arith, length-take-le i field (omega (arith, lt))))

-- a number of the form that is zero is written with a zero in front
zero_first : (field : List ℕ) → is_plain field ≡ true → digits_value 10 field ≡ 0 → slice_index field 0 ≡ 48
zero_first [] plain none = cc plain
zero_first (first ∷ rest) plain none =
    let numeral = plain_numeral (first ∷ rest) plain in
    let value = digit_value_digit first (digit_from_value first numeral.1.0) in
    let least : 0 + digit_value first ≤ digits_value 10 (first ∷ rest) = digits_value-take-le 10 (first ∷ rest) 1 (omega arith) in
    omega (arith, value, least, none)

-- so it has no minus sign
pub unsigned_zero : (field : List ℕ) → is_plain field ≡ true → digits_value 10 field ≡ 0 → None ≡ number (dash ∷ field)
unsigned_zero field plain none = rw (plain, zero_first field plain none) refl
