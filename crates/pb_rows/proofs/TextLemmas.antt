-- The decimal text of a number: what std writes is it, and it reads back.
use Rattle.std.proofs.Common.{◌≡◌, ◌<◌, ◌≤◌, ◌+◌, ◌/◌, ◌%◌, ◌*◌, ◌^◌, ◌++◌, ◌∷◌, [], ◌∙◌, ℕ, zero, suc, ℤ, pos, negsuc, List, Bool, true, false, Some, length, map, get_or, append-nil, append_assoc, arith, ap, ap₂, sym, refl, inl, inr}
use Rattle.std.specs.Prelude.{if◌then◌else◌, neg_ℤ, None, ◌==◌, ◌&&◌, not, FitsSigned, slice_index, nat_lt}
use Rattle.std.specs.Char.{digit_value, is_ascii_digit}
use Rattle.std.specs.Fmt.{decimal, signed_decimal}
use Rattle.std.specs.Int.Digits.{AllBelowBase, digits_of, number_from_digits_after}
use Rattle.std.specs.List.{list_all}
use Rattle.std.specs.Str.Parse.{digits_value, digits_value_after}
use Rattle.std.proofs.lemmas.Bool.{and_parts, cases_Bool, eqb-true, ne_eqb}
use Rattle.std.proofs.lemmas.Bool.Decides.{nat_tests}
use Rattle.std.proofs.lemmas.Fmt.{decimal_by_steps_wide}
use Rattle.std.proofs.lemmas.Int.{ints}
use Rattle.std.proofs.lemmas.Int.Digits.{all_below_base_digits_of, digits_of_step, first_digits_of, length-digits_of_step, number_digits_of}
use Rattle.std.proofs.lemmas.List.{map-append}
use mir.Syntax.{w128}
use Rattle.pb_rows.specs.Number.{decimal_text, is_plain, number, whole_text}
use Rattle.pb_rows.specs.Forms.{are_digits}

-- the text of a number that isn't 0
some_text : (n : ℕ) → 0 < n → decimal_text n ≡ map (λ digit. 48 + digit) (digits_of 10 n)
unfolding decimal_text
some_text n some = rw (ne_eqb n 0 (λ e. absurd (omega (arith, e)))) refl

-- the text of a digit
digit_text : (n : ℕ) → n < 10 → (48 + n) ∷ [] ≡ decimal_text n
unfolding decimal_text
digit_text zero small = refl
digit_text (suc n) small =
    let front : suc n / 10 ≡ 0 = omega arith in
    let last : suc n % 10 ≡ suc n = omega arith in
    let step = digits_of_step 10 (suc n) (omega arith) (omega arith) in
    sym (some_text (suc n) (omega arith) ∙ ap (map (λ digit. 48 + digit)) (step ∙ ap₂ (λ (f l : ℕ). digits_of 10 f ++ l ∷ []) front last))

-- one more digit
longer_text : (n : ℕ) (front : List ℕ) → 10 ≤ n → front ≡ decimal_text (n / 10) → front ++ (48 + n % 10) ∷ [] ≡ decimal_text n
longer_text n front large so_far =
    let step = digits_of_step 10 n (omega arith) (omega arith) in
    ap (λ (f : List ℕ). f ++ (48 + n % 10) ∷ []) (so_far ∙ some_text (n / 10) (omega arith))
    ∙ sym (some_text n (omega arith) ∙ ap (map (λ digit. 48 + digit)) step ∙ map-append (λ digit. 48 + digit) (digits_of 10 (n / 10)) (n % 10 ∷ []))

-- what std writes of a number is its text
pub wide_text : (n : ℕ) → n < 10 ^ 64 → decimal n ≡ decimal_text n
wide_text n wide = decimal_by_steps_wide (λ m ds. ds ≡ decimal_text m) digit_text longer_text n wide

pub signed_text : (z : ℤ) → FitsSigned w128 z → signed_decimal z ≡ whole_text z
signed_text (pos n) fits = wide_text n (omega (arith, ints, fits))
signed_text (negsuc n) fits = ap (λ (f : List ℕ). 45 ∷ f) (wide_text (suc n) (omega (arith, ints, fits)))

-- a digit's text is the digit
digit_back : (d : ℕ) → d < 10 → (is_ascii_digit (48 + d) ≡ true) × (digit_value (48 + d) ≡ d)
digit_back d small = grind (arith, nat_tests)

-- the texts of digits are digits, and write the same number
digits_back : (n : ℕ) (ds : List ℕ) → AllBelowBase 10 ds → (list_all is_ascii_digit (map (λ digit. 48 + digit) ds) ≡ true)
    × (digits_value_after 10 n (map (λ digit. 48 + digit) ds) ≡ number_from_digits_after 10 n ds)
digits_back n [] below = (refl, refl)
digits_back n (d ∷ ds) below =
    let first = digit_back d below.0 in
    let rest = digits_back (n * 10 + d) ds below.1 in (
      rw first.0 rest.0,
      ap (λ (m : ℕ). digits_value_after 10 (n * 10 + m) (map (λ digit. 48 + digit) ds)) first.1 ∙ rest.1,
    )

-- the first digit of a number that isn't 0
text_some : (n : ℕ) → 0 < n → (slice_index (decimal_text n) 0 == 48) ≡ false
text_some n some =
    let first = first_digits_of 10 n (omega arith) some in
    rw (some_text n some) (by (digits_of 10 n) first)
  where
    by : (ds : List ℕ) → 0 < get_or ds 0 0 → (slice_index (map (λ digit. 48 + digit) ds) 0 == 48) ≡ false
    by [] first = absurd (omega arith)
    by (d ∷ ds) first = ne_eqb (48 + d) 48 (λ e. absurd (omega arith))

text_length : (n : ℕ) → 0 < n → 0 < length (decimal_text n)
text_length n some =
    let step = length-digits_of_step 10 n (omega arith) some in
    rw (some_text n some) (by (digits_of 10 n) (omega arith))
  where
    by : (ds : List ℕ) → 0 < length ds → 0 < length (map (λ digit. 48 + digit) ds)
    by [] h = h
    by (d ∷ ds) h = omega arith

pub text_digits : (n : ℕ) → 0 < n → (list_all is_ascii_digit (decimal_text n) ≡ true) × (digits_value 10 (decimal_text n) ≡ n)
text_digits n some =
    let back = digits_back 0 (digits_of 10 n) (all_below_base_digits_of 10 n (omega arith)) in
    rw (some_text n some) (back.0, back.1 ∙ number_digits_of 10 n (omega arith))

-- the text of a number that isn't 0 has the form, and after a minus sign too
text_plain : (n : ℕ) → 0 < n → is_plain (decimal_text n) ≡ true
text_plain n some =
    let full : (length (decimal_text n) == 0) ≡ false = ne_eqb _ 0 (λ e. absurd (omega (arith, text_length n some, e))) in
    rw (full, (text_digits n some).0, text_some n some) (by (nat_lt 1 (length (decimal_text n))))
  where
    by : (b : Bool) → not (b && false) ≡ true
    by true = refl
    by false = refl

-- the text of a number reads back as the number
reads_back_negative : (n : ℕ) → number (45 ∷ decimal_text (suc n)) ≡ Some (negsuc n)
reads_back_negative n =
    rw (text_plain (suc n) (omega arith), text_some (suc n) (omega arith), (text_digits (suc n) (omega arith)).1) refl

first_not_minus : (ds : List ℕ) → 0 < length ds → list_all is_ascii_digit ds ≡ true → (slice_index ds 0 == 45) ≡ false
first_not_minus [] some digits = absurd (omega arith)
first_not_minus (d ∷ ds) some digits = elim (cases_Bool (d == 45)) [
  | inl minus ↦ by (eqb-true d 45 minus) digits
  | inr none ↦ none
]
  where
    by : d ≡ 45 → list_all is_ascii_digit (d ∷ ds) ≡ true → (d == 45) ≡ false
    by e all = cc (rw e at all)

number_plain : (ds : List ℕ) → (slice_index ds 0 == 45) ≡ false → is_plain ds ≡ true → number ds ≡ Some (pos (digits_value 10 ds))
number_plain [] none plain = cc plain
number_plain (d ∷ ds) none plain = rw (none, plain) refl

reads_back_positive : (n : ℕ) → number (decimal_text n) ≡ Some (pos n)
unfolding decimal_text
reads_back_positive zero = refl
reads_back_positive (suc n) =
    let some : 0 < suc n = omega arith in
    let digits = text_digits (suc n) some in
    number_plain (decimal_text (suc n)) (first_not_minus (decimal_text (suc n)) (text_length (suc n) some) digits.0) (text_plain (suc n) some)
    ∙ ap (λ (m : ℕ). Some (pos m)) digits.1

pub reads_back : (z : ℤ) → number (whole_text z) ≡ Some z
reads_back (pos n) = reads_back_positive n
reads_back (negsuc n) = reads_back_negative n

-- ---- no other field writes a number

-- an ASCII digit is the text of its value
digit_char : (c : ℕ) → is_ascii_digit c ≡ true → (digit_value c < 10) × (48 + digit_value c ≡ c)
digit_char c digit = grind (arith, nat_tests)

-- the text of a number that isn't 0, and of that number with digits after it
text_after : (n : ℕ) (cs : List ℕ) → 0 < n → list_all is_ascii_digit cs ≡ true → decimal_text (digits_value_after 10 n cs) ≡ decimal_text n ++ cs
text_after n [] some digits = sym (append-nil (decimal_text n))
text_after n (c ∷ cs) some digits =
    let parts = and_parts (is_ascii_digit c) _ digits in
    let char = digit_char c parts.0 in
    let m : ℕ = n * 10 + digit_value c in
    let front : m / 10 ≡ n = omega (arith, char.0) in
    let last : 48 + m % 10 ≡ c = omega (arith, char.0, char.1) in
    let longer : decimal_text n ++ (48 + m % 10) ∷ [] ≡ decimal_text m = longer_text m (decimal_text n) (omega arith) (ap decimal_text (sym front)) in
    text_after m cs (omega arith) parts.1 ∙ ap (λ (t : List ℕ). t ++ cs) (sym longer)
    ∙ append_assoc (decimal_text n) ((48 + m % 10) ∷ []) cs ∙ ap (λ (d : ℕ). decimal_text n ++ d ∷ cs) last

not_true : (b : Bool) → not b ≡ true → b ≡ false
not_true true h = cc h
not_true false h = refl

-- more than one digit, of which the first is not zero
unpadded : (n : ℕ) (is_zero : Bool) → not (nat_lt 1 (suc (suc n)) && is_zero) ≡ true → not is_zero ≡ true
unpadded n is_zero h = let more : nat_lt 1 (suc (suc n)) ≡ true = grind (arith, nat_tests) in rw more at h

first_digit : (c : ℕ) → (digit_value c < 10) × (48 + digit_value c ≡ c) → (c == 48) ≡ false → 0 < digit_value c
first_digit c char no_zero = elim (cases_Bool (nat_lt 0 (digit_value c))) [
  | inl some ↦ grind (arith, nat_tests, some)
  | inr none ↦
      let zero_value : digit_value c ≡ 0 = grind (arith, nat_tests, none) in
      let same : c ≡ 48 = omega (arith, char.1, zero_value) in
      cc (ap (λ (k : ℕ). k == 48) same, no_zero)
]

-- digits without leading zeros are the text of the number that they write
plain_text : (ds : List ℕ) → is_plain ds ≡ true → decimal_text (digits_value 10 ds) ≡ ds
plain_text [] plain = cc plain
plain_text (c ∷ []) plain =
    let digits = and_parts (are_digits (c ∷ [])) _ plain in
    let char = digit_char c (and_parts (is_ascii_digit c) true (and_parts (not (length (c ∷ []) == 0)) (list_all is_ascii_digit (c ∷ [])) digits.0).1).0 in
    let value : digits_value 10 (c ∷ []) ≡ digit_value c = omega arith in
    ap decimal_text value ∙ sym (digit_text (digit_value c) char.0) ∙ ap (λ (d : ℕ). d ∷ []) char.1
plain_text (c ∷ d ∷ ds) plain =
    let parts = and_parts (are_digits (c ∷ d ∷ ds)) _ plain in
    let digits = and_parts (is_ascii_digit c) _ (and_parts (not (length (c ∷ d ∷ ds) == 0)) (list_all is_ascii_digit (c ∷ d ∷ ds)) parts.0).1 in
    let char = digit_char c digits.0 in
    let no_zero : (c == 48) ≡ false = not_true (c == 48) (unpadded (length ds) (c == 48) parts.1) in
    let some : 0 < digit_value c = first_digit c char no_zero in
    let value : digits_value 10 (c ∷ d ∷ ds) ≡ digits_value_after 10 (digit_value c) (d ∷ ds) = ap (λ (n : ℕ). digits_value_after 10 n (d ∷ ds)) (omega arith) in
    ap decimal_text value ∙ text_after (digit_value c) (d ∷ ds) some digits.1
    ∙ ap (λ (t : List ℕ). t ++ d ∷ ds) (sym (digit_text (digit_value c) char.0) ∙ ap (λ (e : ℕ). e ∷ []) char.1)

negative_text : (n : ℕ) (rest : List ℕ) → decimal_text n ≡ rest → (slice_index rest 0 == 48) ≡ false → 45 ∷ rest ≡ whole_text (neg_ℤ (pos n))
unfolding decimal_text
negative_text zero rest text no_zero = cc (rw (← text) at no_zero)
negative_text (suc n) rest text no_zero = ap (λ (r : List ℕ). 45 ∷ r) (sym text)

-- a field that writes a number is the number's text
pub only_text : (field : List ℕ) (z : ℤ) → number field ≡ Some z → field ≡ whole_text z
only_text [] z reads = cc reads
only_text (first ∷ rest) z reads = elim (cases_Bool (first == 45)) [
  | inl minus ↦ negative (eqb-true first 45 minus) (rw minus at reads)
  | inr none ↦ elim (cases_Bool (is_plain (first ∷ rest))) [
    | inl plain ↦
        let value : pos (digits_value 10 (first ∷ rest)) ≡ z = cc (rw (none, plain) at reads) in
        sym (plain_text (first ∷ rest) plain) ∙ ap whole_text value
    | inr other ↦ cc (rw (none, other) at reads)
  ]
]
  where
    negative : first ≡ 45 → (if is_plain rest && not (slice_index rest 0 == 48) then Some (neg_ℤ (pos (digits_value 10 rest))) else None) ≡ Some z → first ∷ rest ≡ whole_text z
    negative is_minus read = elim (cases_Bool (is_plain rest && not (slice_index rest 0 == 48))) [
      | inl whole ↦
          let parts = and_parts (is_plain rest) _ whole in
          let value : neg_ℤ (pos (digits_value 10 rest)) ≡ z = cc (rw whole at read) in
          ap (λ (c : ℕ). c ∷ rest) is_minus ∙ negative_text (digits_value 10 rest) rest (plain_text rest parts.0) (not_true (slice_index rest 0 == 48) parts.1) ∙ ap whole_text value
      | inr other ↦ cc (rw other at read)
    ]
