-- What is written is text.
use Rattle.std.proofs.Common.{◌≡◌, ◌+◌, ◌/◌, ◌%◌, ◌<◌, ◌++◌, [], ◌∷◌, ℕ, zero, suc, ℤ, pos, negsuc, Bool, true, List, map, IsUtf8, IsAscii, inl, inr, arith}
use Rattle.std.specs.Prelude.{◌==◌, All, OnOk, Result, Ok, Err}
use Rattle.std.specs.Int.Digits.{AllBelowBase, digits_of}
use Rattle.std.specs.List.{list_all}
use Rattle.std.proofs.lemmas.Bool.{and_parts, cases_Bool}
use Rattle.std.proofs.lemmas.Bool.Decides.{nat_tests}
use Rattle.std.proofs.lemmas.Int.Digits.{all_below_base_digits_of}
use Rattle.std.proofs.lemmas.List.Elements.{All-push}
use Rattle.std.proofs.lemmas.Str.{IsUtf8-from_ascii}
use Rattle.pb_rows.specs.Date.{date_text}
use Rattle.pb_rows.specs.Forms.{has_name_length, has_reason_length}
use Rattle.pb_rows.specs.Name.{is_name, is_name_byte}
use Rattle.pb_rows.specs.Number.{decimal_text, whole_text}
use Rattle.pb_rows.specs.Reason.{is_reason, is_reason_byte}

digits_ascii : (ds : List ℕ) → AllBelowBase 10 ds → IsAscii (map (λ digit. 48 + digit) ds)
digits_ascii [] below i = omega arith
digits_ascii (d ∷ ds) below zero = omega (arith, below.0)
digits_ascii (d ∷ ds) below (suc i) = digits_ascii ds below.1 i

zero_ascii : IsAscii (48 ∷ [])
zero_ascii zero = omega arith
zero_ascii (suc i) = omega arith

decimal_ascii : (n : ℕ) → IsAscii (decimal_text n)
unfolding decimal_text
decimal_ascii n = elim (cases_Bool (n == 0)) [
  | inl none ↦ rw none zero_ascii
  | inr some ↦ rw some (digits_ascii (digits_of 10 n) (all_below_base_digits_of 10 n (omega arith)))
]

minus_ascii : (ds : List ℕ) → IsAscii ds → IsAscii (45 ∷ ds)
minus_ascii ds digits zero = omega arith
minus_ascii ds digits (suc i) = digits i

whole_ascii : (z : ℤ) → IsAscii (whole_text z)
whole_ascii (pos n) = decimal_ascii n
whole_ascii (negsuc n) = minus_ascii (decimal_text (suc n)) (decimal_ascii (suc n))

-- the text of a whole number
pub whole_utf8 : (z : ℤ) → IsUtf8 (whole_text z)
whole_utf8 z = IsUtf8-from_ascii (whole_text z) (whole_ascii z)

more_ascii : (byte : ℕ) (rest : List ℕ) → byte < 128 → IsAscii rest → IsAscii (byte ∷ rest)
more_ascii byte rest low ascii zero = low
more_ascii byte rest low ascii (suc i) = ascii i

none_ascii : IsAscii []
none_ascii i = omega arith

two_ascii : (n : ℕ) (rest : List ℕ) → n < 100 → IsAscii rest → IsAscii ((48 + n / 10) ∷ ((48 + n % 10) ∷ rest))
two_ascii n rest low ascii =
    more_ascii (48 + n / 10) ((48 + n % 10) ∷ rest) (omega (arith, low)) (more_ascii (48 + n % 10) rest (omega (arith, low)) ascii)

-- the text of a date
pub date_utf8 : (year month day : ℕ) → year < 10000 → month < 100 → day < 100 → IsUtf8 (date_text year month day)
date_utf8 year month day y m d =
    let days = (48 + day / 10) ∷ ((48 + day % 10) ∷ []) in
    let months = (48 + month / 10) ∷ ((48 + month % 10) ∷ (45 ∷ days)) in
    let years = (48 + (year % 100) / 10) ∷ ((48 + (year % 100) % 10) ∷ (45 ∷ months)) in
    let low : 45 < 128 = omega arith in
    let century : year / 100 < 100 = omega (arith, y) in
    let rest : year % 100 < 100 = omega arith in
    IsUtf8-from_ascii (date_text year month day)
    (two_ascii (year / 100) years century (two_ascii (year % 100) (45 ∷ months) rest (more_ascii 45 months low
    (two_ascii month (45 ∷ days) m (more_ascii 45 days low (two_ascii day [] d none_ascii))))))

-- a row of texts to which a text is added
pub text_added : {T E : Type 0} (result : Result T E) (old new : List (List ℕ)) (field : List ℕ) → OnOk result (new ≡ old ++ field ∷ []) → IsUtf8 field
    → OnOk result (All IsUtf8 old → All IsUtf8 new)
text_added (Ok value) old new field added is = λ all. rw added (All-push IsUtf8 old field all is)
text_added (Err error) old new field added is = tt

pub blank_utf8 : IsUtf8 []
blank_utf8 = IsUtf8-from_ascii [] none_ascii

-- a text of bytes of a form
form_ascii : (is_byte : ℕ → Bool) → ((byte : ℕ) → is_byte byte ≡ true → byte < 128) → (field : List ℕ) → list_all is_byte field ≡ true → IsAscii field
form_ascii is_byte low [] all i = omega arith
form_ascii is_byte low (byte ∷ field) all zero = low byte (and_parts (is_byte byte) (list_all is_byte field) all).0
form_ascii is_byte low (byte ∷ field) all (suc i) = form_ascii is_byte low field (and_parts (is_byte byte) (list_all is_byte field) all).1 i

low_name_byte : (byte : ℕ) → is_name_byte byte ≡ true → byte < 128
low_name_byte byte form = grind (arith, nat_tests)

low_reason_byte : (byte : ℕ) → is_reason_byte byte ≡ true → byte < 128
low_reason_byte byte form = grind (arith, nat_tests)

-- a name, and a reason
pub name_utf8 : (field : List ℕ) → is_name field ≡ true → IsUtf8 field
name_utf8 field is =
    IsUtf8-from_ascii field (form_ascii is_name_byte low_name_byte field (and_parts (has_name_length field) (list_all is_name_byte field) is).1)

pub reason_utf8 : (field : List ℕ) → is_reason field ≡ true → IsUtf8 field
reason_utf8 field is =
    IsUtf8-from_ascii field (form_ascii is_reason_byte low_reason_byte field (and_parts (has_reason_length field) (list_all is_reason_byte field) is).1)
