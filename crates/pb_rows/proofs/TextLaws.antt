-- The texts of numbers and days, and names that are written with numbers: laws for other crates to cite.
use Rattle.std.proofs.Common.{◌≡◌, ◌≢◌, ◌<◌, ◌≤◌, ◌^◌, ◌∷◌, [], ◌∙◌, ℕ, zero, suc, pos, Some, List, true, false, length, arith, ap, sym, refl, inl, inr}
use Rattle.std.specs.Prelude.{◌==◌, nat_le}
use Rattle.std.specs.Char.{is_ascii_digit}
use Rattle.std.specs.Cmp.Lexicographic.{bytes_decides}
use Rattle.std.specs.List.{list_all}
use Rattle.std.proofs.lemmas.Bool.{and_parts, cases_Bool, leb-false, ne_eqb}
use Rattle.std.proofs.lemmas.Fmt.{length-decimal-le}
use Rattle.pb_rows.specs.Name.{is_name, is_name_byte, same_name}
use Rattle.pb_rows.specs.Number.{decimal_text}
use Rattle.pb_rows.specs.Texts.{HaveOneDateText, HaveOneNumberText}
use Rattle.pb_rows.proofs.DateTextLemmas.{day_has_text, day_within, one_text, text_back, text_only}
use Rattle.pb_rows.proofs.TextLemmas.{only_text, reads_back, text_digits, wide_text}

pub number_texts : HaveOneNumberText
number_texts = record { read = reads_back; only = only_text }

pub date_texts : HaveOneDateText
date_texts = record {
  read = text_back;
  only = λ field n reads. let only = text_only field n reads in (only.year, (only.month, (only.day, only.is)));
  within = day_within;
  each = day_has_text;
  one = one_text;
}

-- ---- decimal texts

-- they are digits
pub decimal_digits : (n : ℕ) → list_all is_ascii_digit (decimal_text n) ≡ true
unfolding decimal_text
decimal_digits zero = refl
decimal_digits (suc n) = (text_digits (suc n) (omega arith)).0

-- at most ten digits write a number of 32 bits
pub decimal_short : (n : ℕ) → n < 2 ^ 32 → length (decimal_text n) ≤ 10
decimal_short n small =
    rw (← wide_text n (omega (arith, small))) (length-decimal-le 10 n (omega arith) (omega (arith, small)) (omega (arith, small)))

-- two numbers with the same text are the same
pub decimal_one : (m n : ℕ) → decimal_text m ≡ decimal_text n → m ≡ n
decimal_one m n same = cc (sym (reads_back (pos m)), reads_back (pos n), same)

-- ---- names

-- digits may stand in a name
pub digits_in_name : (field : List ℕ) → list_all is_ascii_digit field ≡ true → list_all is_name_byte field ≡ true
digits_in_name [] digits = refl
digits_in_name (b ∷ field) digits =
    let parts = and_parts (is_ascii_digit b) (list_all is_ascii_digit field) digits in
    rw (in_name b parts.0) (digits_in_name field parts.1)
  where
    in_name : (b : ℕ) → is_ascii_digit b ≡ true → is_name_byte b ≡ true
    in_name b digit = rw digit refl

-- up to 32 of these bytes are a name
pub name_of_bytes : (first : ℕ) (rest : List ℕ) → is_name_byte first ≡ true → list_all is_name_byte rest ≡ true → length rest < 32
    → is_name (first ∷ rest) ≡ true
name_of_bytes first rest first_is rest_is short =
    let some : (length (first ∷ rest) == 0) ≡ false = ne_eqb (length (first ∷ rest)) 0 (λ e. absurd (omega (arith, e))) in
    let few : nat_le (length (first ∷ rest)) 32 ≡ true = elim (cases_Bool (nat_le (length (first ∷ rest)) 32)) [
      | inl fits ↦ fits
      | inr long ↦ absurd (omega (arith, short, leb-false (length (first ∷ rest)) 32 long))
    ] in
    rw (some, few, first_is) rest_is

-- a letter and a number after it are a name
pub numbered_name : (letter n : ℕ) → is_name_byte letter ≡ true → n < 2 ^ 32 → is_name (letter ∷ decimal_text n) ≡ true
numbered_name letter n letter_is small =
    name_of_bytes letter (decimal_text n) letter_is (digits_in_name (decimal_text n) (decimal_digits n)) (omega (arith, decimal_short n small))

-- different names are told apart
pub names_apart : (a b : List ℕ) → a ≢ b → same_name a b ≡ false
names_apart a b other = elim (cases_Bool (same_name a b)) [ inl same ↦ absurd (other ((bytes_decides a b).0 same)) | inr differs ↦ differs ]

-- a name is the same as itself
pub same_self : (name : List ℕ) → same_name name name ≡ true
same_self name = (bytes_decides name name).1 refl
