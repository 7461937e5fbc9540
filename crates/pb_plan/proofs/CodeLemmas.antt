-- The names of a window's nodes and streams: each has the form of a name, and other numbers give another name.
use Rattle.std.proofs.Common.{◌≡◌, ◌≢◌, ◌⊎◌, ◌<◌, ◌≤◌, ◌+◌, ◌/◌, ◌%◌, ◌^◌, ◌++◌, ◌∷◌, [], ◌∙◌, ℕ, zero, suc, List, Bool, true, false, subst, length, map, arith, ap, ap₂, sym, refl, inl, inr, rules}
use Rattle.std.specs.Prelude.{◌==◌, nat_le, ◌&&◌}
use Rattle.std.specs.Char.{is_ascii_digit}
use Rattle.std.specs.Cmp.Lexicographic.{bytes_decides}
use Rattle.std.specs.Fmt.{decimal}
use Rattle.std.specs.Int.Digits.{digits_of}
use Rattle.std.specs.List.{list_all}
use Rattle.std.specs.Str.Parse.{digits_value}
use Rattle.std.proofs.lemmas.Bool.{and_parts, cases_Bool, leb-false, ne_eqb}
use Rattle.std.proofs.lemmas.Fmt.{decimal_by_steps_wide, decimal_injective, digits_decimal, length-decimal-le}
use Rattle.std.proofs.lemmas.Int.Digits.{digits_of_step}
use Rattle.std.proofs.lemmas.List.{map-append}
use Rattle.std.proofs.lemmas.Str.Parse.{IsNumeralModel, numerals_by_value}
use Rattle.pb_rows.specs.Name.{is_name, is_name_byte, same_name}
use Rattle.pb_rows.specs.Number.{decimal_text}
use Rattle.std.proofs.Common.{length-append}
use Rattle.pb_plan.specs.Codes.{code_text}

-- ---- decimal texts

-- the text of a number that isn't 0
some_text : (n : ℕ) → 0 < n → decimal_text n ≡ map (λ digit. 48 + digit) (digits_of 10 n)
unfolding decimal_text
some_text n some = rw (ne_eqb n 0 (λ e. absurd (omega (arith, e)))) refl

-- the text of a digit
digit_text : (n : ℕ) → n < 10 → (48 + n) ∷ [] ≡ decimal_text n
unfolding decimal_text
digit_text zero small = refl
digit_text (suc n) small =
    let front : suc n / 10 ≡ 0 = omega arith in
    let last : suc n % 10 ≡ suc n = omega arith in
    let step = digits_of_step 10 (suc n) (omega arith) (omega arith) in
    sym (some_text (suc n) (omega arith) ∙ ap (map (λ digit. 48 + digit)) (step ∙ ap₂ (λ (f l : ℕ). digits_of 10 f ++ l ∷ []) front last))

-- one more digit
longer_text : (n : ℕ) (front : List ℕ) → 10 ≤ n → front ≡ decimal_text (n / 10) → front ++ (48 + n % 10) ∷ [] ≡ decimal_text n
longer_text n front large so_far =
    let step = digits_of_step 10 n (omega arith) (omega arith) in
    ap (λ (f : List ℕ). f ++ (48 + n % 10) ∷ []) (so_far ∙ some_text (n / 10) (omega arith))
    ∙ sym (some_text n (omega arith) ∙ ap (map (λ digit. 48 + digit)) step ∙ map-append (λ digit. 48 + digit) (digits_of 10 (n / 10)) (n % 10 ∷ []))

-- what std writes of a number is its text
text_is : (n : ℕ) → n < 2 ^ 32 → decimal n ≡ decimal_text n
text_is n small = decimal_by_steps_wide (λ m ds. ds ≡ decimal_text m) digit_text longer_text n (omega (arith, small))

own : IsNumeralModel (λ ds. list_all is_ascii_digit ds ≡ true) (digits_value 10)
own = numerals_by_value (λ ds. list_all is_ascii_digit ds ≡ true) (search rules)

text_digits : (n : ℕ) → n < 2 ^ 32 → list_all is_ascii_digit (decimal_text n) ≡ true
text_digits n small = rw (← text_is n small) (digits_decimal own n (omega (arith, small)))

text_short : (n : ℕ) → n < 2 ^ 32 → length (decimal_text n) ≤ 10
text_short n small = rw (← text_is n small) (length-decimal-le 10 n (omega arith) (omega (arith, small)) (omega (arith, small)))

text_injective : (m n : ℕ) → m < 2 ^ 32 → n < 2 ^ 32 → decimal_text m ≡ decimal_text n → m ≡ n
text_injective m n m_small n_small same = decimal_injective m n (omega (arith, m_small)) (omega (arith, n_small)) (text_is m m_small ∙ same ∙ sym (text_is n n_small))

-- ---- the form of a name

pub at_most : (a b : ℕ) → a ≤ b → nat_le a b ≡ true
at_most a b le = elim (cases_Bool (nat_le a b)) [ inl passes ↦ passes | inr fails ↦ absurd (omega (arith, leb-false a b fails)) ]

digit_in_name : (b : ℕ) → is_ascii_digit b ≡ true → is_name_byte b ≡ true
digit_in_name b digit = rw digit refl

digits_in_name : (field : List ℕ) → list_all is_ascii_digit field ≡ true → list_all is_name_byte field ≡ true
digits_in_name [] digits = refl
digits_in_name (b ∷ field) digits =
    let parts = and_parts (is_ascii_digit b) (list_all is_ascii_digit field) digits in
    rw (digit_in_name b parts.0) (digits_in_name field parts.1)

apart : (a b : List ℕ) → a ≢ b → same_name a b ≡ false
apart a b other = elim (cases_Bool (same_name a b)) [ inl same ↦ absurd (other ((bytes_decides a b).0 same)) | inr differs ↦ differs ]

-- ---- a letter, a number, a dot and a number

head_same : (x y : ℕ) (xs ys : List ℕ) → x ∷ xs ≡ y ∷ ys → x ≡ y
head_same x y xs ys same = cc same

tail_same : (x y : ℕ) (xs ys : List ℕ) → x ∷ xs ≡ y ∷ ys → xs ≡ ys
tail_same x y xs ys same = cc same

no_dot : (rest : Bool) → (is_ascii_digit 46 && rest) ≡ true → ⊥
no_dot rest is = cc is

-- what is before the first dot, and what is after it
pub split_dot : (a b c d : List ℕ) → list_all is_ascii_digit a ≡ true → list_all is_ascii_digit c ≡ true → a ++ 46 ∷ b ≡ c ++ 46 ∷ d → (a ≡ c) × (b ≡ d)
split_dot [] b [] d a_is c_is same = (refl, tail_same 46 46 b d same)
split_dot [] b (y ∷ c) d a_is c_is same =
    let here : 46 ≡ y = head_same 46 y b (c ++ 46 ∷ d) same in
    absurd (no_dot (list_all is_ascii_digit c) (subst (λ (x : ℕ). (is_ascii_digit x && list_all is_ascii_digit c) ≡ true) (sym here) c_is))
split_dot (x ∷ a) b [] d a_is c_is same =
    let here : x ≡ 46 = head_same x 46 (a ++ 46 ∷ b) d same in
    absurd (no_dot (list_all is_ascii_digit a) (subst (λ (z : ℕ). (is_ascii_digit z && list_all is_ascii_digit a) ≡ true) here a_is))
split_dot (x ∷ a) b (y ∷ c) d a_is c_is same =
    let here = head_same x y (a ++ 46 ∷ b) (c ++ 46 ∷ d) same in
    let rest = split_dot a b c d (and_parts (is_ascii_digit x) (list_all is_ascii_digit a) a_is).1 (and_parts (is_ascii_digit y) (list_all is_ascii_digit c) c_is).1
    (tail_same x y (a ++ 46 ∷ b) (c ++ 46 ∷ d) same) in
    (ap₂ (λ (z : ℕ) (l : List ℕ). z ∷ l) here rest.0, rest.1)

-- its numbers follow from it
pub coded_injective : (letter t i u j : ℕ) → t < 2 ^ 32 → i < 2 ^ 32 → u < 2 ^ 32 → j < 2 ^ 32 → code_text letter t i ≡ code_text letter u j → (t ≡ u) × (i ≡ j)
coded_injective letter t i u j t_small i_small u_small j_small same =
    let rest = tail_same letter letter (decimal_text t ++ 46 ∷ decimal_text i) (decimal_text u ++ 46 ∷ decimal_text j) same in
    let parts = split_dot (decimal_text t) (decimal_text i) (decimal_text u) (decimal_text j) (text_digits t t_small) (text_digits u u_small) rest in
    (text_injective t u t_small u_small parts.0, text_injective i j i_small j_small parts.1)

pub codes_apart : (letter t i u j : ℕ) → t < 2 ^ 32 → i < 2 ^ 32 → u < 2 ^ 32 → j < 2 ^ 32 → (t ≢ u) ⊎ (i ≢ j) → same_name (code_text letter t i) (code_text letter u j) ≡ false
codes_apart letter t i u j t_small i_small u_small j_small other =
    apart (code_text letter t i) (code_text letter u j) (λ same.
    let parts = coded_injective letter t i u j t_small i_small u_small j_small same in
    elim other [ inl periods ↦ absurd (periods parts.0) | inr places ↦ absurd (places parts.1) ])

-- it has the form of a name
all_joined : (a b : List ℕ) → list_all is_name_byte a ≡ true → list_all is_name_byte b ≡ true → list_all is_name_byte (a ++ b) ≡ true
all_joined [] b a_is b_is = b_is
all_joined (x ∷ a) b a_is b_is =
    let parts = and_parts (is_name_byte x) (list_all is_name_byte a) a_is in
    rw parts.0 (all_joined a b parts.1 b_is)

pub coded_name : (letter t i : ℕ) → is_name_byte letter ≡ true → t < 2 ^ 32 → i < 2 ^ 32 → is_name (code_text letter t i) ≡ true
coded_name letter t i good t_small i_small =
    let text = decimal_text t ++ 46 ∷ decimal_text i in
    let long : length (code_text letter t i) ≤ 22 = omega (arith, length-append (decimal_text t) (46 ∷ decimal_text i), text_short t t_small, text_short i i_small) in
    let some : (length (code_text letter t i) == 0) ≡ false = ne_eqb (length (code_text letter t i)) 0 (λ e. absurd (omega (arith, e))) in
    let few : nat_le (length (code_text letter t i)) 32 ≡ true = at_most (length (code_text letter t i)) 32 (omega (arith, long)) in
    let after : list_all is_name_byte (46 ∷ decimal_text i) ≡ true = digits_in_name (decimal_text i) (text_digits i i_small) in
    let all : list_all is_name_byte text ≡ true = all_joined (decimal_text t) (46 ∷ decimal_text i) (digits_in_name (decimal_text t) (text_digits t t_small)) after in
    rw (some, few, good) all
