-- The text of a day writes it: it stands among the texts of all dates.
use Rattle.std.specs.Prelude.{◌==◌, ◌||◌, map, Option, Some, None, if◌then◌else◌}
use Rattle.std.specs.List.{find, flat_map, range_with_len}
use Rattle.std.specs.Option.{option_eq, unwrap_or}
use Rattle.std.specs.Ordering.{int_eq}
use Rattle.std.proofs.Common.{◌≡◌, ◌∙◌, ◌⊎◌, inl, inr, ◌≤◌, ◌<◌, ◌+◌, ℕ, zero, suc, ℤ, pos, Bool, true, false, List, [], ◌∷◌, ◌++◌, refl, sym, ap, subst, arith}
use Rattle.std.proofs.lemmas.Bool.{cases_Bool, eqb-false, eqb-true}
use Rattle.std.proofs.lemmas.Bool.Decides.{Decides-int_eq}
use Rattle.jiff_core.specs.Calendar.{days_in_month, is_leap_year}
use Rattle.pb_rows.specs.Date.{IsDate, IsDay, date_text, day_of, first_year}
use Rattle.pb_rows.specs.Texts.{HaveOneDateText}
use Rattle.pb_form.specs.Days.{dates_of_years, text_of_day}

-- ---- items of lists

abbrev IsIn : {A : Type 0} → A → List A → Type 0
IsIn x [] = ⊥
IsIn x (y ∷ ys) = (x ≡ y) ⊎ IsIn x ys

in_left : {A : Type 0} (x : A) (xs ys : List A) → IsIn x xs → IsIn x (xs ++ ys)
in_left x [] ys is = absurd is
in_left x (y ∷ xs) ys (inl same) = inl same
in_left x (y ∷ xs) ys (inr rest) = inr (in_left x xs ys rest)

in_right : {A : Type 0} (x : A) (xs ys : List A) → IsIn x ys → IsIn x (xs ++ ys)
in_right x [] ys is = is
in_right x (y ∷ xs) ys is = inr (in_right x xs ys is)

in_flat : {A B : Type 0} (f : A → List B) (x : A) (y : B) (xs : List A) → IsIn x xs → IsIn y (f x) → IsIn y (flat_map f xs)
in_flat {A = A} f x y [] is there = absurd is
in_flat {A = A} f x y (z ∷ xs) (inl same) there = in_left y (f z) (flat_map f xs) (subst (λ (w : A). IsIn y (f w)) same there)
in_flat {A = A} f x y (z ∷ xs) (inr rest) there = in_right y (f z) (flat_map f xs) (in_flat f x y xs rest there)

in_map : {A B : Type 0} (f : A → B) (x : A) (xs : List A) → IsIn x xs → IsIn (f x) (map f xs)
in_map f x [] is = absurd is
in_map f x (y ∷ xs) (inl same) = inl (ap f same)
in_map f x (y ∷ xs) (inr rest) = inr (in_map f x xs rest)

in_range : (from count k : ℕ) → from ≤ k → k < from + count → IsIn k (range_with_len from count)
in_range from zero k low high = absurd (omega (arith, low, high))
in_range from (suc count) k low high = elim (cases_Bool (k == from)) [
  | inl same ↦ inl (eqb-true k from same)
  | inr other ↦ inr (in_range (from + 1) count k (omega (arith, low, eqb-false k from other)) (omega (arith, high)))
]

-- ---- dates

abbrev dates_of_month : ℕ → ℕ → List (List ℕ)
dates_of_month year month = map (date_text year month) (range_with_len 1 31)

abbrev dates_of_year : ℕ → List (List ℕ)
dates_of_year year = flat_map (dates_of_month year) (range_with_len 1 12)

month_length : (year : ℤ) (month : ℕ) → days_in_month year month ≤ 31
month_length year month = by (month == 2) (is_leap_year year) ((month == 4) || (month == 6) || (month == 9) || (month == 11))
  where
    by : (a b c : Bool) → (if a then (if b then 29 else 28) else (if c then 30 else 31)) ≤ 31
    by true true c = omega arith
    by true false c = omega arith
    by false b true = omega arith
    by false b false = omega arith

in_month : (year month day : ℕ) → 1 ≤ day → day ≤ 31 → IsIn (date_text year month day) (dates_of_month year month)
in_month year month day low high = in_map (date_text year month) day (range_with_len 1 31) (in_range 1 31 day low (omega (arith, high)))

in_year : (year month day : ℕ) → 1 ≤ month → month ≤ 12 → 1 ≤ day → day ≤ 31 → IsIn (date_text year month day) (dates_of_year year)
in_year year month day m_low m_high d_low d_high =
    in_flat (dates_of_month year) month (date_text year month day) (range_with_len 1 12) (in_range 1 12 month m_low (omega (arith, m_high))) (in_month year month day d_low d_high)

in_years : (n year month day : ℕ) → first_year ≤ year → year < first_year + n → 1 ≤ month → month ≤ 12 → 1 ≤ day → day ≤ 31 → IsIn (date_text year month day) (dates_of_years n)
unfolding dates_of_years
in_years n year month day y_low y_high m_low m_high d_low d_high =
    in_flat dates_of_year year (date_text year month day) (range_with_len first_year n) (in_range first_year n year y_low y_high) (in_year year month day m_low m_high d_low d_high)

in_dates : (year month day : ℕ) → IsDate year month day → IsIn (date_text year month day) (dates_of_years 300)
in_dates year month day date =
    in_years 300 year month day (omega (arith, date.0)) (omega (arith, date.0)) (omega (arith, date.1.1)) (omega (arith, date.1.1)) (omega (arith, date.1.2))
    (omega (arith, date.1.2, month_length (pos year) month))

-- ---- the text that is found

abbrev first_writing : ℤ → List (List ℕ) → List ℕ
first_writing day texts = unwrap_or (find (λ text. option_eq int_eq (day_of text) (Some day)) texts) []

this_day : (day : ℤ) (o : Option ℤ) → option_eq int_eq o (Some day) ≡ true → o ≡ Some day
this_day day None is = cc is
this_day day (Some other) is = ap (λ (d : ℤ). Some d) ((Decides-int_eq other day).0 is)

own_day : (day : ℤ) (o : Option ℤ) → o ≡ Some day → option_eq int_eq o (Some day) ≡ true
own_day day o is = rw is ((Decides-int_eq day day).1 refl)

first_found : (day : ℤ) (text : List ℕ) (texts : List (List ℕ)) → IsIn text texts → day_of text ≡ Some day → day_of (first_writing day texts) ≡ Some day
first_found day text [] is reads = absurd is
first_found day text (other ∷ texts) is reads = by (option_eq int_eq (day_of other) (Some day)) refl is (λ rest. first_found day text texts rest reads)
  where
    by : (b : Bool) → option_eq int_eq (day_of other) (Some day) ≡ b → (text ≡ other) ⊎ IsIn text texts → (IsIn text texts → day_of (first_writing day texts) ≡ Some day)
        → day_of (unwrap_or (if b then Some other else find (λ text. option_eq int_eq (day_of text) (Some day)) texts) []) ≡ Some day
    by true here is later = this_day day (day_of other) here
    by false here (inl same) later = let own = own_day day (day_of other) (ap day_of (sym same) ∙ reads) in cc (sym own ∙ here)
    by false here (inr rest) later = later rest

-- The text of a day writes it.
pub day_reads : HaveOneDateText → (n : ℤ) → IsDay n → day_of (text_of_day n) ≡ Some n
unfolding text_of_day
day_reads law n range =
    let text = law.each n range in
    let date = law.only text.0 n text.1 in
    let is = date.1.1.1 in
    first_found n (date_text date.0 date.1.0 date.1.1.0) (dates_of_years 300) (in_dates date.0 date.1.0 date.1.1.0 is.date) (ap day_of (sym is.text) ∙ text.1)

-- Another day has no text.
none_found : (day : ℤ) → ((text : List ℕ) → day_of text ≡ Some day → ⊥) → (texts : List (List ℕ)) → first_writing day texts ≡ []
none_found day none [] = refl
none_found day none (other ∷ texts) = by (option_eq int_eq (day_of other) (Some day)) refl (none_found day none texts)
  where
    by : (b : Bool) → option_eq int_eq (day_of other) (Some day) ≡ b → first_writing day texts ≡ []
        → unwrap_or (if b then Some other else find (λ text. option_eq int_eq (day_of text) (Some day)) texts) [] ≡ []
    by true here later = absurd (none other (this_day day (day_of other) here))
    by false here later = later

pub no_text : HaveOneDateText → (n : ℤ) → (IsDay n → ⊥) → text_of_day n ≡ []
unfolding text_of_day
no_text law n outside = none_found n (λ text reads. outside (law.within text n reads)) (dates_of_years 300)
