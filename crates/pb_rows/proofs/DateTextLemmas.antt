-- Each day from 1900-01-01 to 2199-12-31 has one text, which reads back.
use Rattle.std.proofs.Common.{◌≡◌, ◌<◌, ◌≤◌, ◌+◌, ◌*◌, ◌/◌, ◌%◌, ◌∷◌, [], ◌∙◌, ℕ, zero, suc, ℤ, pos, ◌+ℤ◌, List, true, false, Option, Some, None, length, unsigned_abs, arith, ap, sym, refl, inl, inr}
use Rattle.std.specs.Prelude.{◌-◌, ◌==◌, ◌&&◌, IfSome, int_le}
use Rattle.std.specs.Char.{is_ascii_digit}
use Rattle.std.specs.Int.{IsInRange}
use Rattle.std.proofs.lemmas.Bool.{and_parts, cases_Bool, cases_lt, eqb-true, ne_eqb}
use Rattle.std.proofs.lemmas.Bool.Decides.{nat_tests}
use Rattle.std.proofs.lemmas.Int.{ints}
use Rattle.jiff_core.specs.declared.civil.date.Date.{Date}
use Rattle.jiff_core.specs.Calendar.{IsYear, day_count, days_from_civil, days_in_month}
use Rattle.jiff_core.proofs.CalendarLemmas.{day_count-day, day_count-day_of_year, day_count-last_of_year, day_count-later_year, day_count-lt_year, day_count-next_month, day_count-next_year, days_from_civil-day_count}
use Rattle.jiff_core.proofs.DateLemmas.{epoch_day_injective}
use Rattle.jiff_core.proofs.MarchLemmas.{day_count-early}
use Rattle.pb_rows.specs.Bytes.{dash, zero_digit}
use Rattle.pb_rows.specs.Date.{IsDate, IsDay, date_text, day_number, day_of, day_of_parts, is_day, two_digits_value}
use Rattle.pb_rows.specs.Texts.{IsDateOf, WritesDay}

-- ---- two digits

-- the digits of a number below 100 write it
pair_back : (n : ℕ) → n < 100 → two_digits_value (zero_digit + n / 10) (zero_digit + n % 10) ≡ Some n
pair_back n small =
    let tens : is_ascii_digit (48 + n / 10) ≡ true = grind (arith, nat_tests) in
    let ones : is_ascii_digit (48 + n % 10) ≡ true = grind (arith, nat_tests) in
    rw (tens, ones) (ap (λ (k : ℕ). Some k) (omega arith))

-- and two digits write a number below 100, whose digits they are
pair_only : (a b n : ℕ) → two_digits_value a b ≡ Some n → (n < 100) × (a ≡ zero_digit + n / 10) × (b ≡ zero_digit + n % 10)
pair_only a b n e = elim (cases_Bool (is_ascii_digit a && is_ascii_digit b)) [
  | inl digits ↦
      let parts = and_parts (is_ascii_digit a) _ digits in
      by (bounds a parts.0) (bounds b parts.1) (rw digits at e)
  | inr none ↦ cc (rw none at e)
]
  where
    bounds : (c : ℕ) → is_ascii_digit c ≡ true → (48 ≤ c) × (c ≤ 57)
    bounds c digit = grind (arith, nat_tests)

    by : (48 ≤ a) × (a ≤ 57) → (48 ≤ b) × (b ≤ 57) → Some ((a - 48) * 10 + (b - 48)) ≡ Some n → (n < 100) × (a ≡ 48 + n / 10) × (b ≡ 48 + n % 10)
    by a_in b_in same = let value : (a - 48) * 10 + (b - 48) ≡ n = cc same in (omega arith, omega arith, omega arith)

-- ---- the calendar

-- the test of a day is that the calendar has it
is_day_of : (y m d : ℕ) → IsDate y m d → is_day (pos y) (pos m) (pos d) ≡ true
is_day_of y m d date =
    let from : int_le (pos 1900) (pos y) ≡ true = grind (arith, ints, date.0) in
    let to : int_le (pos y) (pos 2199) ≡ true = grind (arith, ints, date.0) in
    let low : int_le (pos 1) (pos m) ≡ true = grind (arith, ints, date.1) in
    let high : int_le (pos m) (pos 12) ≡ true = grind (arith, ints, date.1) in
    let first : int_le (pos 1) (pos d) ≡ true = grind (arith, ints, date.1) in
    let last : int_le (pos d) (pos (days_in_month (pos y) m)) ≡ true = grind (arith, ints, date.1) in
    rw (from, to, low, high, first, last) refl

-- and the day number that the calendar gives is of such a date
day_number_only : (y m d : ℕ) (n : ℤ) → day_number (pos y) (pos m) (pos d) ≡ Some n → IsDate y m d × (n ≡ days_from_civil (pos y) m d)
day_number_only y m d n e =
    let from = int_le (pos 1900) (pos y) in
    let to = int_le (pos y) (pos 2199) in
    let low = int_le (pos 1) (pos m) in
    let high = int_le (pos m) (pos 12) in
    let first = int_le (pos 1) (pos d) in
    let last = int_le (pos d) (pos (days_in_month (pos y) m)) in
    elim (cases_Bool (is_day (pos y) (pos m) (pos d))) [
      | inl there ↦
          let p = and_parts (from && to && low && high && first) last there in
          let q = and_parts (from && to && low && high) first p.0 in
          let r = and_parts (from && to && low) high q.0 in
          let s = and_parts (from && to) low r.0 in
          let t = and_parts from to s.0 in
          (dated t.0 t.1 s.1 r.1 q.1 p.1, cc (rw there at e))
      | inr none ↦ cc (rw none at e)
    ]
  where
    dated : int_le (pos 1900) (pos y) ≡ true → int_le (pos y) (pos 2199) ≡ true → int_le (pos 1) (pos m) ≡ true → int_le (pos m) (pos 12) ≡ true
        → int_le (pos 1) (pos d) ≡ true → int_le (pos d) (pos (days_in_month (pos y) m)) ≡ true → IsDate y m d
    dated from to low high first last =
        let year : IsYear (pos y) = (omega (arith, ints, from), omega (arith, ints, to)) in
        let month : IsInRange 1 12 m = (omega (arith, ints, low), omega (arith, ints, high)) in
        let day : IsInRange 1 (days_in_month (pos y) m) d = (omega (arith, ints, first), omega (arith, ints, last)) in
        ((omega (arith, ints, from), omega (arith, ints, to)), (year, month, day))

-- ---- the days of these years

first_day : day_count (pos 1900) 1 1 ≡ 4_346_386
first_day = day_count-early (pos 1900) 11899 1 1 refl (omega arith) (omega arith) (omega arith)

day_behind : day_count (pos 2200) 1 1 ≡ 4_455_959
day_behind = day_count-early (pos 2200) 12199 1 1 refl (omega arith) (omega arith) (omega arith)

-- a date from 1900 on doesn't lie before the first day of 1900
not_before : (y m d : ℕ) → IsDate y m d → 4_346_386 ≤ day_count (pos y) m d
not_before y m d date =
    let here = day_count-day_of_year (pos y) m d date.1.2.0 in
    elim (cases_lt 1900 y) [
      | inl less ↦
          let later = day_count-later_year (pos 1900) (pos y) (omega (arith, ints)) (omega (arith, ints)) in
          omega (arith, first_day, later, here, date.1.2.0)
      | inr ge ↦
          let e : y ≡ 1900 = omega (arith, date.0.0) in
          let first : day_count (pos y) 1 1 ≡ 4_346_386 = ap (λ (k : ℕ). day_count (pos k) 1 1) e ∙ first_day in
          omega (arith, first, here, date.1.2.0)
    ]

-- a date up to 2199 lies before the first day of 2200
not_behind : (y m d : ℕ) → IsDate y m d → day_count (pos y) m d < 4_455_959
not_behind y m d date =
    let less = day_count-lt_year (pos y) m d (pos 2200) 1 1 date.1 (omega arith) (omega (arith, ints, date.0.1)) in
    omega (arith, less, day_behind)

date_within : (y m d : ℕ) → IsDate y m d → IsDay (days_from_civil (pos y) m d)
date_within y m d date =
    let count = days_from_civil-day_count (pos y) m d in
    let first = not_before y m d date in
    let last = not_behind y m d date in
    (omega (arith, ints, count, first), omega (arith, ints, count, last))

-- ---- the text of a date is read

parts_back : (y m d : ℕ) → y / 100 * 100 + y % 100 ≡ y → IsDate y m d
    → day_of_parts (Some (y / 100)) (Some (y % 100)) (Some m) (Some d) ≡ Some (days_from_civil (pos y) m d)
parts_back y m d same date = rw (same, is_day_of y m d date) refl

pub text_back : (y m d : ℕ) → IsDate y m d → WritesDay (date_text y m d) (days_from_civil (pos y) m d)
text_back y m d date =
    let long : days_in_month (pos y) m ≤ 31 = grind arith in
    let century = pair_back (y / 100) (omega (arith, date.0)) in
    let year = pair_back (y % 100) (omega arith) in
    let month = pair_back m (omega (arith, date.1.1)) in
    let day = pair_back d (omega (arith, date.1.2, long)) in
    let same : y / 100 * 100 + y % 100 ≡ y = omega arith in
    rw (century, year, month, day) (parts_back y m d same date)

-- ---- and nothing else is

-- the four numbers of a day that a field writes
record Parts (a b c d : Option ℕ) (n : ℤ) : Type 0 where
  century : ℕ
  year : ℕ
  month : ℕ
  day : ℕ
  is_century : a ≡ Some century
  is_year : b ≡ Some year
  is_month : c ≡ Some month
  is_day_of_month : d ≡ Some day
  date : IsDate (century * 100 + year) month day
  number : n ≡ days_from_civil (pos (century * 100 + year)) month day

parts_only : (a b c d : Option ℕ) (n : ℤ) → day_of_parts a b c d ≡ Some n → Parts a b c d n
parts_only (Some a) (Some b) (Some c) (Some d) n e =
    let only = day_number_only (a * 100 + b) c d n e in
    record { century = a; year = b; month = c; day = d; is_century = refl; is_year = refl; is_month = refl; is_day_of_month = refl; date = only.0; number = only.1 }
parts_only None b c d n e = cc e
parts_only (Some a) None c d n e = cc e
parts_only (Some a) (Some b) None d n e = cc e
parts_only (Some a) (Some b) (Some c) None n e = cc e

-- a date that a field writes
pub record DateOf (field : List ℕ) (n : ℤ) : Type 0 where
  pub year : ℕ
  pub month : ℕ
  pub day : ℕ
  pub is : IsDateOf field n year month day

ten_only : (a b c d e f g h i j : ℕ) (n : ℤ) → e ≡ dash → h ≡ dash
    → day_of_parts (two_digits_value a b) (two_digits_value c d) (two_digits_value f g) (two_digits_value i j) ≡ Some n
    → DateOf (a ∷ b ∷ c ∷ d ∷ e ∷ f ∷ g ∷ h ∷ i ∷ j ∷ []) n
ten_only a b c d e f g h i j n first second reads =
    let parts = parts_only (two_digits_value a b) (two_digits_value c d) (two_digits_value f g) (two_digits_value i j) n reads in
    let century = pair_only a b parts.century parts.is_century in
    let year = pair_only c d parts.year parts.is_year in
    let month = pair_only f g parts.month parts.is_month in
    let day = pair_only i j parts.day parts.is_day_of_month in
    let front : (parts.century * 100 + parts.year) / 100 ≡ parts.century = omega (arith, year.0) in
    let back : (parts.century * 100 + parts.year) % 100 ≡ parts.year = omega (arith, year.0) in
    record {
      year = parts.century * 100 + parts.year;
      month = parts.month;
      day = parts.day;
      is = record {
        date = parts.date;
        text = cc (front, back, first, second, century.1, century.2, year.1, year.2, month.1, month.2, day.1, day.2);
        number = parts.number;
      };
    }

pub text_only : (field : List ℕ) (n : ℤ) → WritesDay field n → DateOf field n
text_only (a ∷ b ∷ c ∷ d ∷ e ∷ f ∷ g ∷ h ∷ i ∷ j ∷ []) n reads = elim (cases_Bool ((e == dash) && (h == dash))) [
  | inl dashes ↦
      let parts = and_parts (e == dash) (h == dash) dashes in
      ten_only a b c d e f g h i j n (eqb-true e dash parts.0) (eqb-true h dash parts.1) (rw (parts.0, parts.1) at reads)
  | inr none ↦ cc (rw none at reads)
]
text_only (a ∷ b ∷ c ∷ d ∷ e ∷ f ∷ g ∷ h ∷ i ∷ j ∷ k ∷ rest) n reads =
    let long : (length (a ∷ b ∷ c ∷ d ∷ e ∷ f ∷ g ∷ h ∷ i ∷ j ∷ k ∷ rest) == 10) ≡ false = ne_eqb _ 10 (λ same. absurd (omega arith)) in
    cc (rw long at reads)
text_only field n reads = cc reads

-- a day that a field writes lies in the range
pub day_within : (field : List ℕ) (n : ℤ) → WritesDay field n → IsDay n
day_within field n reads =
    let only = text_only field n reads in
    rw only.is.number (date_within only.year only.month only.day only.is.date)

-- ---- each day has a text

-- a date of a day count
record DateAt (count : ℕ) : Type 0 where
  year : ℕ
  month : ℕ
  day : ℕ
  date : IsDate year month day
  is_count : day_count (pos year) month day ≡ count

last_day : (y m d : ℕ) → IsDate y m d → y ≡ 2199 → m ≡ 12 → d ≡ 31 → day_count (pos y) m d ≡ 4_455_958
last_day y m d date year month day =
    let last = day_count-last_of_year (pos 2199) in
    let next = day_count-next_year (pos 2199) (pos 2200) (omega (arith, ints)) refl in
    rw (year, month, day) (omega (arith, last, next, day_behind))

-- the day after a date, if it isn't the last one
next_date : (y m d : ℕ) → IsDate y m d → day_count (pos y) m d < 4_455_958 → DateAt (day_count (pos y) m d + 1)
next_date y m d date before = elim (cases_lt d (days_in_month (pos y) m)) [
  | inl within ↦ record {
    year = y;
    month = m;
    day = d + 1;
    date = (date.0, (date.1.0, date.1.1, (omega arith, omega (arith, within))));
    is_count = omega (arith, day_count-day (pos y) m d (d + 1) date.1.2.0 (omega arith));
  }
  | inr last ↦ elim (cases_lt m 12) [
    | inl more ↦ record {
      year = y;
      month = m + 1;
      day = 1;
      date = (date.0, (date.1.0, (omega arith, omega (arith, more)), (omega arith, month_has (m + 1))));
      is_count =
          omega (arith, last, date.1.2.1, day_count-next_month (pos y) m date.1.1.0, day_count-day (pos y) m d 1 date.1.2.0 (omega arith));
    }
    | inr december ↦ new_year (omega (arith, december, date.1.1)) last
  ]
]
  where
    month_has : (k : ℕ) → 1 ≤ days_in_month (pos y) k
    month_has k = grind arith

    year_end : (k : ℕ) → k ≡ 12 → days_in_month (pos y) k ≡ 31
    year_end k e = rw e refl

    new_year : m ≡ 12 → days_in_month (pos y) m ≤ d → DateAt (day_count (pos y) m d + 1)
    new_year month last =
        let day : d ≡ 31 = omega (arith, last, date.1.2.1, year_end m month) in
        let in_years : ¬ (y ≡ 2199) = λ e. absurd (omega (arith, before, last_day y m d date e month day)) in
        let at_end : day_count (pos y) m d ≡ day_count (pos y) 12 31 = ap (λ (k : ℕ). day_count (pos y) k d) month ∙ ap (λ (k : ℕ). day_count (pos y) 12 k) day in
        record {
          year = y + 1;
          month = 1;
          day = 1;
          date = ((omega (arith, date.0), omega (arith, date.0, in_years)), ((omega (arith, ints, date.0), omega (arith, ints, date.0)), (omega arith, omega arith), (omega arith, omega arith)));
          is_count =
              omega (arith, at_end, day_count-last_of_year (pos y), day_count-next_year (pos y) (pos (y + 1)) (omega (arith, ints)) (omega (arith, ints)));
        }

date_at : (k : ℕ) → k ≤ 109_572 → DateAt (4_346_386 + k)
date_at zero within = record {
  year = 1900;
  month = 1;
  day = 1;
  date = ((omega arith, omega arith), ((omega (arith, ints), omega (arith, ints)), (omega arith, omega arith), (omega arith, omega arith)));
  is_count = omega (arith, first_day);
}
date_at (suc k) within =
    let before = date_at k (omega arith) in
    let next = next_date before.year before.month before.day before.date (omega (arith, before.is_count)) in
    record { year = next.year; month = next.month; day = next.day; date = next.date; is_count = omega (arith, next.is_count, before.is_count) }

pub day_has_text : (n : ℤ) → IsDay n → (field : List ℕ) × WritesDay field n
day_has_text n range =
    let k = unsigned_abs (n +ℤ pos 25567) in
    let there = date_at k (omega (arith, ints, range)) in
    let count = days_from_civil-day_count (pos there.year) there.month there.day in
    let same : days_from_civil (pos there.year) there.month there.day ≡ n = omega (arith, ints, range, count, there.is_count) in
    (date_text there.year there.month there.day, text_back there.year there.month there.day there.date ∙ ap (λ (day : ℤ). Some day) same)

-- ---- and one alone

abbrev date_of : (y m d : ℕ) → IsDate y m d → Date
date_of y m d date = record { year = pos y; month = m; day = d; year_in = date.1.0; month_in = date.1.1; day_in = date.1.2 }

pub one_text : (a b : List ℕ) (n : ℤ) → WritesDay a n → WritesDay b n → a ≡ b
one_text a b n reads_a reads_b =
    let p = text_only a n reads_a in
    let q = text_only b n reads_b in
    let same = epoch_day_injective (date_of p.year p.month p.day p.is.date) (date_of q.year q.month q.day q.is.date) (sym p.is.number ∙ q.is.number) in
    let year : p.year ≡ q.year = cc (same.0) in
    p.is.text ∙ rw (year, same.1, same.2) refl ∙ sym q.is.text

-- what a field reads as lies in the range
pub read_within : (field : List ℕ) (day : Option ℤ) → day ≡ day_of field → IfSome day IsDay
read_within field None same = tt
read_within field (Some n) same = day_within field n (sym same)
