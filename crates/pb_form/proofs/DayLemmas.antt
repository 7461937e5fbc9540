-- The text of a day.
use Rattle.std.proofs.Common.{◌≡◌, ◌∙◌, ◌≤◌, ℕ, ℤ, pos, List, unsigned_abs, Some, refl, sym, ap, arith}
use Rattle.jiff_core.specs.Date.{epoch_day}
use Rattle.jiff_core.specs.declared.civil.date.Date.{Date}
use Rattle.jiff_core.proofs.DateLemmas.{epoch_day_injective}
use Rattle.pb_rows.specs.Date.{IsDay, date_text, day_of}
use Rattle.pb_rows.specs.Texts.{HaveOneDateText, IsDateOf}

-- the date of a day has its text
pub record IsTextDate (date : Date) (n : ℤ) : Type 0 where
  pub year : unsigned_abs date.year ≤ 9999
  pub whole : pos (unsigned_abs date.year) ≡ date.year
  pub text : day_of (date_text (unsigned_abs date.year) date.month date.day) ≡ Some n

pub text_date : HaveOneDateText → (date : Date) (n : ℤ) → IsDay n → epoch_day date ≡ n → IsTextDate date n
text_date law date n range is = by (law.each n range)
  where
    by : ((field : List ℕ) × (day_of field ≡ Some n)) → IsTextDate date n
    by (field, reads) = of (law.only field n reads)
      where
        of : (year : ℕ) × ((month : ℕ) × ((day : ℕ) × IsDateOf field n year month day)) → IsTextDate date n
        of (year, (month, (day, at))) =
            let other : Date = record { year = pos year; month = month; day = day; year_in = at.date.1.0; month_in = at.date.1.1; day_in = at.date.1.2 } in
            let same = epoch_day_injective date other (is ∙ at.number) in
            record {
              year = rw same.0 (omega (arith, at.date.0));
              whole = rw same.0 refl;
              text = rw (same.0, same.1, same.2) (ap day_of (sym at.text) ∙ reads);
            }
