-- Statement. The text of a day.
use Rattle.std.specs.Prelude.{ℕ, ℤ, List, [], map, Some}
use Rattle.std.specs.List.{find, flat_map, range_with_len}
use Rattle.std.specs.Option.{option_eq, unwrap_or}
use Rattle.std.specs.Ordering.{int_eq}
use Rattle.pb_rows.specs.Date.{date_text, day_of, first_year}

-- the texts of the dates of n years from 1900 on, and of some dates that the calendar doesn't have
unfoldable pub dates_of_years : ℕ → List (List ℕ)
dates_of_years n =
    flat_map (λ year. flat_map (λ month. map (date_text year month) (range_with_len 1 31)) (range_with_len 1 12))
    (range_with_len first_year n)

-- The text `YYYY-MM-DD` of a day from 1900 to 2199: the first text that writes it. Any other day has no text.
unfoldable pub text_of_day : ℤ → List ℕ
text_of_day day = unwrap_or (find (λ text. option_eq int_eq (day_of text) (Some day)) (dates_of_years 300)) []
