-- Statement. What facts say about a day, the end of a day, and a range of days: amounts of mass with their variances.
use Rattle.std.specs.Prelude.{ℕ, ℤ, pos, List, find, Option, Some, None, if◌then◌else◌, int_le, option_and_then, unwrap_or}
use Rattle.std.specs.Int.{int_gap, int_max, int_min}
use Rattle.pb_fixed.specs.Sums.{sum_over}
use Rattle.pb_rows.specs.Name.{same_name}
use Rattle.pb_strap.specs.declared.strap.Point.{Point}
use Rattle.pb_strap.specs.Table.{grams_of}
use Rattle.pb_facts.specs.declared.fact.Fact.{Fact}
use Rattle.pb_facts.specs.declared.fact.Fact.TheVariants.{Reading, Transfer, Dip}
use Rattle.pb_facts.specs.Fact.{is_reading_on}
use Rattle.pb_facts.specs.Share.{share_of}
use Rattle.pb_period.specs.declared.amount.Amount.{Amount}
use Rattle.pb_period.specs.declared.days.Days.{Days}
use Rattle.pb_period.specs.Days.{day_count}

-- no mass
abbrev pub no_amount : Amount
no_amount = record { grams = pos 0; variance = pos 0 }

-- the total of amounts: the sum of their grams, and the sum of their variances
abbrev pub total_of : List Amount → Amount
total_of amounts = record {
  grams = sum_over (λ (amount : Amount). amount.grams) amounts;
  variance = sum_over (λ (amount : Amount). amount.variance) amounts;
}

-- the amount of a reading
abbrev pub read_amount : Fact → Option Amount
read_amount (Reading id stream day grams variance) = Some (record { grams = grams; variance = variance })
read_amount fact = None

-- what a stream's meter read on a day
abbrev pub read_on : List Fact → List ℕ → ℤ → Option Amount
read_on facts stream day = option_and_then read_amount (find (is_reading_on stream day) facts)

-- What a tank holds according to a dip, given its strapping table: the grams at its level. The level of an accepted dip lies in the
-- table, so the 0 for a level outside never occurs.
abbrev pub content_of : List Point → Fact → Amount
content_of points (Dip id tank day mm density variance) =
    record { grams = unwrap_or (grams_of points mm density) (pos 0); variance = variance }
content_of points fact = no_amount

-- the share of an amount, spread evenly over `days` days, that falls on those after the first `before` up to the first `until`
abbrev pub shared : Amount → ℕ → ℕ → ℕ → Amount
shared amount days before until = record {
  grams = share_of amount.grams days before until;
  variance = share_of amount.variance days before until;
}

-- the share of an amount, moved evenly from day `first` to day `last`, that falls on the days from `from` to `to`; `None` if there
-- are no such days
abbrev pub share_on : ℤ → ℤ → Amount → ℤ → ℤ → Option Amount
share_on first last amount from to =
    if int_le from to
    then Some (shared amount (day_count first last) (int_gap first from) (day_count first to))
    else None

-- what a fact moved in a stream on some days: the share that falls on the days that a transfer has in common with them
abbrev pub transferred : Days → List ℕ → Fact → Option Amount
transferred days wanted (Transfer id stream first last grams variance) =
    if same_name stream wanted
    then share_on first last (record { grams = grams; variance = variance }) (int_max days.first first) (int_min days.last last)
    else None
transferred days wanted fact = None
