-- Statement. What the facts say about each arc of the plant on some days.
use Rattle.std.specs.Prelude.{ℕ, ℤ, ◌+ℤ◌, ◌-ℤ◌, List, filter_map, find, is_some, option_map, Option, Some, None, if◌then◌else◌}
use Rattle.std.specs.List.{list_all}
use Rattle.pb_graph.specs.declared.records.Meas.{Meas}
use Rattle.pb_site.specs.declared.declared.Declared.{Declared}
use Rattle.pb_site.specs.declared.declared.Arc.{Arc}
use Rattle.pb_site.specs.declared.declared.ArcKind.{ArcKind}
use Rattle.pb_site.specs.declared.declared.ArcKind.TheVariants.{Metered, Batch, Plain, Tank}
use Rattle.pb_site.specs.declared.declared.Service.{Service}
use Rattle.pb_site.specs.Service.{day_of_opening, first_served, last_served}
use Rattle.pb_site.specs.Site.{points_of_tank}
use Rattle.pb_facts.specs.declared.fact.Fact.{Fact}
use Rattle.pb_facts.specs.Fact.{is_dip_on}
use Rattle.pb_period.specs.declared.amount.Amount.{Amount}
use Rattle.pb_periods.specs.Windows.{days_between}
use Rattle.pb_period.specs.declared.days.Days.{Days}
use Rattle.pb_period.specs.Facts.{content_of, read_on, total_of, transferred}

-- the total of what a meter read on some days, if it was read on each of them
abbrev pub read_total : (ℤ → Option Amount) → List ℤ → Option Amount
read_total read days =
    if list_all (λ day. is_some (read day)) days then Some (total_of (filter_map read days)) else None

-- the closing content less the opening content
abbrev pub closing_less_opening : Amount → Amount → Amount
closing_less_opening opening closing =
    record { grams = closing.grams -ℤ opening.grams; variance = opening.variance +ℤ closing.variance }

-- the change of a tank's content, if there are both dips: the closing content less the opening content
abbrev pub change_of : (Fact → Amount) → Option Fact → Option Fact → Option Amount
change_of content (Some opening) (Some closing) = Some (closing_less_opening (content opening) (content closing))
change_of content opening closing = None

-- What live facts say about an arc on some days. For a metered stream: the total of its readings, if each day on which it is in
-- service has one. For a batch stream: what its transfers moved. For a plain stream: nothing. For a tank: its content at the end of
-- its closing day less that at the end of its opening day, if both days have a dip; these are the last day on which it is in
-- service, and the day before the first.
abbrev pub amount_of : List Declared → List Fact → Days → Option Service → ArcKind → List ℕ → Option Amount
amount_of declared facts days service Metered stream =
    read_total (read_on facts stream) (days_between (first_served service days.first) (last_served service days.last))
amount_of declared facts days service Batch stream = Some (total_of (filter_map (transferred days stream) facts))
amount_of declared facts days service Plain stream = None
amount_of declared facts days service Tank tank =
    change_of (content_of (points_of_tank declared tank))
    (find (is_dip_on tank (day_of_opening service days.first)) facts)
    (find (is_dip_on tank (last_served service days.last)) facts)

-- the measurement of an amount: its grams, and the sum of the base variance and its own
abbrev pub measurement : ℤ → Amount → Meas
measurement base amount = record { value = amount.grams; variance = base +ℤ amount.variance }

-- what is measured of an arc on some days, given its days of service
abbrev pub measured : List Declared → List Fact → Days → Option Service → Arc → Option Meas
measured declared facts days service arc =
    option_map (measurement arc.base) (amount_of declared facts days service arc.kind arc.name)
