-- Statement. Which periods a fact touches.
use Rattle.std.specs.Prelude.{ℤ, ◌&&◌, ◌||◌, Bool, List, Option}
use Rattle.std.specs.List.{list_any}
use Rattle.std.specs.Ordering.{int_eq}
use Rattle.pb_site.specs.declared.declared.Declared.{Declared}
use Rattle.pb_site.specs.declared.declared.Service.{Service}
use Rattle.pb_site.specs.declared.declared.Version.{Version}
use Rattle.pb_site.specs.Service.{day_of_opening, is_in_service_within, last_served}
use Rattle.pb_site.specs.Site.{service_in}
use Rattle.pb_facts.specs.declared.fact.Fact.{Fact}
use Rattle.pb_facts.specs.declared.fact.Fact.TheVariants.{Reading, Transfer, Dip}
use Rattle.pb_facts.specs.Fact.{named_by}
use Rattle.pb_periods.specs.declared.period.Period.{Period}
use Rattle.pb_periods.specs.Apart.{shares_a_day}

-- the content of a tank with this service at the end of a day is the opening or closing content in a period
abbrev pub is_boundary_of : Option Service → ℤ → Period → Bool
is_boundary_of service day period =
    int_eq day (last_served service period.last) || int_eq day (day_of_opening service period.first)

-- something with this service is in service on some day of a period
abbrev pub is_served_in : Option Service → Period → Bool
is_served_in service period = is_in_service_within service period.first period.last

-- a dip, which gives the content at the end of its day, touches a period if its tank is in service on some day of the period, and
-- this is the opening or closing content there
abbrev pub dip_touches : Option Service → ℤ → Period → Bool
dip_touches service day period = is_served_in service period && is_boundary_of service day period

-- A reading touches the period that includes its day, a transfer each period that has a day in common with it, and a dip each
-- period whose opening or closing content it gives. The service is that of the stream or tank that the fact names.
abbrev pub touches_period : Option Service → Fact → Period → Bool
touches_period service (Reading id stream day grams variance) period = shares_a_day day day period
touches_period service (Transfer id stream first last grams variance) period = shares_a_day first last period
touches_period service (Dip id tank day mm density variance) period = dip_touches service day period

-- a fact touches a period, in a session of this version with these declarations
abbrev pub touches_in : Version → List Declared → Fact → Period → Bool
touches_in version declared fact period = touches_period (service_in version declared (named_by fact)) fact period

-- a closed period has a day from `first` to `last`
abbrev pub has_closed_day : ℤ → ℤ → Period → Bool
has_closed_day first last period = period.closed && shares_a_day first last period

-- something with this service is in service on some day of a closed period
abbrev pub is_closed_in_service : Option Service → Period → Bool
is_closed_in_service service period = period.closed && is_served_in service period

-- a dip of a tank with this service touches a closed period
abbrev pub dip_touches_closed : Option Service → ℤ → Period → Bool
dip_touches_closed service day period = period.closed && dip_touches service day period

-- such a dip touches a closed period that includes day `on`
abbrev pub dip_touches_closed_on : Option Service → ℤ → ℤ → Period → Bool
dip_touches_closed_on service day on period = dip_touches_closed service day period && shares_a_day on on period

-- some period is closed
abbrev pub some_closed : List Period → Bool
some_closed periods = list_any (λ (period : Period). period.closed) periods

-- some closed period passes a test
abbrev pub some_closed_with : (Period → Bool) → List Period → Bool
some_closed_with test periods = list_any (λ (period : Period). period.closed && test period) periods
