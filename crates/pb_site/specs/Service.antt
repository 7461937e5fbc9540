-- Statement. The days on which a stream or a tank is in service.
use Rattle.std.specs.Prelude.{ℤ, pos, ◌-ℤ◌, Bool, true, false, ◌&&◌, Option, Some, None, int_le, int_lt}
use Rattle.std.specs.Option.{option_map_or}
use Rattle.std.specs.Int.{int_max, int_min}
use Rattle.std.specs.Ordering.{int_eq}
use Rattle.pb_rows.specs.Date.{IsDay}
use Rattle.pb_site.specs.declared.declared.Service.{Service}

-- the first and last days in service are days that a field can hold
pub record IsService (service : Service) : Type 0 where
  pub since : IsDay service.since
  pub until : IsDay service.until

-- the last day in service comes before the first
abbrev pub is_reversed : Option Service → Bool
is_reversed service = option_map_or (λ (s : Service). int_lt s.until s.since) service false

-- in service on each day from `first` to `last`; if there are no days of service, on every day
abbrev pub is_in_service_throughout : Option Service → ℤ → ℤ → Bool
is_in_service_throughout None first last = true
is_in_service_throughout (Some service) first last =
    int_le service.since first && int_le last service.until

-- in service on some day from `first` to `last`, which isn't before `first`; if there are no days of service, on every day
abbrev pub is_in_service_within : Option Service → ℤ → ℤ → Bool
is_in_service_within None first last = true
is_in_service_within (Some service) first last =
    int_le service.since last && int_le first service.until

-- the day before the first one in service
abbrev pub is_eve : Option Service → ℤ → Bool
is_eve service day = option_map_or (λ (s : Service). int_eq day (s.since -ℤ pos 1)) service false

-- the first day in service from `first` on
abbrev pub first_served : Option Service → ℤ → ℤ
first_served service first = option_map_or (λ (s : Service). int_max first s.since) service first

-- the last day in service up to `last`, at whose end a tank has its closing content
abbrev pub last_served : Option Service → ℤ → ℤ
last_served service last = option_map_or (λ (s : Service). int_min last s.until) service last

-- the day at whose end a tank has its opening content: the day before the first in service
abbrev pub day_of_opening : Option Service → ℤ → ℤ
day_of_opening service first = first_served service first -ℤ pos 1
