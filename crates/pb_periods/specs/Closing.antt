-- Statement. The period of a name: closing it, whether it is closed, and whether something is ever in service in it.
use Rattle.std.specs.Prelude.{ℕ, true, Bool, not, ◌&&◌, List, Option, if◌then◌else◌}
use Rattle.pb_site.specs.declared.declared.Service.{Service}
use Rattle.pb_periods.specs.declared.period.Period.{Period}
use Rattle.pb_periods.specs.Apart.{is_named}
use Rattle.pb_periods.specs.Touching.{is_served_in}

-- the period, closed
abbrev pub closed : Period → Period
closed period = record period { closed = true }

-- a period is closed if it has this name, and otherwise unchanged
abbrev pub closed_if_named : List ℕ → Period → Period
closed_if_named name period = if is_named name period then closed period else period

-- the period of this name is closed
abbrev pub is_closed_named : List ℕ → Period → Bool
is_closed_named name period = period.closed && is_named name period

-- a period of this name in which a stream or a tank with this service is never in service
abbrev pub is_unserved_in : Option Service → List ℕ → Period → Bool
is_unserved_in service name period = is_named name period && not (is_served_in service period)
