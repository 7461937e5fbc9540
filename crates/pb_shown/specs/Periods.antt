-- Statement. A period as C has it.
use Rattle.std.specs.Prelude.{◌≡◌}
use Rattle.pb_periods.specs.declared.period.Period.{Period}
use Rattle.pb_shown.specs.Texts.{padded_name}
use Rattle.pb_shown.specs.declared.periods.PlantbalPeriod.{PlantbalPeriod}

-- the struct says what the period is
pub record ShowsPeriod (period : Period) (shown : PlantbalPeriod) : Type 0 where
  pub name : shown.name ≡ padded_name period.name
  pub closed : shown.closed ≡ period.closed
  pub first : shown.first ≡ period.first
  pub last : shown.last ≡ period.last
