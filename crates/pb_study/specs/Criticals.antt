-- Statement. The limits of critical values.
use Rattle.std.specs.Prelude.{All, IfSome}
use Rattle.pb_limits.specs.Ranges.{IsCriticalValue}
use Rattle.pb_study.specs.declared.results.CriticalRow.{CriticalRow}
use Rattle.pb_study.specs.declared.results.Critical.{Critical}

-- a critical value of the global test within its limits, in thousandths
abbrev pub IsCriticalRow : CriticalRow → Type 0
IsCriticalRow row = IsCriticalValue row.value

-- Critical values within their limits. If two rows have the same degrees of freedom, the first one counts.
pub record AreCritical (critical : Critical) : Type 0 where
  pub rows : All IsCriticalRow critical.global
  pub nodal : IfSome critical.nodal IsCriticalValue
  pub measure : IfSome critical.measure IsCriticalValue
