-- Statement. Rows that were accepted one after the other, and what follows from that.
use Rattle.std.specs.Prelude.{◌≡◌, ℕ, true, false, List, take, All, None, Some, slice_get}
use Rattle.pb_facts.specs.Fact.{IsFactInRange}
use Rattle.pb_facts.specs.declared.facts.KeptFact.{KeptFact}
use Rattle.pb_site.specs.declared.declared.Declared.{Declared}
use Rattle.pb_kinds.specs.declared.rows.Effect.{Effect}
use Rattle.pb_kinds.specs.Ranges.{IsEffectInRange}
use Rattle.pb_kinds.specs.Versions.{may_do}
use Rattle.pb_periods.specs.declared.period.Period.{Period}
use Rattle.pb_kinds.specs.declared.rows.StoredRow.{StoredRow}
use Rattle.pb_periods.specs.Apart.{AreApart}
use Rattle.pb_periods.specs.Ranges.{IsPeriod}
use Rattle.pb_book.specs.Refusals.{is_outside_table, refusal_of}
use Rattle.pb_book.specs.Rows.{version_at}

-- a row may join the stored ones: there is no cause to refuse it, its numbers and days lie in their ranges, and the version of the
-- session allows it
pub record IsAcceptable (rows : List StoredRow) (effect : Effect) : Type 0 where
  pub no_cause : refusal_of rows effect ≡ None
  pub in_range : IsEffectInRange effect
  pub may : may_do (version_at rows) effect ≡ true

-- Each stored row was acceptable after those before it.
abbrev pub AreAccepted : List StoredRow → Type 0
AreAccepted rows =
    (i : ℕ) (stored : StoredRow) → slice_get rows i ≡ Some stored
    → IsAcceptable (take i rows) stored.effect

-- the level of each dip, struck or not, lies in the table of its tank
abbrev pub AreInTables : List Declared → List KeptFact → Type 0
AreInTables declared kept = All (λ (k : KeptFact). is_outside_table declared k.fact ≡ false) kept

-- What follows from accepted rows: the number of days of each period is within the limit, no two periods share a name or a day, the
-- numbers and days of each fact lie in their ranges, and each dip lies in its tank's table, which may have grown since.
pub record AreConsistent (declared : List Declared) (kept : List KeptFact) (periods : List Period) : Type 0 where
  pub days : All IsPeriod periods
  pub apart : AreApart periods
  pub ranges : All (λ (k : KeptFact). IsFactInRange k.fact) kept
  pub in_tables : AreInTables declared kept
