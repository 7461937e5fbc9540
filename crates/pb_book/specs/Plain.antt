-- Statement. The plain rows: those of a session in which nothing was closed, late, amended or struck.
use Rattle.std.specs.Prelude.{◌≡◌, ℕ, ◌+◌, false, List, [], ◌∷◌, ◌++◌, map, filter_map, Option, Some, None}
use Rattle.pb_facts.specs.declared.fact.Fact.{Fact}
use Rattle.pb_facts.specs.Facts.{live_facts}
use Rattle.pb_kinds.specs.declared.rows.Effect.{Effect}
use Rattle.pb_kinds.specs.declared.rows.Effect.TheVariants.{Declares, Opens, Books, Assays}
use Rattle.pb_periods.specs.declared.period.Period.{Period}
use Rattle.pb_kinds.specs.declared.rows.StoredRow.{StoredRow}
use Rattle.pb_book.specs.Accepted.{AreAccepted}
use Rattle.pb_book.specs.Assays.{assays_of}
use Rattle.pb_book.specs.Rows.{declared_of, facts_of, live, open_period, periods_of}

-- what a row does, if it declares something or a period, or gives an assay
abbrev pub settled : Effect → Option Effect
settled (Declares declared) = Some (Declares declared)
settled (Opens name first last) = Some (Opens name first last)
settled (Assays assay) = Some (Assays assay)
settled effect = None

-- the declarations, periods, critical values and assays, in order
abbrev pub settled_rows : List StoredRow → List Effect
settled_rows rows = filter_map (λ (stored : StoredRow). settled stored.effect) rows

-- a fact that isn't booked late
abbrev pub booked : Fact → Effect
booked fact = Books fact false

-- The plain rows: the declarations, periods, critical values and assays in order, and then the live facts with their last values.
abbrev pub plain_rows : List StoredRow → List Effect
plain_rows rows = settled_rows rows ++ map booked (live_facts (facts_of rows))

-- the rows of records that are numbered from `at`
abbrev pub numbered : ℕ → List Effect → List StoredRow
numbered at [] = []
numbered at (effect ∷ effects) = record { at = at; effect = effect } ∷ numbered (at + 1) effects

-- the rows of the records of an edited file
abbrev pub plain_stored : List StoredRow → List StoredRow
plain_stored rows = numbered 1 (plain_rows rows)

-- a period, open
abbrev pub opened : Period → Period
opened period = open_period period.name period.first period.last

-- The plain rows were accepted one after the other: none is refused. They declare the same plant and, except that none is closed,
-- the same periods; they give the same assays, and their facts are the live ones.
pub record ArePlain (rows plain : List StoredRow) : Type 0 where
  pub accepted : AreAccepted plain
  pub declared : declared_of plain ≡ declared_of rows
  pub periods : periods_of plain ≡ map opened (periods_of rows)
  pub assays : assays_of plain ≡ assays_of rows
  pub facts : facts_of plain ≡ map live (live_facts (facts_of rows))
  pub same : live_facts (facts_of plain) ≡ live_facts (facts_of rows)

-- the plain rows of accepted rows are plain
abbrev pub PlainLaw : Type 0
PlainLaw = (rows : List StoredRow) → AreAccepted rows → ArePlain rows (plain_stored rows)
