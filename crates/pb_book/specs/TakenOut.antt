-- Statement. Which stored rows change what a report of a period says: they take the period out of those whose studies are kept.
use Rattle.std.specs.Prelude.{◌≡◌, ◌-◌, ℕ, Bool, true, false, List, [], find, length, Option, slice_get}
use Rattle.std.specs.Option.{option_map_or}
use Rattle.pb_facts.specs.Facts.{has_id}
use Rattle.pb_facts.specs.declared.facts.KeptFact.{KeptFact}
use Rattle.pb_facts.specs.declared.fact.Fact.{Fact}
use Rattle.pb_site.specs.Site.{version_of}
use Rattle.pb_kinds.specs.declared.rows.Effect.{Effect}
use Rattle.pb_kinds.specs.declared.rows.Effect.TheVariants.{Declares, Books, Edits}
use Rattle.pb_periods.specs.declared.period.Period.{Period}
use Rattle.pb_kinds.specs.declared.rows.StoredRow.{StoredRow}
use Rattle.pb_book.specs.Rows.{declared_of, facts_after, facts_of, periods_after, periods_of, with_row}
use Rattle.pb_periods.specs.Touching.{touches_in}

-- which periods a fact touches, given these rows
abbrev pub touching_of : List StoredRow → Fact → Period → Bool
touching_of rows = touches_in (version_of (declared_of rows)) (declared_of rows)

-- the fact of this id, struck or not, touches the period
abbrev pub touches_by_id : (Fact → Period → Bool) → List KeptFact → List ℕ → Period → Bool
touches_by_id touching kept id period =
    option_map_or (λ (k : KeptFact). touching k.fact period) (find (has_id id) kept) false

-- A stored row takes out a period: a declaration, including a critical value, takes out every period; a period, a closing and an
-- assay take out none; a fact, on time or late, takes out each that it touches; a change and a strike take out each that their fact
-- touches.
abbrev pub takes_out : (Fact → Period → Bool) → List KeptFact → Effect → Period → Bool
takes_out touching kept (Declares declared) period = true
takes_out touching kept (Books fact late) period = touching fact period
takes_out touching kept (Edits id edit reason) period = touches_by_id touching kept id period
takes_out touching kept effect period = false

-- the row that was stored last
abbrev pub last_row : List StoredRow → Option StoredRow
last_row rows = slice_get rows (length rows - 1)

-- the same for an optional row
abbrev pub row_takes_out : (Fact → Period → Bool) → List KeptFact → Period → Option StoredRow → Bool
row_takes_out touching kept period row =
    option_map_or (λ (stored : StoredRow). takes_out touching kept stored.effect period) row false

-- The row that was stored last takes out the period at a place; if no row is stored, no period is taken out.
abbrev pub touched_at : List StoredRow → ℕ → Bool
touched_at rows i =
    option_map_or (λ (period : Period). row_takes_out (touching_of rows) (facts_of rows) period (last_row rows))
    (slice_get (periods_of rows) i) false

-- after one more row, it is this row that takes out a period
pub record TouchedLaw : Type 0 where
  pub none : (i : ℕ) → touched_at [] i ≡ false
  pub more : (rows : List StoredRow) (at : ℕ) (effect : Effect) (i : ℕ)
      → touched_at (with_row rows at effect) i
      ≡ option_map_or (takes_out (touching_of (with_row rows at effect)) (facts_after (facts_of rows) effect) effect)
      (slice_get (periods_after (periods_of rows) effect) i) false
