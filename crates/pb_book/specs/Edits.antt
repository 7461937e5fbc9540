-- Statement. The rows that close a period, book a fact late, change a fact or strike it, and the periods that they touch.
use Rattle.std.specs.Prelude.{ℕ, Bool, true, false, List, filter, Option, slice_get}
use Rattle.std.specs.Option.{option_map_or}
use Rattle.pb_facts.specs.declared.fact.Fact.{Fact}
use Rattle.pb_facts.specs.declared.facts.KeptFact.{KeptFact}
use Rattle.pb_kinds.specs.declared.rows.Effect.{Effect}
use Rattle.pb_kinds.specs.declared.rows.Effect.TheVariants.{Books, Edits, Closes}
use Rattle.pb_periods.specs.declared.period.Period.{Period}
use Rattle.pb_kinds.specs.declared.rows.StoredRow.{StoredRow}
use Rattle.pb_periods.specs.Apart.{is_named}
use Rattle.pb_book.specs.Rows.{facts_of, periods_of}
use Rattle.pb_book.specs.TakenOut.{takes_out, touching_of}

-- a row is an edit: it closes a period, books a fact late, changes a fact or strikes it
abbrev pub is_edit : Effect → Bool
is_edit (Books fact late) = late
is_edit (Edits id edit reason) = true
is_edit (Closes name) = true
is_edit effect = false

-- the edits among the stored rows, in order
abbrev pub edits_of : List StoredRow → List StoredRow
edits_of rows = filter (λ (stored : StoredRow). is_edit stored.effect) rows

-- An edit touches a period: a closing touches its own period; a late fact, a change and a strike touch those that they take out.
abbrev pub edit_touches : (Fact → Period → Bool) → List KeptFact → Effect → Period → Bool
edit_touches touching kept (Closes name) period = is_named name period
edit_touches touching kept effect period = takes_out touching kept effect period

-- the same for an optional row
abbrev pub row_touches : (Fact → Period → Bool) → List KeptFact → Period → Option StoredRow → Bool
row_touches touching kept period row =
    option_map_or (λ (stored : StoredRow). edit_touches touching kept stored.effect period) row false

-- the edit at a place touches the period at a place
abbrev pub touches_at : List StoredRow → ℕ → ℕ → Bool
touches_at rows e i =
    let edit = slice_get (edits_of rows) e in
    option_map_or (λ (period : Period). row_touches (touching_of rows) (facts_of rows) period edit)
    (slice_get (periods_of rows) i) false

-- The history of a period: the edits that touch it, in the order of their records.
abbrev pub history_of : List StoredRow → Period → List StoredRow
history_of rows period =
    filter (λ (stored : StoredRow). edit_touches (touching_of rows) (facts_of rows) stored.effect period) (edits_of rows)
