-- Statement. Which facts are live, according to the rows that change and strike them.
use Rattle.std.specs.Prelude.{◌≡◌, ℕ, Bool, false, List, filter_map, Option, Some, None, if◌then◌else◌}
use Rattle.std.specs.List.{fold, list_any}
use Rattle.pb_rows.specs.Name.{same_name}
use Rattle.pb_facts.specs.Changes.{changed}
use Rattle.pb_facts.specs.Fact.{id_of}
use Rattle.pb_facts.specs.Facts.{live_facts}
use Rattle.pb_facts.specs.declared.fact.Change.{Change}
use Rattle.pb_facts.specs.declared.fact.Fact.{Fact}
use Rattle.pb_kinds.specs.declared.rows.Edit.TheVariants as edits
use Rattle.pb_kinds.specs.declared.rows.Effect.{Effect}
use Rattle.pb_kinds.specs.declared.rows.Effect.TheVariants.{Books, Edits}
use Rattle.pb_kinds.specs.declared.rows.StoredRow.{StoredRow}
use Rattle.pb_book.specs.Accepted.{AreAccepted}
use Rattle.pb_book.specs.Rows.{facts_of}

-- a row strikes the fact of this id
abbrev pub strikes : List ℕ → Effect → Bool
strikes id (Edits struck edits.Strike reason) = same_name id struck
strikes id effect = false

-- some row strikes the fact of this id
abbrev pub is_struck_in : List StoredRow → List ℕ → Bool
is_struck_in rows id = list_any (λ (stored : StoredRow). strikes id stored.effect) rows

-- the values that a row gives the fact of this id, if it changes it
abbrev pub change_in : List ℕ → Effect → Option Change
change_in id (Edits changed (edits.Change change) reason) = if same_name id changed then Some change else None
change_in id effect = None

-- a change, or if there is none, the one before
abbrev pub later_of : Option Change → Option Change → Option Change
later_of (Some change) before = Some change
later_of None before = before

-- the values given by the last of the rows that change the fact of this id
abbrev pub last_change : List StoredRow → List ℕ → Option Change
last_change rows id =
    fold (λ (last : Option Change) (stored : StoredRow). later_of (change_in id stored.effect) last) None rows

-- a fact with the values of a change, or with its own if there is no change
abbrev pub values_by : Option Change → Fact → Fact
values_by (Some change) fact = changed change fact
values_by None fact = fact

-- a fact with its last values, unless a row strikes it
abbrev pub live_of : List StoredRow → Fact → Option Fact
live_of rows fact =
    if is_struck_in rows (id_of fact) then None
    else Some (values_by (last_change rows (id_of fact)) fact)

-- the live fact that came with a row, late or not
abbrev pub live_in : List StoredRow → Effect → Option Fact
live_in rows (Books fact late) = live_of rows fact
live_in rows effect = None

-- The live facts of accepted rows are, in order, the booked facts, late or not, whose ids no row strikes, each with the values of
-- the last row that changes it, or with its own if no row does.
abbrev pub LiveLaw : Type 0
LiveLaw =
    (rows : List StoredRow) → AreAccepted rows
    → live_facts (facts_of rows) ≡ filter_map (λ (stored : StoredRow). live_in rows stored.effect) rows
