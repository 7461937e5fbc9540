-- Statement. The history of a period: its state, and the edits that touch it, in the order in which they were made.
use Rattle.std.specs.Prelude.{◌≡◌, ◌<◌, ℕ, pos, Bool, true, List, [], ◌∷◌, length, map}
use Rattle.pb_form.specs.Value.{Value, Missing, Name, Number, Reason, Word}
use Rattle.pb_form.specs.Words.{edit_words}
use Rattle.pb_form.specs.Writing.{IsFirst}
use Rattle.pb_form.specs.declared.output.OutputKind.TheVariants as kind
use Rattle.pb_facts.specs.Fact.{id_of}
use Rattle.pb_kinds.specs.declared.rows.Edit.TheVariants.{Change, Strike}
use Rattle.pb_kinds.specs.declared.rows.Effect.{Effect}
use Rattle.pb_kinds.specs.declared.rows.Effect.TheVariants.{Books, Edits, Closes}
use Rattle.pb_kinds.specs.declared.rows.StoredRow.{StoredRow}
use Rattle.pb_choices.specs.Places.{truth_place}
use Rattle.pb_report.specs.Row.{OutputRow, row_of}

-- what is written of an edit: its word, by its place in `edit_words`, the fact that it is about and its reason; a row that edits nothing
-- has none of them
abbrev pub edit_values : Effect → List Value
edit_values (Closes name) = Word 0 ∷ Missing ∷ Missing ∷ []
edit_values (Books fact true) = Word 1 ∷ Name (id_of fact) ∷ Missing ∷ []
edit_values (Edits id (Change change) reason) = Word 2 ∷ Name id ∷ Reason reason ∷ []
edit_values (Edits id Strike reason) = Word 3 ∷ Name id ∷ Reason reason ∷ []
edit_values effect = Missing ∷ Missing ∷ Missing ∷ []

-- the row of an edit: the number of its record in the session, and what is written of it
abbrev pub edit_row : StoredRow → OutputRow
edit_row edit = row_of kind.Edit (Number (pos edit.at) ∷ edit_values edit.effect)

-- the row of the period: its name, its state, and how many edits follow
abbrev pub period_row : List ℕ → Bool → ℕ → OutputRow
period_row name closed edits =
    row_of kind.History (Name name ∷ Word (truth_place closed) ∷ Number (pos edits) ∷ [])

-- the rows of the history of a period of this name, given whether it is closed and its edits
abbrev pub history_rows : List ℕ → Bool → List StoredRow → List OutputRow
history_rows name closed edits = period_row name closed (length edits) ∷ map edit_row edits

-- The word of an edit is one of its column, each word of the column is that of an edit, and no word appears twice.
pub record EditWordsLaw : Type 0 where
  pub word : (effect : Effect) (place : ℕ) (others : List Value)
      → edit_values effect ≡ Word place ∷ others → IsFirst edit_words place
  pub each : (place : ℕ) → place < length edit_words
      → (effect : Effect) × (others : List Value) × (edit_values effect ≡ Word place ∷ others)
