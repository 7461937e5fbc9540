-- Statement. A report after edits is the report of the edited file, and so are a window, the balance of a component, a design and advice.
use Rattle.std.specs.Prelude.{◌≡◌, ◌↔◌, ℕ, false, List, [], ◌∷◌, ◌++◌}
use Rattle.pb_book.specs.declared.answer.Accepted.{Accepted}
use Rattle.pb_book.specs.declared.answer.Accepted.TheVariants.{Report, Component, Window, Design, Advise}
use Rattle.pb_book.specs.Accepted.{AreAccepted}
use Rattle.pb_book.specs.Answer.{Says, answer_of}
use Rattle.pb_book.specs.Plain.{plain_rows}
use Rattle.pb_kinds.specs.declared.rows.StoredRow.{StoredRow}
use Rattle.pb_book.specs.Written.{WriteRows}
use Rattle.pb_session.specs.Session.{Adds, IsSessionText, SessionState, new_session, refuses_some}

-- a session with the same options and form that has stored nothing
abbrev pub begun : SessionState → SessionState
begun state = new_session state.options state.form

-- The records of the edited file: they write the plain rows, one record for each, as if nothing had been closed, late, amended or
-- struck.
abbrev pub IsEditedFile : List StoredRow → List (List (List ℕ)) → Type 0
IsEditedFile rows records = WriteRows records (plain_rows rows)

-- a report after these records has the same text as after the rows of the session
abbrev pub ReportsAsAfter : SessionState → List (List (List ℕ)) → Type 0
ReportsAsAfter state records =
    (at i : ℕ) (report : List (List ℕ)) (text : List ℕ) → answer_of state.rows report ≡ Says (Report i)
    → Adds state at report text ↔ IsSessionText (begun state) 1 (records ++ report ∷ []) text

-- a record after these that asks for the balance of a component has the same text as after the rows of the session
abbrev pub BalancesAsAfter : SessionState → List (List (List ℕ)) → Type 0
BalancesAsAfter state records =
    (at : ℕ) (component : List ℕ) (i : ℕ) (row : List (List ℕ)) (text : List ℕ) → answer_of state.rows row ≡ Says (Component component i)
    → Adds state at row text ↔ IsSessionText (begun state) 1 (records ++ row ∷ []) text

-- a record after these about which the book says this has the same text as after the rows of the session
abbrev pub SaysAsAfter : SessionState → List (List (List ℕ)) → Accepted → Type 0
SaysAsAfter state records accepted =
    (at : ℕ) (row : List (List ℕ)) (text : List ℕ) → answer_of state.rows row ≡ Says accepted
    → Adds state at row text ↔ IsSessionText (begun state) 1 (records ++ row ∷ []) text

-- no record of an edited file is refused, and each report, balance, window, design and advice after it is the same as after the edits
pub record StandsForTheEdits (state : SessionState) (records : List (List (List ℕ))) : Type 0 where
  pub accepted : refuses_some (begun state) 1 records ≡ false
  pub reports : ReportsAsAfter state records
  pub balances : BalancesAsAfter state records
  pub windows : (first last : ℕ) → SaysAsAfter state records (Window first last)
  pub design : SaysAsAfter state records Design
  pub advice : SaysAsAfter state records Advise

-- this holds for all accepted rows, with any options and in either form
abbrev pub EditedFileLaw : Type 0
EditedFileLaw =
    (state : SessionState) (records : List (List (List ℕ))) → AreAccepted state.rows
    → IsEditedFile state.rows records → StandsForTheEdits state records
