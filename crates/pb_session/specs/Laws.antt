-- Statement. Each record adds one text to the output, and each session has one text.
use Rattle.std.specs.Prelude.{◌≡◌, ℕ, List}
use Rattle.pb_study.specs.Options.{AreOptions}
use Rattle.pb_study.specs.Criticals.{AreCritical}
use Rattle.pb_book.specs.Accepted.{AreAccepted}
use Rattle.pb_kinds.specs.declared.rows.StoredRow.{StoredRow}
use Rattle.pb_session.specs.Criticals.{critical_of}
use Rattle.pb_session.specs.Session.{Adds, IsSessionText, SessionState}

-- a record adds at most one text
abbrev pub OneTextLaw : Type 0
OneTextLaw =
    (state : SessionState) (at : ℕ) (fields : List (List ℕ)) (one other : List ℕ)
    → Adds state at fields one → Adds state at fields other → one ≡ other

-- a session has at most one text
abbrev pub OneSessionTextLaw : Type 0
OneSessionTextLaw =
    (state : SessionState) (at : ℕ) (records : List (List (List ℕ))) (one other : List ℕ)
    → IsSessionText state at records one → IsSessionText state at records other → one ≡ other

-- a record adds a text, whatever rows were accepted before it
abbrev pub SomeTextLaw : Type 0
SomeTextLaw =
    (state : SessionState) (at : ℕ) (fields : List (List ℕ)) → AreOptions state.options → AreAccepted state.rows
    → (text : List ℕ) × Adds state at fields text

-- a session has a text
abbrev pub SomeSessionTextLaw : Type 0
SomeSessionTextLaw =
    (state : SessionState) (at : ℕ) (records : List (List (List ℕ))) → AreOptions state.options → AreAccepted state.rows
    → (text : List ℕ) × IsSessionText state at records text

-- the critical values of accepted rows keep their limits
abbrev pub CriticalsLaw : Type 0
CriticalsLaw = (rows : List StoredRow) → AreAccepted rows → AreCritical (critical_of rows)
