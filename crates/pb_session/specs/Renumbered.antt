-- Statement. Blank and refused records may be left out: the other records have the same answers and texts, but for the numbers of records,
-- which refusals and histories print.
use Rattle.std.specs.Prelude.{◌≡◌, ◌↔◌, ◌⊎◌, ℕ, ◌+◌, List, [], ◌∷◌, map}
use Rattle.pb_kinds.specs.declared.rows.Effect.{Effect}
use Rattle.pb_kinds.specs.declared.rows.StoredRow.{StoredRow}
use Rattle.pb_periods.specs.declared.period.Period.{Period}
use Rattle.pb_book.specs.declared.answer.Accepted.TheVariants.{Blank, History}
use Rattle.pb_book.specs.Accepted.{AreAccepted}
use Rattle.pb_book.specs.Answer.{Answer, Refuses, Says, after, answer_of}
use Rattle.pb_book.specs.Edits.{history_of}
use Rattle.pb_session.specs.Agreeing.{with_stored}
use Rattle.pb_session.specs.Session.{Adds, SessionState, state_after_all}

-- what rows do, without the numbers of their records
abbrev pub effects_of : List StoredRow → List Effect
effects_of rows = map (λ (stored : StoredRow). stored.effect) rows

-- the text for an answer has no numbers of records
abbrev pub HasNoNumbers : Answer → Type 0
HasNoNumbers (Refuses cause) = ⊥
HasNoNumbers (Says (History i)) = ⊥
HasNoNumbers answer = Unit {0}

-- Two sessions answer a record alike: with the same answer, and with the same text if it has no numbers of records. Their histories have
-- the same edits, under numbers of their own.
pub record AnswerAlike (state other : SessionState) (fields : List (List ℕ)) : Type 0 where
  pub answers : answer_of other.rows fields ≡ answer_of state.rows fields
  pub texts : (at behind : ℕ) (text : List ℕ) → HasNoNumbers (answer_of state.rows fields) → Adds state at fields text ↔ Adds other behind fields text
  pub histories : (period : Period) → effects_of (history_of other.rows period) ≡ effects_of (history_of state.rows period)

-- sessions with the same options and form, whose rows do the same, answer each record alike
abbrev pub RenumberedLaw : Type 0
RenumberedLaw =
    (state : SessionState) (rows : List StoredRow) (fields : List (List ℕ)) → AreAccepted state.rows → AreAccepted rows
    → effects_of rows ≡ effects_of state.rows → AnswerAlike state (with_stored state rows) fields

-- a record may go if it is blank or refused
abbrev pub MayGo : Answer → Type 0
MayGo (Refuses cause) = Unit {0}
MayGo (Says Blank) = Unit {0}
MayGo answer = ⊥

-- Some records, the first of which has this number and comes after these rows, without some of those that are blank or refused.
abbrev pub LeavesOut : List StoredRow → ℕ → List (List (List ℕ)) → List (List (List ℕ)) → Type 0
LeavesOut rows at [] fewer = fewer ≡ []
LeavesOut rows at (fields ∷ records) fewer =
    (MayGo (answer_of rows fields) × LeavesOut rows (at + 1) records fewer)
    ⊎ ((rest : List (List (List ℕ))) × (fewer ≡ fields ∷ rest) × LeavesOut (after rows at fields) (at + 1) records rest)

-- after the fewer records, each record is answered as after all of them
abbrev pub LeftOutLaw : Type 0
LeftOutLaw =
    (state : SessionState) (at behind : ℕ) (records fewer : List (List (List ℕ))) (fields : List (List ℕ)) → AreAccepted state.rows
    → LeavesOut state.rows at records fewer → AnswerAlike (state_after_all state at records) (state_after_all state behind fewer) fields
