-- Statement. What a session that C holds does with records.
use Rattle.std.specs.Prelude.{◌≡◌, ℕ, ◌+◌, ◌≤◌, List, [], ◌∷◌, ◌++◌, length, take, Option, Some, None}
use Rattle.pb_book.specs.declared.answer.Refused.{Refused}
use Rattle.pb_book.specs.Answer.{answer_of, cause_code}
use Rattle.pb_session.specs.Session.{Adds, IsSessionText, SessionState, cause_in, state_after, state_after_all}
use Rattle.plantbal_c.specs.Opened.{Opened}

-- the most records that a session can take
abbrev pub most_records : ℕ
most_records = 4294967295

-- the number of an answer: that of the cause if the record is refused, and 0 if it is accepted
abbrev pub code_of : Option Refused → ℕ
code_of (Some cause) = cause_code cause
code_of None = 0

-- the number of the answer to a record, given what the session has stored
abbrev pub code_in : SessionState → List (List ℕ) → ℕ
code_in state fields = code_of (cause_in (answer_of state.rows fields))

-- the numbers of the answers to some records in order, which are numbered from `at`
abbrev pub codes_in : SessionState → ℕ → List (List (List ℕ)) → List ℕ
codes_in state at [] = []
codes_in state at (fields ∷ records) = code_in state fields ∷ codes_in (state_after state at fields) (at + 1) records

-- A record was taken: the number of its answer, what the session has stored after it, and what it adds to the output.
pub record TakesOne (old new : Opened) (fields : List (List ℕ)) (code : ℕ) : Type 0 where
  pub counted : new.taken ≡ old.taken + 1
  pub stored : new.state ≡ state_after old.state (old.taken + 1) fields
  pub answer : code ≡ code_in old.state fields
  pub added : List ℕ
  pub adds : Adds old.state (old.taken + 1) fields added
  pub text : new.text ≡ old.text ++ added

-- The first records, as many as the count says, were taken in order: the codes begin with the numbers of their answers, and what they
-- add to the output is appended to what C hasn't taken yet.
pub record TakesFirst (old new : Opened) (records : List (List (List ℕ))) (count : ℕ) (codes : List ℕ) : Type 0 where
  pub within : count ≤ length records
  pub counted : new.taken ≡ old.taken + count
  pub stored : new.state ≡ state_after_all old.state (old.taken + 1) (take count records)
  pub answers : take count codes ≡ codes_in old.state (old.taken + 1) (take count records)
  pub added : List ℕ
  pub texts : IsSessionText old.state (old.taken + 1) (take count records) added
  pub text : new.text ≡ old.text ++ added
