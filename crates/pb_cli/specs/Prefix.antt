-- Statement. How much of a session's output was written when a run stopped early.
use Rattle.std.specs.Prelude.{◌≡◌, ℕ, ◌+◌, ◌<◌, List, ◌∷◌, ◌++◌, length, take}
use Rattle.pb_session.specs.Session.{Adds, IsSessionText, SessionState, state_after_all}

-- The bytes are the texts of the first records in order, whole.
pub record AreTextsOfSome (state : SessionState) (records : List (List (List ℕ))) (bytes : List ℕ) : Type 0 where
  pub front : List (List (List ℕ))
  pub rest : List (List (List ℕ))
  pub some : records ≡ front ++ rest
  pub texts : IsSessionText state 1 front bytes

-- The bytes are a proper beginning of a text with this property.
pub record IsBeginningOf (Holds : List ℕ → Type 0) (bytes : List ℕ) : Type 0 where
  pub whole : List ℕ
  pub holds : Holds whole
  pub written : ℕ
  pub within : written < length whole
  pub is : bytes ≡ take written whole

-- The bytes are the texts of the first records in order, whole, and then a proper beginning of the next record's text.
pub record AreTextsCutShort (state : SessionState) (records : List (List (List ℕ))) (bytes : List ℕ) : Type 0 where
  pub front : List (List (List ℕ))
  pub next : List (List ℕ)
  pub rest : List (List (List ℕ))
  pub some : records ≡ front ++ next ∷ rest
  pub whole : List ℕ
  pub texts : IsSessionText state 1 front whole
  pub piece : List ℕ
  pub cut : IsBeginningOf (Adds (state_after_all state 1 front) (length front + 1) next) piece
  pub is : bytes ≡ whole ++ piece
