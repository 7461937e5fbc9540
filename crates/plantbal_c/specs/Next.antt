-- Inside. What a session that C holds does with the next record of a block.
use Rattle.std.specs.Prelude.{◌≡◌, ◌∷◌, [], ℕ, List, Option, Some, None}
use Rattle.pb_rows.specs.RecordsLeft.{RecordsLeft}
use Rattle.plantbal_c.specs.Opened.{Opened}
use Rattle.plantbal_c.specs.Block.{TakesOne}
use Rattle.plantbal_c.specs.Fields.{AreFieldEnds, fields_between, last_end}
use Rattle.plantbal_c.specs.declared.apart.Answered.{Answered}

-- the first record that was left is taken, and its answer has this number; or none was left, and nothing changes
abbrev pub AnswersNext : Opened → Opened → RecordsLeft → RecordsLeft → Option ℕ → Type 0
AnswersNext old new records_old records_new (Some code) =
    (row : List (List ℕ)) × (records_old.left ≡ row ∷ records_new.left) × TakesOne old new row code
AnswersNext old new records_old records_new None = (records_old.left ≡ []) × (new ≡ old)

-- The record whose fields lie between these places is taken, its answer has this number, and its last field ends here; or the places
-- aren't those of fields, and nothing changes.
abbrev pub AnswersApart : List ℕ → ℕ → List ℕ → Opened → Opened → Option Answered → Type 0
AnswersApart bytes from ends old new (Some answered) =
    TakesOne old new (fields_between bytes from ends) answered.code × (answered.end ≡ last_end from ends)
AnswersApart bytes from ends old new None = (new ≡ old) × (AreFieldEnds bytes from ends → ⊥)
