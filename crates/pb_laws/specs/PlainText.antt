-- Statement. The plain rows can always be written: there is a text whose records write them.
use Rattle.std.specs.Prelude.{ℕ, List}
use Rattle.pb_rows.specs.Records.{records_of}
use Rattle.pb_kinds.specs.declared.rows.StoredRow.{StoredRow}
use Rattle.pb_book.specs.Accepted.{AreAccepted}
use Rattle.pb_book.specs.Named.{HaveWellFormedNames}
use Rattle.pb_book.specs.Plain.{plain_rows}
use Rattle.pb_book.specs.Written.{WriteRows}

-- The plain rows of accepted rows whose names are names have a text. The rows of a session are like that, whatever its records, so each
-- session has an edited file.
abbrev pub SomePlainTextLaw : Type 0
SomePlainTextLaw =
    (rows : List StoredRow) → AreAccepted rows → HaveWellFormedNames rows → (text : List ℕ) × WriteRows (records_of text) (plain_rows rows)
