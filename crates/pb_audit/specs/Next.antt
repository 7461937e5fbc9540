-- Statement. One finding at a time.
use Rattle.std.specs.Prelude.{◌≡◌, ℕ, ◌+◌, ◌-◌, List, [], ◌∷◌, ◌++◌, length, map, Option, Some, None}
use Rattle.pb_rows.specs.RecordsLeft.{RecordsLeft}
use Rattle.pb_readback.specs.Next.{AreCounted, IsNext, Refused}
use Rattle.pb_report.specs.declared.form.Form.TheVariants.{Csv}
use Rattle.pb_report.specs.Form.{text_in}
use Rattle.pb_audit.specs.declared.judge.Judged.{Judged}
use Rattle.pb_audit.specs.declared.judge.Judged.TheVariants.{Passed, Failed, Unreadable}
use Rattle.pb_audit.specs.Judgement.{Finding, Finds, FindsNothing, failed, finding_row, passed, unreadable}

-- the rows of findings, as `csv` writes them
abbrev pub text_of_findings : List Finding → List ℕ
text_of_findings findings = text_in Csv (map finding_row findings)

-- the kind of a finding
abbrev pub judged_of : Finding → Judged
judged_of (passed block) = Passed
judged_of (failed block test place stated found) = Failed
judged_of (unreadable number fault) = Unreadable

-- the records of a block were taken
abbrev pub GoesOn : RecordsLeft → RecordsLeft → List (List (List ℕ)) → Judged → Type 0
GoesOn old new behind Unreadable = Unit {0}
GoesOn old new behind judged = new ≡ record { taken = old.taken + (length old.left - length behind); left = behind }

-- the row that shows what can't be read was taken, and none after it
abbrev pub TakesNoMore : RecordsLeft → RecordsLeft → Finding → Type 0
TakesNoMore old new (unreadable number fault) = IsNext old.taken old.left (Refused number fault new.left) × AreCounted old new
TakesNoMore old new finding = Unit {0}

-- What is found next among records that are taken one at a time is of this kind, and this is the text of its row.
pub record IsNextFinding (old new : RecordsLeft) (judged : Judged) (text : List ℕ) : Type 0 where
  pub finding : Finding
  pub behind : List (List (List ℕ))
  pub found : Finds old.taken old.left finding behind
  pub is : judged ≡ judged_of finding
  pub text_is : text ≡ text_of_findings (finding ∷ [])
  pub goes_on : GoesOn old new behind judged
  pub no_more : TakesNoMore old new finding

-- what is found next, if there is something
abbrev pub FindsNext : RecordsLeft → RecordsLeft → Option Judged → List ℕ → Type 0
FindsNext old new None text = FindsNothing old.taken old.left × (text ≡ [])
FindsNext old new (Some judged) text = IsNextFinding old new judged text

-- a text gains its row
pub record AppendsFinding (old new : RecordsLeft) (judged : Option Judged) (before after : List ℕ) : Type 0 where
  pub text : List ℕ
  pub tells : FindsNext old new judged text
  pub appended : after ≡ before ++ text
