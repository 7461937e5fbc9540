-- Inside. What a judgement finds next, as the records are taken.
use Rattle.std.specs.Prelude.{ℕ, List}
use Rattle.pb_rows.specs.RecordsLeft.{RecordsLeft}
use Rattle.pb_audit.specs.declared.judge.Judged.{Judged}
use Rattle.pb_audit.specs.Next.{IsNextFinding}

-- the text of what is found next
abbrev pub TellsFinding : RecordsLeft → List ℕ → Type 0
TellsFinding old text = (new : RecordsLeft) × (judged : Judged) × IsNextFinding old new judged text
