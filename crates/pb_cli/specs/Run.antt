-- Statement. What a run did: the command that its words give, the bytes that it took, and the bytes that it put.
use Rattle.std.specs.Prelude.{◌≡◌, ℕ, ◌≤◌, Bool, true, false, List, [], length, Some}
use Rattle.std.specs.List.{list_any}
use Rattle.std.specs.Io.KnownBytes.{IsAtEnd}
use Rattle.pb_io.specs.Counts.{Rose}
use Rattle.pb_io.specs.Source.{SourceSeen, TakesInTurns}
use Rattle.pb_io.specs.Sink.{SinkSeen, PutsSuch}
use Rattle.pb_limits.specs.Limits.{most_bytes}
use Rattle.pb_rows.specs.Records.{records_of}
use Rattle.pb_study.specs.declared.results.Options.{Options}
use Rattle.pb_report.specs.declared.form.Form.{Form}
use Rattle.pb_session.specs.Session.{IsSessionText, new_session, refuses_some}
use Rattle.pb_make.specs.Rows.{session_text}
use Rattle.pb_words.specs.declared.command.Command.{Command}
use Rattle.pb_words.specs.declared.command.Command.TheVariants.{Run, Check, Make}
use Rattle.pb_words.specs.Command.{IsCommandOf}
use Rattle.pb_audit.specs.Judgement.{AreFindings, Finding, IsJudgement, IsJudgementPart, is_wrong}
use Rattle.pb_cli.specs.declared.status.Status.{Status}
use Rattle.pb_cli.specs.declared.status.Status.TheVariants.{Done}
use Rattle.pb_cli.specs.Status.{done_status}
use Rattle.pb_cli.specs.Prefix.{AreTextsOfSome, AreTextsCutShort, IsBeginningOf}
use Rattle.pb_cli.specs.Summary.{IsSummaryText}

-- the words are accepted: they give a command
abbrev pub GiveCommand : List (List ℕ) → Type 0
GiveCommand words = (command : Command) × IsCommandOf words command

-- The text of a run with these options in this form: the texts of the records of the input, in order, from a session that has
-- stored nothing. Each report in it is the report of the rows before it, and each stage of the report is certified, has least
-- bounds at each stream that has bounds, and is the solution of its graph.
abbrev pub IsTextOfRun : Options → Form → List ℕ → List ℕ → Type 0
IsTextOfRun options form input text = IsSessionText (new_session options form) 1 (records_of input) text

-- whether some record of the input is refused
abbrev pub refuses : Options → Form → List ℕ → Bool
refuses options form input = refuses_some (new_session options form) 1 (records_of input)

-- the text that is made: that of the session with this number and this many streams, or its summary
abbrev pub IsMade : ℕ → ℕ → Bool → ℕ → ℕ → List ℕ → Type 0
IsMade number streams false gap sweeps text = text ≡ session_text number streams
IsMade number streams true gap sweeps text = IsSummaryText number streams gap sweeps text

-- whether a command makes a session or its summary
abbrev pub is_making : Command → Bool
is_making (Make number streams summary gap sweeps) = true
is_making command = false

-- The whole output of a command for this input, and whether it shows that something is wrong: that a record of a run was refused,
-- or that a block of a check fails or one of its records can't be read.
abbrev pub IsWhole : Bool → Command → List ℕ → List ℕ → Type 0
IsWhole wrong (Run options form) input output = IsTextOfRun options form input output × (wrong ≡ refuses options form input)
IsWhole wrong Check input output = IsJudgement wrong (records_of input) output
IsWhole wrong (Make number streams summary gap sweeps) input output = (wrong ≡ false) × IsMade number streams summary gap sweeps output

-- a proper beginning of the output; for a run, the texts of the first records and a proper beginning of the next one's
abbrev pub IsCutShort : Command → List ℕ → List ℕ → Type 0
IsCutShort (Run options form) input bytes = AreTextsCutShort (new_session options form) (records_of input) bytes
IsCutShort Check input bytes = IsBeginningOf (λ output. (wrong : Bool) × IsJudgement wrong (records_of input) output) bytes
IsCutShort (Make number streams summary gap sweeps) input bytes = IsBeginningOf (IsMade number streams summary gap sweeps) bytes

-- the texts of the first records of a run, or the first rows of a check, whole
abbrev pub IsFront : Command → List ℕ → List ℕ → Type 0
IsFront (Run options form) input bytes = AreTextsOfSome (new_session options form) (records_of input) bytes
IsFront Check input bytes = IsJudgementPart (records_of input) bytes
IsFront (Make number streams summary gap sweeps) input bytes = ⊥

-- a command reads its input to the end; one that makes a session reads nothing
abbrev pub Reads : Command → SourceSeen → SourceSeen → List ℕ → Type 0
Reads (Make number streams summary gap sweeps) source_old source_new input = (source_new ≡ source_old) × (input ≡ [])
Reads command source_old source_new input = TakesInTurns source_old source_new input × IsAtEnd source_new.remaining

-- The words give a command, its input was read, and bytes with this property were put.
pub record Does (Wrote : Command → List ℕ → List ℕ → Type 0) (words : List (List ℕ)) (source_old source_new : SourceSeen) (sink_old sink_new : SinkSeen) : Type 0 where
  pub command : Command
  pub asked : IsCommandOf words command
  pub input : List ℕ
  pub read : Reads command source_old source_new input
  pub put : PutsSuch (Wrote command input) sink_old sink_new

-- what a command needs from its source to end normally: that it shows this input, which is within the limit, and counts no fault; the
-- making of a session needs nothing
abbrev pub IsGiven : Command → SourceSeen → SourceSeen → List ℕ → Type 0
IsGiven (Make number streams summary gap sweeps) source_old source_new input = input ≡ []
IsGiven command source_old source_new input =
    (source_old.remaining ≡ Some input) × (length input ≤ most_bytes) × (Rose source_old.faults source_new.faults → ⊥)

-- how a command ends if it reads and writes everything
abbrev pub EndsAs : Command → List ℕ → Status → Type 0
EndsAs (Run options form) input status = status ≡ done_status (refuses options form input)
EndsAs Check input status =
    (findings : List Finding) × AreFindings 0 (records_of input) findings × (status ≡ done_status (list_any is_wrong findings))
EndsAs (Make number streams summary gap sweeps) input status = status ≡ Done
