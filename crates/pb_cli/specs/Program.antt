-- Statement. What the program does, from its arguments to its exit status: all that is stated about its run, and the line of its
-- status.
use Rattle.std.specs.Prelude.{◌≡◌, ◌≢◌, ◌⊎◌, ◌+◌, ◌≤◌, ℕ, Bool, true, false, List, [], ◌∷◌, ◌++◌, length, take, Result, Ok, Err}
use Rattle.pb_io.specs.Counts.{Rose}
use Rattle.pb_io.specs.Source.{SourceSeen, TakesSuch}
use Rattle.pb_io.specs.Sink.{SinkSeen, Puts, StopsAtFault}
use Rattle.pb_limits.specs.Limits.{most_bytes}
use Rattle.pb_words.specs.declared.command.Command.{Command}
use Rattle.pb_words.specs.declared.command.Command.TheVariants.{Make}
use Rattle.pb_words.specs.declared.command.WordsRefused.{WordsRefused}
use Rattle.pb_words.specs.Command.{IsCommandOf}
use Rattle.pb_cli.specs.declared.status.Status.{Status}
use Rattle.pb_cli.specs.declared.status.Status.TheVariants.{Done, DoneRefused, Usage, ReadFault, WriteFault, TooLarge, NoMemory}
use Rattle.pb_cli.specs.Status.{status_name, status_of}
use Rattle.pb_cli.specs.Run.{Does, EndsAs, GiveCommand, IsCutShort, IsFront, IsGiven, IsWhole}

-- the byte that ends a line
abbrev pub line_feed : ℕ
line_feed = 10

-- what is written to standard error for a status: nothing for the two successes, and for each other status its name as a line
abbrev pub error_line : Status → List ℕ
error_line Done = []
error_line DoneRefused = []
error_line status = status_name status ++ line_feed ∷ []

-- All of these bytes were put, unless a fault was counted. In either case, what was put is a beginning of these bytes, and nothing
-- else.
pub record PutsUnlessFault (old new : SinkSeen) (bytes : List ℕ) : Type 0 where
  pub all : (Rose old.faults new.faults → ⊥) → Puts old new bytes
  pub beginning : (n : ℕ) × Puts old new (take n bytes)

-- All that is stated about a run over these words, about what was seen of its source and its sink, and about the status with which
-- it ended. Each field is the clause of `run` with the same name.
pub record Runs {R W : Type 0} (seen_read : R → SourceSeen) (seen_written : W → SinkSeen) (words : List (List ℕ)) (source_old source_new : R) (sink_old sink_new : W) (status : Status) : Type 0 where
  -- Whatever rows come in, the bytes written are the reports of the rows before them with amendments applied; in each, every class
  -- stands with a true cutset or cycle, flows balance, every balanced fractional vector no worse than the printed flows lies within the
  -- bounds that the printed prices give, every least one within the least bounds, and Unconverged comes only after the allowed sweeps of
  -- best prices.
  pub done : status ≡ Done → Does (IsWhole false) words (seen_read source_old) (seen_read source_new) (seen_written sink_old) (seen_written sink_new)
  pub done_refused : status ≡ DoneRefused → Does (IsWhole true) words (seen_read source_old) (seen_read source_new) (seen_written sink_old) (seen_written sink_new)
  -- Usage is the status only if the words aren't accepted. If they aren't, the only other possible status is NoMemory, and nothing
  -- is read or written.
  pub usage : status ≡ Usage → GiveCommand words → ⊥
  pub unaccepted : (GiveCommand words → ⊥) → (status ≡ Usage) ⊎ (status ≡ NoMemory)
  pub unread : (GiveCommand words → ⊥) → source_new ≡ source_old
  pub unwritten : (GiveCommand words → ⊥) → sink_new ≡ sink_old
  -- ReadFault is the status iff the source counted a fault. Then nothing is written.
  pub read_fault : status ≡ ReadFault → Rose (seen_read source_old).faults (seen_read source_new).faults
  pub no_read_fault : status ≢ ReadFault → (seen_read source_new).faults ≡ (seen_read source_old).faults
  pub read_fault_unwritten : status ≡ ReadFault → sink_new ≡ sink_old
  -- WriteFault is the status iff the sink counted a fault. What was written is a proper beginning of the output.
  pub write_fault : status ≡ WriteFault → Rose (seen_written sink_old).faults (seen_written sink_new).faults
  pub no_write_fault : status ≢ WriteFault → (seen_written sink_new).faults ≡ (seen_written sink_old).faults
  pub write_fault_cut : status ≡ WriteFault → Does IsCutShort words (seen_read source_old) (seen_read source_new) (seen_written sink_old) (seen_written sink_new)
  -- TooLarge is the status iff one byte more than the limit was taken. Then nothing is written.
  pub too_large : status ≡ TooLarge → TakesSuch (λ bytes. length bytes ≡ most_bytes + 1) (seen_read source_old) (seen_read source_new)
  pub too_large_unwritten : status ≡ TooLarge → sink_new ≡ sink_old
  pub not_too_large : status ≢ TooLarge → TakesSuch (λ bytes. length bytes ≤ most_bytes) (seen_read source_old) (seen_read source_new)
  -- If memory ran out, nothing was written, or the texts of the first rows or of the first blocks, whole.
  pub no_memory : status ≡ NoMemory → (sink_new ≡ sink_old) ⊎ Does IsFront words (seen_read source_old) (seen_read source_new) (seen_written sink_old) (seen_written sink_new)
  -- If the source shows its bytes and no fault was counted, the bytes decide how the command ends; if the command makes a session,
  -- it doesn't need them, and nothing is read. The only other possible status is NoMemory.
  pub complete : (command : Command) (input : List ℕ) → IsCommandOf words command → IsGiven command (seen_read source_old) (seen_read source_new) input
      → (Rose (seen_written sink_old).faults (seen_written sink_new).faults → ⊥) → EndsAs command input status ⊎ (status ≡ NoMemory)
  pub make_unread : (number streams : ℕ) (summary : Bool) (gap sweeps : ℕ) → IsCommandOf words (Make number streams summary gap sweeps)
      → source_new ≡ source_old
  -- No empty piece was put, and none after a fault.
  pub idle : (seen_written sink_new).idle ≡ (seen_written sink_old).idle
  pub source_faults_stay : (seen_read source_old).faults ≤ (seen_read source_new).faults
  pub sink_faults_stay : (seen_written sink_old).faults ≤ (seen_written sink_new).faults
  pub stops : StopsAtFault (seen_written sink_old) (seen_written sink_new)

-- a run over the words that the arguments give; if they give no words, the status says why, and nothing is read or written
abbrev pub RunsGiven : {R W : Type 0} → (R → SourceSeen) → (W → SinkSeen) → Result (List (List ℕ)) WordsRefused → R → R → W → W → Status → Type 0
RunsGiven seen_read seen_written (Ok words) source_old source_new sink_old sink_new status =
    Runs seen_read seen_written words source_old source_new sink_old sink_new status
RunsGiven seen_read seen_written (Err why) source_old source_new sink_old sink_new status =
    (status ≡ status_of why) × (source_new ≡ source_old) × (sink_new ≡ sink_old)
