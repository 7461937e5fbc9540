-- Statement. How a run ended: a number and a name for each status.
use Rattle.std.specs.Prelude.{ℕ, Bool, List, codes, if◌then◌else◌}
use Rattle.pb_words.specs.declared.command.WordsRefused.{WordsRefused}
use Rattle.pb_words.specs.declared.command.WordsRefused.TheVariants as words
use Rattle.pb_cli.specs.declared.status.Status.{Status}
use Rattle.pb_cli.specs.declared.status.Status.TheVariants.{Done, DoneRefused, Usage, ReadFault, WriteFault, TooLarge, NoMemory}

-- the exit status of the program
abbrev pub status_number : Status → ℕ
status_number Done = 0
status_number DoneRefused = 1
status_number Usage = 2
status_number ReadFault = 3
status_number WriteFault = 4
status_number TooLarge = 5
status_number NoMemory = 6

-- its name, which is written to standard error as a line if the run wasn't a success
abbrev pub status_name : Status → List ℕ
status_name Done = codes "Done"
status_name DoneRefused = codes "DoneRefused"
status_name Usage = codes "Usage"
status_name ReadFault = codes "ReadFault"
status_name WriteFault = codes "WriteFault"
status_name TooLarge = codes "TooLarge"
status_name NoMemory = codes "NoMemory"

-- the status of a run that read and wrote everything, by whether some record was refused
abbrev pub done_status : Bool → Status
done_status refused = if refused then DoneRefused else Done

-- the status of words that were refused
abbrev pub status_of : WordsRefused → Status
status_of words.Usage = Usage
status_of words.NoMemory = NoMemory
