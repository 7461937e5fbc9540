-- Inside. What a reader of bytes in memory has left.
use Rattle.std.specs.Prelude.{◌≡◌, ◌==◌, ◌+◌, ◌<◌, ◌^◌, ◌∷◌, [], ℕ, List, length, Option, Some, None, Bool, true, false}
use Rattle.std.specs.Borrow.{Bor}
use Rattle.csv.specs.Machine.{ends_at_end}
use Rattle.csv.specs.Reading.{Ready, default_config, is_flexible, names_headers, reader_config, reader_state, reader_trim, records_from, source_of}
use Rattle.csv.specs.declared.parser.State.{State}
use Rattle.csv.specs.declared.reader.Reader.{Reader}
use Rattle.csv.specs.declared.reader.Trim.TheVariants as trim

-- the bytes that a reader has yet to read
abbrev pub unread_by : Reader (Bor (List ℕ)) → Option (List ℕ)
unread_by reader = source_of (λ s. Some s.now) reader

-- the records that bytes hold, read from a state on
abbrev pub records_in : State → Option (List ℕ) → List (List (List ℕ))
records_in state None = []
records_in state (Some bytes) = records_from default_config (length bytes + 1) state bytes

-- the records that a reader has left; none once it has ended
abbrev pub records_left : Reader (Bor (List ℕ)) → Bool → List (List (List ℕ))
records_left reader true = []
records_left reader false = records_in (reader_state reader) (unread_by reader)

-- a reader stands between two records, set up for records of any lengths, without trimming
pub record IsBetween (reader : Reader (Bor (List ℕ))) : Type 0 where
  pub config : reader_config reader ≡ default_config
  pub trim : reader_trim reader ≡ trim.None
  pub flexible : is_flexible reader ≡ true
  pub between : ends_at_end (reader_state reader) ≡ false
  pub bytes : List ℕ
  pub unread : unread_by reader ≡ Some bytes

-- a reader is to be given a header row before its first record, and gives the next record after that
abbrev pub IsReady : Bool → Reader (Bor (List ℕ)) → Type 0
IsReady true reader = names_headers reader ≡ true
IsReady false reader = Ready reader

-- a reader that hasn't ended stands between two records, and the number of records taken and left fits in 64 bits
pub record IsInHand (reader : Reader (Bor (List ℕ))) (ended : Bool) (taken : ℕ) : Type 0 where
  pub stands : ended ≡ false → IsBetween reader
  pub ready : ended ≡ false → IsReady (taken == 0) reader
  pub few : taken + length (records_left reader ended) < 2 ^ 64

-- a reader that stood between two records takes the first record that it had left, if it had one
abbrev pub ReadsFirst : Reader (Bor (List ℕ)) → Reader (Bor (List ℕ)) → Bool → List (List ℕ) → Type 0
ReadsFirst old new true fields = IsBetween new × Ready new × (records_left old false ≡ fields ∷ records_left new false)
ReadsFirst old new false fields = records_left old false ≡ []
