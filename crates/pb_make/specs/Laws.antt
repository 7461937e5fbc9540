-- Statement. Each row of a made session is accepted, and its text reads back as its rows.
use Rattle.std.specs.Prelude.{◌≡◌, ℕ, ◌+◌, ◌≤◌, ◌<◌, ◌==◌, ◌-◌, ◌/◌, ℤ, pos, ◌-ℤ◌, if◌then◌else◌, false, List, [], ◌∷◌, length}
use Rattle.pb_limits.specs.Limits.{most_made_streams}
use Rattle.pb_fixed.specs.Sums.{sum_over}
use Rattle.pb_rows.specs.Records.{records_of}
use Rattle.pb_book.specs.Answer.{after, answer_of, is_refused}
use Rattle.pb_kinds.specs.declared.rows.StoredRow.{StoredRow}
use Rattle.pb_book.specs.Rows.{periods_of}
use Rattle.pb_make.specs.declared.plant.MadeStream.{MadeStream}
use Rattle.pb_make.specs.Plant.{least_streams, made_streams, units_of}
use Rattle.pb_make.specs.Readings.{is_plain_stream, metered_at, readings_of}
use Rattle.pb_make.specs.Rows.{january, made_period, session_rows, session_text, stored_rows}

-- none of these records, which are numbered from `at`, is refused after these stored rows and the records before it, and `Holds` is true of
-- what is stored in the end
abbrev pub AreTaken : (List StoredRow → Type 0) → List StoredRow → ℕ → List (List (List ℕ)) → Type 0
AreTaken Holds rows at [] = Holds rows
AreTaken Holds rows at (fields ∷ records) =
    (is_refused (answer_of rows fields) ≡ false)
    × AreTaken Holds (after rows at fields) (at + 1) records

-- any stored rows will do
abbrev pub Anything : List StoredRow → Type 0
Anything rows = Unit {0}

-- the only period is that of the session, and nothing closed it
abbrev pub HasMadePeriod : List StoredRow → Type 0
HasMadePeriod rows =
    periods_of rows
    ≡ record {
      name = made_period;
      first = january 1;
      last = january 30;
      closed = false;
    }
    ∷ []

-- the rows of a session read back from its text
abbrev pub ReadsBackLaw : Type 0
ReadsBackLaw =
    (number streams : ℕ) → records_of (session_text number streams) ≡ session_rows number streams

-- The session that is made from a number: none of its records is refused.
abbrev pub NoneRefusedLaw : Type 0
NoneRefusedLaw =
    (number streams : ℕ) → least_streams ≤ streams → streams ≤ most_made_streams
    → AreTaken Anything [] 1 (records_of (session_text number streams))

-- before its last record, which asks for the report, it has stored its only period
abbrev pub PeriodLaw : Type 0
PeriodLaw =
    (number streams : ℕ) → least_streams ≤ streams → streams ≤ most_made_streams
    → AreTaken HasMadePeriod [] 1 (stored_rows number streams)

-- the number of rows of the session: one for each unit, stream and reading, and those of the period, its critical values and the report
abbrev pub CountLaw : Type 0
CountLaw =
    (number streams : ℕ) → least_streams ≤ streams → streams ≤ most_made_streams
    → length (session_rows number streams) ≡ units_of streams + streams + readings_of streams + 4

-- what a stream brings to a node: its true flow if it ends there, less its true flow if it begins there
abbrev pub truth_brought_to : ℕ → MadeStream → ℤ
truth_brought_to node stream =
    (if stream.to == node then stream.truth else pos 0)
    -ℤ (if stream.from == node then stream.truth else pos 0)

-- the true flows balance at each unit of the plant
abbrev pub BalanceLaw : Type 0
BalanceLaw =
    (number streams unit : ℕ) → least_streams ≤ streams → streams ≤ most_made_streams → 1 ≤ unit
    → unit ≤ units_of streams → sum_over (truth_brought_to unit) (made_streams number streams) ≡ pos 0

-- the metered streams in order: each place has a metered stream, they rise, and each metered stream has a place
pub record AreMetered : Type 0 where
  pub metered : (place : ℕ) → is_plain_stream (metered_at place) ≡ false
  pub rise : (place : ℕ) → metered_at place < metered_at (place + 1)
  pub within : (streams place : ℕ) → place < streams - streams / 7 → metered_at place ≤ streams
  pub each : (streams i : ℕ) → 1 ≤ i → i ≤ streams → is_plain_stream i ≡ false
      → (place : ℕ) × (place < streams - streams / 7) × (metered_at place ≡ i)
