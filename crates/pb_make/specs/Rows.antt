-- Statement. The rows of a made session, and its text.
use Rattle.std.specs.Prelude.{ℕ, ◌+◌, ◌*◌, ◌==◌, ℤ, pos, List, [], ◌∷◌, ◌++◌, map, codes, if◌then◌else◌}
use Rattle.std.specs.List.{enumerate_from, range_with_len}
use Rattle.jiff_core.specs.Calendar.{days_from_civil}
use Rattle.pb_rows.specs.Number.{decimal_text}
use Rattle.pb_rows.specs.Written.{text_of_rows}
use Rattle.pb_form.specs.SessionRows.{session_columns}
use Rattle.pb_form.specs.Texts.{texts_of}
use Rattle.pb_form.specs.Value.{Value, Word, Name, Number, Date}
use Rattle.pb_form.specs.declared.session.SessionKind.{SessionKind}
use Rattle.pb_form.specs.declared.session.SessionKind.TheVariants as kind
use Rattle.pb_make.specs.declared.plant.MadeStream.{MadeStream}
use Rattle.pb_make.specs.Draws.{draw_at}
use Rattle.pb_make.specs.Plant.{made_streams, sides_of, units_of}
use Rattle.pb_make.specs.Readings.{day_read, error_of_draw, is_plain_stream, meter_variance, readings_of, shown_grams, stream_read, truth_at}

-- the name of a node: `env`, or `u` and the number of the unit
abbrev pub made_node_name : ℕ → List ℕ
made_node_name node = if node == 0 then codes "env" else codes "u" ++ decimal_text node

-- the name of a stream: `s` and its number
abbrev pub stream_name : ℕ → List ℕ
stream_name i = codes "s" ++ decimal_text i

-- the name of the period
abbrev pub made_period : List ℕ
made_period = codes "m1"

-- a day of January 2024, counted from 1970-01-01
abbrev pub january : ℕ → ℤ
january day = days_from_civil (pos 2024) 1 day

-- the row of a kind, by the values of its columns after the kind's word
abbrev pub made_row : SessionKind → List Value → List (List ℕ)
made_row kind values = texts_of (session_columns kind) (Word 0 ∷ values)

-- the row of a unit
abbrev pub unit_row : ℕ → List (List ℕ)
unit_row i = made_row kind.Unit (Name (made_node_name i) ∷ [])

-- the values of a stream with this number and this base variance
abbrev pub stream_values : ℕ → MadeStream → ℤ → List Value
stream_values i stream base =
    Name (stream_name i) ∷ Name (made_node_name stream.from) ∷ Name (made_node_name stream.to) ∷ Word 0 ∷ Number base ∷ []

-- the row of a stream: the base variance of a metered one is 1 squared gram
abbrev pub made_stream_row : ℕ → MadeStream → List (List ℕ)
made_stream_row i stream =
    if is_plain_stream i then made_row kind.StreamPlain (stream_values i stream (pos 0))
    else made_row kind.StreamMetered (stream_values i stream (pos 1))

-- the row of the period: 30 days
abbrev pub made_period_row : List (List ℕ)
made_period_row = made_row kind.Period (Name made_period ∷ Date (january 1) ∷ Date (january 30) ∷ [])

-- the row of a critical value: 3.841, the 95 percent point of the chi-square distribution with one degree of freedom
abbrev pub made_critical_row : SessionKind → List (List ℕ)
made_critical_row kind = made_row kind (Word 0 ∷ Number (pos 3841) ∷ [])

-- the row of the reading at a place, of a stream with this true flow, with this draw; its id is `r` and its number, counted from 1
abbrev pub reading_row : ℕ → ℤ → ℕ → List (List ℕ)
reading_row place truth draw =
    made_row kind.Reading (Name (codes "r" ++ decimal_text (place + 1)) ∷ Name (stream_name (stream_read place))
    ∷ Date (january (day_read place)) ∷ Number (shown_grams truth (error_of_draw draw)) ∷ Number (meter_variance truth) ∷ [])

-- the row that asks for the report
abbrev pub made_report_row : List (List ℕ)
made_report_row = made_row kind.Report (Name made_period ∷ [])

-- the row of the reading at a place, in a plant of these streams, this many of which are side streams, which take three draws each
abbrev pub reading_row_at : ℕ → ℕ → List MadeStream → ℕ → List (List ℕ)
reading_row_at number sides streams place =
    reading_row place (truth_at streams (stream_read place)) (draw_at number (3 * sides + place))

-- the rows that are stored: units, streams, which are numbered from 1, the period, its critical values, and the readings
abbrev pub stored_rows : ℕ → ℕ → List (List (List ℕ))
stored_rows number streams =
    let plant = made_streams number streams in
    map unit_row (range_with_len 1 (units_of streams))
    ++ (map (λ (s : ℕ × MadeStream). made_stream_row s.0 s.1) (enumerate_from 1 plant)
    ++ (made_period_row ∷ made_critical_row kind.CriticalNodal ∷ made_critical_row kind.CriticalMeasure
    ∷ map (reading_row_at number (sides_of streams) plant) (range_with_len 0 (readings_of streams))))

-- The rows of the session made from a number, with this many streams: those that are stored, and the row that asks for the report.
abbrev pub session_rows : ℕ → ℕ → List (List (List ℕ))
session_rows number streams = stored_rows number streams ++ made_report_row ∷ []

-- Its text, each row as `csv` writes it.
abbrev pub session_text : ℕ → ℕ → List ℕ
session_text number streams = text_of_rows (session_rows number streams)
