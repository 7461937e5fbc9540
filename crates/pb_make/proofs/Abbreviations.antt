-- What the proofs call parts of a made plant, of its readings and of its rows.
use Rattle.std.specs.Prelude.{ℕ, ◌+◌, ◌*◌, ◌/◌, ◌%◌, ◌^◌, ◌==◌, ℤ, pos, ◌+ℤ◌, List, [], ◌∷◌, ◌++◌, map, codes, if◌then◌else◌}
use Rattle.std.specs.Int.{int_div_euclid}
use Rattle.std.specs.List.{enumerate_from, range_with_len}
use Rattle.pb_fixed.specs.Sums.{sum_over}
use Rattle.pb_rows.specs.Number.{decimal_text}
use Rattle.pb_form.specs.declared.session.SessionKind.TheVariants as kind
use Rattle.pb_make.specs.declared.plant.MadeStream.{MadeStream}
use Rattle.pb_make.specs.Draws.{draw_at}
use Rattle.pb_make.specs.Plant.{added_to, line_grams, line_stream, made_streams, side_at, sides_of, units_of}
use Rattle.pb_make.specs.Readings.{readings_of}
use Rattle.pb_make.specs.Rows.{made_critical_row, made_period_row, made_stream_row, reading_row_at, unit_row}

-- what a state gives: its upper 31 bits
abbrev pub upper_bits : ℕ → ℕ
upper_bits state = state / 2 ^ 33

-- the side stream of three draws
abbrev pub side_by : ℕ → ℕ → ℕ → ℕ → MadeStream
side_by units first second third = record {
  from = first % units + 1;
  to = if second % (units + 1) == first % units + 1 then 0 else second % (units + 1);
  truth = pos (1000000 + third % 9000000);
}

-- the node that a side stream leads to
abbrev pub end_from : ℕ → ℕ → ℕ
end_from from to = if to == from then 0 else to

-- the side streams
abbrev pub side_streams : ℕ → ℕ → List MadeStream
side_streams number streams = map (side_at number (units_of streams)) (range_with_len 0 (sides_of streams))

-- the true flow of a stream of the line
abbrev pub line_truth : List MadeStream → ℕ → ℤ
line_truth sides i = line_grams +ℤ sum_over (added_to i) sides

-- the streams of the line
abbrev pub line_streams : ℕ → List MadeStream → List MadeStream
line_streams units sides = map (line_stream units sides) (range_with_len 1 (units + 1))

-- the standard deviation of a meter
abbrev pub meter_deviation : ℤ → ℤ
meter_deviation truth = int_div_euclid truth (pos 200)

-- the draw of the reading at a place
abbrev pub reading_draw : ℕ → ℕ → ℕ → ℕ
reading_draw number sides place = draw_at number (3 * sides + place)

-- its id
abbrev pub reading_id : ℕ → List ℕ
reading_id place = codes "r" ++ decimal_text (place + 1)

-- the rows of the units
abbrev pub unit_rows : ℕ → List (List (List ℕ))
unit_rows units = map unit_row (range_with_len 1 units)

-- the rows of streams, which are numbered from i
abbrev pub stream_rows : ℕ → List MadeStream → List (List (List ℕ))
stream_rows i streams = map (λ (s : ℕ × MadeStream). made_stream_row s.0 s.1) (enumerate_from i streams)

-- the rows between the plant and its readings
abbrev pub middle_rows : List (List (List ℕ))
middle_rows = made_period_row ∷ made_critical_row kind.CriticalNodal ∷ made_critical_row kind.CriticalMeasure ∷ []

-- the rows of the readings
abbrev pub reading_rows : ℕ → ℕ → List (List (List ℕ))
reading_rows number streams = map (reading_row_at number (sides_of streams) (made_streams number streams)) (range_with_len 0 (readings_of streams))
