use Rattle.std.proofs.Common.{◌≡◌, ◌∙◌, ◌*◌, ◌++◌, ℕ, List, ap}
use Rattle.std.specs.Prelude.{map}
use Rattle.std.specs.List.{range_with_len}
use Rattle.pb_rows.specs.Written.{text_of_rows}
use Rattle.pb_make.specs.declared.plant.MadeStream.{MadeStream}
use Rattle.pb_make.specs.Draws.{state_after_draws}
use Rattle.pb_make.specs.Plant.{made_streams, sides_of, units_of}
use Rattle.pb_make.specs.Readings.{readings_of}
use Rattle.pb_make.specs.Rows.{made_report_row, reading_row_at}
use Rattle.pb_make.proofs.Abbreviations.{middle_rows, reading_rows, stream_rows, unit_rows}
use Rattle.pb_make.proofs.RowsLemmas.{joined}
use Rattle.pb_make.proofs.sessions.make.Goals as goal

pub returns : goal.returns
returns c =
    let number = c.args.number in
    let streams = c.args.streams in
    let plant : c.in_ok-plant.plant.items ≡ made_streams number streams = c.in_ok-plant.ensures.value ∙ ap (λ (n : ℕ). made_streams n streams) c.from.ensures in
    let drawn : c.made_plant.new.draws.state ≡ state_after_draws number (3 * sides_of streams) = c.in_ok-plant.ensures.state ∙ ap (λ (n : ℕ). state_after_draws n (3 * sides_of streams)) c.from.ensures in
    let a = c.new-text.result.items in
    let b = c.write_units.new.text.items in
    let d = c.write_streams.new.text.items in
    let e = c.write_middle.new.text.items in
    let f = c.write_readings.new.text.items in
    let units : b ≡ a ++ text_of_rows (unit_rows (units_of streams)) = c.in_ok-write_units.ensures ∙ ap (λ (n : ℕ). a ++ text_of_rows (unit_rows n)) c.units_of.ensures.value in
    let rows : d ≡ b ++ text_of_rows (stream_rows 1 (made_streams number streams)) =
    c.in_ok-write_streams.ensures ∙ ap (λ (l : List MadeStream). b ++ text_of_rows (stream_rows 1 l)) (c.deref.ensures.value ∙ plant) in
    let readings : f ≡ e ++ text_of_rows (reading_rows number streams) =
    c.in_ok-write_readings.ensures number (sides_of streams) drawn
    ∙ ap (λ (n : ℕ). e ++ text_of_rows (map (reading_row_at number (sides_of streams) c.deref-2.result.now) (range_with_len 0 n))) c.readings_of.ensures.value
    ∙ ap (λ (l : List MadeStream). e ++ text_of_rows (map (reading_row_at number (sides_of streams) l) (range_with_len 0 (readings_of streams)))) (c.deref-2.ensures.value ∙ plant) in
    record {
      value = joined (unit_rows (units_of streams)) (stream_rows 1 (made_streams number streams)) middle_rows (reading_rows number streams) made_report_row a b d e f c.write_report.new.text.items
          c.new-text.ensures.items units rows c.in_ok-write_middle.ensures readings c.in_ok-write_report.ensures.ok;
    }
