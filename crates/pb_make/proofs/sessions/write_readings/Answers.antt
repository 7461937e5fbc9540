use Rattle.std.proofs.Common.{◌≡◌, ◌∙◌, ◌+◌, ◌*◌, ◌++◌, ℕ, FitsSigned, ap, sym, arith}
use mir.Syntax.{w128}
use Rattle.std.proofs.Math.Facts.{to_z-of_z}
use Rattle.std.specs.Prelude.{map}
use Rattle.std.specs.List.{range_with_len}
use Rattle.pb_rows.specs.Written.{text_of_rows}
use Rattle.pb_make.specs.Readings.{truth_at}
use Rattle.pb_make.specs.Rows.{reading_row_at}
use Rattle.pb_make.proofs.Abbreviations.{reading_draw, upper_bits}
use Rattle.pb_make.proofs.DrawLemmas.{draw_is, one_draw}
use Rattle.pb_make.proofs.RowsLemmas.{made_more, reading_is}
use Rattle.pb_make.proofs.sessions.write_readings.Goals as goal

pub loop-place-preserved : goal.loop-place-preserved
loop-place-preserved c =
    let place = c.loop-place.place in
    let inv = c.loop-place.invariant in
    let plant = c.args.plant.now in
    let s = c.loop-place.draws.state in
    let t = c.draw.new.self.state in
    let fits : FitsSigned w128 c.truth_at.result = record { sfits = c.truth_at.type_inv } in
    record {
      state = λ number sides begins. one_draw number (3 * sides + place) (3 * sides + (place + 1)) s t (inv.state number sides begins) c.draw.ensures.state (omega arith);
      so_far = λ number sides begins.
          let draw : c.draw.result ≡ reading_draw number sides place =
          draw_is number (3 * sides + place) s t c.draw.result (inv.state number sides begins) c.draw.ensures.state (c.draw.ensures.value ∙ ap upper_bits (sym c.draw.ensures.state)) in
          made_more (reading_row_at number sides plant) 0 place place c.args.text.now.items c.loop-place.text.items c.write_reading.new.text.items (omega arith)
          (reading_is number sides place c.truth_at.result c.draw.result plant c.loop-place.text.items c.write_reading.new.text.items (c.truth_at.ensures.value ∙ ap (truth_at plant) c.stream_read.ensures.value) draw (simp to_z-of_z at c.in_ok-write_reading.ensures.ok))
          (inv.so_far number sides begins);
    }

pub returns : goal.returns
returns c = λ number sides begins.
    let all : c.loop-place.place ≡ c.args.count = omega (arith, c.loop-place.auto.place-end, c.loop-place-test.false) in
    c.loop-place.invariant.so_far number sides begins
    ∙ ap (λ (n : ℕ). c.args.text.now.items ++ text_of_rows (map (reading_row_at number sides c.args.plant.now) (range_with_len 0 n))) all
