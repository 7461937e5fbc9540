use Rattle.std.proofs.Common.{FitsSigned, arith, refl}
use mir.Syntax.{w32, w128}
use Rattle.std.proofs.lemmas.Int.{to_z-of_z}
use Rattle.pb_make.specs.Readings.{error_of_draw}
use Rattle.pb_make.proofs.ReadingLemmas.{error_fits, shown}
use Rattle.pb_make.proofs.RequestLemmas.{january_fits}
use Rattle.pb_make.proofs.rows.write_reading.Goals as goal

pub write_row-requires-clause-fit : goal.write_row-requires-clause-fit
write_row-requires-clause-fit c =
    let day_fits : FitsSigned w32 c.january.result = record { sfits = c.january.type_inv } in
    let grams_fits : FitsSigned w128 c.shown_grams.result = record { sfits = c.shown_grams.type_inv } in
    let variance_fits : FitsSigned w128 c.variance_of.result = record { sfits = c.variance_of.type_inv } in
    let day = to_z-of_z w32 c.january.result day_fits in
    let grams = to_z-of_z w128 c.shown_grams.result grams_fits in
    let variance = to_z-of_z w128 c.variance_of.result variance_fits in
    let truth = to_z-of_z w128 c.args.truth c.ranges.truth in
    let error = error_fits c.args.draw in
    let are = shown c.args.truth (error_of_draw c.args.draw) c.requires.least c.requires.most error.0 error.1 in
    rw (c.name.ensures.value, c.name-2.ensures.value, day, c.january.ensures, grams, c.shown_grams.ensures.value, variance, c.variance_of.ensures.value, truth) (
      (refl, refl),
      (
        c.name.ensures.form,
        (
          c.name-2.ensures.form,
          (
            january_fits c.day_read.result (omega (arith, c.day_read.ensures.value)) (omega (arith, c.day_read.ensures.value)),
            ((are.low, are.high), ((are.least, are.most), tt)),
          ),
        ),
      ),
    )
