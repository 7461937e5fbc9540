use Rattle.std.proofs.Common.{FitsSigned, arith, refl}
use mir.Syntax.{w32}
use Rattle.std.proofs.lemmas.Int.{to_z-of_z}
use Rattle.pb_make.proofs.RequestLemmas.{january_fits}
use Rattle.pb_make.proofs.rows.write_period.Goals as goal

pub write_row-requires-clause-fit : goal.write_row-requires-clause-fit
write_row-requires-clause-fit c =
    let first_fits : FitsSigned w32 c.january.result = record { sfits = c.january.type_inv } in
    let last_fits : FitsSigned w32 c.january-2.result = record { sfits = c.january-2.type_inv } in
    let first = to_z-of_z w32 c.january.result first_fits in
    let last = to_z-of_z w32 c.january-2.result last_fits in
    rw (c.name.ensures.value, first, c.january.ensures, last, c.january-2.ensures)
    ((refl, refl), (c.name.ensures.form, (january_fits 1 (omega arith) (omega arith), (january_fits 30 (omega arith) (omega arith), tt))))
