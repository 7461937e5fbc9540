use Rattle.std.proofs.Common.{◌∙◌, FitsSigned, rules}
use mir.Syntax.{w128}
use Rattle.std.proofs.lemmas.Int.{to_z-of_z}
use Rattle.pb_form.proofs.SaidLemmas.{no_number, number_said}
use Rattle.pb_form.proofs.field.said_number.Goals as goal

pub returns-in-Number : goal.returns-in-Number
returns-in-Number c =
    let lo : FitsSigned w128 c.in-Number.lo = search rules in
    let hi : FitsSigned w128 c.in-Number.hi = search rules in
    (simp to_z-of_z at c.read_whole.ensures) ∙ rw c.in-Number.is (number_said c.args.column.now.optional c.args.field.now c.in-Number.lo c.in-Number.hi)

pub returns-in_default : goal.returns-in_default
returns-in_default c = no_number c.args.column.now c.args.field.now c.in_default.not-Number
