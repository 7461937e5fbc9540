use Rattle.std.specs.Prelude.{◌&&◌, ◌==◌}
use Rattle.std.proofs.Common.{◌≡◌, ◌∙◌, false, length, refl, sym, FitsSigned, rules}
use mir.Syntax.{w128}
use Rattle.std.proofs.lemmas.Int.{to_z-of_z}
use Rattle.pb_form.proofs.field.field_fault.Goals as goal

pub returns-in-Some-read_whole : goal.returns-in-Some-read_whole
returns-in-Some-read_whole c =
    let told : (c.args.column.now.optional && (length c.args.field.now == 0)) ≡ false = sym c.is_missing.ensures ∙ c.if-is_missing.false in
    let lo : FitsSigned w128 c.in-Number.lo = search rules in
    let hi : FitsSigned w128 c.in-Number.hi = search rules in
    let found = sym (simp to_z-of_z at c.read_whole.ensures) ∙ c.in-Some-read_whole.is in
    rw (told, c.in-Number.is, found) refl

pub returns-in-None-read_whole : goal.returns-in-None-read_whole
returns-in-None-read_whole c =
    let told : (c.args.column.now.optional && (length c.args.field.now == 0)) ≡ false = sym c.is_missing.ensures ∙ c.if-is_missing.false in
    let lo : FitsSigned w128 c.in-Number.lo = search rules in
    let hi : FitsSigned w128 c.in-Number.hi = search rules in
    let found = sym (simp to_z-of_z at c.read_whole.ensures) ∙ c.in-None-read_whole.is in
    rw (told, c.in-Number.is, found) refl
