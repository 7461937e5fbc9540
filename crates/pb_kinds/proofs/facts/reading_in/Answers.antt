use Rattle.std.specs.Prelude.{neg_ℤ, Some}
use Rattle.std.proofs.Common.{◌≡◌, ◌∙◌, [], FitsSigned, get_or, pos, sym, arith, rules}
use mir.Syntax.{w32, w64, w128}
use Rattle.std.proofs.lemmas.Int.{to_z-of_z}
use Rattle.pb_limits.specs.Limits.{most_grams, most_row_variance}
use Rattle.pb_rows.specs.Date.{day_of}
use Rattle.pb_rows.specs.Number.{number, within}
use Rattle.pb_kinds.proofs.ReadingLemmas.{reading_length, reading_read}
use Rattle.pb_kinds.proofs.facts.reading_in.Goals as goal

pub at-requires : goal.at-requires
at-requires c = omega (arith, reading_length c.args.fields.now c.requires)

pub at-requires-2 : goal.at-requires-2
at-requires-2 c = omega (arith, reading_length c.args.fields.now c.requires)

pub at-requires-3 : goal.at-requires-3
at-requires-3 c = omega (arith, reading_length c.args.fields.now c.requires)

pub at-requires-4 : goal.at-requires-4
at-requires-4 c = omega (arith, reading_length c.args.fields.now c.requires)

pub at-requires-5 : goal.at-requires-5
at-requires-5 c = omega (arith, reading_length c.args.fields.now c.requires)

pub returns : goal.returns
returns c =
    let named = rw c.at.ensures at c.in_ok-read.ensures.0 in
    let of = rw c.at-2.ensures at c.in_ok-read-2.ensures.0 in
    let dated : day_of (get_or c.args.fields.now 3 []) ≡ Some c.in_ok-read_day.field-0 = rw c.at-3.ensures at (sym c.read_day.ensures.value ∙ c.in_ok-read_day.was) in
    let carried : within (neg_ℤ (pos most_grams)) (pos most_grams) (number (get_or c.args.fields.now 4 [])) ≡ Some c.in_ok-read_grams.field-0 =
    rw c.at-4.ensures at (sym c.read_grams.ensures ∙ c.in_ok-read_grams.was) in
    let spread : within (pos 0) (pos most_row_variance) (number (get_or c.args.fields.now 5 [])) ≡ Some c.in_ok-read_whole.field-0 =
    rw c.at-5.ensures at (sym c.read_whole.ensures ∙ c.in_ok-read_whole.was) in
    let day : FitsSigned w32 c.in_ok-read_day.field-0 = search rules in
    let grams : FitsSigned w64 c.in_ok-read_grams.field-0 = search rules in
    let variance : FitsSigned w128 c.in_ok-read_whole.field-0 = search rules in
    rw (to_z-of_z w32 c.in_ok-read_day.field-0 day, to_z-of_z w64 c.in_ok-read_grams.field-0 grams, to_z-of_z w128 c.in_ok-read_whole.field-0 variance)
    (reading_read c.args.fields.now _ _ _ _ _ c.requires named (c.in_ok-read.ensures.1 ∙ c.at.ensures) of (c.in_ok-read-2.ensures.1 ∙ c.at-2.ensures) dated c.in_ok-read_day.ensures.within
    carried spread)
