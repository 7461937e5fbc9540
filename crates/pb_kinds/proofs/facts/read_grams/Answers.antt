use Rattle.std.specs.Prelude.{neg_ℤ, Some}
use Rattle.std.proofs.Common.{◌≡◌, ◌∙◌, FitsSigned, pos, refl, sym, arith}
use mir.Syntax.{w64, w128}
use Rattle.std.proofs.lemmas.Int.{ints, to_z-of_z}
use Rattle.pb_limits.specs.Limits.{most_grams}
use Rattle.pb_rows.specs.Number.{number, within}
use Rattle.pb_kinds.proofs.ReadingLemmas.{between_ends}
use Rattle.pb_kinds.proofs.facts.read_grams.Goals as goal

pub returns : goal.returns
returns c =
    let passes : within (neg_ℤ (pos most_grams)) (pos most_grams) (number c.args.field.now) ≡ Some c.in_ok-grams.grams = sym c.read_whole.ensures ∙ c.in_ok-grams.was in
    let range = between_ends (neg_ℤ (pos most_grams)) (pos most_grams) c.in_ok-grams.grams (number c.args.field.now) passes in
    let wide : FitsSigned w128 c.in_ok-grams.grams = omega (arith, ints, range.0, range.1) in
    let long : FitsSigned w64 c.in_ok-grams.grams = omega (arith, ints, range.0, range.1) in
    rw (passes, to_z-of_z w128 c.in_ok-grams.grams wide, to_z-of_z w64 c.in_ok-grams.grams long) refl
