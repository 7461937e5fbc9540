use Rattle.std.proofs.Common.{◌≡◌, ◌∙◌, FitsSigned}
use Rattle.std.proofs.lemmas.Int.{to_z-of_z}
use mir.Syntax.{w128}
use Rattle.pb_rows.specs.Number.{whole_text}
use Rattle.pb_rows.proofs.TextLemmas.{signed_text}
use Rattle.pb_rows.proofs.row.Row.push_whole.Goals as goal

pub returns-clause-appended : goal.returns-clause-appended
returns-clause-appended c =
    let fits : FitsSigned w128 c.args.value = c.ranges.value in
    let written = simp to_z-of_z at c.format.ensures.text in
    let text : c.as_bytes.result.now ≡ whole_text c.args.value = c.as_bytes.ensures.value ∙ written ∙ signed_text c.args.value fits in
    rw text at c.push.ensures.appended
