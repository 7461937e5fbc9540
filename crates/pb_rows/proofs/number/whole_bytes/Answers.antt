use Rattle.std.proofs.Common.{◌∙◌, FitsSigned, ap, ℕ, Vec, Global}
use Rattle.std.proofs.lemmas.Int.{to_z-of_z}
use mir.Syntax.{w128}
use Rattle.pb_rows.proofs.TextLemmas.{signed_text}
use Rattle.pb_rows.proofs.number.whole_bytes.Goals as goal

pub returns : goal.returns
returns c =
    let fits : FitsSigned w128 c.args.value = c.ranges.value in
    let text = simp to_z-of_z at c.in_ok-to_string.ensures.ok in
    ap (λ (bytes : Vec ℕ Global). bytes.items) c.into_bytes.ensures.value ∙ text ∙ signed_text c.args.value fits
