use Rattle.std.proofs.Common.{◌∙◌, FitsSigned}
use mir.Syntax.{w32}
use Rattle.std.proofs.lemmas.Int.{to_z-of_z}
use Rattle.pb_period.proofs.measured.dip_on.Goals as goal

pub returns-in_err-dip_on-clause-found : goal.returns-in_err-dip_on-clause-found
returns-in_err-dip_on-clause-found c =
    let fits : FitsSigned w32 c.args.day = c.ranges.day in
    let found = simp to_z-of_z at c.in_err-dip_on.ensures.found in
    c.from_residual.ensures ∙ found

pub returns-clause-found : goal.returns-clause-found
returns-clause-found c =
    let fits : FitsSigned w32 c.args.day = c.ranges.day in
    let found = simp to_z-of_z at c.in_ok-dip_on.ensures.found in
    c.live.ensures.value ∙ found
