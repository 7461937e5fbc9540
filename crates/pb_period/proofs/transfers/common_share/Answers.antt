use Rattle.std.proofs.Common.{◌∙◌, FitsSigned, arith, ap₂, rules}
use mir.Syntax.{w32}
use Rattle.std.proofs.lemmas.Int.{ints, to_z-of_z}
use Rattle.pb_period.specs.Facts.{share_on}
use Rattle.pb_period.proofs.transfers.common_share.Goals as goal

pub returns-clause-value : goal.returns-clause-value
returns-clause-value c =
    let first : FitsSigned w32 c.args.first = c.ranges.first in
    let last : FitsSigned w32 c.args.last = c.ranges.last in
    let begins : FitsSigned w32 c.args.days.first = omega (arith, ints, c.requires.days.begins.0, c.requires.days.begins.1) in
    let ends : FitsSigned w32 c.args.days.last = omega (arith, ints, c.requires.days.ends.0, c.requires.days.ends.1) in
    let later : FitsSigned w32 c.max.result = search rules in
    let earlier : FitsSigned w32 c.min.result = search rules in
    let from = simp to_z-of_z at c.max.ensures.value in
    let to = simp to_z-of_z at c.min.ensures.value in
    let share = simp to_z-of_z at c.share_on.ensures.value in
    share ∙ ap₂ (share_on c.args.first c.args.last c.args.amount) from to
