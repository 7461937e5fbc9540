use Rattle.std.proofs.Common.{◌≤ℤ◌, FitsSigned, arith}
use mir.Syntax.{w32}
use Rattle.std.proofs.lemmas.Int.{ints, to_z-of_z}
use Rattle.pb_period.proofs.DayLemmas.{span}
use Rattle.pb_period.proofs.transfers.share_on.Goals as goal

pub share_amount-requires-clause-span : goal.share_amount-requires-clause-span
share_amount-requires-clause-span c =
    let first : FitsSigned w32 c.args.first = c.ranges.first in
    let last : FitsSigned w32 c.args.last = c.ranges.last in
    let from : FitsSigned w32 c.args.from = c.ranges.from in
    let to : FitsSigned w32 c.args.to = c.ranges.to in
    let days = simp to_z-of_z at c.days_through-days.ensures in
    let before = simp to_z-of_z at c.days_until-before.ensures in
    let until = simp to_z-of_z at c.days_through-until.ensures in
    let not_before = simp to_z-of_z at c.if-to-from.false in
    let order : c.args.from ≤ℤ c.args.to = omega (arith, ints, not_before) in
    rw (days, before, until) (span c.args.first c.args.last c.args.from c.args.to c.requires.from order c.requires.to c.requires.short)
