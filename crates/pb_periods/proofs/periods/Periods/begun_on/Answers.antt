use Rattle.std.proofs.Common.{◌∙◌, FitsSigned}
use mir.Syntax.{w32}
use Rattle.std.proofs.lemmas.Int.{to_z-of_z}
use Rattle.pb_periods.proofs.WindowLemmas.{begun_place}
use Rattle.pb_periods.proofs.periods.Periods.begun_on.Goals as goal

pub returns-clause-value : goal.returns-clause-value
returns-clause-value c =
    let day : FitsSigned w32 c.args.day = c.ranges.day in
    let got = simp to_z-of_z at c.get.ensures.value in
    rw (← c.self.view_is) (c.copied.ensures ∙ got ∙ begun_place c.self.inside.periods.items c.self.inside.begins c.args.day c.self.invariant.all)
