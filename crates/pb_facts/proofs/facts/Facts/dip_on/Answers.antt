use Rattle.std.proofs.Common.{◌∙◌, FitsSigned}
use mir.Syntax.{w32}
use Rattle.std.proofs.lemmas.Int.{to_z-of_z}
use Rattle.pb_facts.specs.Fact.{is_dip_on}
use Rattle.pb_facts.proofs.LiveLemmas.{found}
use Rattle.pb_facts.proofs.facts.Facts.dip_on.Goals as goal

pub returns-clause-value : goal.returns-clause-value
returns-clause-value c =
    let fits : FitsSigned w32 c.args.day = c.ranges.day in
    let at = simp to_z-of_z at c.get.ensures.value in
    rw (← c.self.view_is) (c.copied.ensures ∙ at ∙ c.self.invariant.dips (c.args.tank.now, c.args.day))

pub returns-clause-found : goal.returns-clause-found
returns-clause-found c = found (is_dip_on c.args.tank.now c.args.day) c.args.self.now c.copied.result (returns-clause-value c)
