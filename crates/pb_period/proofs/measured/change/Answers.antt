use Rattle.std.proofs.Common.{◌∙◌, FitsSigned, Option, arith, rules, ap, ap₂, Some}
use Rattle.std.specs.Prelude.{find}
use mir.Syntax.{w32}
use Rattle.std.proofs.lemmas.Int.{ints, to_z-of_z}
use Rattle.pb_facts.specs.declared.fact.Fact.{Fact}
use Rattle.pb_facts.specs.Fact.{is_dip_on}
use Rattle.pb_facts.specs.Facts.{live_facts}
use Rattle.pb_period.specs.declared.amount.Amount.{Amount}
use Rattle.pb_period.specs.Facts.{content_of}
use Rattle.pb_period.specs.Measurement.{change_of, closing_less_opening}
use Rattle.pb_period.proofs.measured.change.Goals as goal
use Rattle.pb_site.specs.Service.{last_served}

pub returns-in_err-opening-clause-value : goal.returns-in_err-opening-clause-value
returns-in_err-opening-clause-value c =
    let first : FitsSigned w32 c.args.days.first = omega (arith, ints, c.requires.begins.0, c.requires.begins.1) in
    let day : FitsSigned w32 c.opening_day.result = search rules in
    let day_is = simp to_z-of_z at c.opening_day.ensures in
    let opening = rw day_is at (simp to_z-of_z at c.in_err-opening.ensures.found) in
    c.from_residual.ensures
    ∙ ap (λ (o : Option Fact). change_of (content_of c.args.strap.now) o
    (find (is_dip_on c.args.tank.now (last_served c.args.service c.args.days.last)) (live_facts c.args.facts.now))) opening

pub returns-in_err-closing-clause-value : goal.returns-in_err-closing-clause-value
returns-in_err-closing-clause-value c =
    let first : FitsSigned w32 c.args.days.first = omega (arith, ints, c.requires.begins.0, c.requires.begins.1) in
    let last : FitsSigned w32 c.args.days.last = omega (arith, ints, c.requires.ends.0, c.requires.ends.1) in
    let opens : FitsSigned w32 c.opening_day.result = search rules in
    let closes : FitsSigned w32 c.closing_day.result = search rules in
    let opens_is = simp to_z-of_z at c.opening_day.ensures in
    let closes_is = simp to_z-of_z at c.closing_day.ensures in
    let opening = rw opens_is at (simp to_z-of_z at c.in_ok-opening.ensures.found) in
    let closing = rw closes_is at (simp to_z-of_z at c.in_err-closing.ensures.found) in
    c.from_residual-in_err-closing.ensures ∙ ap₂ (change_of (content_of c.args.strap.now)) opening closing

pub returns-clause-value : goal.returns-clause-value
returns-clause-value c =
    let first : FitsSigned w32 c.args.days.first = omega (arith, ints, c.requires.begins.0, c.requires.begins.1) in
    let last : FitsSigned w32 c.args.days.last = omega (arith, ints, c.requires.ends.0, c.requires.ends.1) in
    let opens : FitsSigned w32 c.opening_day.result = search rules in
    let closes : FitsSigned w32 c.closing_day.result = search rules in
    let opens_is = simp to_z-of_z at c.opening_day.ensures in
    let closes_is = simp to_z-of_z at c.closing_day.ensures in
    let opening = rw opens_is at (simp to_z-of_z at c.in_ok-opening.ensures.found) in
    let closing = rw closes_is at (simp to_z-of_z at c.in_ok-closing.ensures.found) in
    ap (λ (a : Amount). Some a) (c.difference.ensures.value ∙ ap₂ closing_less_opening c.content_of.ensures.value c.content_of-2.ensures.value) ∙ ap₂ (change_of (content_of c.args.strap.now)) opening closing
