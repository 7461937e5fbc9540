use Rattle.std.proofs.Common.{◌∙◌, ℕ, FitsSigned, ap}
use mir.Syntax.{w32}
use Rattle.std.specs.Prelude.{option_and_then}
use Rattle.std.specs.HashMap.{get}
use Rattle.std.proofs.lemmas.Int.{to_z-of_z}
use Rattle.pb_facts.specs.Fact.{is_reading_on}
use Rattle.pb_facts.specs.Places.{same_numbered}
use Rattle.pb_facts.proofs.LiveLemmas.{found}
use Rattle.pb_facts.proofs.facts.Facts.reading_on.Goals as goal

pub returns-clause-value : goal.returns-clause-value
returns-clause-value c =
    let fits : FitsSigned w32 c.args.day = c.ranges.day in
    let at = simp to_z-of_z at c.get.ensures.value in
    let map = c.self.inside.places.readings in
    let here = ap (option_and_then (λ (n : ℕ). get same_numbered map (n, c.args.day))) c.in_ok-number.ensures in
    rw (← c.self.view_is) (c.copied.ensures ∙ at ∙ here ∙ c.self.invariant.readings (c.args.stream.now, c.args.day))

pub returns-clause-found : goal.returns-clause-found
returns-clause-found c = found (is_reading_on c.args.stream.now c.args.day) c.args.self.now c.copied.result (returns-clause-value c)

pub returns-in_err-number-clause-value : goal.returns-in_err-number-clause-value
returns-in_err-number-clause-value c =
    let map = c.self.inside.places.readings in
    let here = ap (option_and_then (λ (n : ℕ). get same_numbered map (n, c.args.day))) c.in_err-number.ensures in
    rw (← c.self.view_is) (c.from_residual.ensures ∙ here ∙ c.self.invariant.readings (c.args.stream.now, c.args.day))

pub returns-in_err-number-clause-found : goal.returns-in_err-number-clause-found
returns-in_err-number-clause-found c = found (is_reading_on c.args.stream.now c.args.day) c.args.self.now c.from_residual.result (returns-in_err-number-clause-value c)
