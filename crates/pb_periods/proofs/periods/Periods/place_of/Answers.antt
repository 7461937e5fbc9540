use Rattle.std.specs.Prelude.{position}
use Rattle.std.proofs.Common.{◌∙◌, ap}
use Rattle.pb_rows.specs.Name.{same_name}
use Rattle.pb_periods.specs.declared.period.Period.{Period}
use Rattle.pb_periods.proofs.NameLemmas.{position_map}
use Rattle.pb_periods.proofs.periods.Periods.place_of.Goals as goal

pub returns-in-Some : goal.returns-in-Some
returns-in-Some c =
    rw (← c.self.view_is)
    (c.in-Some.ensures.index ∙ ap (position (same_name c.args.name.now)) c.self.invariant.named ∙ position_map (same_name c.args.name.now) (λ (p : Period). p.name) c.self.inside.periods.items)

pub returns-in-None : goal.returns-in-None
returns-in-None c =
    rw (← c.self.view_is)
    (c.in-None.ensures.index ∙ ap (position (same_name c.args.name.now)) c.self.invariant.named ∙ position_map (same_name c.args.name.now) (λ (p : Period). p.name) c.self.inside.periods.items)
