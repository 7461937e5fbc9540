use Rattle.std.specs.List.{list_any}
use Rattle.std.proofs.Common.{◌∙◌, ap}
use Rattle.pb_rows.specs.Name.{same_name}
use Rattle.pb_periods.specs.declared.period.Period.{Period}
use Rattle.pb_periods.proofs.NameLemmas.{any_map}
use Rattle.pb_periods.proofs.periods.Periods.has_name.Goals as goal

pub returns : goal.returns
returns c =
    rw (← c.self.view_is)
    (c.contains.ensures ∙ ap (list_any (same_name c.args.name.now)) c.self.invariant.named ∙ any_map (same_name c.args.name.now) (λ (p : Period). p.name) c.self.inside.periods.items)
