use Rattle.std.proofs.Common.{◌≡◌, ◌∙◌, List, ap, sym, subst}
use Rattle.std.specs.Prelude.{filter_map}
use Rattle.pb_site.specs.declared.declared.Declared.{Declared}
use Rattle.pb_study.specs.Criticals.{AreCritical}
use Rattle.pb_session.specs.Criticals.{critical_row, declared_critical}
use Rattle.pb_session.proofs.CriticalLemmas.{critical_within}
use Rattle.pb_session.proofs.criticals.declared_critical.Goals as goal

pub returns-clause-limits : goal.returns-clause-limits
returns-clause-limits c =
    let global = c.in_ok-global.ensures ∙ ap (λ (declared : List Declared). filter_map critical_row declared) c.declared.ensures.value in
    let whole : declared_critical c.args.site.now ≡ record { global = c.in_ok-global.global; nodal = c.nodal-nodal.result; measure = c.measure-measure.result } =
    λ i. record { global = sym global i; nodal = sym c.nodal-nodal.ensures i; measure = sym c.measure-measure.ensures i } in
    subst AreCritical whole (critical_within c.args.site.now c.declared.ensures.plant)
