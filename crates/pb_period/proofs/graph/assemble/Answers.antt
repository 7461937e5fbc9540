use Rattle.std.proofs.Common.{◌≡◌, ◌∙◌, Option, Some, IfSome, sym, ap, subst}
use Rattle.std.specs.Prelude.{IfErr}
use Rattle.pb_site.specs.declared.declared.Version.{Version}
use Rattle.pb_site.specs.declared.declared.Version.TheVariants.{Two}
use Rattle.pb_site.specs.Site.{version_of}
use Rattle.pb_periods.specs.declared.period.Period.{Period}
use Rattle.pb_book.specs.Rows.{declared_of}
use Rattle.pb_period.specs.declared.days.Days.{Days}
use Rattle.pb_period.specs.Days.{days_of}
use Rattle.pb_period.specs.PeriodGraph.{IsStreamOfGraph, graph_in, within_limits}
use Rattle.pb_period.proofs.graph.assemble.Goals as goal

-- what holds for the version and the days of a period that is found holds for the period
found_at : (P : Version → Days → Type 0) (version own : Version) (days : Days) (found : Option Period) (period : Period) → own ≡ version → days ≡ days_of period → found ≡ Some period
    → P version days → IfSome found (λ (p : Period). P own (days_of p))
found_at P version own days found period own_is days_is at holds =
    subst (λ (o : Option Period). IfSome o (λ (p : Period). P own (days_of p))) (sym at)
    (subst (λ (d : Days). P own d) days_is (subst (λ (v : Version). P v days) (sym own_is) holds))

pub returns-in-Two-clause-answer : goal.returns-in-Two-clause-answer
returns-in-Two-clause-answer c = λ sure.
    let rows = c.args.book.now in
    let version_is : version_of (declared_of rows) ≡ Two = sym (c.in-Two.ensures.value ∙ ap version_of c.site.ensures.value) in
    found_at (λ version days. c.served_graph.result ≡ within_limits (graph_in version rows days)) Two (version_of (declared_of rows)) c.of-days.result _ c.period.result version_is c.of-days.ensures
    c.period.ensures.value (c.served_graph.ensures.answer sure)

pub returns-in-Two-clause-over : goal.returns-in-Two-clause-over
returns-in-Two-clause-over c =
    let rows = c.args.book.now in
    let version_is : version_of (declared_of rows) ≡ Two = sym (c.in-Two.ensures.value ∙ ap version_of c.site.ensures.value) in
    found_at (λ version days. IfErr c.served_graph.result (IsStreamOfGraph (graph_in version rows days))) Two (version_of (declared_of rows)) c.of-days.result _ c.period.result version_is
    c.of-days.ensures c.period.ensures.value c.served_graph.ensures.over
