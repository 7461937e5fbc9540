use Rattle.std.proofs.Common.{◌≡◌, List, Option, IfSome, Some, FitsSigned, sym, subst, rules}
use mir.Syntax.{w32}
use Rattle.std.proofs.lemmas.Int.{to_z-of_z}
use Rattle.pb_site.specs.Laws.{IsPartOnDays}
use Rattle.pb_site.specs.declared.declared.Declared.{Declared}
use Rattle.pb_site.specs.Site.{version_of}
use Rattle.pb_periods.specs.declared.period.Period.{Period}
use Rattle.pb_kinds.specs.declared.rows.StoredRow.{StoredRow}
use Rattle.pb_book.specs.Rows.{declared_of}
use Rattle.pb_period.specs.declared.days.Days.{Days}
use Rattle.pb_period.specs.Days.{days_of}
use Rattle.pb_period.specs.Laws.{AreGraphNames}
use Rattle.pb_period.specs.PeriodGraph.{period_graph, period_names}
use Rattle.pb_period.proofs.VarianceLemmas.{names_right}
use Rattle.pb_period.proofs.graph.names.Goals as goal

-- the names of a period that is found
named_at : (rows : List StoredRow) (declared : List Declared) (days : Days) (found : Option Period) (period : Period) → declared ≡ declared_of rows → days ≡ days_of period → found ≡ Some period
    → IsPartOnDays (version_of declared) declared days.first days.last
    → IfSome found (λ (p : Period). AreGraphNames (period_names rows (days_of p)) (period_graph rows (days_of p)))
named_at rows declared days found period is days_is at part =
    let own = subst (λ (ds : List Declared). IsPartOnDays (version_of ds) ds days.first days.last) is part in
    let here = names_right (version_of (declared_of rows)) rows days own in
    subst (λ (o : Option Period). IfSome o (λ (p : Period). AreGraphNames (period_names rows (days_of p)) (period_graph rows (days_of p)))) (sym at)
    (subst (λ (d : Days). AreGraphNames (period_names rows d) (period_graph rows d)) days_is here)

pub returns-clause-named : goal.returns-clause-named
returns-clause-named c =
    let first : FitsSigned w32 c.of-days.result.first = search rules in
    let last : FitsSigned w32 c.of-days.result.last = search rules in
    let part = simp to_z-of_z at c.names_on.ensures.part in
    named_at c.args.book.now c.site.result.now c.of-days.result _ c.period.result c.site.ensures.value c.of-days.ensures c.period.ensures.value part
