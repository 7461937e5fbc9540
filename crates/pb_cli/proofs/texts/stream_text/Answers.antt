use Rattle.std.proofs.Common.{◌≡◌, ◌∙◌, ◌<◌, ◌∷◌, [], ◌++◌, ℕ, List, length, Option, IfSome, slice_get, ap, sym, subst}
use Rattle.pb_rows.specs.declared.name.Names.{Names}
use Rattle.pb_periods.specs.declared.period.Period.{Period}
use Rattle.pb_book.specs.Rows.{periods_of}
use Rattle.pb_period.specs.Days.{days_of}
use Rattle.pb_period.specs.Laws.{AreGraphNames}
use Rattle.pb_period.specs.PeriodGraph.{period_graph, period_names}
use Rattle.pb_report.specs.declared.form.Form.TheVariants.{Csv}
use Rattle.pb_report.specs.Form.{text_in}
use Rattle.pb_report.specs.Names.{name_at}
use Rattle.pb_report.specs.Over.{over_row}
use Rattle.pb_cli.proofs.SumLemmas.{at_found, stream_named, stream_row}
use Rattle.pb_cli.proofs.texts.stream_text.Goals as goal

pub at-requires : goal.at-requires
at-requires c =
    let rows = c.args.book.now in
    let j = c.args.j in
    let period = c.period-period.result in
    let found = slice_get (periods_of rows) 0 in
    let names = c.in_ok-names.names in
    let names_is = at_found found period (λ (p : Period). names ≡ period_names rows (days_of p)) c.period-period.ensures.value c.in_ok-names.ensures.ok in
    let there = at_found found period (λ (p : Period). j < length (period_graph rows (days_of p)).streams) c.period-period.ensures.value c.requires.stream in
    let own = at_found found period (λ (p : Period). AreGraphNames (period_names rows (days_of p)) (period_graph rows (days_of p))) c.period-period.ensures.value c.in_ok-names.ensures.named in
    subst (λ (n : Names). j < length n.streams) (sym names_is) (stream_named rows (days_of period) j own there)

pub returns : goal.returns
returns c =
    let rows = c.args.book.now in
    let j = c.args.j in
    let period = c.period-period.result in
    let found = slice_get (periods_of rows) 0 in
    let names = c.in_ok-names.names in
    let names_is = at_found found period (λ (p : Period). names ≡ period_names rows (days_of p)) c.period-period.ensures.value c.in_ok-names.ensures.ok in
    let line : List ℕ → List ℕ = λ name. text_in Csv (over_row period.name name ∷ []) in
    let name_is : c.at.result.now ≡ name_at (period_names rows (days_of period)).streams j = c.at.ensures ∙ ap (λ (n : Names). name_at n.streams j) names_is in
    let whole : c.write_over.new.out.items ≡ text_in Csv (stream_row rows period j ∷ []) =
    c.in_ok-write_over.ensures.ok ∙ ap (λ (t : List ℕ). t ++ line c.at.result.now) c.new-text.ensures.items ∙ ap line name_is in
    subst (λ (o : Option Period). IfSome o (λ p. c.write_over.new.out.items ≡ text_in Csv (stream_row rows p j ∷ []))) (sym c.period-period.ensures.value) whole
