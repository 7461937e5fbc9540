-- The report of a graph by its study, and that of a period at a place by its graph.
use Rattle.std.proofs.Common.{◌≡◌, ℕ, List, [], Option, Some, None, IfSome, Result, slice_get, sym, ap₂, subst}
use Rattle.pb_rows.specs.declared.name.Names.{Names}
use Rattle.pb_study.specs.declared.results.Options.{Options}
use Rattle.pb_study.specs.declared.results.Study.{Study}
use Rattle.pb_graph.specs.ProcessGraph.{ProcessGraph}
use Rattle.pb_periods.specs.declared.period.Period.{Period}
use Rattle.pb_book.specs.Rows.{periods_of}
use Rattle.pb_period.specs.Days.{days_of}
use Rattle.pb_period.specs.declared.graph.Assembly.{Assembly}
use Rattle.pb_period.specs.PeriodGraph.{assembly_of, period_names}
use Rattle.pb_report.specs.declared.form.Form.{Form}
use Rattle.pb_report.specs.Form.{text_in}
use Rattle.pb_report.specs.Study.{study_rows}
use Rattle.pb_session.specs.Keeping.{IsStudied}
use Rattle.pb_session.specs.Session.{AreNamesOf, IsReport, SessionState, Reports, ReportsBy}

-- the rows of the study of a graph are its report
pub report_of : (state : SessionState) (options : Options) (form : Form) (names : Names) (period : List ℕ) (graph : ProcessGraph) (study : Study) → options ≡ state.options → form ≡ state.form
    → AreNamesOf names graph → IsStudied state graph study → IsReport state [] names period graph (text_in form (study_rows names period options study))
report_of state options form names period graph study options_is form_is named of = record {
  limits = of.limits;
  named = named;
  study = study;
  is_study = of.is_study;
  certified = of.certified;
  least = of.least;
  tested = of.tested;
  rows = ap₂ (λ (f : Form) (o : Options). text_in f (study_rows names period o study)) form_is options_is;
}

-- what holds for a period that is found
pub at_found : (found : Option Period) (period : Period) (P : Period → Type 0) → found ≡ Some period → IfSome found P → P period
at_found (Some other) period P is holds = let same : other ≡ period = cc is in subst P same holds
at_found None period P is holds = cc is

pub reports_at : (state : SessionState) (i : ℕ) (period : Period) (assembly : Result ProcessGraph Assembly) (text : List ℕ) → slice_get (periods_of state.rows) i ≡ Some period
    → assembly ≡ assembly_of state.rows (days_of period) → ReportsBy state [] (period_names state.rows (days_of period)) period.name assembly text
    → Reports state (slice_get (periods_of state.rows) i) text
reports_at state i period assembly text at is by =
    subst (λ (o : Option Period). Reports state o text) (sym at)
    (subst (λ (a : Result ProcessGraph Assembly). ReportsBy state [] (period_names state.rows (days_of period)) period.name a text) is by)
