use Rattle.std.proofs.Common.{Option, length, sym, subst}
use Rattle.pb_study.specs.Options.{AreOptions}
use Rattle.pb_periods.specs.declared.period.Period.{Period}
use Rattle.pb_make.specs.Laws.{HasMadePeriod}
use Rattle.pb_make.specs.Rows.{session_rows, stored_rows}
use Rattle.pb_report.specs.declared.form.Form.TheVariants.{Csv}
use Rattle.pb_session.specs.Session.{new_session}
use Rattle.pb_cli.specs.Summary.{made_options}
use Rattle.pb_cli.proofs.StateLemmas.{accepted_after, holds_after, made_period_at, options_stay}
use Rattle.pb_cli.proofs.SumLemmas.{SumsUp, made_state, some_sum}
use Rattle.pb_cli.proofs.laws.some_summary_law.Goals as goal

pub returns : goal.returns
returns c = λ number streams gap sweeps least most asked.
    let start = new_session (made_options gap sweeps) Csv in
    let rows = stored_rows number streams in
    let state = made_state number streams gap sweeps in
    let has : HasMadePeriod state.rows = holds_after HasMadePeriod start 1 rows (c.period_law.ensures number streams least most) in
    let accepted = accepted_after c.accepted_law.ensures start 1 rows c.accepted_law.ensures.begin in
    let options : AreOptions state.options = subst AreOptions (sym (options_stay start 1 rows)) asked in
    let graphs = c.graphs_law.ensures state.rows accepted in
    let (period, at, within) = made_period_at state.rows has graphs in
    let (text, sums) = some_sum c.some_study_law.ensures number streams (length (session_rows number streams)) state period options within in
    (text, subst (λ (found : Option Period). SumsUp number streams (length (session_rows number streams)) state found text) (sym at) sums)
