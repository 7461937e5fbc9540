use Rattle.std.proofs.Common.{length, slice_get}
use Rattle.pb_book.specs.Rows.{periods_of}
use Rattle.pb_make.specs.Rows.{session_rows, stored_rows}
use Rattle.pb_report.specs.declared.form.Form.TheVariants.{Csv}
use Rattle.pb_session.specs.Session.{new_session}
use Rattle.pb_cli.specs.Summary.{made_options}
use Rattle.std.proofs.Common.{ap}
use Rattle.pb_study.specs.declared.results.Options.{Options}
use Rattle.pb_cli.proofs.StateLemmas.{options_stay}
use Rattle.pb_cli.proofs.SumLemmas.{made_state, one_sum}
use Rattle.pb_cli.proofs.laws.one_summary_law.Goals as goal

pub returns : goal.returns
returns c = λ number streams gap sweeps one other first second.
    let state = made_state number streams gap sweeps in
    one_sum c.one_study_law.ensures number streams (length (session_rows number streams)) state (slice_get (periods_of state.rows) 0) one other
    (ap (λ (o : Options). o.eliminate) (options_stay (new_session (made_options gap sweeps) Csv) 1 (stored_rows number streams))) first second
