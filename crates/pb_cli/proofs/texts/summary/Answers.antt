use Rattle.std.proofs.Common.{◌≡◌, ◌∙◌, ◌<◌, ◌-◌, ℕ, List, IfOk, length, slice_get, take, ap, refl, sym, subst, arith}
use Rattle.pb_rows.specs.Records.{records_of}
use Rattle.pb_study.specs.declared.results.Options.{Options}
use Rattle.pb_study.specs.Options.{AreOptions}
use Rattle.pb_book.specs.Rows.{periods_of}
use Rattle.pb_make.proofs.MakeLaws.{period_law, reads_back_law, row_count}
use Rattle.pb_make.specs.Laws.{HasMadePeriod}
use Rattle.pb_make.specs.Rows.{made_report_row, session_rows, stored_rows}
use Rattle.pb_report.specs.declared.form.Form.TheVariants.{Csv}
use Rattle.pb_session.specs.Session.{SessionState, new_session, state_after_all}
use Rattle.pb_cli.specs.Summary.{made_options}
use Rattle.pb_cli.proofs.StateLemmas.{all_but_last, holds_after, some_period}
use Rattle.pb_cli.proofs.SumLemmas.{SumsUp, made_state}
use Rattle.pb_cli.proofs.texts.summary.Goals as goal

-- the records are the rows of the session
rows_are : (c : goal.After-made_options) → c.in_ok-rows.rows ≡ session_rows c.args.number c.args.streams
rows_are c =
    c.in_ok-rows.ensures.records ∙ ap records_of (c.deref.ensures.value ∙ c.in_ok-make.ensures.value) ∙ reads_back_law c.args.number c.args.streams

pub stored-requires-clause-options : goal.stored-requires-clause-options
stored-requires-clause-options c =
    let are : AreOptions (made_options c.args.gap c.args.sweeps) = record {
      some_gap = c.requires.some_gap;
      greatest_gap = c.requires.greatest_gap;
      greatest_sweeps = c.requires.greatest_sweeps;
      greatest_rounds = omega arith;
      rounds_by_tests = λ some. absurd (some refl);
    } in
    subst AreOptions (sym c.made_options.ensures) are

pub stored-requires-clause-some : goal.stored-requires-clause-some
stored-requires-clause-some c =
    let count = ap (λ (l : List (List (List ℕ))). length l) (rows_are c) ∙ row_count c.args.number c.args.streams c.requires.least c.requires.most in
    omega (arith, count)

pub stored-requires-clause-few : goal.stored-requires-clause-few
stored-requires-clause-few c =
    let count = ap (λ (l : List (List (List ℕ))). length l) (rows_are c) ∙ row_count c.args.number c.args.streams c.requires.least c.requires.most in
    omega (arith, count, c.requires.most)

pub summed-requires : goal.summed-requires
summed-requires c =
    let start = new_session (made_options c.args.gap c.args.sweeps) Csv in
    let stored = stored_rows c.args.number c.args.streams in
    let state = made_state c.args.number c.args.streams c.args.gap c.args.sweeps in
    let rows = c.in_ok-rows.rows in
    let rows_is : rows ≡ session_rows c.args.number c.args.streams =
    c.in_ok-rows.ensures.records ∙ ap records_of (c.deref.ensures.value ∙ c.in_ok-make.ensures.value) ∙ reads_back_law c.args.number c.args.streams in
    let state_is : c.in_ok-session.session.state ≡ state = c.in_ok-session.ensures
    ∙ ap (λ (o : Options). state_after_all (new_session o Csv) 1 (take (length rows - 1) rows)) c.made_options.ensures
    ∙ ap (state_after_all start 1) (all_but_last rows stored made_report_row rows_is) in
    let has : HasMadePeriod state.rows = holds_after HasMadePeriod start 1 stored (period_law c.args.number c.args.streams c.requires.least c.requires.most) in
    subst (λ (s : SessionState). 0 < length (periods_of s.rows)) (sym state_is) (some_period state.rows has)

pub returns : goal.returns
returns c =
    let number = c.args.number in
    let streams = c.args.streams in
    let start = new_session (made_options c.args.gap c.args.sweeps) Csv in
    let state = made_state number streams c.args.gap c.args.sweeps in
    let rows = c.in_ok-rows.rows in
    let rows_is : rows ≡ session_rows number streams =
    c.in_ok-rows.ensures.records ∙ ap records_of (c.deref.ensures.value ∙ c.in_ok-make.ensures.value) ∙ reads_back_law number streams in
    let state_is : c.in_ok-session.session.state ≡ state = c.in_ok-session.ensures
    ∙ ap (λ (o : Options). state_after_all (new_session o Csv) 1 (take (length rows - 1) rows)) c.made_options.ensures
    ∙ ap (state_after_all start 1) (all_but_last rows (stored_rows number streams) made_report_row rows_is) in
    let counted = subst (λ (n : ℕ). IfOk c.summed.result (λ text. SumsUp number streams n c.in_ok-session.session.state (slice_get (periods_of c.in_ok-session.session.state.rows) 0) text.items))
    (c.len.ensures ∙ ap (λ (l : List (List (List ℕ))). length l) rows_is) c.summed.ensures in
    record {
      text = subst (λ (s : SessionState). IfOk c.summed.result (λ text. SumsUp number streams (length (session_rows number streams)) s (slice_get (periods_of s.rows) 0) text.items)) state_is counted;
    }
