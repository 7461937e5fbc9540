use Rattle.std.proofs.Common.{refl}
use Rattle.pb_rows.specs.Records.{records_of}
use Rattle.pb_report.specs.declared.form.Form.TheVariants.{Csv}
use Rattle.pb_session.specs.Session.{new_session}
use Rattle.pb_cli.proofs.OwnLemmas.{AreKnown, AreKnownWindows, IsSound, reads_right, session_read}
use Rattle.pb_cli.proofs.laws.own_reports_law.Goals as goal

pub returns : goal.returns
returns c = λ options input text judgement wrong asked is judged.
    let known : AreKnown = record {
      join = c.join_law.ensures.law;
      rows = c.study_rows_law.ensures;
      others = c.passed_rows_law.ensures;
      words = c.row_words_law.ensures;
      formed = c.formed_law.ensures;
      own = c.own_law.ensures;
      critical = c.criticals_law.ensures;
    } in
    let windows : AreKnownWindows = record { books = c.book_windows_law.ensures; asked = c.asked_window_law.ensures } in
    let sound : IsSound (new_session options Csv) = record { form = refl; options = asked; accepted = c.accepted_law.ensures.begin; named = c.named_law.ensures.begin } in
    reads_right c.row_text_law.ensures c.passed_law.ensures c.findings_law.ensures.one text
    (session_read known windows c.named_law.ensures c.accepted_law.ensures (new_session options Csv) 1 (records_of input) text sound is) wrong judgement judged
