use Rattle.std.proofs.Common.{◌≡◌, ◌∙◌, List, [], Some, None, Ok, ℕ, Option, slice_get, ap, ap₂, subst}
use Rattle.pb_rows.specs.declared.name.Names.{Names}
use Rattle.pb_study.specs.declared.results.Options.{Options}
use Rattle.pb_elim.proofs.StudyLaws.{least_throughout, tested}
use Rattle.pb_periods.specs.declared.period.Period.{Period}
use Rattle.pb_kinds.specs.declared.rows.StoredRow.{StoredRow}
use Rattle.pb_book.specs.Rows.{periods_of}
use Rattle.pb_report.specs.declared.form.Form.{Form}
use Rattle.pb_report.specs.Form.{text_in}
use Rattle.pb_report.specs.Study.{study_rows}
use Rattle.pb_session.specs.declared.session.Reported.{Reported}
use Rattle.pb_session.specs.Criticals.{critical_of}
use Rattle.pb_session.specs.Keeping.{IsReportedOf}
use Rattle.pb_session.specs.Kept.{Held}
use Rattle.pb_session.specs.Session.{IsReport, Reports}
use Rattle.pb_session.proofs.KeepingLemmas.{has_graph, kept_names, reported_at}
use Rattle.pb_session.proofs.ReportLemmas.{reports_at}
use Rattle.pb_session.proofs.session.Session.report_kept.Goals as goal

same_some : (a b : Period) (o : Option Period) → o ≡ Some a → o ≡ Some b → a ≡ b
same_some a b o one other = cc (one, other)

pub write_study-requires : goal.write_study-requires
write_study-requires c =
    let state = c.args.self.now.state in
    let rows_is : c.self.inside.book ≡ state.rows = ap (λ (h : Held). h.state.rows) c.self.view_is in
    let has = has_graph state (slice_get (periods_of state.rows) c.args.i) c.args.study.now c.requires.study in
    let named = kept_names state c.args.i c.self.inside.book c.in_ok-names.names c.args.study.now rows_is c.in_ok-names.ensures.named c.in_ok-names.ensures.ok has in
    record { named = record { graph = has.graph; named = named.1.each; formed = has.kept.formed } }

pub returns : goal.returns
returns c =
    let held = c.args.self.now in
    let state = held.state in
    let i = c.args.i in
    let found = slice_get (periods_of state.rows) i in
    let study = c.args.study.now in
    let names = c.in_ok-names.names in
    let rows_is : c.self.inside.book ≡ state.rows = ap (λ (h : Held). h.state.rows) c.self.view_is in
    let options_is : c.self.inside.options ≡ state.options = ap (λ (h : Held). h.state.options) c.self.view_is in
    let form_is : c.self.inside.form ≡ state.form = ap (λ (h : Held). h.state.form) c.self.view_is in
    let has = has_graph state found study c.requires.study in
    let named = kept_names state i c.self.inside.book names study rows_is c.in_ok-names.ensures.named c.in_ok-names.ensures.ok has in
    let period_there : found ≡ Some c.period-name.result = subst (λ (rs : List StoredRow). slice_get (periods_of rs) i ≡ Some c.period-name.result) rows_is c.period-name.ensures.value in
    let period_is : c.period-name.result ≡ has.period = same_some c.period-name.result has.period found period_there has.there in
    let name_is : c.period-name.result.name ≡ has.period.name = ap (λ (p : Period). p.name) period_is in
    let line : Form → List ℕ → Options → List ℕ = λ form name options. text_in form (study_rows names name options study) in
    let text = line c.self.inside.form c.period-name.result.name c.self.inside.options in
    let text_is : text ≡ line state.form has.period.name state.options =
    ap₂ (λ (form : Form) (name : List ℕ). line form name c.self.inside.options) form_is name_is ∙ ap (line state.form has.period.name) options_is in
    let report : IsReport state [] names has.period.name has.graph text = record {
      limits = has.kept.limits;
      named = named.1;
      study = study;
      is_study = has.kept.is_study;
      certified = has.kept.certified;
      least = least_throughout has.graph state.options (critical_of state.rows) study has.kept.is_study;
      tested = tested has.graph state.options (critical_of state.rows) study has.kept.is_study;
      rows = text_is;
    } in
    let reports : Reports state found text =
    reports_at state i has.period (Ok has.graph) text has.there has.is (subst (λ (n : Names). IsReport state [] n has.period.name has.graph text) named.0 report) in
    let reported : Reported = record { made = None } in
    let leaves : IsReportedOf held i has.graph reported = record { limits = has.kept.limits; made = c.requires.kept } in
    record {
      ok = (text, c.in_ok-write_study.ensures.ok, reports);
      leaves = reported_at held i found has.period has.graph reported has.there has.is leaves;
      err = tt;
    }
