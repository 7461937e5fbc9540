use Rattle.std.proofs.Common.{◌∷◌, [], ap, ap₂, ℕ, List}
use Rattle.pb_book.specs.Answer.{cause_code}
use Rattle.pb_report.specs.declared.form.Form.{Form}
use Rattle.pb_report.specs.Form.{text_in}
use Rattle.pb_report.specs.Refusal.{refused_row}
use Rattle.pb_session.specs.Kept.{Held}
use Rattle.pb_session.specs.Session.{IsTextOf}
use Rattle.pb_session.proofs.AppendingLemmas.{appends_such}
use Rattle.pb_session.proofs.session.Session.refuse.Goals as goal

pub returns-clause-ok : goal.returns-clause-ok
returns-clause-ok c =
    let text : Form → ℕ → List ℕ = λ form code. text_in form (refused_row c.args.at code ∷ []) in
    let is_text = ap₂ text (ap (λ (h : Held). h.state.form) c.self.view_is) c.code.ensures.value in
    appends_such _ (IsTextOf c.args.self.now.state (refused_row c.args.at (cause_code c.args.cause) ∷ [])) _ _ _ is_text c.write_refused.ensures.ok
