-- Statement. A session that C holds.
use Rattle.std.specs.Prelude.{◌≡◌, ℕ, List, []}
use Rattle.pb_study.specs.declared.results.Options.{Options}
use Rattle.pb_report.specs.declared.form.Form.{Form}
use Rattle.pb_session.specs.Session.{SessionState, new_session}
use Rattle.plantbal_c.specs.declared.options.PlantbalOptions.{PlantbalOptions}
use Rattle.plantbal_c.specs.Asked.{IsAsked}

-- What C holds: what the session has stored, how many records it has taken, and the output that C hasn't taken yet.
pub record Opened : Type 0 where
  pub state : SessionState
  pub taken : ℕ
  pub text : List ℕ

-- A session of these options that has taken no record.
pub record IsOpened (given : PlantbalOptions) (new : Opened) : Type 0 where
  pub options : Options
  pub form : Form
  pub asked : IsAsked given options form
  pub state : new.state ≡ new_session options form
  pub taken : new.taken ≡ 0
  pub text : new.text ≡ []
