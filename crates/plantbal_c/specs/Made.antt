-- Statement. A session that is made from a number.
use Rattle.std.specs.Prelude.{◌≡◌, ℕ, Bool}
use Rattle.pb_report.specs.declared.form.Form.TheVariants.{Csv}
use Rattle.pb_session.specs.Session.{new_session}
use Rattle.pb_cli.specs.Run.{IsMade}
use Rattle.plantbal_c.specs.Asked.{usual_options}
use Rattle.plantbal_c.specs.Opened.{Opened}

-- A session of the usual options that has taken no record; its output is the text of the session with this number and this many streams, or its summary.
pub record Makes (number streams : ℕ) (summary : Bool) (gap sweeps : ℕ) (new : Opened) : Type 0 where
  pub state : new.state ≡ new_session usual_options Csv
  pub taken : new.taken ≡ 0
  pub made : IsMade number streams summary gap sweeps new.text
