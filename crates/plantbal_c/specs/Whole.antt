-- Statement. A session whose output is that of a whole run or check.
use Rattle.std.specs.Prelude.{◌≡◌, ℕ, Bool, List}
use Rattle.pb_study.specs.declared.results.Options.{Options}
use Rattle.pb_report.specs.declared.form.Form.{Form}
use Rattle.pb_report.specs.declared.form.Form.TheVariants.{Csv}
use Rattle.pb_session.specs.Session.{new_session}
use Rattle.pb_words.specs.declared.command.Command.TheVariants.{Check, Run}
use Rattle.pb_cli.specs.Run.{IsWhole}
use Rattle.plantbal_c.specs.declared.options.PlantbalOptions.{PlantbalOptions}
use Rattle.plantbal_c.specs.Asked.{IsAsked, usual_options}
use Rattle.plantbal_c.specs.Opened.{Opened}

-- A session of these options that has taken no record; its output is the whole output of a run of these options over this input.
pub record Answers (wrong : Bool) (given : PlantbalOptions) (input : List ℕ) (new : Opened) : Type 0 where
  pub options : Options
  pub form : Form
  pub asked : IsAsked given options form
  pub state : new.state ≡ new_session options form
  pub taken : new.taken ≡ 0
  pub whole : IsWhole wrong (Run options form) input new.text

-- A session of the usual options that has taken no record; its output is the whole judgement of this input.
pub record Judges (wrong : Bool) (input : List ℕ) (new : Opened) : Type 0 where
  pub state : new.state ≡ new_session usual_options Csv
  pub taken : new.taken ≡ 0
  pub whole : IsWhole wrong Check input new.text
