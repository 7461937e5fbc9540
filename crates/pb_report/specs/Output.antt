-- Inside. What is written so far, and what is still to be written.
use Rattle.std.specs.Prelude.{◌≡◌, ◌++◌, ℕ, List}
use Rattle.pb_report.specs.declared.form.Form.{Form}
use Rattle.pb_report.specs.Form.{text_in}
use Rattle.pb_report.specs.Row.{OutputRow}

-- the rows written so far, as a text in a form
pub record OutputText : Type 0 where
  pub form : Form
  pub text : List ℕ

-- the text gains rows, and the form stays the same
abbrev pub AddsRows : OutputText → OutputText → List OutputRow → Type 0
AddsRows old new rows = new ≡ record { form = old.form; text = old.text ++ text_in old.form rows }

-- what was written, joined to the rows that are left, makes up all rows
pub record IsUnderWay (start now : OutputText) (rows left : List OutputRow) : Type 0 where
  pub form : now.form ≡ start.form
  pub text : start.text ++ text_in start.form rows ≡ now.text ++ text_in start.form left
