-- Statement. Refused rows of a session.
use Rattle.std.specs.Prelude.{ℕ, ◌-◌, [], ◌∷◌, pos}
use Rattle.pb_form.specs.Value.{Number, Word}
use Rattle.pb_form.specs.declared.output.OutputKind.TheVariants as kind
use Rattle.pb_report.specs.Row.{OutputRow, row_of}

-- the row of a refused record: its number in the session, and the code and the word of the refusal; codes begin at 1
abbrev pub refused_row : ℕ → ℕ → OutputRow
refused_row at code = row_of kind.Refused (Number (pos at) ∷ Number (pos code) ∷ Word (code - 1) ∷ [])
