-- Statement. What a row that was read says fits its columns.
use Rattle.std.specs.Prelude.{◌≡◌, ◌≤ℤ◌, ℕ, ℤ, true, false, List, Some, Ok, IfSome, slice_get}
use Rattle.pb_rows.specs.Name.{is_name}
use Rattle.pb_form.specs.Columns.{Column}
use Rattle.pb_form.specs.Holds.{Name, Number}
use Rattle.pb_form.specs.OutputRows.{output_columns, output_schema}
use Rattle.pb_form.specs.Reading.{row_read}
use Rattle.pb_form.specs.Value.{Value}
use Rattle.pb_form.specs.declared.output.OutputKind.{OutputKind}
use Rattle.pb_blocks.specs.Texts.{field}
use Rattle.pb_form.specs.Values.{value_at, number_in, number_at}

-- z lies from lo to hi, both included
abbrev pub LiesWithin : ℤ → ℤ → ℤ → Type 0
LiesWithin lo hi z = (lo ≤ℤ z) × (z ≤ℤ hi)

-- the columns of a kind have this one at a place
abbrev pub HasColumn : OutputKind → ℕ → Column → Type 0
HasColumn kind place column = slice_get (output_columns kind) place ≡ Some column

-- The numbers of a row that was read lie in the ranges of their columns, and its names have the form of names.
pub record RowReadLaw : Type 0 where
  pub numbers : (kind : OutputKind) (row : List (List ℕ)) (values : List Value) (place : ℕ) (key : List ℕ) (lo hi : ℤ)
      → row_read (output_schema kind) row ≡ Ok values → HasColumn kind place (record { key = key; holds = Number lo hi; optional = false })
      → LiesWithin lo hi (number_at values place)
  pub optionals : (kind : OutputKind) (row : List (List ℕ)) (values : List Value) (place : ℕ) (key : List ℕ) (lo hi : ℤ)
      → row_read (output_schema kind) row ≡ Ok values → HasColumn kind place (record { key = key; holds = Number lo hi; optional = true })
      → IfSome (value_at number_in values place) (LiesWithin lo hi)
  pub names : (kind : OutputKind) (row : List (List ℕ)) (values : List Value) (place : ℕ) (key : List ℕ)
      → row_read (output_schema kind) row ≡ Ok values → HasColumn kind place (record { key = key; holds = Name; optional = false })
      → is_name (field row place) ≡ true
