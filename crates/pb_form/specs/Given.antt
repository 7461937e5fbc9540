-- Inside. The values that are given to be written, as values of the definitions.
use Rattle.std.specs.Prelude.{ℕ, List, [], ◌∷◌}
use Rattle.pb_form.specs.Columns.{Column}
use Rattle.pb_form.specs.Holds.{Holds}
use Rattle.pb_form.specs.Holds as holds
use Rattle.pb_form.specs.Value as value
use Rattle.pb_form.specs.declared.value.Value as coded
use Rattle.pb_form.specs.declared.value.Value.TheVariants as given

-- a text, by what its column takes
abbrev pub text_as : Holds → List ℕ → value.Value
text_as holds.Name text = value.Name text
text_as holds.Reason text = value.Reason text
text_as takes text = value.Items text

-- a value that is given, by what its column takes
abbrev pub value_as : Holds → coded.Value → value.Value
value_as takes given.Missing = value.Missing
value_as takes (given.Word place) = value.Word place
value_as takes (given.Text text) = text_as takes text.now
value_as takes (given.Number number) = value.Number number
value_as takes (given.Day day) = value.Date day

-- the values that are given, one for each column
abbrev pub values_as : List Column → List coded.Value → List value.Value
values_as (column ∷ columns) (one ∷ values) = value_as column.holds one ∷ values_as columns values
values_as columns values = []
