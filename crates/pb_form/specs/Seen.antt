-- Inside. The columns of the code as columns of the definitions.
use Rattle.std.specs.Prelude.{map}
use Rattle.pb_form.specs.Columns.{Column, Schema}
use Rattle.pb_form.specs.Holds as holds
use Rattle.pb_form.specs.declared.column.Column as coded_column
use Rattle.pb_form.specs.declared.column.Holds as coded_holds
use Rattle.pb_form.specs.declared.column.Holds.TheVariants as taken
use Rattle.pb_form.specs.declared.column.Schema as coded_schema

-- what a column of the code takes
abbrev pub holds_seen : coded_holds.Holds → holds.Holds
holds_seen (taken.Word words) = holds.Word (map (λ word. word.now) words.now)
holds_seen taken.Name = holds.Name
holds_seen taken.Reason = holds.Reason
holds_seen (taken.Number lo hi) = holds.Number lo hi
holds_seen taken.Date = holds.Date
holds_seen taken.Items = holds.Items

-- a column of the code
abbrev pub column_seen : coded_column.Column → Column
column_seen column = record { key = column.key.now; holds = holds_seen column.holds; optional = column.optional }

-- a schema of the code
abbrev pub schema_seen : coded_schema.Schema → Schema
schema_seen schema = record { columns = map column_seen schema.columns.now; tail = map column_seen schema.tail.now }
