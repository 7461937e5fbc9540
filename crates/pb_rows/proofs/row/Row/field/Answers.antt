use Rattle.std.proofs.Common.{◌<◌, length}
use Rattle.csv.specs.Records.{fields_of}
use Rattle.pb_rows.proofs.RowLemmas.{field_here}
use Rattle.pb_rows.proofs.row.Row.field.Goals as goal

pub returns : goal.returns
returns c =
    let within : c.args.i < length (fields_of c.self.inside.fields) = rw c.self.view_is c.requires in
    rw (c.unwrap_or.ensures, ← c.self.view_is) (field_here (fields_of c.self.inside.fields) c.args.i c.get.result _ within c.get.ensures.value)
