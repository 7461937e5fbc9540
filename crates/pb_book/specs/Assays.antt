-- Statement. The assays among the stored rows: for which components the grade is known, in which streams and over which periods.
use Rattle.std.specs.Prelude.{ℕ, List, filter_map, Option, Some, None}
use Rattle.pb_facts.specs.declared.grade.Grade.{Grade}
use Rattle.pb_facts.specs.Assays.{grade_among}
use Rattle.pb_facts.specs.declared.assays.Assay.{Assay}
use Rattle.pb_kinds.specs.declared.rows.Effect.{Effect}
use Rattle.pb_kinds.specs.declared.rows.Effect.TheVariants.{Assays}
use Rattle.pb_kinds.specs.declared.rows.StoredRow.{StoredRow}

-- the assay that a row gives, if it gives one
abbrev pub assay_by : Effect → Option Assay
assay_by (Assays assay) = Some assay
assay_by effect = None

-- the assays among the stored rows, in order
abbrev pub assays_of : List StoredRow → List Assay
assays_of rows = filter_map (λ (stored : StoredRow). assay_by stored.effect) rows

-- The grade of a component over a period in a stream, all three given by name, if there is an assay.
abbrev pub grade_of : List StoredRow → List ℕ → List ℕ → List ℕ → Option Grade
grade_of rows = grade_among (assays_of rows)
