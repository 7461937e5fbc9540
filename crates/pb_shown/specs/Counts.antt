-- Statement. How much there is of everything in a book.
use Rattle.std.specs.Prelude.{◌≡◌, ℕ, List, length, Option, Some, None}
use Rattle.pb_site.specs.declared.declared.Version.{Version}
use Rattle.pb_site.specs.declared.declared.Version.TheVariants.{One, Two}
use Rattle.pb_site.specs.Site.{arcs_of, node_names}
use Rattle.pb_kinds.specs.declared.rows.StoredRow.{StoredRow}
use Rattle.pb_book.specs.Assays.{assays_of}
use Rattle.pb_book.specs.Edits.{edits_of}
use Rattle.pb_book.specs.Rows.{declared_of, facts_of, periods_of, version_at}
use Rattle.pb_shown.specs.declared.numbers.PlantbalCounts.{PlantbalCounts}

-- the number of a version, and 0 for none
abbrev pub version_number : Option Version → ℕ
version_number None = 0
version_number (Some One) = 1
version_number (Some Two) = 2

-- the counts of these rows
pub record IsCountOf (rows : List StoredRow) (counts : PlantbalCounts) : Type 0 where
  pub version : counts.version ≡ version_number (version_at rows)
  pub nodes : counts.nodes ≡ length (node_names (declared_of rows))
  pub streams : counts.streams ≡ length (arcs_of (declared_of rows))
  pub periods : counts.periods ≡ length (periods_of rows)
  pub facts : counts.facts ≡ length (facts_of rows)
  pub assays : counts.assays ≡ length (assays_of rows)
  pub edits : counts.edits ≡ length (edits_of rows)
