-- Statement. What stored rows declare: the names of units, tanks, streams and periods are names, and numbers lie in their ranges.
use Rattle.std.specs.Prelude.{◌≡◌, ℕ, true, List, [], All, IfSome}
use Rattle.std.specs.List.{list_all}
use Rattle.pb_facts.specs.Grade.{IsGrade}
use Rattle.pb_rows.specs.Name.{is_name}
use Rattle.pb_site.specs.declared.declared.Declared.{Declared}
use Rattle.pb_site.specs.Row.{IsDeclaredInRange}
use Rattle.pb_site.specs.Site.{arc_names, node_names}
use Rattle.pb_kinds.specs.Effects.{effect_names}
use Rattle.pb_periods.specs.declared.period.Period.{Period}
use Rattle.pb_kinds.specs.declared.rows.StoredRow.{StoredRow}
use Rattle.pb_book.specs.declared.answer.Accepted.TheVariants.{Component}
use Rattle.pb_book.specs.Accepted.{AreAccepted}
use Rattle.pb_book.specs.Answer.{Says, after, answer_of}
use Rattle.pb_book.specs.Assays.{grade_of}
use Rattle.pb_book.specs.Rows.{declared_of, periods_of}

-- the names in each stored row are names
abbrev pub HaveWellFormedNames : List StoredRow → Type 0
HaveWellFormedNames rows = All (λ (stored : StoredRow). list_all is_name (effect_names stored.effect) ≡ true) rows

-- the names of the nodes, of the arcs and of the periods of stored rows are names
pub record AreNamed (rows : List StoredRow) : Type 0 where
  pub nodes : list_all is_name (node_names (declared_of rows)) ≡ true
  pub streams : list_all is_name (arc_names (declared_of rows)) ≡ true
  pub periods : All (λ (period : Period). is_name period.name ≡ true) (periods_of rows)

-- the rows of a session have names, whatever its records are; and what follows from that
pub record NamedLaw : Type 0 where
  pub begin : HaveWellFormedNames []
  pub go_on : (rows : List StoredRow) (at : ℕ) (fields : List (List ℕ)) → HaveWellFormedNames rows → HaveWellFormedNames (after rows at fields)
  pub named : (rows : List StoredRow) → HaveWellFormedNames rows → AreNamed rows
  pub component : (rows : List StoredRow) (fields : List (List ℕ)) (component : List ℕ) (period : ℕ) → HaveWellFormedNames rows
      → answer_of rows fields ≡ Says (Component component period) → is_name component ≡ true

-- each grade that accepted rows give is within its limits
abbrev pub GradesLaw : Type 0
GradesLaw =
    (rows : List StoredRow) (component period stream : List ℕ) → AreAccepted rows
    → IfSome (grade_of rows component period stream) IsGrade

-- the numbers that accepted rows declare lie in their ranges
abbrev pub RangesLaw : Type 0
RangesLaw = (rows : List StoredRow) → AreAccepted rows → All (λ (declared : Declared). IsDeclaredInRange declared) (declared_of rows)
