-- Statement. Laws of the book.
use Rattle.std.specs.Prelude.{◌≡◌, ℕ, List, [], All}
use Rattle.pb_kinds.specs.Costs.{IsMeterCost, named_costs}
use Rattle.pb_book.specs.declared.answer.Accepted.TheVariants.{Advise, Window}
use Rattle.pb_kinds.specs.declared.rows.StoredRow.{StoredRow}
use Rattle.pb_book.specs.Accepted.{AreAccepted, AreConsistent}
use Rattle.pb_book.specs.Answer.{Says, after, answer_of}
use Rattle.pb_book.specs.Costs.{meter_costs}
use Rattle.pb_book.specs.Rows.{declared_of, facts_of, periods_of}
use Rattle.pb_book.specs.Windows.{IsWindowAsked}

-- the rows of a session were accepted, whatever its records are; and what follows from that
pub record AcceptedLaw : Type 0 where
  pub begin : AreAccepted []
  pub go_on : (rows : List StoredRow) (at : ℕ) (fields : List (List ℕ)) → AreAccepted rows
      → AreAccepted (after rows at fields)
  pub consistent : (rows : List StoredRow) → AreAccepted rows
      → AreConsistent (declared_of rows) (facts_of rows) (periods_of rows)

-- If a record is accepted as one that asks for advice, each cost of a meter is one that a meter may have.
abbrev pub MeterCostsLaw : Type 0
MeterCostsLaw =
    (rows : List StoredRow) (fields : List (List ℕ)) → answer_of rows fields ≡ Says Advise
    → All IsMeterCost (meter_costs (declared_of rows) (named_costs fields))

-- A record that is accepted as one that asks for a window asks for a window between periods that exist, and one that there is no
-- cause to refuse.
abbrev pub AskedWindowLaw : Type 0
AskedWindowLaw =
    (rows : List StoredRow) (fields : List (List ℕ)) (first last : ℕ) → answer_of rows fields ≡ Says (Window first last)
    → IsWindowAsked rows first last
