use Rattle.std.specs.Prelude.{Option, Some, None, Result, Ok, Err}
use Rattle.std.proofs.Common.{◌≡◌, ◌≢◌, ℕ, List, refl}
use Rattle.pb_book.specs.declared.answer.Accepted.{Accepted}
use Rattle.pb_book.specs.declared.answer.Accepted.TheVariants.{Stored}
use Rattle.pb_book.specs.declared.answer.NotAccepted.{NotAccepted}
use Rattle.pb_book.specs.declared.answer.NotAccepted.TheVariants.{NoMemory}
use Rattle.pb_book.specs.declared.answer.Refused.{Refused}
use Rattle.pb_kinds.specs.declared.rows.StoredRow.{StoredRow}
use Rattle.pb_book.specs.Answer.{after_answer, said_of, Says, unless_refused}
use Rattle.pb_book.specs.declared.answer.Accepted.TheVariants as answered
use Rattle.pb_kinds.specs.Costs.{named_costs}
use Rattle.pb_book.specs.Costs.{refusal_of_costs}
use Rattle.pb_book.specs.Rows.{declared_of}
use Rattle.pb_book.proofs.book.Book.answer.Goals as goal

-- advice stores nothing
rows_stay : (rows : List StoredRow) (at : ℕ) (cause : Option Refused) → rows ≡ after_answer rows at (unless_refused (Says answered.Advise) cause)
rows_stay rows at (Some cause) = refl
rows_stay rows at None = refl

never_stored : (cause : Option Refused) (result : Result Accepted NotAccepted) → result ≡ said_of (unless_refused (Says answered.Advise) cause) → result ≡ Ok Stored → ⊥
never_stored (Some cause) result is stored = cc (is, stored)
never_stored None result is stored = cc (is, stored)

sure : (result : Result Accepted NotAccepted) → result ≡ Ok Stored → result ≢ Err NoMemory
sure result stored = λ other. cc (stored, other)

pub returns-in-Advise-clause-stored : goal.returns-in-Advise-clause-stored
returns-in-Advise-clause-stored c =
    λ known. rw c.in-Advise.is (rows_stay c.args.self.now c.args.at (refusal_of_costs (declared_of c.args.self.now) (named_costs c.args.row.now)))

pub returns-in-Advise-clause-no_repeats : goal.returns-in-Advise-clause-no_repeats
returns-in-Advise-clause-no_repeats c =
    λ stored. absurd (never_stored (refusal_of_costs (declared_of c.args.self.now) (named_costs c.args.row.now)) c.advise.result (c.advise.ensures (sure c.advise.result stored)) stored)
