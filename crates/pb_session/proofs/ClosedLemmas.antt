-- What a declaration doesn't change.
use Rattle.std.proofs.Common.{◌≡◌, ◌∙◌, ◌∷◌, [], ℕ, List, length, sym, ap, subst, arith, length-append}
use Rattle.pb_kinds.specs.declared.rows.Effect.TheVariants.{Declares}
use Rattle.pb_book.specs.Accepted.{AreAccepted}
use Rattle.pb_kinds.specs.declared.rows.StoredRow.{StoredRow}
use Rattle.pb_period.specs.Days.{days_of}
use Rattle.pb_period.specs.Laws.{ClosedGraphsLaw, LeavesGraph}
use Rattle.pb_session.specs.Closed.{LeavesClosed}

-- of rows that were accepted
pub leaves_closed : ClosedGraphsLaw → (rows new : List StoredRow) (at : ℕ) → AreAccepted new → LeavesClosed rows at new
leaves_closed law rows new at accepted declared i period is two there closed =
    subst (λ (rs : List StoredRow). LeavesGraph rows rs (days_of period)) (sym is) (law rows at declared i period (subst AreAccepted is accepted) two there closed)

-- if no row joined them
pub none_joined : (rows new : List StoredRow) (at : ℕ) → new ≡ rows → LeavesClosed rows at new
none_joined rows new at stay declared i period is two there closed =
    let stored : StoredRow = record { at = at; effect = Declares declared } in
    let long = length-append rows (stored ∷ []) in
    let same = ap (λ (rs : List StoredRow). length rs) (sym stay ∙ is) in
    absurd (omega (arith, long, same))
