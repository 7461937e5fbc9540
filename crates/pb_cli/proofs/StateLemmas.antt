-- What a session holds after the records of a made session except the last.
use Rattle.std.proofs.Common.{◌≡◌, ◌∙◌, ◌<◌, ℕ, ◌+◌, List, [], ◌∷◌, ◌++◌, length, take, get_or, Some, All, IfOk, ap, refl, sym, arith, length-append}
use Rattle.std.specs.Prelude.{◌-◌, slice_get}
use Rattle.std.proofs.lemmas.List.{length-take-le, take_more, take-append-le, take_all}
use Rattle.pb_book.specs.Accepted.{AreAccepted}
use Rattle.pb_book.specs.Laws.{AcceptedLaw}
use Rattle.pb_kinds.specs.declared.rows.StoredRow.{StoredRow}
use Rattle.pb_book.specs.Rows.{periods_of}
use Rattle.pb_periods.specs.declared.period.Period.{Period}
use Rattle.pb_graph.specs.ProcessGraph.{IsProcessGraph}
use Rattle.pb_period.specs.Days.{days_of}
use Rattle.pb_period.specs.Laws.{HaveGraphs}
use Rattle.pb_period.specs.PeriodGraph.{assembly_of}
use Rattle.pb_make.specs.Laws.{AreTaken, HasMadePeriod}
use Rattle.pb_session.specs.Session.{SessionState, state_after, state_after_all}

abbrev Record : Type 0
Record = List (List ℕ)

state_append : (state : SessionState) (at k : ℕ) (front : List Record) (r : Record) → k ≡ at + length front
    → state_after_all state at (front ++ r ∷ []) ≡ state_after (state_after_all state at front) k r
state_append state at k [] r is =
    let here : at ≡ k = omega (arith, is) in
    ap (λ (n : ℕ). state_after state n r) here
state_append state at k (x ∷ front) r is = state_append (state_after state at x) (at + 1) k front r (omega (arith, is))

-- one more record
pub state_more : (start state next : SessionState) (rows : List Record) (i : ℕ) → i < length rows → state ≡ state_after_all start 1 (take i rows)
    → next ≡ state_after state (i + 1) (get_or rows i []) → next ≡ state_after_all start 1 (take (i + 1) rows)
state_more start state next rows i lt so_far is =
    let size : length (take i rows) ≡ i = length-take-le i rows (omega (arith, lt)) in
    is ∙ ap (λ (s : SessionState). state_after s (i + 1) (get_or rows i [])) so_far
    ∙ sym (state_append start 1 (i + 1) (take i rows) (get_or rows i []) (omega (arith, size)))
    ∙ ap (state_after_all start 1) (sym (take_more rows i [] lt))

-- all but the last
pub all_but_last : (rows front : List Record) (last : Record) → rows ≡ front ++ last ∷ [] → take (length rows - 1) rows ≡ front
all_but_last rows front last is =
    let long : length rows ≡ length front + 1 = ap (λ (l : List Record). length l) is ∙ length-append front (last ∷ []) in
    let count : length rows - 1 ≡ length front = omega (arith, long) in
    ap (λ (n : ℕ). take n rows) count ∙ ap (take (length front)) is ∙ take-append-le (length front) front (last ∷ []) (omega arith) ∙ take_all (length front) front (omega arith)

-- what holds in the end of records that are taken
pub holds_after : (Holds : List StoredRow → Type 0) (state : SessionState) (at : ℕ) (records : List Record) → AreTaken Holds state.rows at records → Holds (state_after_all state at records).rows
holds_after Holds state at [] taken = taken
holds_after Holds state at (fields ∷ records) taken = holds_after Holds (state_after state at fields) (at + 1) records taken.1

-- what is asked stays
pub options_stay : (state : SessionState) (at : ℕ) (records : List Record) → (state_after_all state at records).options ≡ state.options
options_stay state at [] = refl
options_stay state at (fields ∷ records) = options_stay (state_after state at fields) (at + 1) records

-- the rows are accepted
pub accepted_after : AcceptedLaw → (state : SessionState) (at : ℕ) (records : List Record) → AreAccepted state.rows → AreAccepted (state_after_all state at records).rows
accepted_after law state at [] are = are
accepted_after law state at (fields ∷ records) are = accepted_after law (state_after state at fields) (at + 1) records (law.go_on state.rows at fields are)

-- the one period is there, and what holds of the graphs of periods holds of its graph
pub made_period_at : (rows : List StoredRow) → HasMadePeriod rows → HaveGraphs rows
    → (period : Period) × (slice_get (periods_of rows) 0 ≡ Some period) × IfOk (assembly_of rows (days_of period)) IsProcessGraph
made_period_at rows has graphs = by (periods_of rows) has graphs.periods
  where
    by : {d : Period} (periods : List Period) → periods ≡ d ∷ [] → All (λ (period : Period). IfOk (assembly_of rows (days_of period)) IsProcessGraph) periods
        → (period : Period) × (slice_get periods 0 ≡ Some period) × IfOk (assembly_of rows (days_of period)) IsProcessGraph
    by [] none all = cc none
    by (period ∷ periods) some all = (period, refl, all 0 period (omega arith))

-- there is a period
pub some_period : (rows : List StoredRow) → HasMadePeriod rows → 0 < length (periods_of rows)
some_period rows has = omega (arith, ap (λ (l : List Period). length l) has)
