-- The edits that touch a period, one by one.
use Rattle.std.proofs.Common.{◌≡◌, ◌∙◌, ◌+◌, ◌<◌, ◌++◌, ◌∷◌, [], ℕ, zero, suc, Bool, true, false, List, Option, Some, None, length, drop, get_or, slice_get, arith, refl, sym, ap, subst}
use Rattle.std.specs.Prelude.{IfSome, filter}
use Rattle.std.specs.Option.{option_map_or, option_to_list}
use Rattle.std.proofs.lemmas.List.{append-nil, append_assoc, drop_more}
use Rattle.std.proofs.lemmas.Option.{slice_get-get_or, slice_get_within}
use Rattle.pb_periods.specs.declared.period.Period.{Period}
use Rattle.pb_kinds.specs.declared.rows.StoredRow.{StoredRow}
use Rattle.pb_book.specs.Edits.{edit_touches, edits_of, history_of, row_touches, touches_at}
use Rattle.pb_book.specs.Rows.{facts_of, periods_of}
use Rattle.pb_book.specs.TakenOut.{touching_of}

-- an edit touches the period
abbrev pub touching : List StoredRow → Period → StoredRow → Bool
touching rows period stored = edit_touches (touching_of rows) (facts_of rows) stored.effect period

-- those of some edits that touch it
abbrev pub history_in : List StoredRow → Period → List StoredRow → List StoredRow
history_in rows period edits = filter (touching rows period) edits

some_is : {X : Type 0} (a b : X) → Some a ≡ Some b → a ≡ b
some_is a b is = cc is

-- the first of the remaining edits
drop_next : {X : Type 0} (xs : List X) (e : ℕ) (x : X) → slice_get xs e ≡ Some x → drop e xs ≡ x ∷ drop (e + 1) xs
drop_next xs e x at =
    let within = slice_get_within xs e x at in
    let same : get_or xs e x ≡ x = some_is (get_or xs e x) x (sym (slice_get-get_or xs e x within) ∙ at) in
    drop_more xs e x within ∙ ap (λ y. y ∷ drop (e + 1) xs) same

-- the edit at a place touches the period at a place
touches_is : (rows : List StoredRow) (period : Period) (e i : ℕ) (stored : StoredRow) → slice_get (periods_of rows) i ≡ Some period → slice_get (edits_of rows) e ≡ Some stored
    → touches_at rows e i ≡ touching rows period stored
touches_is rows period e i stored there at =
    ap (λ (o : Option Period). option_map_or (λ (p : Period). row_touches (touching_of rows) (facts_of rows) p (slice_get (edits_of rows) e)) o false) there
    ∙ ap (row_touches (touching_of rows) (facts_of rows) period) at

more_of : (rows : List StoredRow) (period : Period) (stored : StoredRow) (edits : List StoredRow) → touching rows period stored ≡ true
    → history_in rows period (stored ∷ edits) ≡ stored ∷ history_in rows period edits
more_of rows period stored edits on = rw on refl

less_of : (rows : List StoredRow) (period : Period) (stored : StoredRow) (edits : List StoredRow) → touching rows period stored ≡ false
    → history_in rows period (stored ∷ edits) ≡ history_in rows period edits
less_of rows period stored edits off = rw off refl

-- the edit at a place
record IsThere (rows : List StoredRow) (e : ℕ) : Type 0 where
  stored : StoredRow
  at : slice_get (edits_of rows) e ≡ Some stored

there : (rows : List StoredRow) (e : ℕ) → e < length (edits_of rows) → IsThere rows e
there rows e within = find (edits_of rows) e within refl
  where
    find : (edits : List StoredRow) (k : ℕ) → k < length edits → slice_get edits k ≡ slice_get (edits_of rows) e → IsThere rows e
    find [] k within same = absurd (omega (arith, within))
    find (x ∷ edits) zero within same = record { stored = x; at = sym same }
    find (x ∷ edits) (suc k) within same = find edits k (omega (arith, within)) same

-- an edit that doesn't touch the period
passed : (rows : List StoredRow) (period : Period) (e i : ℕ) (so_far : List StoredRow) → slice_get (periods_of rows) i ≡ Some period → e < length (edits_of rows)
    → touches_at rows e i ≡ false → so_far ++ history_in rows period (drop e (edits_of rows)) ≡ history_of rows period
    → so_far ++ history_in rows period (drop (e + 1) (edits_of rows)) ≡ history_of rows period
passed rows period e i so_far at within apart right =
    let is = there rows e within in
    let rest = drop (e + 1) (edits_of rows) in
    let less = less_of rows period is.stored rest (sym (touches_is rows period e i is.stored at is.at) ∙ apart) in
    ap (λ (more : List StoredRow). so_far ++ more) (sym less ∙ ap (history_in rows period) (sym (drop_next (edits_of rows) e is.stored is.at))) ∙ right

-- one that does
added : (rows : List StoredRow) (period : Period) (e i : ℕ) (so_far : List StoredRow) (stored : StoredRow) → slice_get (periods_of rows) i ≡ Some period
    → touches_at rows e i ≡ true → slice_get (edits_of rows) e ≡ Some stored → so_far ++ history_in rows period (drop e (edits_of rows)) ≡ history_of rows period
    → (so_far ++ stored ∷ []) ++ history_in rows period (drop (e + 1) (edits_of rows)) ≡ history_of rows period
added rows period e i so_far stored at touched is right =
    let rest = drop (e + 1) (edits_of rows) in
    let more = more_of rows period stored rest (sym (touches_is rows period e i stored at is) ∙ touched) in
    append_assoc so_far (stored ∷ []) (history_in rows period rest)
    ∙ ap (λ (others : List StoredRow). so_far ++ others) (sym more ∙ ap (history_in rows period) (sym (drop_next (edits_of rows) e stored is))) ∙ right

-- no edit remains
none_left : (rows : List StoredRow) (period : Period) (e : ℕ) (so_far : List StoredRow) → e ≡ length (edits_of rows)
    → so_far ++ history_in rows period (drop e (edits_of rows)) ≡ history_of rows period → so_far ≡ history_of rows period
none_left rows period e so_far end right =
    sym (append-nil so_far) ∙ ap (λ (rest : List StoredRow). so_far ++ history_in rows period rest) (sym (none (edits_of rows) e end)) ∙ right
  where
    none : {X : Type 0} (xs : List X) (e : ℕ) → e ≡ length xs → drop e xs ≡ []
    none [] zero same = refl
    none [] (suc e) same = refl
    none (x ∷ xs) zero same = absurd (omega (arith, same))
    none (x ∷ xs) (suc e) same = none xs e (omega (arith, same))

-- ---- the same for the period at a place

-- what was found so far, and the edits from a place on that touch the period, are its history
abbrev pub AreFound : List StoredRow → ℕ → List StoredRow → ℕ → Type 0
AreFound rows i so_far e =
    IfSome (slice_get (periods_of rows) i) (λ (period : Period). so_far ++ history_in rows period (drop e (edits_of rows)) ≡ history_of rows period)

if_some : (o : Option Period) (P Q : Period → Type 0) → ((period : Period) → o ≡ Some period → P period → Q period) → IfSome o P → IfSome o Q
if_some None P Q step holds = tt
if_some (Some period) P Q step holds = step period refl holds

all_of : (o : Option Period) (P : Period → Type 0) → ((period : Period) → P period) → IfSome o P
all_of None P holds = tt
all_of (Some period) P holds = holds period

pub none_found : (rows : List StoredRow) (i : ℕ) → AreFound rows i [] 0
none_found rows i = all_of (slice_get (periods_of rows) i) (λ (period : Period). history_in rows period (edits_of rows) ≡ history_of rows period) (λ period. refl)

pub one_found : (rows : List StoredRow) (e i : ℕ) (so_far : List StoredRow) → e < length (edits_of rows) → touches_at rows e i ≡ true → AreFound rows i so_far e
    → AreFound rows i (so_far ++ option_to_list (slice_get (edits_of rows) e)) (e + 1)
one_found rows e i so_far within touched right =
    let is = there rows e within in
    subst (λ (o : Option StoredRow). AreFound rows i (so_far ++ option_to_list o) (e + 1)) (sym is.at)
    (if_some (slice_get (periods_of rows) i) _ _ (λ period at. added rows period e i so_far is.stored at touched is.at) right)

pub passed_over : (rows : List StoredRow) (e i : ℕ) (so_far : List StoredRow) → e < length (edits_of rows) → touches_at rows e i ≡ false → AreFound rows i so_far e
    → AreFound rows i so_far (e + 1)
passed_over rows e i so_far within apart right = if_some (slice_get (periods_of rows) i) _ _ (λ period at. passed rows period e i so_far at within apart) right

pub all_found : (rows : List StoredRow) (e i : ℕ) (so_far : List StoredRow) → e ≡ length (edits_of rows) → AreFound rows i so_far e
    → IfSome (slice_get (periods_of rows) i) (λ (period : Period). so_far ≡ history_of rows period)
all_found rows e i so_far end right = if_some (slice_get (periods_of rows) i) _ _ (λ period at. none_left rows period e so_far end) right
