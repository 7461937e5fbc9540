-- Some records were taken, and one more is.
use Rattle.std.proofs.Common.{◌≡◌, ◌∙◌, ℕ, zero, suc, ◌+◌, ◌<◌, ◌≤◌, List, [], ◌∷◌, ◌++◌, length, take, drop, get_or, slice_set, ap, sym, refl, subst, arith, append_assoc, append-nil}
use Rattle.std.specs.Prelude.{min}
use Rattle.std.proofs.Math.Nat.{min-eq_left, min-eq_right}
use Rattle.std.proofs.lemmas.List.{drop_all, length-drop, length-take-le, take_more, take_more_set}
use Rattle.pb_session.specs.Session.{Adds, IsSessionText, SessionState, state_after, state_after_all}
use Rattle.plantbal_c.specs.Opened.{Opened}
use Rattle.plantbal_c.specs.Block.{TakesFirst, TakesOne, code_in, codes_in}

abbrev Record : Type 0
Record = List (List ℕ)

-- ---- a list of records and one more

state_more : (state : SessionState) (at k : ℕ) (front : List Record) (r : Record) → k ≡ at + length front
    → state_after_all state at (front ++ r ∷ []) ≡ state_after (state_after_all state at front) k r
state_more state at k [] r is =
    let here : at ≡ k = omega (arith, is) in
    ap (λ (n : ℕ). state_after state n r) here
state_more state at k (x ∷ front) r is = state_more (state_after state at x) (at + 1) k front r (omega (arith, is))

codes_more : (state : SessionState) (at : ℕ) (front : List Record) (r : Record)
    → codes_in state at (front ++ r ∷ []) ≡ codes_in state at front ++ code_in (state_after_all state at front) r ∷ []
codes_more state at [] r = refl
codes_more state at (x ∷ front) r = ap (λ (l : List ℕ). code_in state x ∷ l) (codes_more (state_after state at x) (at + 1) front r)

text_more : (state : SessionState) (at k : ℕ) (front : List Record) (r : Record) (text piece : List ℕ) → k ≡ at + length front
    → IsSessionText state at front text → Adds (state_after_all state at front) k r piece → IsSessionText state at (front ++ r ∷ []) (text ++ piece)
text_more state at k [] r text piece is texts adds =
    let here : k ≡ at = omega (arith, is) in
    let first : Adds state at r piece = subst (λ (n : ℕ). Adds state n r piece) here adds in
    (piece, [], first, refl, ap (λ (t : List ℕ). t ++ piece) texts ∙ sym (append-nil piece))
text_more state at k (x ∷ front) r text piece is (first, rest, adds_first, texts, whole) adds =
    let more = text_more (state_after state at x) (at + 1) k front r rest piece (omega (arith, is)) texts adds in
    (first, rest ++ piece, adds_first, more, ap (λ (t : List ℕ). t ++ piece) whole ∙ append_assoc first rest piece)

-- ---- places in a list

-- the first of the records that are left is the one at this place
pub record IsAt (rows : List Record) (i : ℕ) (row : Record) (rest : List Record) : Type 0 where
  pub within : i < length rows
  pub front : take (i + 1) rows ≡ take i rows ++ row ∷ []
  pub size : length (take i rows) ≡ i
  pub behind : drop (i + 1) rows ≡ rest

first_left : (rows : List Record) (i : ℕ) (row : Record) (rest : List Record) → drop i rows ≡ row ∷ rest
    → (i < length rows) × (get_or rows i [] ≡ row) × (drop (i + 1) rows ≡ rest)
first_left [] zero row rest is =
    let no : ⊥ = cc is in
    absurd no
first_left [] (suc i) row rest is =
    let no : ⊥ = cc is in
    absurd no
first_left (x ∷ rows) zero row rest is = (omega arith, cc is, cc is)
first_left (x ∷ rows) (suc i) row rest is =
    let (within, here, behind) = first_left rows i row rest is in
    let place : suc i + 1 ≡ suc (i + 1) = omega arith in
    (omega (arith, within), here, ap (λ (k : ℕ). drop k (x ∷ rows)) place ∙ behind)

pub is_at : (rows : List Record) (i : ℕ) (row : Record) (rest : List Record) → drop i rows ≡ row ∷ rest → IsAt rows i row rest
is_at rows i row rest is =
    let (within, here, behind) = first_left rows i row rest is in
    record {
      within = within;
      front = take_more rows i [] within ∙ ap (λ (r : Record). take i rows ++ r ∷ []) here;
      size = length-take-le i rows (omega (arith, within));
      behind = behind;
    }

-- if none is left, all were taken
pub none_left : (rows : List Record) (i : ℕ) → drop i rows ≡ [] → length rows ≤ i
none_left rows i is = omega (arith, ap (λ (l : List Record). length l) is, length-drop i rows)

-- if one is left, not all were taken
pub one_left : (rows : List Record) (i : ℕ) → (drop i rows ≡ [] → ⊥) → i < length rows
one_left [] zero not = absurd (not refl)
one_left [] (suc i) not = absurd (not refl)
one_left (x ∷ rows) zero not = omega arith
one_left (x ∷ rows) (suc i) not = omega (arith, one_left rows i not)

-- and none is left after more
pub none_after : (rows : List Record) (i n : ℕ) → drop i rows ≡ [] → i ≤ n → drop n rows ≡ []
none_after rows i n is le = drop_all n rows (omega (arith, none_left rows i is, le))

-- as many as there are, or as many as there is room for
pub all_taken : (i n room : ℕ) → i ≤ n → n ≤ i → i ≤ room → i ≡ min n room
all_taken i n room le ge within =
    let same : i ≡ n = omega (arith, le, ge) in
    let fits : n ≤ room = omega (arith, same, within) in
    same ∙ sym (min-eq_left fits)

pub room_taken : (i n room : ℕ) → i ≤ n → room ≤ i → i ≤ room → i ≡ min n room
room_taken i n room le ge within =
    let same : i ≡ room = omega (arith, ge, within) in
    let fits : room ≤ n = omega (arith, same, le) in
    same ∙ sym (min-eq_right fits)

-- ---- a session

pub takes_none : (start : Opened) (rows : List Record) (codes : List ℕ) → TakesFirst start start rows 0 codes
takes_none start rows codes = record {
  within = omega arith;
  counted = omega arith;
  stored = refl;
  answers = refl;
  added = [];
  texts = refl;
  text = sym (append-nil start.text);
}

pub takes_more : (start old new : Opened) (rows : List Record) (i : ℕ) (codes : List ℕ) (row : Record) (rest : List Record) (code : ℕ)
    → drop i rows ≡ row ∷ rest → i < length codes → TakesFirst start old rows i codes → TakesOne old new row code → TakesFirst start new rows (i + 1) (slice_set codes i code)
takes_more start old new rows i codes row rest code is room so_far one =
    let here = is_at rows i row rest is in
    let first : ℕ = start.taken + 1 in
    let front : List Record = take i rows in
    let at : old.taken + 1 ≡ first + length front = omega (arith, so_far.counted, here.size) in
    let coded : code ≡ code_in (state_after_all start.state first front) row = one.answer ∙ ap (λ (s : SessionState). code_in s row) so_far.stored in
    let adds : Adds (state_after_all start.state first front) (old.taken + 1) row one.added = subst (λ (s : SessionState). Adds s (old.taken + 1) row one.added) so_far.stored one.adds in
    let texts : IsSessionText start.state first (front ++ row ∷ []) (so_far.added ++ one.added) =
    text_more start.state first (old.taken + 1) front row so_far.added one.added at so_far.texts adds in
    record {
      within = omega (arith, here.within);
      counted = omega (arith, so_far.counted, one.counted);
      stored = one.stored ∙ ap (λ (s : SessionState). state_after s (old.taken + 1) row) so_far.stored ∙ sym (state_more start.state first (old.taken + 1) front row at) ∙ ap (state_after_all start.state first) (sym here.front);
      answers = take_more_set codes i code room ∙ ap (λ (l : List ℕ). l ++ code ∷ []) so_far.answers ∙ ap (λ (c : ℕ). codes_in start.state first front ++ c ∷ []) coded
          ∙ sym (codes_more start.state first front row) ∙ ap (codes_in start.state first) (sym here.front);
      added = so_far.added ++ one.added;
      texts = subst (λ (rs : List Record). IsSessionText start.state first rs (so_far.added ++ one.added)) (sym here.front) texts;
      text = one.text ∙ ap (λ (t : List ℕ). t ++ one.added) so_far.text ∙ append_assoc start.text so_far.added one.added;
    }

-- nothing else was taken
pub takes_still : (start old new : Opened) (rows : List Record) (i : ℕ) (codes : List ℕ) → new ≡ old → TakesFirst start old rows i codes → TakesFirst start new rows i codes
takes_still start old new rows i codes same so_far = subst (λ (s : Opened). TakesFirst start s rows i codes) (sym same) so_far
