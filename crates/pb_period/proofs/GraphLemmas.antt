-- Streams of a graph, arc by arc, and the first stream that is over the limits.
use Rattle.std.specs.Prelude.{◌||◌, unsigned_abs, filter, nat_lt, int_lt, option_map, unwrap_or, map, position, IfSome, All}
use Rattle.std.proofs.Common.{◌≡◌, ◌∙◌, ◌+◌, ◌≤◌, ◌≤ℤ◌, ℕ, zero, suc, pos, unsigned_abs, List, [], ◌∷◌, ◌++◌, length, drop, slice_get, true, false, Option, Some, None, Ok, Err, inl, inr, refl, sym, ap, ap₂, subst, cond, append_assoc, arith, length-append, ◌<◌, Bool, get_or}
use Rattle.std.proofs.lemmas.Bool.{cases_Bool, or_parts, ltb-false, ltb-true}
use Rattle.std.proofs.lemmas.Int.{ints}
use Rattle.std.proofs.lemmas.List.{append-nil}
use Rattle.std.proofs.lemmas.List.Sums.{position_or_len_is}
use Rattle.std.proofs.Math.ListN.{drop_of_length-le, get_or-append}
use Rattle.std.proofs.Math.Seq.{get_or-append_seam}
use Rattle.pb_limits.specs.Limits.{most_value, most_variance}
use Rattle.pb_graph.specs.declared.records.Meas.{Meas}
use Rattle.pb_graph.specs.declared.records.Stream.{Stream}
use Rattle.pb_graph.specs.ProcessGraph.{IsMeasurement, IsWithinLimits, ProcessGraph}
use Rattle.pb_site.specs.Site.{arcs_of}
use Rattle.pb_facts.specs.Facts.{live_facts}
use Rattle.pb_kinds.specs.declared.rows.StoredRow.{StoredRow}
use Rattle.pb_book.specs.Rows.{declared_of, facts_of}
use Rattle.pb_period.specs.declared.days.Days.{Days}
use Rattle.pb_period.specs.declared.graph.Assembly.TheVariants.{Over}
use Rattle.pb_period.specs.Measurement.{measured}
use Rattle.pb_period.specs.PeriodGraph.{is_over, stream_with, unless_over, within_limits}

some_is : {B : Type 0} (a b : B) → Some a ≡ Some b → a ≡ b
some_is a b is = ap (λ o. unwrap_or o a) is

all_head : {A : Type 0} (P : A → Type 0) (x : A) (xs : List A) → All P (x ∷ xs) → P x
all_head P x xs all = all 0 x (omega arith)

all_tail : {A : Type 0} (P : A → Type 0) (x : A) (xs : List A) → All P (x ∷ xs) → All P xs
all_tail P x xs all = λ k d lt. all (suc k) d (omega (arith, lt))

-- what is made of the rest from a place on, with the item at the place first
pub next : {A B : Type 0} (f : A → B) (xs : List A) (j : ℕ) (s : B) → Some s ≡ option_map f (slice_get xs j) → map f (drop j xs) ≡ s ∷ map f (drop (j + 1) xs)
next f [] j s is = cc is
next f (x ∷ xs) zero s is = ap (λ b. b ∷ map f xs) (sym (some_is s (f x) is))
next f (x ∷ xs) (suc j) s is =
    let later : suc (j + 1) ≡ suc j + 1 = omega arith in
    next f xs j s is ∙ ap (λ (n : ℕ). s ∷ map f (drop n (x ∷ xs))) later

-- nothing is left after the last place
pub nothing_left : {A B : Type 0} (f : A → B) (whole made : List B) (xs : List A) (j : ℕ) → length xs ≤ j → whole ≡ made ++ map f (drop j xs) → whole ≡ made
nothing_left f whole made xs j past so_far = so_far ∙ ap (λ rest. made ++ map f rest) (drop_of_length-le xs past) ∙ append-nil made

-- what is made, joined to the rest, is the whole: one more item
pub one_more : {A B : Type 0} (f : A → B) (whole made : List B) (xs : List A) (j : ℕ) (s : B) → Some s ≡ option_map f (slice_get xs j) → whole ≡ made ++ map f (drop j xs)
    → whole ≡ (made ++ s ∷ []) ++ map f (drop (j + 1) xs)
one_more f whole made xs j s is so_far = so_far ∙ ap (λ rest. made ++ rest) (next f xs j s is) ∙ sym (append_assoc made (s ∷ []) (map f (drop (j + 1) xs)))

-- ---- the limits

-- a measurement is above the limits of a graph
abbrev is_over_limits : Meas → Bool
is_over_limits meas = nat_lt most_value (unsigned_abs meas.value) || int_lt (pos most_variance) meas.variance

meas_within : (meas : Meas) → is_over_limits meas ≡ false → pos 1 ≤ℤ meas.variance → IsMeasurement meas
meas_within meas not_over least =
    let parts = or_parts (nat_lt most_value (unsigned_abs meas.value)) (int_lt (pos most_variance) meas.variance) not_over in
    record { value = omega (arith, ltb-false most_value (unsigned_abs meas.value) parts.0); least = least; greatest = omega (arith, ints, parts.1) }

not_over_limits : (meas : Meas) → IsMeasurement meas → is_over_limits meas ≡ false
not_over_limits meas fits = elim (cases_Bool (is_over_limits meas)) [
  | inl over ↦ elim (cases_Bool (nat_lt most_value (unsigned_abs meas.value))) [
    | inl above ↦ absurd (omega (arith, ltb-true most_value (unsigned_abs meas.value) above, fits.value))
    | inr below ↦ absurd (omega (arith, ints, rw below at over, fits.greatest))
  ]
  | inr not_over ↦ not_over
]

pub within : (s : Stream) → is_over s ≡ false → IfSome s.meas (λ meas. pos 1 ≤ℤ meas.variance) → IsWithinLimits s
within s = by s.meas
  where
    by : (meas : Option Meas) → Rattle.std.specs.Option.option_map_or is_over_limits meas false ≡ false → IfSome meas (λ m. pos 1 ≤ℤ m.variance) → IfSome meas IsMeasurement
    by None not_over least = tt
    by (Some meas) not_over least = meas_within meas not_over least

pub not_over : (s : Stream) → IsWithinLimits s → is_over s ≡ false
not_over s = by s.meas
  where
    by : (meas : Option Meas) → IfSome meas IsMeasurement → Rattle.std.specs.Option.option_map_or is_over_limits meas false ≡ false
    by None fits = refl
    by (Some meas) fits = not_over_limits meas fits

-- ---- the first stream that is over the limits

below : (a b : ℕ) → a < b → nat_lt a b ≡ true
below a b lt = elim (cases_Bool (nat_lt a b)) [ inl passes ↦ passes | inr fails ↦ absurd (omega (arith, ltb-false a b fails, lt)) ]

not_below : (a b : ℕ) → b ≤ a → nat_lt a b ≡ false
not_below a b le = elim (cases_Bool (nat_lt a b)) [ inl passes ↦ absurd (omega (arith, ltb-true a b passes, le)) | inr fails ↦ fails ]

pub position_at : {X : Type 0} (p : X → Bool) (xs : List X) (i : ℕ) (d : X) → i < length xs → ((k : ℕ) → k < i → p (get_or xs k d) ≡ false) → p (get_or xs i d) ≡ true
    → position p xs ≡ Some i
position_at p xs i d within before here = rw (position_or_len_is p xs i d (omega arith) before (λ _. here), below i (length xs) within) refl

position_none : {X : Type 0} (p : X → Bool) (xs : List X) → ((k : ℕ) (d : X) → k < length xs → p (get_or xs k d) ≡ false) → position p xs ≡ None
position_none p [] fails = refl
position_none p (x ∷ xs) fails =
    let end = position_or_len_is p (x ∷ xs) (length (x ∷ xs)) x (omega arith) (λ k lt. fails k x lt) (λ past. absurd (omega arith)) in
    rw (end, not_below (length (x ∷ xs)) (length (x ∷ xs)) (omega arith)) refl

abbrev pub AllWithin : List Stream → Type 0
AllWithin streams = All (λ (s : Stream). is_over s ≡ false) streams

pub none_over : (streams : List Stream) → AllWithin streams → position is_over streams ≡ None
none_over streams fits = position_none is_over streams fits

pub first_over : (made rest : List Stream) (s : Stream) → AllWithin made → is_over s ≡ true → position is_over (made ++ s ∷ rest) ≡ Some (length made)
first_over made rest s fits over =
    let long = length-append made (s ∷ rest) in
    position_at is_over (made ++ s ∷ rest) (length made) s (omega (arith, long))
    (λ k lt. rw (get_or-append made (s ∷ rest) s k lt) (fits k s lt))
    (rw (get_or-append_seam made s rest s) over)

-- ---- the graph of some days

abbrev pub streams_of : List StoredRow → Days → List Stream
streams_of rows days = map (stream_with (measured (declared_of rows) (live_facts (facts_of rows)) days None)) (arcs_of (declared_of rows))

-- a stream that is over the limits, after those that aren't
pub over_at : (graph : ProcessGraph) (made rest : List Stream) (s : Stream) (j : ℕ) → graph.streams ≡ made ++ s ∷ rest → AllWithin made → is_over s ≡ true → length made ≡ j
    → Err (Over j) ≡ within_limits graph
over_at graph made rest s j split fits over is_j = sym (ap (unless_over graph) (ap (position is_over) split ∙ first_over made rest s fits over ∙ ap (λ (n : ℕ). Some n) is_j))

-- no stream is over the limits
pub finished : (whole graph : ProcessGraph) → graph.nodes ≡ whole.nodes → whole.streams ≡ graph.streams → AllWithin graph.streams → Ok graph ≡ within_limits whole
finished whole graph nodes all fits =
    let none : position is_over whole.streams ≡ None = ap (position is_over) all ∙ none_over graph.streams fits in
    let same : graph ≡ whole = ap₂ (λ (n : ℕ) (streams : List Stream). let g : ProcessGraph = record { nodes = n; streams = streams } in g) nodes (sym all) in
    ap (λ (g : ProcessGraph). unless_over g None) same ∙ sym (ap (unless_over whole) none)

-- ---- those that pass a test

-- the rest from a place on, with the item at the place first
pub left_at : {A : Type 0} (xs : List A) (j : ℕ) (x : A) → slice_get xs j ≡ Some x → drop j xs ≡ x ∷ drop (j + 1) xs
left_at [] j x at = cc at
left_at (y ∷ xs) zero x at = ap (λ (z : _). z ∷ xs) (some_is y x at)
left_at (y ∷ xs) (suc j) x at =
    let later : suc (j + 1) ≡ suc j + 1 = omega arith in
    left_at xs j x at ∙ ap (λ (n : ℕ). x ∷ drop n (y ∷ xs)) later

-- the item at a place passes
pub kept_next : {A : Type 0} (p : A → Bool) (xs : List A) (j : ℕ) (x : A) → slice_get xs j ≡ Some x → p x ≡ true → filter p (drop j xs) ≡ x ∷ filter p (drop (j + 1) xs)
kept_next p xs j x at passes = ap (filter p) (left_at xs j x at) ∙ ap (λ (b : Bool). cond b (x ∷ filter p (drop (j + 1) xs)) (filter p (drop (j + 1) xs))) passes

-- it fails
pub left_next : {A : Type 0} (p : A → Bool) (xs : List A) (j : ℕ) (x : A) → slice_get xs j ≡ Some x → p x ≡ false → filter p (drop j xs) ≡ filter p (drop (j + 1) xs)
left_next p xs j x at fails = ap (filter p) (left_at xs j x at) ∙ ap (λ (b : Bool). cond b (x ∷ filter p (drop (j + 1) xs)) (filter p (drop (j + 1) xs))) fails

-- what all items that pass have, a passing item at a place has
pub kept_has : {A : Type 0} (P : A → Type 0) (p : A → Bool) (xs : List A) (j : ℕ) (x : A) → slice_get xs j ≡ Some x → p x ≡ true → All P (filter p xs) → P x
kept_has P p [] j x at passes all = cc at
kept_has P p (y ∷ xs) zero x at passes all =
    let same : y ≡ x = some_is y x at in
    let here : p y ≡ true = ap p same ∙ passes in
    subst P same (all_head P y (filter p xs) (rw here at all))
kept_has P p (y ∷ xs) (suc j) x at passes all = elim (cases_Bool (p y)) [
  | inl here ↦ kept_has P p xs j x at passes (all_tail P y (filter p xs) (rw here at all))
  | inr gone ↦ kept_has P p xs j x at passes (rw gone at all)
]
