-- The rows of a made session begin with words, and each is taken.
use Rattle.std.proofs.Common.{◌≡◌, ◌≤◌, ◌∙◌, ℕ, zero, suc, ◌+◌, ◌++◌, ◌∷◌, [], List, Bool, true, false, pos, length, length-append, ap, refl, subst, arith, append-nil}
use Rattle.std.specs.Prelude.{map, if◌then◌else◌}
use Rattle.std.specs.List.{list_all, range_with_len}
use Rattle.std.proofs.lemmas.Bool.{and_parts}
use Rattle.std.proofs.lemmas.List.Elements.{recursion_from_All}
use Rattle.std.proofs.lemmas.List.FromFn.{length-map-range_with_len}
use Rattle.pb_limits.specs.Limits.{most_made_streams}
use Rattle.pb_rows.specs.Written.{begins_with_word}
use Rattle.pb_site.specs.declared.declared.Declared.{Declared}
use Rattle.pb_book.specs.Answer.{after}
use Rattle.pb_kinds.specs.declared.rows.StoredRow.{StoredRow}
use Rattle.pb_make.specs.declared.plant.MadeStream.{MadeStream}
use Rattle.pb_make.specs.Bounds.{IsMade}
use Rattle.pb_make.specs.Laws.{Anything, AreTaken, HasMadePeriod}
use Rattle.pb_make.specs.Plant.{least_streams, made_streams, sides_of, units_of}
use Rattle.pb_form.specs.declared.session.SessionKind.TheVariants as kind
use Rattle.pb_make.specs.Readings.{is_plain_stream, readings_of}
use Rattle.pb_make.specs.Rows.{made_report_row, made_row, reading_row_at, session_rows, stored_rows, stream_values, unit_row}
use Rattle.pb_make.proofs.Abbreviations.{middle_rows, reading_rows, side_streams, stream_rows, unit_rows}
use Rattle.pb_make.proofs.DeclaredLemmas.{plant_of, units}
use Rattle.pb_make.proofs.MadeLemmas.{Rest, measure, middle_taken, nodal, streams_taken, the_period, units_taken}
use Rattle.pb_make.proofs.PlantLemmas.{AreSides, IsPlant, plant_sides, plant_whole}
use Rattle.pb_make.proofs.ReadingLemmas.{kept_to, readings_taken, report_taken}
use Rattle.pb_make.proofs.RequestLemmas.{Asks}
use Rattle.pb_make.proofs.TakenLemmas.{IsAt, none_stored}

-- ---- words

both : (xs ys : List (List (List ℕ))) → list_all begins_with_word xs ≡ true → list_all begins_with_word ys ≡ true → list_all begins_with_word (xs ++ ys) ≡ true
both [] ys first rest = rest
both (x ∷ xs) ys first rest =
    let parts = and_parts (begins_with_word x) (list_all begins_with_word xs) first in
    rw parts.0 (both xs ys parts.1 rest)

made_words : (f : ℕ → List (List ℕ)) → ((k : ℕ) → begins_with_word (f k) ≡ true) → (from count : ℕ) → list_all begins_with_word (map f (range_with_len from count)) ≡ true
made_words f words from zero = refl
made_words f words from (suc count) = rw (words from) (made_words f words (from + 1) count)

stream_words : (i : ℕ) (streams : List MadeStream) → list_all begins_with_word (stream_rows i streams) ≡ true
stream_words i [] = refl
stream_words i (stream ∷ streams) = rw (by (is_plain_stream i)) (stream_words (i + 1) streams)
  where
    by : (plain : Bool) → begins_with_word (if plain then made_row kind.StreamPlain (stream_values i stream (pos 0)) else made_row kind.StreamMetered (stream_values i stream (pos 1))) ≡ true
    by true = refl
    by false = refl

-- each row of a session begins with a word
pub session_words : (number streams : ℕ) → list_all begins_with_word (session_rows number streams) ≡ true
session_words number streams =
    let plant = made_streams number streams in
    let readings = reading_rows number streams in
    both (stored_rows number streams) (made_report_row ∷ [])
    (both (unit_rows (units_of streams)) (stream_rows 1 plant ++ (middle_rows ++ readings)) (made_words unit_row (λ k. refl) 1 (units_of streams))
    (both (stream_rows 1 plant) (middle_rows ++ readings) (stream_words 1 plant)
    (both middle_rows readings refl (made_words (reading_row_at number (sides_of streams) plant) (λ k. refl) 0 (readings_of streams)))))
    refl

-- ---- each row is taken

-- the plant of a session
plant_is : (number streams : ℕ) → least_streams ≤ streams → streams ≤ most_made_streams → IsPlant number streams (made_streams number streams)
plant_is number streams least most =
    let sides : AreSides number streams (side_streams number streams) = plant_sides number streams (units_of streams) (sides_of streams) (side_streams number streams) least most refl refl refl in
    plant_whole number streams (units_of streams) (side_streams number streams) (made_streams number streams) least most refl sides refl

-- what a session has stored in the end
abbrev pub IsMadeOf : ℕ → ℕ → List StoredRow → Type 0
IsMadeOf number streams rows =
    IsAt rows (plant_of (units_of streams) (made_streams number streams) (nodal ∷ measure ∷ []))
    (kept_to number (sides_of streams) (made_streams number streams) (0 + readings_of streams)) (the_period ∷ [])

-- the readings
readings_are : Asks → (number streams : ℕ) → least_streams ≤ streams → streams ≤ most_made_streams
    → Rest (IsMadeOf number streams) (plant_of (units_of streams) (made_streams number streams) (nodal ∷ measure ∷ [])) [] (the_period ∷ []) (reading_rows number streams)
readings_are law number streams least most =
    let n = units_of streams in
    let plant = made_streams number streams in
    let is = plant_is number streams least most in
    let declared = plant_of n plant (nodal ∷ measure ∷ []) in
    let count : 0 + readings_of streams ≤ readings_of (length plant) = omega (arith, is.count) in
    subst (λ (rows : List (List (List ℕ))). Rest (IsMadeOf number streams) declared [] (the_period ∷ []) rows) (append-nil (reading_rows number streams))
    (readings_taken law (IsMadeOf number streams) number (sides_of streams) n 0 (readings_of streams) plant [] (omega (arith, is.count, most)) is.fits count (λ rows at here. here))

-- the rows that are stored
pub stored_taken : Asks → (number streams : ℕ) → least_streams ≤ streams → streams ≤ most_made_streams
    → AreTaken (IsMadeOf number streams) [] 1 (stored_rows number streams)
stored_taken law number streams least most =
    let Holds = IsMadeOf number streams in
    let n = units_of streams in
    let plant = made_streams number streams in
    let is = plant_is number streams least most in
    let few : n ≤ 1000 = omega (arith, most) in
    let left = middle_rows ++ reading_rows number streams in
    let middle : Rest Holds (plant_of n plant []) [] [] left = middle_taken law Holds n plant (reading_rows number streams) (readings_are law number streams least most) in
    let streams_are : Rest Holds (plant_of n [] []) [] [] (stream_rows 1 plant ++ left) =
    streams_taken law Holds n 1 [] plant left few (omega (arith, is.count, most)) (omega arith) (recursion_from_All (IsMade n) plant is.fits) middle in
    let bare : plant_of n [] [] ≡ units 1 (0 + n) = append-nil (units 1 n) ∙ ap (λ (k : ℕ). units 1 k) (sum n) in
    units_taken law Holds 0 n (stream_rows 1 plant ++ left) (omega (arith, few)) (subst (λ (d : List Declared). Rest Holds d [] [] (stream_rows 1 plant ++ left)) bare streams_are) [] 1 none_stored
  where
    sum : (n : ℕ) → n ≡ 0 + n
    sum n = omega arith

-- more records after those that are taken
taken_then : (Before After : List StoredRow → Type 0) (rows : List StoredRow) (at : ℕ) (first rest : List (List (List ℕ))) → AreTaken Before rows at first
    → ((stored : List StoredRow) (next : ℕ) → Before stored → AreTaken After stored next rest) → AreTaken After rows at (first ++ rest)
taken_then Before After rows at [] rest taken more = more rows at taken
taken_then Before After rows at (fields ∷ first) rest taken more = (taken.0, taken_then Before After (after rows at fields) (at + 1) first rest taken.1 more)

-- the whole session
pub session_taken : Asks → (number streams : ℕ) → least_streams ≤ streams → streams ≤ most_made_streams
    → AreTaken Anything [] 1 (session_rows number streams)
session_taken law number streams least most =
    taken_then (IsMadeOf number streams) Anything [] 1 (stored_rows number streams) (made_report_row ∷ []) (stored_taken law number streams least most)
    (report_taken law (plant_of (units_of streams) (made_streams number streams) (nodal ∷ measure ∷ [])) (kept_to number (sides_of streams) (made_streams number streams) (0 + readings_of streams)))

-- its period
pub period_stored : Asks → (number streams : ℕ) → least_streams ≤ streams → streams ≤ most_made_streams
    → AreTaken HasMadePeriod [] 1 (stored_rows number streams)
period_stored law number streams least most =
    subst (λ (records : List (List (List ℕ))). AreTaken HasMadePeriod [] 1 records) (append-nil (stored_rows number streams))
    (taken_then (IsMadeOf number streams) HasMadePeriod [] 1 (stored_rows number streams) [] (stored_taken law number streams least most) (λ rows next is. is.periods_is))

-- ---- the number of rows

stream_count : (i : ℕ) (streams : List MadeStream) → length (stream_rows i streams) ≡ length streams
stream_count i [] = refl
stream_count i (stream ∷ streams) = ap suc (stream_count (i + 1) streams)

pub row_count : (number streams : ℕ) → least_streams ≤ streams → streams ≤ most_made_streams → length (session_rows number streams) ≡ units_of streams + streams + readings_of streams + 4
row_count number streams least most =
    let n = units_of streams in
    let plant = made_streams number streams in
    let readings = reading_rows number streams in
    let units_are : length (unit_rows n) ≡ n = length-map-range_with_len unit_row 1 n in
    let streams_are : length (stream_rows 1 plant) ≡ streams = stream_count 1 plant ∙ (plant_is number streams least most).count in
    let readings_count : length readings ≡ readings_of streams = length-map-range_with_len (reading_row_at number (sides_of streams) plant) 0 (readings_of streams) in
    let last = length-append (stored_rows number streams) (made_report_row ∷ []) in
    let first = length-append (unit_rows n) (stream_rows 1 plant ++ (middle_rows ++ readings)) in
    let second = length-append (stream_rows 1 plant) (middle_rows ++ readings) in
    let third = length-append middle_rows readings in
    by (length (session_rows number streams)) (length (stored_rows number streams)) (length (unit_rows n)) (length (stream_rows 1 plant ++ (middle_rows ++ readings))) (length (stream_rows 1 plant))
    (length (middle_rows ++ readings)) (length readings) n streams (readings_of streams) last first second third units_are streams_are readings_count
  where
    by : (all stored u rest s tail r n m q : ℕ) → all ≡ stored + 1 → stored ≡ u + rest → rest ≡ s + tail → tail ≡ 3 + r → u ≡ n → s ≡ m → r ≡ q → all ≡ n + m + q + 4
    by all stored u rest s tail r n m q a b c d e f g = omega (arith, a, b, c, d, e, f, g)
