-- What `clap` makes of one word of the line.
use Rattle.std.proofs.Common.{◌≡◌, ◌∙◌, ◌<◌, ◌||◌, ◌&&◌, ◌==◌, ◌⊎◌, inl, inr, arith, length, take, take_all, eqb-true, ℕ, Bool, cond, true, false, not, refl, sym, ap, ap₂, subst, IsTrue, List, [], ◌∷◌, ◌++◌, map, Option, Some, None, codes, append-nil, true≢false}
use Rattle.std.specs.List.{after_first, before_first, list_any, position_or_len}
use Rattle.std.proofs.lemmas.List.Sums.{passes_at_first, split_at_first}
use Rattle.std.specs.Option.{option_map_or}
use Rattle.std.specs.Str.{bytes_eq}
use Rattle.std.proofs.lemmas.Slice.Eq.{bytes_eq-Decides}
use Rattle.clap.specs.Lexer.{has_byte, long_of, short_of, name_and_value}
use Rattle.clap.specs.Kinds.{Kinds, or_else}
use Rattle.clap.specs.declared.error.kind.ErrorKind.{ErrorKind}
use Rattle.clap.specs.declared.error.kind.ErrorKind.TheVariants.{ArgumentConflict, InvalidValue}
use Rattle.std.proofs.lemmas.List.{map-append}
use Rattle.clap.specs.Walk.{Held, Row, Rule, Step, Text, Waiting, Walk, idle, option, positional, after_flag, after_step, arg_by_id, arg_by_long, has_row, long_met, settled, used_by_id, walked}
use Rattle.clap.specs.Simple.{Shape, built, filled}
use Rattle.clap.specs.Faults.{long_fault, settle_fault, step_fault, turn_fault, use_fault}
use Rattle.pb_words.specs.Parts.{Part, mode, apart, option_names, flag_names, has_hyphen, is_one_of}
use Rattle.pb_words.specs.Line.{is_plain_or_named, line, flag_rule, mode_rule, option_rule}
use Rattle.pb_words.proofs.OnceLemmas.{is_mentioned, neither}
use Rattle.pb_words.proofs.RowLemmas.{named_row, row_of, used_values}

abbrev pub shape : Shape
shape = (built line).top

abbrev pub rules_in : List Rule
rules_in = (built line).top.rules

abbrev pub built_option : Text → Rule
built_option name = filled (option_rule name)

abbrev pub built_flag : Text → Rule
built_flag name = filled (flag_rule name)

abbrev pub built_mode : Rule
built_mode = record (filled mode_rule) { index = Some 1 }

-- ---- names

abbrev pub Each : (Text → Type 0) → List Text → Type 0
Each P [] = Unit {0}
Each P (x ∷ xs) = P x × Each P xs

-- what holds for each of these names holds for a name among them
pub one_of : (P : Text → Type 0) (names : List Text) (name : Text) → Each P names → IsTrue (is_one_of name names) → P name
one_of P [] name each among = absurd (true≢false (sym among))
one_of P (x ∷ xs) name each among = go (bytes_eq x name) refl among (λ h. one_of P xs name each.1 h)
  where
    go : (b : Bool) → bytes_eq x name ≡ b → (b || is_one_of name xs) ≡ true → (IsTrue (is_one_of name xs) → P name) → P name
    go true same h rest = subst P ((bytes_eq-Decides x name).0 same) each.0
    go false same h rest = rest h

pub option_by_long : (name : Text) → IsTrue (is_one_of name option_names) → arg_by_long rules_in name ≡ Some (built_option name)
option_by_long name among = one_of (λ n. arg_by_long rules_in n ≡ Some (built_option n)) option_names name (refl, (refl, (refl, (refl, (refl, (refl, tt)))))) among

pub option_by_id : (name : Text) → IsTrue (is_one_of name option_names) → arg_by_id rules_in name ≡ Some (built_option name)
option_by_id name among = one_of (λ n. arg_by_id rules_in n ≡ Some (built_option n)) option_names name (refl, (refl, (refl, (refl, (refl, (refl, tt)))))) among

pub flag_by_long : (name : Text) → IsTrue (is_one_of name flag_names) → arg_by_long rules_in name ≡ Some (built_flag name)
flag_by_long name among = one_of (λ n. arg_by_long rules_in n ≡ Some (built_flag n)) flag_names name (refl, (refl, tt)) among

pub mode_by_id : arg_by_id rules_in (codes "mode") ≡ Some built_mode
mode_by_id = refl

pub unknown_by_long : (name : Text) → is_one_of name option_names ≡ false → is_one_of name flag_names ≡ false → arg_by_long rules_in name ≡ None
unknown_by_long name no_option no_flag =
    let a = neither (bytes_eq (codes "gap") name) _ no_option in
    let b = neither (bytes_eq (codes "sweeps") name) _ a.1 in
    let c = neither (bytes_eq (codes "eliminate") name) _ b.1 in
    let d = neither (bytes_eq (codes "format") name) _ c.1 in
    let e = neither (bytes_eq (codes "number") name) _ d.1 in
    let f = neither (bytes_eq (codes "streams") name) _ e.1 in
    let g = neither (bytes_eq (codes "tests") name) _ no_flag in
    let h = neither (bytes_eq (codes "summary") name) _ g.1 in
    rw (a.0, b.0, c.0, d.0, e.0, f.0, g.0, h.0) refl

-- ---- where the walk stands

-- what the last word was: no part that waits to be settled; the word of a mode; an option that waits for its value; or its value
pub data Last : Type 0 where
  nothing : Last
  mode_word : Text → Last
  waits_for : Text → Last
  has_value : Text → Text → Last

abbrev pub pending_of : Last → Option (Text × List Text)
pending_of nothing = None
pending_of (mode_word word) = Some (codes "mode", word ∷ [])
pending_of (waits_for name) = Some (name, [])
pending_of (has_value name v) = Some (name, v ∷ [])

abbrev pub waiting_of : Last → Waiting
waiting_of nothing = idle
waiting_of (mode_word word) = idle
waiting_of (waits_for name) = option name
waiting_of (has_value name v) = idle

abbrev pub last_parts : Last → List Part
last_parts nothing = []
last_parts (mode_word word) = mode word ∷ []
last_parts (waits_for name) = []
last_parts (has_value name v) = apart name v ∷ []

abbrev pub last_words : Last → List Text
last_words nothing = []
last_words (mode_word word) = word ∷ []
last_words (waits_for name) = (codes "--" ++ name) ∷ []
last_words (has_value name v) = (codes "--" ++ name) ∷ v ∷ []

abbrev pub IsKnownLast : Last → Type 0
IsKnownLast nothing = Unit {0}
IsKnownLast (mode_word word) = has_hyphen word ≡ false
IsKnownLast (waits_for name) = IsTrue (is_one_of name option_names)
IsKnownLast (has_value name v) = IsTrue (is_one_of name option_names) × (has_hyphen v ≡ false)

-- what was last said is said for the first time, and is whole
abbrev pub IsFresh : List Part → Last → Type 0
IsFresh front nothing = Unit {0}
IsFresh front (mode_word word) = is_mentioned (codes "mode") front ≡ false
IsFresh front (waits_for name) = ⊥
IsFresh front (has_value name v) = is_mentioned name front ≡ false

abbrev pub held_at : List Part → Last → Held
held_at front last = record { rows = map row_of front; pending = pending_of last; skip = 0 }

abbrev pub walk_at : List Part → Last → ℕ → Walk
walk_at front last position = record { held = held_at front last; waiting = waiting_of last; position = position; is_trailing = false; stopped = None }

-- ---- one use

pub and_false : (b : Bool) → (b && false) ≡ false
and_false true = refl
and_false false = refl

abbrev some_kind : Kinds → Bool
some_kind [] = false
some_kind (k ∷ ks) = true

pub some_fault : (k : ErrorKind) (ks : Kinds) → k ∷ ks ≡ [] → ⊥
some_fault k ks e = true≢false (ap some_kind e)

pub first_empty : (a b : Kinds) → or_else a b ≡ [] → (a ≡ []) × (b ≡ [])
first_empty [] b e = (refl, e)
first_empty (k ∷ ks) b e = absurd (some_fault k ks e)

pub both_empty : (a b : Kinds) → a ≡ [] → b ≡ [] → or_else a b ≡ []
both_empty a b x y = ap₂ or_else x y

pub option_passes : (name v : Text) (rows : List Row) → has_row name rows ≡ false → use_fault false (built_option name) (v ∷ []) rows ≡ []
option_passes name v rows none = rw none refl

pub flag_passes : (name : Text) (rows : List Row) → has_row name rows ≡ false → use_fault false (built_flag name) [] rows ≡ []
flag_passes name rows none = rw none refl

pub mode_passes : (word : Text) (rows : List Row) → has_row (codes "mode") rows ≡ false → use_fault false built_mode (word ∷ []) rows ≡ []
mode_passes word rows none = rw none refl

-- a use that passes is the first of its id
repeat_back : (b : Bool) → or_else (cond (b && true) (ArgumentConflict ∷ []) []) [] ≡ [] → b ≡ false
repeat_back true e = absurd (some_fault ArgumentConflict [] e)
repeat_back false e = refl

pub option_first : (name v : Text) (rows : List Row) → use_fault false (built_option name) (v ∷ []) rows ≡ [] → has_row name rows ≡ false
option_first name v rows e = repeat_back (has_row name rows) e

pub flag_first : (name : Text) (rows : List Row) → use_fault false (built_flag name) [] rows ≡ [] → has_row name rows ≡ false
flag_first name rows e = repeat_back (has_row name rows) e

pub mode_first : (word : Text) (rows : List Row) → use_fault false built_mode (word ∷ []) rows ≡ [] → has_row (codes "mode") rows ≡ false
mode_first word rows e = repeat_back (has_row (codes "mode") rows) e

pub option_wants : (name : Text) (rows : List Row) → use_fault false (built_option name) [] rows ≡ [] → ⊥
option_wants name rows e = some_fault InvalidValue [] e

-- ---- settling what is pending

pub settle_passes : (front : List Part) (last : Last) → IsKnownLast last → IsFresh front last → settle_fault rules_in false (held_at front last) ≡ []
settle_passes front nothing known fresh = refl
settle_passes front (mode_word word) known fresh = mode_passes word (map row_of front) (named_row (codes "mode") front ∙ fresh)
settle_passes front (waits_for name) known fresh = absurd fresh
settle_passes front (has_value name v) known fresh =
    ap (λ (found : Option Rule). option_map_or (λ a. use_fault false a (v ∷ []) (map row_of front)) found []) (option_by_id name known.0)
    ∙ option_passes name v (map row_of front) (named_row name front ∙ fresh)

pub settle_first : (front : List Part) (last : Last) → IsKnownLast last → settle_fault rules_in false (held_at front last) ≡ [] → IsFresh front last
settle_first front nothing known e = tt
settle_first front (mode_word word) known e = sym (named_row (codes "mode") front) ∙ mode_first word (map row_of front) e
settle_first front (waits_for name) known e =
    option_wants name (map row_of front)
    (sym (ap (λ (found : Option Rule). option_map_or (λ a. use_fault false a [] (map row_of front)) found []) (option_by_id name known)) ∙ e)
settle_first front (has_value name v) known e =
    sym (named_row name front)
    ∙ option_first name v (map row_of front)
    (sym (ap (λ (found : Option Rule). option_map_or (λ a. use_fault false a (v ∷ []) (map row_of front)) found []) (option_by_id name known.0)) ∙ e)

pub settled_rows_are : (front : List Part) (last : Last) → IsKnownLast last → IsFresh front last
    → (settled rules_in (held_at front last)).rows ≡ map row_of (front ++ last_parts last)
settled_rows_are front nothing known fresh = ap (map row_of) (sym (append-nil front))
settled_rows_are front (mode_word word) known fresh =
    used_values (codes "mode") word (map row_of front) (named_row (codes "mode") front ∙ fresh) ∙ sym (map-append row_of front (mode word ∷ []))
settled_rows_are front (waits_for name) known fresh = absurd fresh
settled_rows_are front (has_value name v) known fresh =
    ap (λ (found : Option Rule). used_by_id found (v ∷ []) (map row_of front)) (option_by_id name known.0)
    ∙ (used_values name v (map row_of front) (named_row name front ∙ fresh) ∙ sym (map-append row_of front (apart name v ∷ [])))

abbrev pub all_parts : List Part → Last → List Part
all_parts front last = front ++ last_parts last

-- ---- the forms of words

-- the name of an option before an equals sign, and its value after it
any_before_end : (xs : Text) → list_any (λ b. b == 61) xs ≡ true → position_or_len (λ b. b == 61) xs < length xs
any_before_end [] e = absurd (true≢false (sym e))
any_before_end (x ∷ xs) e = go (x == 61) refl e (λ h. any_before_end xs h)
  where
    go : (b : Bool) → (x == 61) ≡ b → (b || list_any (λ y. y == 61) xs) ≡ true → (list_any (λ y. y == 61) xs ≡ true → position_or_len (λ y. y == 61) xs < length xs)
        → position_or_len (λ y. y == 61) (x ∷ xs) < length (x ∷ xs)
    go true is h more = rw is (omega arith)
    go false is h more =
        let rest = more h in
        rw is (omega arith)

none_to_end : (xs : Text) → list_any (λ b. b == 61) xs ≡ false → position_or_len (λ b. b == 61) xs ≡ length xs
none_to_end [] e = refl
none_to_end (x ∷ xs) e =
    let parts = neither (x == 61) _ e in
    let rest = none_to_end xs parts.1 in
    rw parts.0 (omega arith)

pub value_behind : (text : Text) → has_byte 61 text ≡ true → text ≡ before_first (λ b. b == 61) text ++ 61 ∷ after_first (λ b. b == 61) text
value_behind text e =
    let lt = any_before_end text e in
    split_at_first (λ b. b == 61) text 0 lt
    ∙ ap (λ b. before_first (λ y. y == 61) text ++ b ∷ after_first (λ y. y == 61) text) (eqb-true _ 61 (passes_at_first (λ b. b == 61) text 0 lt))

pub name_alone : (text : Text) → has_byte 61 text ≡ false → text ≡ before_first (λ b. b == 61) text
name_alone text e = sym (ap (λ n. take n text) (none_to_end text e) ∙ take_all (length text) text (omega arith))

not_true : (b : Bool) → not b ≡ true → b ≡ false
not_true true e = sym e
not_true false e = refl

-- a word that is read is plain, or has two hyphens and a name
pub word_kinds : (word : Text) → IsTrue (is_plain_or_named word) → (has_hyphen word ≡ false) ⊎ ((x : ℕ) × (xs : Text) × (word ≡ 45 ∷ 45 ∷ x ∷ xs))
word_kinds [] e = inl refl
word_kinds (a ∷ []) e = inl (not_true (a == 45) e)
word_kinds (a ∷ b ∷ []) e = inl (not_true (a == 45) e)
word_kinds (a ∷ b ∷ x ∷ xs) e = go (a == 45) refl e
  where
    go : (h : Bool) → (a == 45) ≡ h → (not h || (b == 45)) ≡ true
        → (has_hyphen (a ∷ b ∷ x ∷ xs) ≡ false) ⊎ ((y : ℕ) × (ys : Text) × (a ∷ b ∷ x ∷ xs ≡ 45 ∷ 45 ∷ y ∷ ys))
    go false is h = inl is
    go true is h = inr (x, xs, ap₂ (λ (c d : ℕ). c ∷ d ∷ x ∷ xs) (eqb-true a 45 is) (eqb-true b 45 h))

pub plain_long : (word : Text) → has_hyphen word ≡ false → long_of word ≡ None
plain_long [] e = refl
plain_long (x ∷ xs) e = rw e refl

pub plain_short : (word : Text) → has_hyphen word ≡ false → short_of word ≡ None
plain_short [] e = refl
plain_short (x ∷ xs) e = rw e refl

pub plain_dashes : (word : Text) → has_hyphen word ≡ false → bytes_eq word (45 ∷ 45 ∷ []) ≡ false
plain_dashes [] e = refl
plain_dashes (x ∷ xs) e = rw e refl

-- ---- a word with two hyphens and a name

abbrev pub met_named : Held → Waiting → Text → Option Rule → Option Text → Held × Step
met_named h waiting word found v = after_flag rules_in waiting word (long_met rules_in found v h).0 (long_met rules_in found v h).1

abbrev pub named_fault : Held → Waiting → ℕ → Text → Option Rule → Option Text → Kinds
named_fault h waiting position word found v =
    or_else (long_fault rules_in false found v h) (step_fault shape position (met_named h waiting word found v).0 (met_named h waiting word found v).1)

abbrev pub at : Held → Waiting → ℕ → Walk
at h waiting position = record { held = h; waiting = waiting; position = position; is_trailing = false; stopped = None }

abbrev pub named_walk : Held → Waiting → ℕ → Text → Option Rule → Option Text → Walk
named_walk h waiting position word found v =
    after_step rules_in word (at h waiting position) (met_named h waiting word found v).0 (met_named h waiting word found v).1

named_turn : (h : Held) (waiting : Waiting) (position x : ℕ) (xs : Text)
    → turn_fault shape [] (at h waiting position) (45 ∷ 45 ∷ x ∷ xs)
    ≡ named_fault h waiting position (45 ∷ 45 ∷ x ∷ xs) (arg_by_long rules_in (name_and_value (x ∷ xs)).0) (name_and_value (x ∷ xs)).1
named_turn h idle position x xs = refl
named_turn h (option name) position x xs = refl
named_turn h positional position x xs = refl

named_step : (h : Held) (waiting : Waiting) (position x : ℕ) (xs : Text)
    → walked rules_in [] (at h waiting position) (45 ∷ 45 ∷ x ∷ xs)
    ≡ named_walk h waiting position (45 ∷ 45 ∷ x ∷ xs) (arg_by_long rules_in (name_and_value (x ∷ xs)).0) (name_and_value (x ∷ xs)).1
unfolding walked
named_step h idle position x xs = refl
named_step h (option name) position x xs = refl
named_step h positional position x xs = refl

-- the turn and the step of a word that names what this is
pub turn_of : (h : Held) (waiting : Waiting) (position x : ℕ) (xs name : Text) (v : Option Text) (found : Option Rule)
    → name_and_value (x ∷ xs) ≡ (name, v) → arg_by_long rules_in name ≡ found
    → turn_fault shape [] (at h waiting position) (45 ∷ 45 ∷ x ∷ xs) ≡ named_fault h waiting position (45 ∷ 45 ∷ x ∷ xs) found v
turn_of h waiting position x xs name v found split is =
    named_turn h waiting position x xs
    ∙ (ap (λ (p : Text × Option Text). named_fault h waiting position (45 ∷ 45 ∷ x ∷ xs) (arg_by_long rules_in p.0) p.1) split
    ∙ ap (λ o. named_fault h waiting position (45 ∷ 45 ∷ x ∷ xs) o v) is)

pub step_of : (h : Held) (waiting : Waiting) (position x : ℕ) (xs name : Text) (v : Option Text) (found : Option Rule)
    → name_and_value (x ∷ xs) ≡ (name, v) → arg_by_long rules_in name ≡ found
    → walked rules_in [] (at h waiting position) (45 ∷ 45 ∷ x ∷ xs) ≡ named_walk h waiting position (45 ∷ 45 ∷ x ∷ xs) found v
step_of h waiting position x xs name v found split is =
    named_step h waiting position x xs
    ∙ (ap (λ (p : Text × Option Text). named_walk h waiting position (45 ∷ 45 ∷ x ∷ xs) (arg_by_long rules_in p.0) p.1) split
    ∙ ap (λ o. named_walk h waiting position (45 ∷ 45 ∷ x ∷ xs) o v) is)
