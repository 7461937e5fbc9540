-- How `clap` goes over the words of parts: what each word adds to the parts so far, forwards and back.
use Rattle.std.proofs.Common.{◌≡◌, ◌∙◌, ◌==◌, ◌⊎◌, inl, inr, ⊎_elim, ℕ, Bool, cond, true, false, refl, sym, ap, ap₂, subst, IsTrue, fold, All, List, [], ◌∷◌, ◌++◌, Option, Some, None, codes, append-nil, append_assoc, true≢false}
use Rattle.std.specs.List.{after_first, before_first, list_all}
use Rattle.std.specs.Str.{bytes_eq}
use Rattle.std.proofs.lemmas.List.{map-append}
use Rattle.std.proofs.lemmas.List.Elements.{All-push}
use Rattle.std.proofs.lemmas.Slice.Eq.{bytes_eq-Decides}
use Rattle.clap.specs.Lexer.{has_byte, name_and_value}
use Rattle.clap.specs.Walk.{Held, Row, Rule, Text, Walk, idle, option, arg_by_index, has_row, is_pending, next_position, pushed, reacted, settled, to_positional, used, value, walked}
use Rattle.clap.specs.Faults.{positional_fault, react_fault, settle_fault, step_fault, stray_fault, turn_fault, use_fault, walk_fault}
use Rattle.clap.specs.declared.error.kind.ErrorKind.TheVariants.{TooManyValues, UnknownArgument}
use Rattle.std.specs.Option.{option_map_or}
use Rattle.clap.proofs.WalkLemmas.{both}
use Rattle.pb_words.specs.Parts.{Part, mode, flag, apart, joined, IsKnownPart, has_hyphen, is_one_of, name_of, option_names, flag_names, words_of}
use Rattle.pb_words.specs.Line.{is_plain_or_named}
use Rattle.pb_words.proofs.OnceLemmas.{EachOnce, is_mentioned, words_of_parts}
use Rattle.pb_words.proofs.RowLemmas.{named_row, row_of, used_values}
use Rattle.pb_words.proofs.StepLemmas.{Last, nothing, mode_word, waits_for, has_value, IsFresh, IsKnownLast, all_parts, and_false, at, both_empty, built_flag, built_mode, built_option, first_empty, flag_by_long, flag_first, flag_passes, held_at, last_parts, last_words, name_alone, option_by_id, option_by_long, option_first, option_passes, pending_of, plain_dashes, plain_long, plain_short, rules_in, settle_first, settle_passes, settled_rows_are, shape, some_fault, step_of, turn_of, unknown_by_long, value_behind, waiting_of, walk_at, word_kinds}

-- ---- a use that a word makes at once

-- using the argument in this way is what the part says
pub record IsUseOf (a : Rule) (values : List Text) (part : Part) : Type 0 where
  pub uses : (rows : List Row) → has_row (name_of part) rows ≡ false → used a values rows ≡ rows ++ row_of part ∷ []
  pub passes : (rows : List Row) → has_row (name_of part) rows ≡ false → use_fault false a values rows ≡ []
  pub first : (rows : List Row) → use_fault false a values rows ≡ [] → has_row (name_of part) rows ≡ false

pub option_use : (name v : Text) → IsUseOf (built_option name) (v ∷ []) (joined name v)
option_use name v = record { uses = used_values name v; passes = option_passes name v; first = option_first name v }

pub flag_use : (name : Text) → IsUseOf (built_flag name) [] (flag name)
flag_use name = record { uses = used_values name (codes "true"); passes = flag_passes name; first = flag_first name }

held_of_rows : List Row → Held
held_of_rows rows = record { rows = rows; pending = None; skip = 0 }

module _ (a : Rule) (values : List Text) (part : Part) (is : IsUseOf a values part) (front : List Part) (last : Last) (known : IsKnownLast last) (position : ℕ) where
  pub use_walk : IsFresh front last → is_mentioned (name_of part) (all_parts front last) ≡ false
      → at (reacted rules_in a values (held_at front last)) idle position ≡ walk_at (all_parts front last ++ part ∷ []) nothing position
  use_walk fresh once =
      ap (λ (rows : List Row). at (record { rows = used a values rows; pending = None; skip = 0 }) idle position) (settled_rows_are front last known fresh)
      ∙ ap (λ (rows : List Row). at (record { rows = rows; pending = None; skip = 0 }) idle position)
      (is.uses _ (named_row (name_of part) (all_parts front last) ∙ once) ∙ sym (map-append row_of (all_parts front last) (part ∷ [])))

  pub use_passes_here : IsFresh front last → is_mentioned (name_of part) (all_parts front last) ≡ false → react_fault rules_in false a values (held_at front last) ≡ []
  use_passes_here fresh once =
      both_empty _ _ (settle_passes front last known fresh)
      (ap (use_fault false a values) (settled_rows_are front last known fresh) ∙ is.passes _ (named_row (name_of part) (all_parts front last) ∙ once))

  use_first_here : react_fault rules_in false a values (held_at front last) ≡ [] → IsFresh front last × (is_mentioned (name_of part) (all_parts front last) ≡ false)
  use_first_here e =
      let parts = first_empty (settle_fault rules_in false (held_at front last)) (use_fault false a values (settled rules_in (held_at front last)).rows) e in
      let fresh = settle_first front last known parts.0 in (
        fresh,
        sym (named_row (name_of part) (all_parts front last)) ∙ is.first _ (sym (ap (use_fault false a values) (settled_rows_are front last known fresh)) ∙ parts.1),
      )

-- ---- a word without a hyphen

pub plain_waits : (h : Held) (name : Text) (position : ℕ) (word : Text) → has_hyphen word ≡ false → turn_fault shape [] (at h (option name) position) word ≡ []
plain_waits h name position word e = rw (plain_dashes word e, plain_long word e, plain_short word e) refl

pub plain_idle : (h : Held) (position : ℕ) (word : Text) → has_hyphen word ≡ false → turn_fault shape [] (at h idle position) word ≡ step_fault shape position h value
plain_idle h position word e = rw (plain_dashes word e, plain_long word e, plain_short word e) refl

same_name : (name : Text) → bytes_eq name name ≡ true
same_name name = (bytes_eq-Decides name name).1 refl

pub value_walk : (front : List Part) (name word : Text) (position : ℕ) → IsTrue (is_one_of name option_names) → has_hyphen word ≡ false
    → walked rules_in [] (walk_at front (waits_for name) position) word ≡ walk_at front (has_value name word) position
unfolding walked
value_walk front name word position among e = rw (plain_dashes word e, plain_long word e, plain_short word e, option_by_id name among, same_name name) refl

pub idle_walk : (h : Held) (position : ℕ) (word : Text) → has_hyphen word ≡ false
    → walked rules_in [] (at h idle position) word ≡ to_positional rules_in (arg_by_index rules_in position) word (at h idle position) h
unfolding walked
idle_walk h position word e = rw (plain_dashes word e, plain_long word e, plain_short word e) refl

pub index_there : (position : ℕ) → (1 == position) ≡ true → arg_by_index rules_in position ≡ Some built_mode
index_there position e = rw e refl

index_past : (position : ℕ) → (1 == position) ≡ false → arg_by_index rules_in position ≡ None
index_past position e = rw e refl

-- the word of a mode, if nothing waits for a value
module _ (front : List Part) (last : Last) (known : IsKnownLast last) (position : ℕ) (word : Text) where
  pub mode_fault : arg_by_index rules_in position ≡ Some built_mode → step_fault shape position (held_at front last) value ≡ settle_fault rules_in false (held_at front last)
  mode_fault found =
      ap (λ (o : Option Rule). option_map_or (λ a. positional_fault rules_in false a (held_at front last)) o (stray_fault shape)) found
      ∙ ap (λ (b : Bool). cond b [] (settle_fault rules_in false (held_at front last))) (and_false (is_pending built_mode (pending_of last)))

  pub mode_walk : IsFresh front last → to_positional rules_in (Some built_mode) word (walk_at front last position) (held_at front last)
      ≡ walk_at (all_parts front last) (mode_word word) (next_position built_mode position)
  mode_walk fresh =
      ap (λ (b : Bool). at (pushed (codes "mode") word (cond b (held_at front last) (settled rules_in (held_at front last)))) idle (next_position built_mode position))
      (and_false (is_pending built_mode (pending_of last)))
      ∙ ap (λ (rows : List Row). at (record { rows = rows; pending = Some (codes "mode", word ∷ []); skip = 0 }) idle (next_position built_mode position))
      (settled_rows_are front last known fresh)

-- ---- lists of parts

pub line_append : (xs ys : List Part) → words_of_parts (xs ++ ys) ≡ words_of_parts xs ++ words_of_parts ys
line_append [] ys = refl
line_append (x ∷ xs) ys = ap (λ l. words_of x ++ l) (line_append xs ys) ∙ sym (append_assoc (words_of x) (words_of_parts xs) (words_of_parts ys))

last_line : (front : List Part) (last : Last) → IsFresh front last → words_of_parts (last_parts last) ≡ last_words last
last_line front nothing fresh = refl
last_line front (mode_word word) fresh = refl
last_line front (waits_for name) fresh = absurd fresh
last_line front (has_value name v) fresh = refl

pub all_line : (front : List Part) (last : Last) → IsFresh front last → words_of_parts (all_parts front last) ≡ words_of_parts front ++ last_words last
all_line front last fresh = line_append front (last_parts last) ∙ ap (λ l. words_of_parts front ++ l) (last_line front last fresh)

abbrev tail_of : List Part → List Part
tail_of [] = []
tail_of (x ∷ xs) = xs

abbrev head_or : Part → List Part → Part
head_or d [] = d
head_or d (x ∷ xs) = x

abbrev some_part : List Part → Bool
some_part [] = false
some_part (x ∷ xs) = true

pub never_empty : (before after : List Part) (q : Part) → [] ≡ before ++ q ∷ after → ⊥
never_empty [] after q e = true≢false (sym (ap some_part e))
never_empty (y ∷ ys) after q e = true≢false (sym (ap some_part e))

-- a part among others and a last one is the last one, or is among the others
snoc_split : (front before after : List Part) (p q : Part) → front ++ p ∷ [] ≡ before ++ q ∷ after
    → ((front ≡ before) × (p ≡ q)) ⊎ ((rest : List Part) × (front ≡ before ++ q ∷ rest))
snoc_split [] [] after p q e = inl (refl, ap (head_or p) e)
snoc_split [] (y ∷ ys) after p q e = absurd (never_empty ys after q (ap tail_of e))
snoc_split (x ∷ xs) [] after p q e = inr (xs, ap (λ h. h ∷ xs) (ap (head_or x) e))
snoc_split (x ∷ xs) (y ∷ ys) after p q e =
    let first : x ≡ y = ap (head_or x) e in
    ⊎_elim (λ s. inl (ap₂ (λ (h : Part) (t : List Part). h ∷ t) first s.0, s.1)) (λ s. inr (s.0, ap₂ (λ (h : Part) (t : List Part). h ∷ t) first s.1))
    (snoc_split xs ys after p q (ap tail_of e))

once_push : (front : List Part) (p : Part) → EachOnce front → is_mentioned (name_of p) front ≡ false → EachOnce (front ++ p ∷ [])
once_push front p once fresh before after q e = elim (snoc_split front before after p q e) [
  | inl s ↦ ap₂ (λ (part : Part) (xs : List Part). is_mentioned (name_of part) xs) (sym s.1) (sym s.0) ∙ fresh
  | inr s ↦ once before s.0 q s.1
]

pub once_all : (front : List Part) (last : Last) → IsFresh front last → EachOnce front → EachOnce (all_parts front last)
once_all front nothing fresh once = subst EachOnce (sym (append-nil front)) once
once_all front (mode_word word) fresh once = once_push front (mode word) once fresh
once_all front (waits_for name) fresh once = absurd fresh
once_all front (has_value name v) fresh once = once_push front (apart name v) once fresh

pub known_all : (front : List Part) (last : Last) → IsFresh front last → IsKnownLast last → All IsKnownPart front → All IsKnownPart (all_parts front last)
known_all front nothing fresh last known = subst (All IsKnownPart) (sym (append-nil front)) known
known_all front (mode_word word) fresh last known = All-push IsKnownPart front (mode word) known last
known_all front (waits_for name) fresh last known = absurd fresh
known_all front (has_value name v) fresh last known = All-push IsKnownPart front (apart name v) known last

-- ---- back: the parts so far, from the words so far

-- the walk stands where it stands after these parts; the words so far are theirs, and those of an option that waits for its value
pub record Standing (seen : List Text) (w : Walk) : Type 0 where
  pub front : List Part
  pub last : Last
  pub position : ℕ
  pub is : w ≡ walk_at front last position
  pub words : seen ≡ words_of_parts front ++ last_words last
  pub known_last : IsKnownLast last
  pub known : All IsKnownPart front
  pub once : EachOnce front

module _ (seen : List Text) (front : List Part) (last : Last) (position : ℕ) (words : seen ≡ words_of_parts front ++ last_words last) (known_last : IsKnownLast last) (known : All IsKnownPart front)
    (once : EachOnce front) where
  seen_all : IsFresh front last → seen ≡ words_of_parts (all_parts front last)
  seen_all fresh = words ∙ sym (all_line front last fresh)

  -- the word is a part by itself
  use_back : (a : Rule) (values : List Text) (part : Part) (word : Text) → IsUseOf a values part → IsKnownPart part → words_of part ≡ word ∷ []
      → walked rules_in [] (walk_at front last position) word ≡ at (reacted rules_in a values (held_at front last)) idle position
      → react_fault rules_in false a values (held_at front last) ≡ [] → Standing (seen ++ word ∷ []) (walked rules_in [] (walk_at front last position) word)
  use_back a values part word made part_known form steps e =
      let both = use_first_here a values part made front last known_last position e in
      let all = all_parts front last in
      record {
        front = all ++ part ∷ [];
        last = nothing;
        position = position;
        is = steps ∙ use_walk a values part made front last known_last position both.0 both.1;
        words = ap (λ (s : List Text). s ++ word ∷ []) (seen_all both.0)
            ∙ (ap (λ (l : List Text). words_of_parts all ++ l) (sym (append-nil (words_of part) ∙ form))
            ∙ (sym (line_append all (part ∷ [])) ∙ sym (append-nil (words_of_parts (all ++ part ∷ [])))));
        known_last = tt;
        known = All-push IsKnownPart all part (known_all front last both.0 known_last known) part_known;
        once = once_push all part (once_all front last both.0 once) both.1;
      }

  -- the word is an option that waits for its value
  option_back : (name word : Text) → IsTrue (is_one_of name option_names) → codes "--" ++ name ≡ word
      → walked rules_in [] (walk_at front last position) word ≡ at (record (settled rules_in (held_at front last)) { pending = Some (name, []) }) (option name) position
      → settle_fault rules_in false (held_at front last) ≡ [] → Standing (seen ++ word ∷ []) (walked rules_in [] (walk_at front last position) word)
  option_back name word among form steps e =
      let fresh = settle_first front last known_last e in
      record {
        front = all_parts front last;
        last = waits_for name;
        position = position;
        is = steps ∙ ap (λ (rows : List Row). at (record { rows = rows; pending = Some (name, []); skip = 0 }) (option name) position) (settled_rows_are front last known_last fresh);
        words = ap₂ (λ (s : List Text) (word : Text). s ++ word ∷ []) (seen_all fresh) (sym form);
        known_last = among;
        known = known_all front last fresh known_last known;
        once = once_all front last fresh once;
      }

  -- the word is a mode
  mode_back : (word : Text) → has_hyphen word ≡ false
      → walked rules_in [] (walk_at front last position) word ≡ to_positional rules_in (arg_by_index rules_in position) word (walk_at front last position) (held_at front last)
      → step_fault shape position (held_at front last) value ≡ [] → Standing (seen ++ word ∷ []) (walked rules_in [] (walk_at front last position) word)
  mode_back word plain steps e = go (1 == position) refl
    where
      go : (b : Bool) → (1 == position) ≡ b → Standing (seen ++ word ∷ []) (walked rules_in [] (walk_at front last position) word)
      go true here =
          let found = index_there position here in
          let fresh = settle_first front last known_last (sym (mode_fault front last known_last position word found) ∙ e) in
          record {
            front = all_parts front last;
            last = mode_word word;
            position = next_position built_mode position;
            is = steps ∙ (ap (λ (o : Option Rule). to_positional rules_in o word (walk_at front last position) (held_at front last)) found
                ∙ mode_walk front last known_last position word fresh);
            words = ap (λ (s : List Text). s ++ word ∷ []) (seen_all fresh);
            known_last = plain;
            known = known_all front last fresh known_last known;
            once = once_all front last fresh once;
          }
      go false past =
          let gone : stray_fault shape ≡ [] =
          sym (ap (λ (o : Option Rule). option_map_or (λ a. positional_fault rules_in false a (held_at front last)) o (stray_fault shape)) (index_past position past)) ∙ e in
          absurd (some_fault UnknownArgument [] gone)

abbrev text_before : Text → Text
text_before text = before_first (λ b. b == 61) text

abbrev text_behind : Text → Text
text_behind text = after_first (λ b. b == 61) text

-- a word with two hyphens and a name
module _ (seen : List Text) (front : List Part) (last : Last) (position : ℕ) (words : seen ≡ words_of_parts front ++ last_words last) (known_last : IsKnownLast last) (known : All IsKnownPart front)
    (once : EachOnce front) (x : ℕ) (xs : Text) where
  abbrev here : Walk
  here = walk_at front last position

  abbrev word_here : Text
  word_here = 45 ∷ 45 ∷ x ∷ xs

  abbrev turns : Type 0
  turns = turn_fault shape [] here word_here ≡ []

  abbrev goal_here : Type 0
  goal_here = Standing (seen ++ word_here ∷ []) (walked rules_in [] here word_here)

  split_joined : has_byte 61 (x ∷ xs) ≡ true → name_and_value (x ∷ xs) ≡ (text_before (x ∷ xs), Some (text_behind (x ∷ xs)))
  split_joined has = ap (λ (b : Bool). (text_before (x ∷ xs), cond b (Some (text_behind (x ∷ xs))) None)) has

  split_alone : has_byte 61 (x ∷ xs) ≡ false → name_and_value (x ∷ xs) ≡ (text_before (x ∷ xs), None)
  split_alone has = ap (λ (b : Bool). (text_before (x ∷ xs), cond b (Some (text_behind (x ∷ xs))) None)) has

  joined_back : has_byte 61 (x ∷ xs) ≡ true → IsTrue (is_one_of (text_before (x ∷ xs)) option_names) → turns → goal_here
  joined_back has among e =
      let name = text_before (x ∷ xs) in
      let v = text_behind (x ∷ xs) in
      let found = option_by_long name among in
      let turn = sym (turn_of (held_at front last) (waiting_of last) position x xs name (Some v) (Some (built_option name)) (split_joined has) found) ∙ e in
      let reacts = first_empty (react_fault rules_in false (built_option name) (v ∷ []) (held_at front last)) [] turn in
      let steps = step_of (held_at front last) (waiting_of last) position x xs name (Some v) (Some (built_option name)) (split_joined has) found in
      use_back seen front last position words known_last known once (built_option name) (v ∷ []) (joined name v) word_here (option_use name v) among
      (ap (λ (l : Text). (45 ∷ 45 ∷ l) ∷ []) (sym (value_behind (x ∷ xs) has))) steps reacts.0

  waits_back : has_byte 61 (x ∷ xs) ≡ false → IsTrue (is_one_of (text_before (x ∷ xs)) option_names) → turns → goal_here
  waits_back has among e =
      let name = text_before (x ∷ xs) in
      let found = option_by_long name among in
      let turn = sym (turn_of (held_at front last) (waiting_of last) position x xs name None (Some (built_option name)) (split_alone has) found) ∙ e in
      let settles = first_empty (settle_fault rules_in false (held_at front last)) [] turn in
      let steps = step_of (held_at front last) (waiting_of last) position x xs name None (Some (built_option name)) (split_alone has) found in
      option_back seen front last position words known_last known once name word_here among (ap (λ (l : Text). 45 ∷ 45 ∷ l) (sym (name_alone (x ∷ xs) has))) steps settles.0

  flag_back : has_byte 61 (x ∷ xs) ≡ false → IsTrue (is_one_of (text_before (x ∷ xs)) flag_names) → turns → goal_here
  flag_back has among e =
      let name = text_before (x ∷ xs) in
      let found = flag_by_long name among in
      let turn = sym (turn_of (held_at front last) (waiting_of last) position x xs name None (Some (built_flag name)) (split_alone has) found) ∙ e in
      let reacts = first_empty (react_fault rules_in false (built_flag name) [] (held_at front last)) [] turn in
      let steps = step_of (held_at front last) (waiting_of last) position x xs name None (Some (built_flag name)) (split_alone has) found in
      use_back seen front last position words known_last known once (built_flag name) [] (flag name) word_here (flag_use name) among
      (ap (λ (l : Text). (45 ∷ 45 ∷ l) ∷ []) (sym (name_alone (x ∷ xs) has))) steps reacts.0

  flag_with_value : has_byte 61 (x ∷ xs) ≡ true → IsTrue (is_one_of (text_before (x ∷ xs)) flag_names) → turns → ⊥
  flag_with_value has among e =
      let name = text_before (x ∷ xs) in
      let turn = sym (turn_of (held_at front last) (waiting_of last) position x xs name (Some (text_behind (x ∷ xs))) (Some (built_flag name)) (split_joined has) (flag_by_long name among)) ∙ e in
      some_fault TooManyValues [] turn

  unknown_back : (v : Option Text) → name_and_value (x ∷ xs) ≡ (text_before (x ∷ xs), v) → is_one_of (text_before (x ∷ xs)) option_names ≡ false
      → is_one_of (text_before (x ∷ xs)) flag_names ≡ false → turns → ⊥
  unknown_back v split no_option no_flag e =
      let name = text_before (x ∷ xs) in
      let turn = sym (turn_of (held_at front last) (waiting_of last) position x xs name v None split (unknown_by_long name no_option no_flag)) ∙ e in
      some_fault UnknownArgument [] turn

  named_back : turns → goal_here
  named_back e = go (has_byte 61 (x ∷ xs)) refl (is_one_of (text_before (x ∷ xs)) option_names) refl (is_one_of (text_before (x ∷ xs)) flag_names) refl
    where
      go : (has : Bool) → has_byte 61 (x ∷ xs) ≡ has → (o : Bool) → is_one_of (text_before (x ∷ xs)) option_names ≡ o → (f : Bool) → is_one_of (text_before (x ∷ xs)) flag_names ≡ f → goal_here
      go true has true o f fl = joined_back has o e
      go false has true o f fl = waits_back has o e
      go true has false o true fl = absurd (flag_with_value has fl e)
      go false has false o true fl = flag_back has fl e
      go true has false o false fl = absurd (unknown_back (Some (text_behind (x ∷ xs))) (split_joined has) o fl e)
      go false has false o false fl = absurd (unknown_back None (split_alone has) o fl e)

plain_back : (seen : List Text) (front : List Part) (last : Last) (position : ℕ) → seen ≡ words_of_parts front ++ last_words last → IsKnownLast last → All IsKnownPart front → EachOnce front
    → (word : Text) → has_hyphen word ≡ false → turn_fault shape [] (walk_at front last position) word ≡ []
    → Standing (seen ++ word ∷ []) (walked rules_in [] (walk_at front last position) word)
plain_back seen front nothing position words known_last known once word plain e =
    mode_back seen front nothing position words known_last known once word plain (idle_walk (held_at front nothing) position word plain)
    (sym (plain_idle (held_at front nothing) position word plain) ∙ e)
plain_back seen front (mode_word before) position words known_last known once word plain e =
    mode_back seen front (mode_word before) position words known_last known once word plain (idle_walk (held_at front (mode_word before)) position word plain)
    (sym (plain_idle (held_at front (mode_word before)) position word plain) ∙ e)
plain_back seen front (has_value name v) position words known_last known once word plain e =
    mode_back seen front (has_value name v) position words known_last known once word plain (idle_walk (held_at front (has_value name v)) position word plain)
    (sym (plain_idle (held_at front (has_value name v)) position word plain) ∙ e)
plain_back seen front (waits_for name) position words known_last known once word plain e = record {
  front = front;
  last = has_value name word;
  position = position;
  is = value_walk front name word position known_last plain;
  words = ap (λ (s : List Text). s ++ word ∷ []) words ∙ append_assoc (words_of_parts front) ((codes "--" ++ name) ∷ []) (word ∷ []);
  known_last = (known_last, plain);
  known = known;
  once = once;
}

-- one more word
step_back : (seen : List Text) (w : Walk) (word : Text) → Standing seen w → IsTrue (is_plain_or_named word) → turn_fault shape [] w word ≡ []
    → Standing (seen ++ word ∷ []) (walked rules_in [] w word)
step_back seen w word s formed e =
    subst (λ (v : Walk). Standing (seen ++ word ∷ []) (walked rules_in [] v word)) (sym s.is)
    (from (ap (λ (v : Walk). turn_fault shape [] v word) (sym s.is) ∙ e) (word_kinds word formed))
  where
    from : turn_fault shape [] (walk_at s.front s.last s.position) word ≡ [] → ((has_hyphen word ≡ false) ⊎ ((x : ℕ) × (xs : Text) × (word ≡ 45 ∷ 45 ∷ x ∷ xs)))
        → Standing (seen ++ word ∷ []) (walked rules_in [] (walk_at s.front s.last s.position) word)
    from turn (inl plain) = plain_back seen s.front s.last s.position s.words s.known_last s.known s.once word plain turn
    from turn (inr named) =
        subst (λ (t : Text). Standing (seen ++ t ∷ []) (walked rules_in [] (walk_at s.front s.last s.position) t)) (sym named.2)
        (named_back seen s.front s.last s.position s.words s.known_last s.known s.once named.0 named.1
        (ap (λ (t : Text). turn_fault shape [] (walk_at s.front s.last s.position) t) (sym named.2) ∙ turn))

-- and all the words
pub walk_back : (words seen : List Text) (w : Walk) → Standing seen w → IsTrue (list_all is_plain_or_named words) → walk_fault shape [] w words ≡ []
    → Standing (seen ++ words) (fold (walked rules_in []) w words)
unfolding walk_fault
walk_back [] seen w s formed e = subst (λ (l : List Text). Standing l w) (sym (append-nil seen)) s
walk_back (word ∷ rest) seen w s formed e =
    let faults = first_empty (turn_fault shape [] w word) (walk_fault shape [] (walked rules_in [] w word) rest) e in
    let forms = both (is_plain_or_named word) _ formed in
    subst (λ (l : List Text). Standing l (fold (walked rules_in []) (walked rules_in [] w word) rest)) (append_assoc seen (word ∷ []) rest)
    (walk_back rest (seen ++ word ∷ []) (walked rules_in [] w word) (step_back seen w word s forms.0 faults.0) forms.1 faults.1)
