-- How `clap` goes over the words of parts, forwards: if each part is known and says something new, it accepts them all.
use Rattle.std.proofs.Common.{◌≡◌, ◌∙◌, ◌==◌, arith, ℕ, suc, true, false, refl, sym, ap, subst, IsTrue, fold, All, List, [], ◌∷◌, ◌++◌, Option, Some, None, codes, append-nil, append_assoc, true≢false}
use Rattle.std.specs.Str.{bytes_eq}
use Rattle.clap.specs.Lexer.{name_and_value}
use Rattle.clap.specs.Kinds.{or_else}
use Rattle.clap.specs.Walk.{Row, Rule, Text, Walk, idle, option, arg_by_index, next_position, reacted, to_positional, value, walked}
use Rattle.clap.specs.Faults.{react_fault, step_fault, turn_fault, walk_fault}
use Rattle.pb_words.specs.Parts.{Part, mode, flag, apart, joined, IsKnownPart, has_hyphen, is_one_of, name_of, option_names, flag_names, words_of}
use Rattle.pb_words.proofs.OnceLemmas.{EachOnce, is_mentioned, neither, words_of_parts}
use Rattle.pb_words.proofs.StepLemmas.{Last, nothing, mode_word, waits_for, has_value, IsFresh, IsKnownLast, all_parts, at, both_empty, built_flag, built_mode, built_option, flag_by_long, held_at, one_of, option_by_long, rules_in, settle_passes, settled_rows_are, shape, step_of, turn_of, waiting_of, walk_at}
use Rattle.pb_words.proofs.WalkLemmas.{IsUseOf, flag_use, idle_walk, index_there, mode_fault, mode_walk, option_use, plain_idle, plain_waits, use_passes_here, use_walk, value_walk}

-- the name of an option, as the first byte and the rest, alone and before a value
pub record IsSplit (name : Text) : Type 0 where
  pub x : ℕ
  pub xs : Text
  pub is : name ≡ x ∷ xs
  pub alone : name_and_value (x ∷ xs) ≡ (name, None)
  pub before : (v : Text) → name_and_value (x ∷ (xs ++ 61 ∷ v)) ≡ (name, Some v)

abbrev split_as : (x : ℕ) (xs : Text) → name_and_value (x ∷ xs) ≡ (x ∷ xs, None) → ((v : Text) → name_and_value (x ∷ (xs ++ 61 ∷ v)) ≡ (x ∷ xs, Some v)) → IsSplit (x ∷ xs)
split_as x xs a b = record { x = x; xs = xs; is = refl; alone = a; before = b }

option_split : (name : Text) → IsTrue (is_one_of name option_names) → IsSplit name
option_split name among = one_of IsSplit option_names name (
  split_as 103 (codes "ap") refl (λ v. refl),
  (
    split_as 115 (codes "weeps") refl (λ v. refl),
    (
      split_as 101 (codes "liminate") refl (λ v. refl),
      (
        split_as 102 (codes "ormat") refl (λ v. refl),
        (
          split_as 110 (codes "umber") refl (λ v. refl),
          (split_as 115 (codes "treams") refl (λ v. refl), tt),
        ),
      ),
    ),
  ),
) among

flag_split : (name : Text) → IsTrue (is_one_of name flag_names) → IsSplit name
flag_split name among = one_of IsSplit flag_names name (split_as 116 (codes "ests") refl (λ v. refl), (split_as 115 (codes "ummary") refl (λ v. refl), tt)) among

-- where the walk stands after these parts
pub record Stands (parts : List Part) (w : Walk) : Type 0 where
  pub front : List Part
  pub last : Last
  pub position : ℕ
  pub is : w ≡ walk_at front last position
  pub are : parts ≡ all_parts front last
  pub known : IsKnownLast last
  pub fresh : IsFresh front last
  pub first : is_mentioned (codes "mode") parts ≡ false → (1 == position) ≡ true

-- the walk goes over these words and then stands after these parts
pub record Goes (w : Walk) (words : List Text) (parts : List Part) : Type 0 where
  pub after : Walk
  pub faultless : (rest : List Text) → walk_fault shape [] w (words ++ rest) ≡ walk_fault shape [] after rest
  pub goes : (rest : List Text) → fold (walked rules_in []) w (words ++ rest) ≡ fold (walked rules_in []) after rest
  pub stands : Stands parts after

word_goes : (w : Walk) (word : Text) (parts : List Part) → turn_fault shape [] w word ≡ [] → Stands parts (walked rules_in [] w word) → Goes w (word ∷ []) parts
unfolding walk_fault
word_goes w word parts turn stands = record {
  after = walked rules_in [] w word;
  faultless = λ rest. ap (λ k. or_else k (walk_fault shape [] (walked rules_in [] w word) rest)) turn;
  goes = λ rest. refl;
  stands = stands;
}

named_last : (name : Text) (parts : List Part) (p : Part) → is_mentioned name (parts ++ p ∷ []) ≡ false → (is_mentioned name parts ≡ false) × (bytes_eq (name_of p) name ≡ false)
named_last name [] p e = (refl, (neither (bytes_eq (name_of p) name) false e).0)
named_last name (x ∷ xs) p e =
    let parts = neither (bytes_eq (name_of x) name) (is_mentioned name (xs ++ p ∷ [])) e in
    let rest = named_last name xs p parts.1 in
    (rw parts.0 rest.0, rest.1)

-- a use that a word makes at once
use_goes : (parts : List Part) (front : List Part) (last : Last) (position : ℕ) (p : Part) (a : Rule) (values : List Text) (word : Text) → IsUseOf a values p
    → parts ≡ all_parts front last → IsKnownLast last → IsFresh front last → (is_mentioned (codes "mode") parts ≡ false → (1 == position) ≡ true)
    → is_mentioned (name_of p) parts ≡ false
    → turn_fault shape [] (walk_at front last position) word ≡ or_else (react_fault rules_in false a values (held_at front last)) []
    → walked rules_in [] (walk_at front last position) word ≡ at (reacted rules_in a values (held_at front last)) idle position
    → Goes (walk_at front last position) (word ∷ []) (parts ++ p ∷ [])
use_goes parts front last position p a values word made are known fresh first once turn steps =
    let new : is_mentioned (name_of p) (all_parts front last) ≡ false = ap (is_mentioned (name_of p)) (sym are) ∙ once in
    word_goes (walk_at front last position) word (parts ++ p ∷ [])
    (turn ∙ both_empty _ _ (use_passes_here a values p made front last known position fresh new) refl)
    (record {
      front = all_parts front last ++ p ∷ [];
      last = nothing;
      position = position;
      is = steps ∙ use_walk a values p made front last known position fresh new;
      are = ap (λ (l : List Part). l ++ p ∷ []) are ∙ sym (append-nil (all_parts front last ++ p ∷ []));
      known = tt;
      fresh = tt;
      first = λ e. first (named_last (codes "mode") parts p e).0;
    })

module _ (parts : List Part) (front : List Part) (last : Last) (position : ℕ) (are : parts ≡ all_parts front last) (known : IsKnownLast last) (fresh : IsFresh front last)
    (first : is_mentioned (codes "mode") parts ≡ false → (1 == position) ≡ true) where
  joined_goes : (name v : Text) → IsTrue (is_one_of name option_names) → is_mentioned name parts ≡ false → Goes (walk_at front last position) (words_of (joined name v)) (parts ++ joined name v ∷ [])
  joined_goes name v among once =
      let s = option_split name among in
      let found = option_by_long name among in
      let word : Text = 45 ∷ 45 ∷ s.x ∷ (s.xs ++ 61 ∷ v) in
      let form : word ∷ [] ≡ words_of (joined name v) = ap (λ (n : Text). (45 ∷ 45 ∷ (n ++ 61 ∷ v)) ∷ []) (sym s.is) in
      subst (λ (ws : List Text). Goes (walk_at front last position) ws (parts ++ joined name v ∷ [])) form
      (use_goes parts front last position (joined name v) (built_option name) (v ∷ []) word (option_use name v) are known fresh first once
      (turn_of (held_at front last) (waiting_of last) position s.x (s.xs ++ 61 ∷ v) name (Some v) (Some (built_option name)) (s.before v) found)
      (step_of (held_at front last) (waiting_of last) position s.x (s.xs ++ 61 ∷ v) name (Some v) (Some (built_option name)) (s.before v) found))

  flag_goes : (name : Text) → IsTrue (is_one_of name flag_names) → is_mentioned name parts ≡ false → Goes (walk_at front last position) (words_of (flag name)) (parts ++ flag name ∷ [])
  flag_goes name among once =
      let s = flag_split name among in
      let found = flag_by_long name among in
      let form : (45 ∷ 45 ∷ s.x ∷ s.xs) ∷ [] ≡ words_of (flag name) = ap (λ (n : Text). (45 ∷ 45 ∷ n) ∷ []) (sym s.is) in
      subst (λ (ws : List Text). Goes (walk_at front last position) ws (parts ++ flag name ∷ [])) form
      (use_goes parts front last position (flag name) (built_flag name) [] (45 ∷ 45 ∷ s.x ∷ s.xs) (flag_use name) are known fresh first once
      (turn_of (held_at front last) (waiting_of last) position s.x s.xs name None (Some (built_flag name)) s.alone found)
      (step_of (held_at front last) (waiting_of last) position s.x s.xs name None (Some (built_flag name)) s.alone found))

  apart_goes : (name v : Text) → IsTrue (is_one_of name option_names) → has_hyphen v ≡ false → is_mentioned name parts ≡ false
      → Goes (walk_at front last position) (words_of (apart name v)) (parts ++ apart name v ∷ [])
  unfolding walk_fault
  apart_goes name v among plain once =
      let s = option_split name among in
      let found = option_by_long name among in
      let here = walk_at front last position in
      let word : Text = 45 ∷ 45 ∷ s.x ∷ s.xs in
      let waits = walk_at (all_parts front last) (waits_for name) position in
      let turn : turn_fault shape [] here word ≡ [] =
      turn_of (held_at front last) (waiting_of last) position s.x s.xs name None (Some (built_option name)) s.alone found ∙ both_empty _ _ (settle_passes front last known fresh) refl in
      let steps : walked rules_in [] here word ≡ waits = step_of (held_at front last) (waiting_of last) position s.x s.xs name None (Some (built_option name)) s.alone found
      ∙ ap (λ (rows : List Row). at (record { rows = rows; pending = Some (name, []); skip = 0 }) (option name) position) (settled_rows_are front last known fresh) in
      let after = walk_at (all_parts front last) (has_value name v) position in
      let last_steps : walked rules_in [] waits v ≡ after = value_walk (all_parts front last) name v position among plain in
      let form : word ∷ v ∷ [] ≡ words_of (apart name v) = ap (λ (n : Text). (45 ∷ 45 ∷ n) ∷ v ∷ []) (sym s.is) in
      subst (λ (ws : List Text). Goes here ws (parts ++ apart name v ∷ [])) form
      (record {
        after = after;
        faultless = λ rest. ap (λ k. or_else k (walk_fault shape [] (walked rules_in [] here word) (v ∷ rest))) turn
            ∙ (ap (λ (w : Walk). walk_fault shape [] w (v ∷ rest)) steps
            ∙ (ap (λ k. or_else k (walk_fault shape [] (walked rules_in [] waits v) rest)) (plain_waits (held_at (all_parts front last) (waits_for name)) name position v plain)
            ∙ ap (λ (w : Walk). walk_fault shape [] w rest) last_steps));
        goes = λ rest. ap (λ (w : Walk). fold (walked rules_in []) w (v ∷ rest)) steps ∙ ap (λ (w : Walk). fold (walked rules_in []) w rest) last_steps;
        stands = record {
          front = all_parts front last;
          last = has_value name v;
          position = position;
          is = refl;
          are = ap (λ (l : List Part). l ++ apart name v ∷ []) are;
          known = (among, plain);
          fresh = ap (is_mentioned name) (sym are) ∙ once;
          first = λ e. first (named_last (codes "mode") parts (apart name v) e).0;
        };
      })

  mode_goes_on : (word : Text) → has_hyphen word ≡ false → is_mentioned (codes "mode") parts ≡ false
      → turn_fault shape [] (walk_at front last position) word ≡ step_fault shape position (held_at front last) value
      → walked rules_in [] (walk_at front last position) word ≡ to_positional rules_in (arg_by_index rules_in position) word (walk_at front last position) (held_at front last)
      → Goes (walk_at front last position) (words_of (mode word)) (parts ++ mode word ∷ [])
  mode_goes_on word plain once turn steps =
      let found = index_there position (first once) in
      word_goes (walk_at front last position) word (parts ++ mode word ∷ [])
      (turn ∙ (mode_fault front last known position word found ∙ settle_passes front last known fresh))
      (record {
        front = all_parts front last;
        last = mode_word word;
        position = next_position built_mode position;
        is = steps ∙ (ap (λ (o : Option Rule). to_positional rules_in o word (walk_at front last position) (held_at front last)) found
            ∙ mode_walk front last known position word fresh);
        are = ap (λ (l : List Part). l ++ mode word ∷ []) are;
        known = plain;
        fresh = ap (is_mentioned (codes "mode")) (sym are) ∙ once;
        first = λ e. absurd (true≢false (named_last (codes "mode") parts (mode word) e).1);
      })

mode_goes : (parts front : List Part) (last : Last) (position : ℕ) → parts ≡ all_parts front last → IsKnownLast last → IsFresh front last
    → (is_mentioned (codes "mode") parts ≡ false → (1 == position) ≡ true) → (word : Text) → has_hyphen word ≡ false → is_mentioned (codes "mode") parts ≡ false
    → Goes (walk_at front last position) (words_of (mode word)) (parts ++ mode word ∷ [])
mode_goes parts front nothing position are known fresh first word plain once =
    mode_goes_on parts front nothing position are known fresh first word plain once (plain_idle (held_at front nothing) position word plain)
    (idle_walk (held_at front nothing) position word plain)
mode_goes parts front (mode_word before) position are known fresh first word plain once =
    mode_goes_on parts front (mode_word before) position are known fresh first word plain once (plain_idle (held_at front (mode_word before)) position word plain)
    (idle_walk (held_at front (mode_word before)) position word plain)
mode_goes parts front (has_value name v) position are known fresh first word plain once =
    mode_goes_on parts front (has_value name v) position are known fresh first word plain once (plain_idle (held_at front (has_value name v)) position word plain)
    (idle_walk (held_at front (has_value name v)) position word plain)
mode_goes parts front (waits_for name) position are known fresh first word plain once = absurd fresh

part_goes : (parts : List Part) (w : Walk) (p : Part) → Stands parts w → IsKnownPart p → is_mentioned (name_of p) parts ≡ false → Goes w (words_of p) (parts ++ p ∷ [])
part_goes parts w (mode word) s known once = subst (λ (v : Walk). Goes v (words_of (mode word)) (parts ++ mode word ∷ [])) (sym s.is)
    (mode_goes parts s.front s.last s.position s.are s.known s.fresh s.first word known once)
part_goes parts w (flag name) s known once = subst (λ (v : Walk). Goes v (words_of (flag name)) (parts ++ flag name ∷ [])) (sym s.is)
    (flag_goes parts s.front s.last s.position s.are s.known s.fresh s.first name known once)
part_goes parts w (apart name v) s known once = subst (λ (w : Walk). Goes w (words_of (apart name v)) (parts ++ apart name v ∷ [])) (sym s.is)
    (apart_goes parts s.front s.last s.position s.are s.known s.fresh s.first name v known.0 known.1 once)
part_goes parts w (joined name v) s known once = subst (λ (w : Walk). Goes w (words_of (joined name v)) (parts ++ joined name v ∷ [])) (sym s.is)
    (joined_goes parts s.front s.last s.position s.are s.known s.fresh s.first name v known once)

-- and over the words of all parts
pub walk_goes : (rest parts : List Part) (w : Walk) → Stands parts w → All IsKnownPart rest → EachOnce (parts ++ rest)
    → (walk_fault shape [] w (words_of_parts rest) ≡ []) × Stands (parts ++ rest) (fold (walked rules_in []) w (words_of_parts rest))
unfolding walk_fault
walk_goes [] parts w s known once = (refl, subst (λ (l : List Part). Stands l w) (sym (append-nil parts)) s)
walk_goes (p ∷ rest) parts w s known once =
    let g = part_goes parts w p s (known 0 p (omega arith)) (once parts rest p refl) in
    let next = walk_goes rest (parts ++ p ∷ []) g.after g.stands (λ k d lt. known (suc k) d (omega arith)) (subst EachOnce (sym (append_assoc parts (p ∷ []) rest)) once) in (
      g.faultless (words_of_parts rest) ∙ next.0,
      subst (λ (l : List Part). Stands l (fold (walked rules_in []) w (words_of p ++ words_of_parts rest))) (append_assoc parts (p ∷ []) rest)
          (subst (Stands ((parts ++ p ∷ []) ++ rest)) (sym (g.goes (words_of_parts rest))) next.1),
    )
