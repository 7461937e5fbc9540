-- The end of `clap`'s walk, and the law that its reading of the words agrees with the parts of the line.
use Rattle.std.proofs.Common.{◌≡◌, ◌∙◌, ◌||◌, ◌&&◌, ◌==◌, length, arith, ℕ, zero, suc, Bool, cond, true, false, refl, sym, ap, ap₂, subst, IsTrue, fold, All, List, [], ◌∷◌, ◌++◌, map, Option, Some, None, option_and_then, codes}
use Rattle.std.specs.List.{list_all}
use Rattle.std.specs.Prelude.{slice_get}
use Rattle.std.specs.Str.{bytes_eq}
use Rattle.std.proofs.lemmas.List.Elements.{All-nil}
use Rattle.std.proofs.lemmas.Slice.Eq.{bytes_eq-Decides}
use Rattle.clap.specs.Kinds.{or_else}
use Rattle.clap.specs.declared.builder.value_parser.Reading.TheVariants.{AsWritten}
use Rattle.clap.specs.declared.parser.matches.ValueSource.TheVariants.{DefaultValue}
use Rattle.std.proofs.lemmas.List.Folds.{list_all-append}
use Rattle.clap.specs.Walk.{Held, Row, Rule, Text, Walk, finished, first_of, has_row, nothing_held, rows_of, settled, walk_from, walked, with_default, with_values}
use Rattle.clap.specs.Simple.{built, matches_of}
use Rattle.clap.specs.Faults.{check_fault, default_fault, defaults_fault, fault_of, given_default_fault, settle_fault, walk_fault}
use Rattle.clap.proofs.FaultLemmas.{leaf_fault}
use Rattle.clap.proofs.WalkLemmas.{both, first_value-rows}
use Rattle.clap.specs.Matches.{first_value}
use Rattle.clap.specs.declared.parser.matches.Found.{Found}
use Rattle.pb_words.specs.Laws.{ArePartsOf}
use Rattle.pb_words.specs.Parts.{Part, mode, flag, apart, joined, IsKnownPart, has_hyphen, is_one_of, option_names, flag_names, words_of}
use Rattle.pb_words.specs.Given.{Given, given_by, given_of, is_true}
use Rattle.pb_words.specs.Line.{IsGivenByClap, given_in, is_plain_or_named, line}
use Rattle.pb_words.proofs.OnceLemmas.{EachOnce, distinct_names, each_once, words_of_parts}
use Rattle.pb_words.proofs.RowLemmas.{find_last, find_none, find_past, new_values, row_of, said_row}
use Rattle.pb_words.proofs.StepLemmas.{IsFresh, IsKnownLast, Last, nothing, all_parts, both_empty, built_flag, built_mode, built_option, first_empty, one_of, rules_in, settle_first, settle_passes, settled_rows_are, shape, walk_at}
use Rattle.pb_words.proofs.WalkLemmas.{Standing, all_line, known_all, never_empty, once_all, walk_back}
use Rattle.pb_words.proofs.PartLemmas.{Stands, walk_goes}

-- ---- defaults

no_default_fault : (rows : List Row) (a : Rule) → given_default_fault a a.defaults ≡ [] → default_fault rows a ≡ []
no_default_fault rows a e = go (has_row a.id rows || (length a.defaults == 0))
  where
    go : (b : Bool) → cond b [] (given_default_fault a a.defaults) ≡ []
    go true = refl
    go false = e

abbrev EachRule : (Rule → Type 0) → List Rule → Type 0
EachRule P [] = Unit {0}
EachRule P (a ∷ rest) = P a × EachRule P rest

no_defaults_fault : (rules : List Rule) (rows : List Row) → EachRule (λ a. given_default_fault a a.defaults ≡ []) rules → defaults_fault rows rules ≡ []
unfolding defaults_fault
no_defaults_fault [] rows each = refl
no_defaults_fault (a ∷ rest) rows each = both_empty _ _ (no_default_fault rows a each.0) (no_defaults_fault rest (with_default rows a) each.1)

rules_default : EachRule (λ a. given_default_fault a a.defaults ≡ []) rules_in
rules_default = (refl, (refl, (refl, (refl, (refl, (refl, (refl, (refl, (refl, tt)))))))))

-- a flag that isn't given gets a row that says `false`, and no other argument gets a row
abbrev false_row : Text → Row
false_row name = record { id = name; values = codes "false" ∷ []; count = None; source = Some DefaultValue; reading = AsWritten }

abbrev with_flag : Text → List Row → List Row
with_flag name rows = cond (has_row name rows) rows (rows ++ false_row name ∷ [])

cond_same : {X : Type 0} (b : Bool) (x : X) → cond b x x ≡ x
cond_same true x = refl
cond_same false x = refl

flag_default : (name : Text) (rows : List Row) → with_default rows (built_flag name) ≡ with_flag name rows
flag_default name rows = go (has_row name rows) refl
  where
    go : (b : Bool) → has_row name rows ≡ b → cond b rows (with_values name AsWritten DefaultValue (codes "false" ∷ []) rows) ≡ cond b rows (rows ++ false_row name ∷ [])
    go true is = refl
    go false is = new_values name AsWritten DefaultValue (codes "false" ∷ []) rows is

option_default : (name : Text) (rows : List Row) → with_default rows (built_option name) ≡ rows
option_default name rows = cond_same (has_row name rows) rows

mode_default : (rows : List Row) → with_default rows built_mode ≡ rows
mode_default rows = cond_same (has_row (codes "mode") rows) rows

finished_is : (h : Held) → finished rules_in h ≡ with_flag (codes "summary") (with_flag (codes "tests") (settled rules_in h).rows)
finished_is h =
    let r = (settled rules_in h).rows in
    let m = mode_default r in
    let four : with_default (with_default (with_default (with_default (with_default r built_mode) (built_option (codes "gap"))) (built_option (codes "sweeps")))
    (built_option (codes "eliminate"))) (built_option (codes "format")) ≡ r =
    option_default (codes "format") _ ∙ (option_default (codes "eliminate") _ ∙ (option_default (codes "sweeps") _ ∙ (option_default (codes "gap") _ ∙ m))) in
    ap (λ (rows : List Row). with_default (with_default (with_default (with_default rows (built_flag (codes "tests"))) (built_option (codes "number"))) (built_option (codes "streams")))
    (built_flag (codes "summary"))) four
    ∙ (ap (λ (rows : List Row). with_default rows (built_flag (codes "summary")))
    (option_default (codes "streams") _ ∙ (option_default (codes "number") _ ∙ flag_default (codes "tests") r))
    ∙ flag_default (codes "summary") (with_flag (codes "tests") r))

-- ---- what is given

abbrev first_text : Option Row → Option Text
first_text = option_and_then (λ r. slice_get r.values 0)

flag_past : (name id : Text) (rows : List Row) → bytes_eq name id ≡ false → first_of id (with_flag name rows) ≡ first_of id rows
flag_past name id rows other = go (has_row name rows)
  where
    go : (b : Bool) → first_of id (cond b rows (rows ++ false_row name ∷ [])) ≡ first_of id rows
    go true = refl
    go false = ap first_text (find_past (λ (r : Row). bytes_eq r.id id) rows (false_row name) other)

flag_read : (name : Text) (rows : List Row) → is_true (first_of name (with_flag name rows)) ≡ is_true (first_of name rows)
flag_read name rows = go (has_row name rows) refl
  where
    go : (b : Bool) → has_row name rows ≡ b → is_true (first_of name (cond b rows (rows ++ false_row name ∷ []))) ≡ is_true (first_of name rows)
    go true is = refl
    go false is =
        ap (λ o. is_true (first_text o)) (find_last (λ (r : Row). bytes_eq r.id name) rows (false_row name) is ((bytes_eq-Decides name name).1 refl))
        ∙ sym (ap (λ o. is_true (first_text o)) (find_none (λ (r : Row). bytes_eq r.id name) rows is))

given_finished : (rows : List Row) → given_in (with_flag (codes "summary") (with_flag (codes "tests") rows)) ≡ given_in rows
given_finished rows =
    let past : (id : Text) → bytes_eq (codes "summary") id ≡ false → bytes_eq (codes "tests") id ≡ false
    → first_of id (with_flag (codes "summary") (with_flag (codes "tests") rows)) ≡ first_of id rows =
    λ id s t. flag_past (codes "summary") id (with_flag (codes "tests") rows) s ∙ flag_past (codes "tests") id rows t in
    let mode = past (codes "mode") refl refl in
    let gap = past (codes "gap") refl refl in
    let sweeps = past (codes "sweeps") refl refl in
    let eliminate = past (codes "eliminate") refl refl in
    let form = past (codes "format") refl refl in
    let number = past (codes "number") refl refl in
    let streams = past (codes "streams") refl refl in
    let tests = ap is_true (flag_past (codes "summary") (codes "tests") (with_flag (codes "tests") rows) refl) ∙ flag_read (codes "tests") rows in
    let summary = flag_read (codes "summary") (with_flag (codes "tests") rows) ∙ ap is_true (flag_past (codes "tests") (codes "summary") rows refl) in
    λ i. record {
      mode = mode i;
      gap = gap i;
      sweeps = sweeps i;
      eliminate = eliminate i;
      format = form i;
      number = number i;
      streams = streams i;
      tests = tests i;
      summary = summary i;
    }

given_said : (parts : List Part) → given_in (map row_of parts) ≡ given_by parts
given_said parts = λ i. given_of (λ name. said_row name parts i)

given_at : (front : List Part) (last : Last) (position : ℕ) (w : Walk) → w ≡ walk_at front last position → IsKnownLast last → IsFresh front last
    → given_in (finished rules_in w.held) ≡ given_by (all_parts front last)
given_at front last position w is known fresh =
    ap given_in (finished_is w.held)
    ∙ (given_finished (settled rules_in w.held).rows
    ∙ (ap (λ (v : Walk). given_in (settled rules_in v.held).rows) is
    ∙ (ap given_in (settled_rows_are front last known fresh) ∙ given_said (all_parts front last))))

-- ---- words of a known form

plain_formed : (word : Text) → has_hyphen word ≡ false → is_plain_or_named word ≡ true
plain_formed [] e = refl
plain_formed (a ∷ []) e = rw e refl
plain_formed (a ∷ b ∷ []) e = rw e refl
plain_formed (a ∷ b ∷ x ∷ xs) e = rw e refl

option_formed : (name : Text) → IsTrue (is_one_of name option_names) → is_plain_or_named (codes "--" ++ name) ≡ true
option_formed name among =
    one_of (λ n. is_plain_or_named (codes "--" ++ n) ≡ true) option_names name (refl, (refl, (refl, (refl, (refl, (refl, tt)))))) among

joined_formed : (name v : Text) → IsTrue (is_one_of name option_names) → is_plain_or_named (codes "--" ++ (name ++ 61 ∷ v)) ≡ true
joined_formed name v among =
    one_of (λ n. is_plain_or_named (codes "--" ++ (n ++ 61 ∷ v)) ≡ true) option_names name (refl, (refl, (refl, (refl, (refl, (refl, tt)))))) among

flag_formed : (name : Text) → IsTrue (is_one_of name flag_names) → is_plain_or_named (codes "--" ++ name) ≡ true
flag_formed name among = one_of (λ n. is_plain_or_named (codes "--" ++ n) ≡ true) flag_names name (refl, (refl, tt)) among

part_formed : (p : Part) → IsKnownPart p → list_all is_plain_or_named (words_of p) ≡ true
part_formed (mode word) known = ap (λ b. b && true) (plain_formed word known)
part_formed (flag name) known = ap (λ b. b && true) (flag_formed name known)
part_formed (apart name v) known = ap₂ (λ a b. a && (b && true)) (option_formed name known.0) (plain_formed v known.1)
part_formed (joined name v) known = ap (λ b. b && true) (joined_formed name v known)

line_formed : (parts : List Part) → All IsKnownPart parts → list_all is_plain_or_named (words_of_parts parts) ≡ true
line_formed [] known = refl
line_formed (p ∷ rest) known =
    list_all-append is_plain_or_named (words_of p) (words_of_parts rest)
    ∙ ap₂ (λ a b. a && b) (part_formed p (known 0 p (omega arith))) (line_formed rest (λ k d lt. known (suc k) d (omega arith)))

-- ---- the law

abbrev end_of : List Text → Walk
end_of words = fold (walked rules_in []) (walk_from nothing_held) words

fault_is : (words : List Text) → fault_of line words
    ≡ or_else (walk_fault shape [] (walk_from nothing_held) words) (or_else (settle_fault rules_in false (end_of words).held)
    (or_else (defaults_fault (settled rules_in (end_of words).held).rows rules_in) (check_fault shape (finished rules_in (end_of words).held) false)))
fault_is words = leaf_fault (built line) nothing_held words refl

-- what clap accepts is the line of parts, and clap gives what they give
pub parts_of_taken : (words : List Text) (given : Given) → IsGivenByClap words given → (parts : List Part) × ArePartsOf parts words × (given ≡ given_by parts)
parts_of_taken words given taken =
    let e = sym (fault_is words) ∙ taken.taken in
    let walks = first_empty (walk_fault shape [] (walk_from nothing_held) words) _ e in
    let settles = first_empty (settle_fault rules_in false (end_of words).held) _ walks.1 in
    let s = walk_back words [] (walk_from nothing_held) standing taken.formed walks.0 in
    let fresh = settle_first s.front s.last s.known_last (ap (λ (w : Walk). settle_fault rules_in false w.held) (sym s.is) ∙ settles.0) in (
      all_parts s.front s.last,
      (
        s.words ∙ sym (all_line s.front s.last fresh),
        known_all s.front s.last fresh s.known_last s.known,
        distinct_names (all_parts s.front s.last) (once_all s.front s.last fresh s.once),
      ),
      taken.is ∙ given_at s.front s.last s.position (end_of words) s.is s.known_last fresh,
    )
  where
    standing : Standing [] (walk_from nothing_held)
    standing = record {
      front = [];
      last = nothing;
      position = 1;
      is = refl;
      words = refl;
      known_last = tt;
      known = All-nil IsKnownPart;
      once = λ before after part e. absurd (never_empty before after part e);
    }

taken_of_line : (parts : List Part) → All IsKnownPart parts → EachOnce parts → IsGivenByClap (words_of_parts parts) (given_by parts)
taken_of_line parts known once =
    let g = walk_goes parts [] (walk_from nothing_held) stands known once in
    let s = g.1 in
    let end = end_of (words_of_parts parts) in
    let settles = ap (λ (w : Walk). settle_fault rules_in false w.held) s.is ∙ settle_passes s.front s.last s.known s.fresh in
    record {
      formed = line_formed parts known;
      taken = fault_is (words_of_parts parts) ∙ both_empty _ _ g.0 (both_empty _ _ settles (both_empty _ _ (no_defaults_fault rules_in _ rules_default) refl));
      is = ap given_by s.are ∙ sym (given_at s.front s.last s.position end s.is s.known s.fresh);
    }
  where
    stands : Stands [] (walk_from nothing_held)
    stands = record { front = []; last = nothing; position = 1; is = refl; are = refl; known = tt; fresh = tt; first = λ e. refl }

-- and clap accepts the line of each list of known parts that say each thing once
pub taken_of_parts : (parts : List Part) (words : List Text) → ArePartsOf parts words → IsGivenByClap words (given_by parts)
taken_of_parts parts words are = subst (λ (ws : List Text). IsGivenByClap ws (given_by parts)) (sym are.0) (taken_of_line parts are.1 (each_once parts are.2))

-- ---- in the words of the code

-- each of these texts is of a known form iff all are
pub all_formed : {X : Type 0} (f : X → Text) (xs : List X) → All (λ x. IsTrue (is_plain_or_named (f x))) xs → IsTrue (list_all is_plain_or_named (map f xs))
all_formed f [] each = refl
all_formed f (x ∷ xs) each = ap₂ (λ a b. a && b) (each 0 x (omega arith)) (all_formed f xs (λ k d lt. each (suc k) d (omega arith)))

pub each_formed : {X : Type 0} (f : X → Text) (xs : List X) → IsTrue (list_all is_plain_or_named (map f xs)) → All (λ x. IsTrue (is_plain_or_named (f x))) xs
each_formed f [] e k d lt = absurd (omega arith)
each_formed f (x ∷ xs) e zero d lt = (both (is_plain_or_named (f x)) _ e).0
each_formed f (x ∷ xs) e (suc k) d lt = each_formed f xs (both (is_plain_or_named (f x)) _ e).1 k d (omega arith)

-- what is found for each name is what the rows give
pub found_given : (f : Found) (words : List Text) → rows_of f ≡ matches_of line words → given_of (first_value f) ≡ given_in (matches_of line words)
found_given f words rows =
    let named : given_of (first_value f) ≡ given_in (rows_of f) = λ i. given_of (λ name. first_value-rows f name i) in
    named ∙ ap given_in rows
