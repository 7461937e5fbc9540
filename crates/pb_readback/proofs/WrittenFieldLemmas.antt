-- What a single written field reads as: numbers, words of tables and names.
use Rattle.std.specs.Prelude.{◌==◌, ◌-◌, neg_ℤ, unsigned_abs, int_le, ◌≤ℤ◌, AllPairs, IfSome, option_and_then}
use Rattle.std.specs.Cmp.Lexicographic.{bytes_decides}
use Rattle.std.specs.Option.{unwrap_or}
use Rattle.std.proofs.Common.{◌≡◌, ◌∙◌, ℕ, ℤ, pos, suc, ◌+◌, ◌<◌, ◌≤◌, List, [], ◌∷◌, ◌++◌, length, get_or, Bool, true, false, Option, None, Some, refl, sym, ap, subst, arith, inl, inr, append_assoc, length-append}
use Rattle.std.proofs.lemmas.Bool.{cases_Bool, ne_eqb}
use Rattle.std.proofs.lemmas.Int.{ints}
use Rattle.std.proofs.lemmas.List.{get_or_append_left}
use Rattle.std.proofs.Math.Seq.{get_or-append_seam}
use Rattle.std.proofs.lemmas.List.Folds.{list_any_at, list_any_none}
use Rattle.std.proofs.lemmas.List.Sums.{position_or_len_is}
use Rattle.pb_rows.specs.Name.{same_name}
use Rattle.pb_rows.specs.Number.{number, whole_text, within}
use Rattle.pb_rows.specs.Texts.{HaveOneNumberText}
use Rattle.pb_report.specs.Names.{name_at}
use Rattle.pb_report.specs.Row.{value_or_none}
use Rattle.pb_form.specs.Holds.{Number as NumberColumn, Word as WordColumn}
use Rattle.pb_form.specs.TextLaws.{TextLaw}
use Rattle.pb_form.specs.Value.{Number, Word}
use Rattle.pb_form.specs.Values.{number_in, word_in}
use Rattle.pb_form.specs.Words.{class_words, shape_words, state_words, verdict_words}
use Rattle.pb_form.specs.Writing.{FitsIn}
use Rattle.pb_choices.specs.Places.{IsWordTable, class_place, placed_class, placed_shape, placed_truth, placed_verdict, shape_place, truth_place, verdict_place}
use Rattle.pb_blocks.specs.Lists.{is_among, place_of}

-- ---- numbers

-- no byte
abbrev pub is_empty : List ℕ → Bool
is_empty text = length text == 0

pub some_byte : (byte : ℕ) (text : List ℕ) → is_empty (byte ∷ text) ≡ false
some_byte byte text = ne_eqb (length (byte ∷ text)) 0 (λ e. omega (arith, e))

-- a text that reads as a number isn't empty
filled : (text : List ℕ) (z : ℤ) → number text ≡ Some z → is_empty text ≡ false
filled [] z reads = cc reads
filled (byte ∷ text) z reads = some_byte byte text

pub not_blank : HaveOneNumberText → (z : ℤ) → is_empty (whole_text z) ≡ false
not_blank texts z = filled (whole_text z) z (texts.read z)

-- a number that is there or isn't
pub number_back : (o : Option ℤ) → number_in (value_or_none Number o) ≡ o
number_back None = refl
number_back (Some z) = refl

-- ---- values that fit

-- within its range
abbrev pub IsBetween : ℤ → ℤ → ℤ → Type 0
IsBetween lo hi z = (lo ≤ℤ z) × (z ≤ℤ hi)

pub number_fits : (lo hi : ℤ) (o : Option ℤ) → IfSome o (IsBetween lo hi) → FitsIn (NumberColumn lo hi) true (value_or_none Number o)
number_fits lo hi None h = refl
number_fits lo hi (Some z) h = h

-- the word of a value of a table
pub word_fits : {A : Type 0} (words : List (List ℕ)) (place_of : A → ℕ) (placed : ℕ → Option A) → IsWordTable words place_of placed → (value : A)
    → FitsIn (WordColumn words) false (Word (place_of value))
word_fits words place_of placed table value = (table.word value, refl)

-- reading it back gives the value
pub word_back : {A : Type 0} (words : List (List ℕ)) (place_of : A → ℕ) (placed : ℕ → Option A) → IsWordTable words place_of placed → (value other : A)
    → unwrap_or (option_and_then placed (word_in (Word (place_of value)))) other ≡ value
word_back {A = A} words place_of placed table value other = ap (λ (o : Option A). unwrap_or o other) (table.there value)

-- the laws that rows are read back by
pub record AreWritten : Type 0 where
  pub texts : TextLaw
  pub numbers : HaveOneNumberText
  pub classes : IsWordTable class_words class_place placed_class
  pub shapes : IsWordTable shape_words shape_place placed_shape
  pub states : IsWordTable state_words truth_place placed_truth
  pub verdicts : IsWordTable verdict_words verdict_place placed_verdict

-- ---- names

pub same_self : (name : List ℕ) → same_name name name ≡ true
same_self name = (bytes_decides name name).1 refl

pub same_sym : (a b : List ℕ) → same_name a b ≡ false → same_name b a ≡ false
same_sym a b apart = elim (cases_Bool (same_name b a)) [
  | inl same ↦ cc (sym apart ∙ (bytes_decides a b).1 (sym ((bytes_decides b a).0 same)))
  | inr other ↦ other
]

-- no two names are the same
abbrev pub AreApart : List (List ℕ) → Type 0
AreApart names = AllPairs (λ one other. same_name one other ≡ false) names

pub among_at : (names : List (List ℕ)) (i : ℕ) → i < length names → is_among names (name_at names i) ≡ true
among_at names i lt = list_any_at (same_name (name_at names i)) names i [] lt (same_self (name_at names i))

pub place_at : (names : List (List ℕ)) (i : ℕ) → AreApart names → i < length names → place_of names (name_at names i) ≡ i
place_at names i apart lt =
    position_or_len_is (same_name (name_at names i)) names i [] (omega (arith, lt))
    (λ k below. same_sym (name_at names k) (name_at names i) (apart k i [] below lt))
    (λ h. same_self (name_at names i))

-- names that are not among those before them
abbrev pub AreNew : List (List ℕ) → List (List ℕ) → Type 0
AreNew done [] = Unit {0}
AreNew done (name ∷ names) = (is_among done name ≡ false) × AreNew (done ++ name ∷ []) names

pub new_from : (done names : List (List ℕ)) → AreApart (done ++ names) → AreNew done names
new_from done [] apart = tt
new_from done (name ∷ names) apart = (
  list_any_none (same_name name) done (λ k d lt. same_sym (get_or done k d) name (first k d lt)),
  new_from (done ++ name ∷ []) names (subst AreApart (sym (append_assoc done (name ∷ []) names)) apart),
)
  where
    first : (k : ℕ) (d : List ℕ) → k < length done → same_name (get_or done k d) name ≡ false
    first k d lt =
        let whole : length (done ++ name ∷ names) ≡ length done + suc (length names) = length-append done (name ∷ names) in
        let apart_at = apart k (length done) d lt (omega (arith, whole)) in
        let left : get_or (done ++ name ∷ names) k d ≡ get_or done k d = get_or_append_left done (name ∷ names) d k lt in
        let right : get_or (done ++ name ∷ names) (length done) d ≡ name = get_or-append_seam done name names d in
        rw (left, right) at apart_at

-- ---- ranges

pub abs_between : (most : ℕ) (z : ℤ) → unsigned_abs z ≤ most → IsBetween (neg_ℤ (pos most)) (pos most) z
abs_between most z le = (omega (arith, ints, le), omega (arith, ints, le))

pub under_between : (bound : ℕ) (z : ℤ) → unsigned_abs z < bound → IsBetween (neg_ℤ (pos (bound - 1))) (pos (bound - 1)) z
under_between bound z lt = abs_between (bound - 1) z (omega (arith, lt))

pub count_between : (lo hi n : ℕ) → lo ≤ n → n ≤ hi → IsBetween (pos lo) (pos hi) (pos n)
count_between lo hi n least most = (omega (arith, ints, least), omega (arith, ints, most))

le_true : (a b : ℤ) → a ≤ℤ b → int_le a b ≡ true
le_true a b h = grind (arith, ints)

pub within_back : (lo hi z : ℤ) → IsBetween lo hi z → within lo hi (Some z) ≡ Some z
within_back lo hi z h = rw (le_true lo z h.0, le_true z hi h.1) refl

pub le_count : (a b : ℕ) → a ≤ b → int_le (pos a) (pos b) ≡ true
le_count a b h = le_true (pos a) (pos b) (omega (arith, ints, h))
