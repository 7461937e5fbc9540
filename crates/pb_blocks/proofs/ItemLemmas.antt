-- Items of a list: the first of them, and where it ends.
use Rattle.std.specs.Prelude.{not, nat_le, nat_lt, ◌&&◌, ◌||◌, slice_index_or}
use Rattle.std.specs.List.{list_all, onto_first, position, position_or_len, slice_split}
use Rattle.std.proofs.Common.{◌≡◌, ◌∙◌, ℕ, ◌+◌, ◌-◌, ◌<◌, ◌≤◌, zero, suc, ◌==◌, List, [], ◌∷◌, length, take, drop, Bool, true, false, true≢false, Some, None, refl, sym, ap, arith, inl, inr, length-drop}
use Rattle.std.proofs.lemmas.Bool.{and_from, and_parts, cases_Bool}
use Rattle.std.proofs.lemmas.List.{length-take-le, take_all}
use Rattle.std.proofs.lemmas.List.Splits.{slice_split-cons_no, slice_split_first}
use Rattle.std.proofs.lemmas.List.Sums.{prefix_len-le-length}
use Rattle.pb_rows.specs.Name.{is_name, is_name_byte}
use Rattle.pb_blocks.specs.Held.{ends_at, is_whole_name, item_end, name_end}
use Rattle.pb_blocks.specs.Lists.{is_part, space}
use Rattle.pb_rows.specs.Forms.{has_name_length}

-- the place that `position` gives
pub place_found : {A : Type 0} (test : A → Bool) (xs : List A) (place : ℕ) → position test xs ≡ Some place → place ≡ position_or_len test xs
place_found test xs place found = elim (cases_Bool (nat_lt (position_or_len test xs) (length xs))) [
  | inl within ↦ let e = rw within at found in cc e
  | inr outside ↦ let e = rw outside at found in cc e
]

-- if it gives none, the place is the length
pub place_of_none : {A : Type 0} (test : A → Bool) (xs : List A) → position test xs ≡ None → position_or_len test xs ≡ length xs
place_of_none test xs none = elim (cases_Bool (nat_lt (position_or_len test xs) (length xs))) [
  | inl within ↦ let e = rw within at none in cc e
  | inr outside ↦ let most = prefix_len-le-length (λ x. not (test x)) xs in grind (arith, outside, most)
]

-- a text without a space is one item
one_item : (test : ℕ → Bool) (text : List ℕ) → length text ≤ position_or_len test text → slice_split test text ≡ text ∷ []
one_item test [] none = refl
one_item test (byte ∷ text) none = elim (cases_Bool (test byte)) [
  | inl here ↦ absurd (omega (arith, rw here at none))
  | inr later ↦
      let rest = one_item test text (let long = rw later at none in omega (arith, long)) in
      slice_split-cons_no test byte text later ∙ ap (onto_first byte) rest
]

-- an item with more after it
pub first_of_more : (text : List ℕ) (end : ℕ) → end ≡ position_or_len (λ byte. byte == space) text → end < length text
    → slice_split (λ byte. byte == space) text
    ≡ take end text ∷ slice_split (λ byte. byte == space) (take (length text - (end + 1)) (drop (end + 1) text))
first_of_more text end is within =
    let first = slice_split_first (λ byte. byte == space) text 0 (rw is at within) in
    let long = length-drop (end + 1) text in
    let rest = take_all (length text - (end + 1)) (drop (end + 1) text) (omega (arith, long)) in
    rw (rest, is) first

-- the last item
pub only_item : (text : List ℕ) (end : ℕ) → end ≡ position_or_len (λ byte. byte == space) text → length text ≤ end
    → slice_split (λ byte. byte == space) text ≡ take end text ∷ []
only_item text end is none =
    one_item (λ byte. byte == space) text (rw is at none) ∙ ap (λ (item : List ℕ). item ∷ []) (sym (take_all end text none))

-- ---- names in items

not_space : (byte : ℕ) → is_name_byte byte ≡ true → (byte == space) ≡ false
not_space byte name = elim (cases_Bool (byte == space)) [
  | inl here ↦
      let is : byte ≡ space = grind (arith, here) in
      absurd (true≢false (sym name ∙ ap is_name_byte is))
  | inr other ↦ other
]

-- ---- one byte more in front

same_suc : (m n : ℕ) → (suc m == suc n) ≡ (m == n)
same_suc m n = elim (cases_Bool (m == n)) [
  | inl same ↦ let e : (suc m == suc n) ≡ true = grind (arith, same) in e ∙ sym same
  | inr other ↦ let e : (suc m == suc n) ≡ false = grind (arith, other) in e ∙ sym other
]

ends_here : (byte : ℕ) (text : List ℕ) → ends_at (byte ∷ text) 0 ≡ (byte == space)
ends_here byte text = let e : (0 == suc (length text)) ≡ false = grind arith in ap (λ (b : Bool). b || (byte == space)) e

ends_later : (byte : ℕ) (text : List ℕ) (n : ℕ) → ends_at (byte ∷ text) (suc n) ≡ ends_at text n
ends_later byte text n = ap (λ (b : Bool). b || (slice_index_or text n 0 == space)) (same_suc n (length text))

item_here : (byte : ℕ) (text : List ℕ) → (byte == space) ≡ true → item_end (byte ∷ text) ≡ 0
item_here byte text here = rw here refl

item_later : (byte : ℕ) (text : List ℕ) → (byte == space) ≡ false → item_end (byte ∷ text) ≡ suc (item_end text)
item_later byte text other = rw other (omega arith)

name_here : (byte : ℕ) (text : List ℕ) → is_name_byte byte ≡ false → name_end (byte ∷ text) ≡ 0
name_here byte text other = rw other refl

name_later : (byte : ℕ) (text : List ℕ) → is_name_byte byte ≡ true → name_end (byte ∷ text) ≡ suc (name_end text)
name_later byte text name = rw name (omega arith)

-- ---- where names and items end

-- if bytes of a name are followed by the end of an item, the item ends there
pub ends_behind_name : (text : List ℕ) (n : ℕ) → n ≤ length text → list_all is_name_byte (take n text) ≡ true → ends_at text n ≡ true → item_end text ≡ n
ends_behind_name [] zero le all ends = refl
ends_behind_name [] (suc n) le all ends = absurd (omega (arith, le))
ends_behind_name (byte ∷ text) zero le all ends = item_here byte text (sym (ends_here byte text) ∙ ends)
ends_behind_name (byte ∷ text) (suc n) le all ends =
    let parts = and_parts (is_name_byte byte) (list_all is_name_byte (take n text)) all in
    item_later byte text (not_space byte parts.0)
    ∙ ap suc (ends_behind_name text n (omega (arith, le)) parts.1 (sym (ends_later byte text n) ∙ ends))

-- all bytes before the end of a name are bytes of a name
pub all_in_name : (text : List ℕ) → list_all is_name_byte (take (name_end text) text) ≡ true
all_in_name [] = refl
all_in_name (byte ∷ text) = elim (cases_Bool (is_name_byte byte)) [
  | inl name ↦ ap (λ (n : ℕ). list_all is_name_byte (take n (byte ∷ text))) (name_later byte text name) ∙ and_from _ _ name (all_in_name text)
  | inr other ↦ ap (λ (n : ℕ). list_all is_name_byte (take n (byte ∷ text))) (name_here byte text other)
]

-- an item ends where it ends
ends_there : (text : List ℕ) → ends_at text (item_end text) ≡ true
ends_there [] = refl
ends_there (byte ∷ text) = elim (cases_Bool (byte == space)) [
  | inl here ↦ ap (ends_at (byte ∷ text)) (item_here byte text here) ∙ ends_here byte text ∙ here
  | inr other ↦ ap (ends_at (byte ∷ text)) (item_later byte text other) ∙ ends_later byte text (item_end text) ∙ ends_there text
]

-- a name that is a whole item ends with it
name_is_whole : (text : List ℕ) → list_all is_name_byte (take (item_end text) text) ≡ true → name_end text ≡ item_end text
name_is_whole [] all = refl
name_is_whole (byte ∷ text) all = elim (cases_Bool (byte == space)) [
  | inl here ↦
      let is : byte ≡ space = grind (arith, here) in
      name_here byte text (ap is_name_byte is) ∙ sym (item_here byte text here)
  | inr other ↦
      let more : list_all is_name_byte (take (suc (item_end text)) (byte ∷ text)) ≡ true =
      ap (λ (n : ℕ). list_all is_name_byte (take n (byte ∷ text))) (sym (item_later byte text other)) ∙ all in
      let parts = and_parts (is_name_byte byte) (list_all is_name_byte (take (item_end text) text)) more in
      name_later byte text parts.0 ∙ ap suc (name_is_whole text parts.1) ∙ sym (item_later byte text other)
]

-- a text begins with an item
pub first_item : (text : List ℕ) → (more : List (List ℕ)) × (slice_split (λ byte. byte == space) text ≡ take (item_end text) text ∷ more)
first_item text = elim (cases_Bool (nat_lt (item_end text) (length text))) [
  | inl within ↦ (_, first_of_more text (item_end text) refl (grind (arith, within)))
  | inr outside ↦ (_, only_item text (item_end text) refl (grind (arith, outside)))
]

-- if the first item isn't a part, not all items are
pub no_part : (text : List ℕ) → is_part (take (item_end text) text) ≡ false
    → list_all is_part (slice_split (λ byte. byte == space) text) ≡ (length (slice_split (λ byte. byte == space) text) == 0)
no_part text other =
    let first = first_item text in
    let some : (suc (length first.0) == 0) ≡ false = grind arith in
    rw (first.1, other) (sym some)

-- a text whose front isn't a name up to the end of an item doesn't begin with one
pub not_whole : (text : List ℕ) (end : ℕ) → end ≡ name_end text → is_whole_name text end ≡ false → is_name (take (item_end text) text) ≡ false
not_whole text end is bad = elim (cases_Bool (is_name (take (item_end text) text))) [
  | inr fails ↦ fails
  | inl name ↦
      let item = take (item_end text) text in
      let parts = and_parts (has_name_length item) (list_all is_name_byte item) name in
      let lengths = and_parts (not (length item == 0)) (nat_le (length item) 32) parts.0 in
      let within = prefix_len-le-length (λ (byte : ℕ). not (byte == space)) text in
      let long : length item ≡ item_end text = length-take-le (item_end text) text within in
      let same : end ≡ item_end text = is ∙ name_is_whole text parts.1 in
      let whole : is_whole_name text (item_end text) ≡ true = rw (ends_there text) (rw long at (and_from _ _ parts.0 refl)) in
      absurd (true≢false (sym whole ∙ ap (is_whole_name text) (sym same) ∙ bad))
]

-- and one whose front is does
pub is_whole : (text : List ℕ) (end : ℕ) → end ≡ name_end text → end ≤ length text → is_whole_name text end ≡ true
    → (end ≡ item_end text) × (is_name (take end text) ≡ true)
is_whole text end is within whole =
    let third = and_parts (not (end == 0) && nat_le end 32) (ends_at text end) whole in
    let all : list_all is_name_byte (take end text) ≡ true = rw is (all_in_name text) in
    let long : length (take end text) ≡ end = length-take-le end text within in
    let form : has_name_length (take end text) ≡ true = rw long third.0 in
    (sym (ends_behind_name text end within all third.1), and_from _ _ form all)

-- the same for a given name
pub ends_behind : (text name : List ℕ) → is_name name ≡ true → take (length name) text ≡ name → length name ≤ length text → ends_at text (length name) ≡ true
    → item_end text ≡ length name
ends_behind text name form front within ends =
    let parts = and_parts (has_name_length name) (list_all is_name_byte name) form in
    ends_behind_name text (length name) within (ap (list_all is_name_byte) front ∙ parts.1) ends
