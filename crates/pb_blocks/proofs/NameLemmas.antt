-- Names in order, and where they are found.
use Rattle.std.specs.Prelude.{not, nat_lt, slice_set, is_some, ◌&&◌, ◌||◌}
use Rattle.std.specs.Cmp.Lexicographic.{bytes_decides}
use Rattle.std.specs.List.{list_all, list_any, position, position_or_len}
use Rattle.std.proofs.Common.{◌≡◌, ◌∙◌, ℕ, zero, suc, ◌+◌, ◌<◌, ◌≤◌, List, [], ◌∷◌, ◌++◌, length, replicate, drop, get_or, Bool, true, false, true≢false, Some, None, refl, sym, ap, arith, inl, inr, length-append}
use Rattle.std.proofs.lemmas.Bool.{and_parts, cases_Bool, lt-ltb, or_parts}
use Rattle.std.proofs.lemmas.List.Sums.{prefix_len-drop_no, prefix_len-drop_yes, prefix_len-le-length}
use Rattle.pb_limits.specs.Limits.{most_streams}
use Rattle.pb_rows.specs.Name.{is_name, same_name}
use Rattle.pb_blocks.specs.Held.{AreKnown, side_of}
use Rattle.pb_blocks.specs.Lists.{differ, is_among, place_of}
use Rattle.pb_blocks.proofs.ItemLemmas.{place_found}

pub same_self : (name : List ℕ) → same_name name name ≡ true
same_self name = (bytes_decides name name).1 refl

pub same_sym : (a b : List ℕ) → same_name a b ≡ false → same_name b a ≡ false
same_sym a b apart = elim (cases_Bool (same_name b a)) [
  | inl same ↦ cc (sym apart ∙ (bytes_decides a b).1 (sym ((bytes_decides b a).0 same)))
  | inr other ↦ other
]

pub any_more : {A : Type 0} (test : A → Bool) (xs : List A) (x : A) → list_any test (xs ++ x ∷ []) ≡ (list_any test xs || test x)
any_more test [] x = elim (cases_Bool (test x)) [
  | inl holds ↦ rw holds refl
  | inr fails ↦ rw fails refl
]
any_more test (y ∷ xs) x = elim (cases_Bool (test y)) [
  | inl holds ↦ rw holds refl
  | inr fails ↦ rw fails (any_more test xs x)
]

pub all_more : {A : Type 0} (test : A → Bool) (xs : List A) (x : A) → list_all test (xs ++ x ∷ []) ≡ (list_all test xs && test x)
all_more test [] x = elim (cases_Bool (test x)) [
  | inl holds ↦ rw holds refl
  | inr fails ↦ rw fails refl
]
all_more test (y ∷ xs) x = elim (cases_Bool (test y)) [
  | inl holds ↦ rw holds (all_more test xs x)
  | inr fails ↦ rw fails refl
]

not_true : (b : Bool) → not b ≡ true → b ≡ false
not_true true h = cc h
not_true false h = refl

-- a new name after the others
pub differ_more : (names : List (List ℕ)) (name : List ℕ) → differ names ≡ true → is_among names name ≡ false → differ (names ++ name ∷ []) ≡ true
differ_more [] name all new = refl
differ_more (n ∷ names) name all new =
    let parts = and_parts (not (is_among names n)) (differ names) all in
    let apart = or_parts (same_name name n) (is_among names name) new in
    let rest = differ_more names name parts.1 apart.1 in
    rw (any_more (same_name n) names name, not_true (is_among names n) parts.0, same_sym name n apart.0) rest

pub known_more : (names : List (List ℕ)) (name : List ℕ) → AreKnown names → length names < most_streams → is_name name ≡ true → is_among names name ≡ false
    → AreKnown (names ++ name ∷ [])
known_more names name known room form new = record {
  forms = rw (all_more is_name names name, known.forms) form;
  different = differ_more names name known.different new;
  few = let long = length-append names (name ∷ []) in omega (arith, long, room);
}

pub known_grown : (names grown : List (List ℕ)) (name : List ℕ) → grown ≡ names ++ name ∷ [] → AreKnown names → length names < most_streams → is_name name ≡ true
    → is_among names name ≡ false → AreKnown grown
known_grown names grown name is known room form new = rw is (known_more names name known room form new)

-- a text that isn't a name isn't one of the names
not_among : (names : List (List ℕ)) (text : List ℕ) → list_all is_name names ≡ true → is_name text ≡ false → is_among names text ≡ false
not_among [] text forms other = refl
not_among (name ∷ names) text forms other =
    let parts = and_parts (is_name name) (list_all is_name names) forms in
    elim (cases_Bool (same_name text name)) [
      | inl same ↦ cc (sym other ∙ ap is_name ((bytes_decides text name).0 same) ∙ parts.0)
      | inr apart ↦ rw apart (not_among names text parts.1 other)
    ]

-- a name that is among the names has a place there
pub any_place : {A : Type 0} (test : A → Bool) (xs : List A) → list_any test xs ≡ true → position_or_len test xs < length xs
any_place test [] some = absurd (true≢false (sym some))
any_place test (x ∷ xs) some = elim (cases_Bool (test x)) [
  | inl here ↦ rw here (omega arith)
  | inr later ↦ let rest = any_place test xs (rw later at some) in rw later (omega (arith, rest))
]

-- and one that isn't has none
pub none_place : {A : Type 0} (test : A → Bool) (xs : List A) → list_any test xs ≡ false → position_or_len test xs ≡ length xs
none_place test [] none = refl
none_place test (x ∷ xs) none =
    let parts = or_parts (test x) (list_any test xs) none in
    let rest = none_place test xs parts.1 in
    rw parts.0 (omega (arith, rest))

past : (n : ℕ) → nat_lt n n ≡ false
past n = grind arith

pub none_found : {A : Type 0} (test : A → Bool) (xs : List A) → list_any test xs ≡ false → position test xs ≡ None
none_found test xs none = rw (none_place test xs none, past (length xs)) refl

pub some_found : {A : Type 0} (test : A → Bool) (xs : List A) → list_any test xs ≡ true → position test xs ≡ Some (position_or_len test xs)
some_found test xs some = rw (lt-ltb (position_or_len test xs) (length xs) (any_place test xs some)) refl

pub no_place : (names : List (List ℕ)) (text : List ℕ) → list_all is_name names ≡ true → is_name text ≡ false → position (same_name text) names ≡ None
no_place names text forms other = none_found (same_name text) names (not_among names text forms other)

pub is_placed : (names : List (List ℕ)) (text : List ℕ) → is_some (position (same_name text) names) ≡ is_among names text
is_placed names text = elim (cases_Bool (is_among names text)) [
  | inl some ↦ rw (some_found (same_name text) names some, some) refl
  | inr none ↦ rw (none_found (same_name text) names none, none) refl
]

-- a name at a place is among the names
among_at : (names : List (List ℕ)) (place : ℕ) (text : List ℕ) → place < length names → get_or names place text ≡ text → is_among names text ≡ true
among_at [] place text within is = absurd (omega (arith, within))
among_at (name ∷ names) zero text within is = rw ((bytes_decides text name).1 (sym is)) refl
among_at (name ∷ names) (suc place) text within is =
    let rest = among_at names place text (omega (arith, within)) is in
    elim (cases_Bool (same_name text name)) [
      | inl here ↦ rw here refl
      | inr apart ↦ rw apart rest
    ]

-- and if no name occurs twice, it is found there
pub placed_at : (names : List (List ℕ)) (place : ℕ) (text : List ℕ) → differ names ≡ true → place < length names → get_or names place text ≡ text
    → position_or_len (same_name text) names ≡ place
placed_at [] place text all within is = absurd (omega (arith, within))
placed_at (name ∷ names) zero text all within is = rw ((bytes_decides text name).1 (sym is)) refl
placed_at (name ∷ names) (suc place) text all within is =
    let parts = and_parts (not (is_among names name)) (differ names) all in
    let less : place < length names = omega (arith, within) in
    let rest = placed_at names place text parts.1 less is in
    elim (cases_Bool (same_name text name)) [
      | inl same ↦
          let other = not_true (is_among names name) parts.0 in
          absurd (true≢false (sym (among_at names place text less is) ∙ ap (is_among names) ((bytes_decides text name).0 same) ∙ other))
      | inr apart ↦ rw apart (omega (arith, rest))
    ]

-- ---- sides

-- no node is marked yet
pub unmarked : (nodes : List (List ℕ)) → replicate (length nodes) false ≡ side_of nodes []
unmarked [] = refl
unmarked (node ∷ nodes) = ap (λ (side : List Bool). false ∷ side) (unmarked nodes)

-- an item that isn't a node marks none
pub not_marked : (nodes done : List (List ℕ)) (item : List ℕ) → is_among nodes item ≡ false → side_of nodes done ≡ side_of nodes (done ++ item ∷ [])
not_marked [] done item none = refl
not_marked (node ∷ nodes) done item none =
    let parts = or_parts (same_name item node) (is_among nodes item) none in
    let rest = not_marked nodes done item parts.1 in
    rw (any_more (same_name node) done item, same_sym item node parts.0, ← rest) (by (is_among done node))
  where
    by : (b : Bool) → b ∷ side_of nodes done ≡ (b || false) ∷ side_of nodes done
    by true = refl
    by false = refl

-- an item that is a node marks it
pub marked : (nodes done : List (List ℕ)) (item : List ℕ) → differ nodes ≡ true → is_among nodes item ≡ true
    → slice_set (side_of nodes done) (place_of nodes item) true ≡ side_of nodes (done ++ item ∷ [])
marked [] done item all some = absurd (true≢false (sym some))
marked (node ∷ nodes) done item all some =
    let parts = and_parts (not (is_among nodes node)) (differ nodes) all in
    elim (cases_Bool (same_name item node)) [
      | inl here ↦
          let is = (bytes_decides item node).0 here in
          let rest = not_marked nodes done item (ap (is_among nodes) is ∙ not_true (is_among nodes node) parts.0) in
          rw (here, any_more (same_name node) done item, ap (same_name node) is ∙ same_self node) (by_here (is_among done node) rest)
      | inr later ↦
          let rest = marked nodes done item parts.1 (rw later at some) in
          rw (later, any_more (same_name node) done item, same_sym item node later) (by_later (is_among done node) rest)
    ]
  where
    by_here : (b : Bool) → side_of nodes done ≡ side_of nodes (done ++ item ∷ []) → slice_set (b ∷ side_of nodes done) 0 true ≡ (b || true) ∷ side_of nodes (done ++ item ∷ [])
    by_here true rest = ap (λ (side : List Bool). true ∷ side) rest
    by_here false rest = ap (λ (side : List Bool). true ∷ side) rest

    by_later : (b : Bool) → slice_set (side_of nodes done) (place_of nodes item) true ≡ side_of nodes (done ++ item ∷ [])
        → slice_set (b ∷ side_of nodes done) (1 + place_of nodes item) true ≡ (b || false) ∷ side_of nodes (done ++ item ∷ [])
    by_later true rest = let next : suc (place_of nodes item) ≡ 1 + place_of nodes item = omega arith in rw (← next) (ap (λ (side : List Bool). true ∷ side) rest)
    by_later false rest = let next : suc (place_of nodes item) ≡ 1 + place_of nodes item = omega arith in rw (← next) (ap (λ (side : List Bool). false ∷ side) rest)

-- the place that is found marks the node
pub marked_at : (nodes done : List (List ℕ)) (side : List Bool) (item : List ℕ) (place : ℕ) → differ nodes ≡ true → position (same_name item) nodes ≡ Some place → side ≡ side_of nodes done
    → slice_set side place true ≡ side_of nodes (done ++ item ∷ [])
marked_at nodes done side item place all found is = elim (cases_Bool (is_among nodes item)) [
  | inl there ↦
      rw (is, place_found (same_name item) nodes place found) (marked nodes done item all there)
  | inr absent ↦ let e = sym found ∙ none_found (same_name item) nodes absent in cc e
]

-- and if none is found, none is marked
pub unmarked_at : (nodes done : List (List ℕ)) (side : List Bool) (item : List ℕ) → position (same_name item) nodes ≡ None → side ≡ side_of nodes done → side ≡ side_of nodes (done ++ item ∷ [])
unmarked_at nodes done side item none is = elim (cases_Bool (is_among nodes item)) [
  | inl there ↦ let e = sym none ∙ some_found (same_name item) nodes there in cc e
  | inr absent ↦ is ∙ not_marked nodes done item absent
]

-- ---- the first that passes a test

pub found_here : {A : Type 0} (test : A → Bool) (xs : List A) (place : ℕ) (d : A) → place < length xs → test (get_or xs place d) ≡ true
    → position_or_len test xs ≡ place + position_or_len test (drop place xs) → Some place ≡ position test xs
found_here test xs place d within here so_far =
    let stop = prefix_len-drop_no (λ x. not (test x)) xs place d within (ap not here) in
    let is : position_or_len test xs ≡ place = omega (arith, so_far, stop) in
    sym (rw (is, lt-ltb place (length xs) within) refl)

pub not_here : {A : Type 0} (test : A → Bool) (xs : List A) (place : ℕ) (d : A) → place < length xs → test (get_or xs place d) ≡ false
    → position_or_len test xs ≡ place + position_or_len test (drop place xs) → position_or_len test xs ≡ (place + 1) + position_or_len test (drop (place + 1) xs)
not_here test xs place d within other so_far =
    let step = prefix_len-drop_yes (λ x. not (test x)) xs place d within (ap not other) in
    omega (arith, so_far, step)

pub found_nowhere : {A : Type 0} (test : A → Bool) (xs : List A) (place : ℕ) → length xs ≤ place → position_or_len test xs ≡ place + position_or_len test (drop place xs)
    → None ≡ position test xs
found_nowhere test xs place past_end so_far =
    let most = prefix_len-le-length (λ x. not (test x)) xs in
    let is : position_or_len test xs ≡ length xs = omega (arith, so_far, most, past_end) in
    sym (rw (is, past (length xs)) refl)
