-- The transfers that are found by stream and block of days.
use Rattle.std.specs.Prelude.{◌&&◌, ◌||◌, int_le, filter, filter_map, option_and_then, is_some, IsSomeAnd, if◌then◌else◌, vec_len, vec_capacity}
use Rattle.std.specs.Cmp.{signed_Decides}
use Rattle.std.specs.Cmp.Lexicographic.{bytes_decides}
use Rattle.std.specs.Ordering.{int_eq}
use Rattle.std.specs.HashMap.{HashMap, get}
use Rattle.std.specs.Global.{Vec}
use Rattle.std.specs.Option.{option_map_or}
use Rattle.std.specs.List.{cons_option}
use Rattle.std.proofs.Common.{◌≡◌, ◌∙◌, ◌+◌, ◌<◌, ◌≤◌, ◌++◌, ◌∷◌, [], ℕ, zero, suc, ℤ, pos, negsuc, ◌+ℤ◌, ◌-ℤ◌, ◌≤ℤ◌, ◌<ℤ◌, List, Bool, true, false, Option, Some, None, All, length, get_or, arith, ap, sym, refl, inl, inr, subst, zero-add}
use Rattle.std.proofs.lemmas.Bool.{and_parts, cases_Bool}
use Rattle.std.proofs.lemmas.Int.{by_lt_z, ints}
use Rattle.std.proofs.lemmas.Option.{slice_get-get_or}
use Rattle.pb_limits.specs.Limits.{most_days_of_period, most_days_of_transfer}
use Rattle.pb_rows.specs.Name.{same_name}
use Rattle.pb_facts.specs.Fact.{is_too_long, is_transfer_within}
use Rattle.pb_facts.specs.Facts.{HoldsTransfers, live_at, live_fact}
use Rattle.pb_facts.specs.Places.{HasRoomAt, block_of, is_about, places_at, places_from, same_key}
use Rattle.pb_facts.specs.declared.fact.Fact.{Fact}
use Rattle.pb_facts.specs.declared.fact.Fact.TheVariants.{Reading, Transfer, Dip}
use Rattle.pb_facts.specs.declared.facts.KeptFact.{KeptFact}
use Rattle.pb_facts.proofs.ShareLemmas.{floor_mono}

-- ---- places

-- one more item
pub places_from-push : {X : Type 0} (passes : X → Bool) (from : ℕ) (xs : List X) (x : X)
    → places_from passes from (xs ++ x ∷ []) ≡ places_from passes from xs ++ (if passes x then (from + length xs) ∷ [] else [])
places_from-push passes from [] x = elim (cases_Bool (passes x)) [
  | inl passing ↦ let none : from ≡ from + 0 = omega arith in rw (passing) (ap (λ (n : ℕ). n ∷ []) none)
  | inr failing ↦ rw (failing) refl
]
places_from-push passes from (y ∷ xs) x =
    let next : (from + 1) + length xs ≡ from + suc (length xs) = omega arith in
    let rest = places_from-push passes (from + 1) xs x ∙ ap (λ (n : ℕ). places_from passes (from + 1) xs ++ (if passes x then n ∷ [] else [])) next in
    elim (cases_Bool (passes y)) [
      | inl passing ↦ rw (passing) (ap (λ (ns : List ℕ). from ∷ ns) rest)
      | inr failing ↦ rw (failing) rest
    ]

-- there are no more places than items
pub places_from-few : {X : Type 0} (passes : X → Bool) (from : ℕ) (xs : List X) → length (places_from passes from xs) ≤ length xs
places_from-few passes from [] = omega arith
places_from-few passes from (x ∷ xs) =
    let rest = places_from-few passes (from + 1) xs in
    elim (cases_Bool (passes x)) [
      | inl passing ↦ rw passing (omega (arith, rest))
      | inr failing ↦ rw failing (omega (arith, rest))
    ]

-- each is the place of an item
pub places_from-below : {X : Type 0} (passes : X → Bool) (from : ℕ) (xs : List X) (k d : ℕ) → k < length (places_from passes from xs)
    → get_or (places_from passes from xs) k d < from + length xs
places_from-below passes from [] k d within = absurd (omega (arith, within))
places_from-below passes from (x ∷ xs) k d within =
    let later = λ (i : ℕ) (lt : i < length (places_from passes (from + 1) xs)). places_from-below passes (from + 1) xs i d lt in
    elim (cases_Bool (passes x)) [
      | inl passing ↦ rw (passing) (first_or_later (places_from passes (from + 1) xs) k (rw (passing) at within) later)
      | inr failing ↦ rw (failing) (let rest = later k (rw (failing) at within) in omega (arith, rest))
    ]
  where
    first_or_later : (ns : List ℕ) (k : ℕ) → k < length (from ∷ ns) → ((i : ℕ) → i < length ns → get_or ns i d < (from + 1) + length xs)
        → get_or (from ∷ ns) k d < from + suc (length xs)
    first_or_later ns zero within later = omega arith
    first_or_later ns (suc k) within later = let rest = later k (omega (arith, within)) in omega (arith, rest)

-- what is asked at the places is asked of the items that pass
at_places : {X Y : Type 0} (passes : X → Bool) (f : ℕ → Option Y) (g : X → Option Y) (from : ℕ) (xs : List X) → ((i : ℕ) (d : X) → i < length xs → f (from + i) ≡ g (get_or xs i d))
    → filter_map f (places_from passes from xs) ≡ filter_map g (filter passes xs)
at_places passes f g from [] same = refl
at_places passes f g from (x ∷ xs) same =
    let none : from + 0 ≡ from = omega arith in
    let first = ap f (sym none) ∙ same 0 x (omega arith) in
    let rest = at_places passes f g (from + 1) xs (λ i d lt. let next : (from + 1) + i ≡ from + suc i = omega arith in ap f next ∙ same (suc i) d (omega arith)) in
    elim (cases_Bool (passes x)) [
      | inl passing ↦ rw (passing, first, rest) refl
      | inr failing ↦ rw (failing) rest
    ]

-- ---- transfers

next_or_same : (a b : ℤ) → a ≤ℤ b → b ≤ℤ (a +ℤ pos 1) → (int_eq a b || int_eq (a +ℤ pos 1) b) ≡ true
next_or_same a b from to = by_lt_z a b
    (λ less. let next : a +ℤ pos 1 ≡ b = omega (arith, ints, less, to) in rw ((signed_Decides (a +ℤ pos 1) b).1 next) (or_true (int_eq a b)))
    (λ not_less. let same : a ≡ b = omega (arith, ints, not_less, from) in rw ((signed_Decides a b).1 same) refl)
  where
    or_true : (c : Bool) → (c || true) ≡ true
    or_true true = refl
    or_true false = refl

-- a transfer that has a day in a period begins in the block of the period's last day, or in the block before
begins_about : (first last from to : ℤ) → first ≤ℤ to → from ≤ℤ last → (last -ℤ first) <ℤ pos most_days_of_transfer → (to -ℤ from) <ℤ pos most_days_of_period
    → (int_eq (block_of first) (block_of to) || int_eq (block_of first +ℤ pos 1) (block_of to)) ≡ true
begins_about first last from to begins ends short brief = next_or_same (block_of first) (block_of to)
    (floor_mono first to 512 (omega arith) begins)
    (near first to begins (omega (arith, ints, ends, short, brief)))
  where
    near : (a b : ℤ) → a ≤ℤ b → b ≤ℤ (a +ℤ pos 464) → block_of b ≤ℤ (block_of a +ℤ pos 1)
    near (pos a) (pos b) le most = omega (arith, ints, le, most)
    near (negsuc a) (pos b) le most = omega (arith, ints, le, most)
    near (negsuc a) (negsuc b) le most = omega (arith, ints, le, most)
    near (pos a) (negsuc b) le most = absurd (omega (arith, ints, le))

about : (stream : List ℕ) (from to : ℤ) (fact : Fact) → (to -ℤ from) <ℤ pos most_days_of_period → is_too_long fact ≡ false → is_transfer_within stream from to fact ≡ true
    → is_about (stream, block_of to) fact ≡ true
about stream from to (Reading id s day grams variance) brief short within = cc within
about stream from to (Dip id t day mm density variance) brief short within = cc within
about stream from to (Transfer id s first last grams variance) brief short within =
    let parts = and_parts (same_name s stream && int_le first to) (int_le from last) within in
    let front = and_parts (same_name s stream) (int_le first to) parts.0 in
    let blocks = begins_about first last from to (omega (arith, ints, front.1)) (omega (arith, ints, parts.1)) (omega (arith, ints, short)) brief in
    rw (front.0, blocks) refl

-- no item that passes a test is left out if all items that pass it are kept
kept_pass : {X Y : Type 0} (keeps : X → Bool) (passes : Y → Bool) (f : X → Option Y) (xs : List X)
    → ((i : ℕ) (d : X) → i < length xs → keeps (get_or xs i d) ≡ false → filter passes (filter_map f (get_or xs i d ∷ [])) ≡ [])
    → filter passes (filter_map f xs) ≡ filter passes (filter_map f (filter keeps xs))
kept_pass keeps passes f [] left = refl
kept_pass {X} {Y} keeps passes f (x ∷ xs) left =
    let rest = kept_pass keeps passes f xs (λ i d lt fails. left (suc i) d (omega (arith, lt)) fails) in
    elim (cases_Bool (keeps x)) [
      | inl passing ↦ rw (passing) (one_more (f x) (filter_map f xs) (filter_map f (filter keeps xs)) rest)
      | inr failing ↦ rw (failing) (one_less (f x) (filter_map f xs) (left 0 x (omega arith) failing) ∙ rest)
    ]
  where
    one_more : (o : Option Y) (ys zs : List Y) → filter passes ys ≡ filter passes zs → filter passes (cons_option o ys) ≡ filter passes (cons_option o zs)
    one_more None ys zs same = same
    one_more (Some y) ys zs same = elim (cases_Bool (passes y)) [
      | inl passing ↦ rw (passing) (ap (λ (rest : List Y). y ∷ rest) same)
      | inr failing ↦ rw (failing) same
    ]

    one_less : (o : Option Y) (ys : List Y) → filter passes (cons_option o []) ≡ [] → filter passes (cons_option o ys) ≡ filter passes ys
    one_less None ys none = refl
    one_less (Some y) ys none = elim (cases_Bool (passes y)) [
      | inl passing ↦ cc (rw (passing) at none)
      | inr failing ↦ rw (failing) refl
    ]

pub holds_transfers : (kept : List KeptFact) (stream : List ℕ) (from to : ℤ) → (to -ℤ from) <ℤ pos most_days_of_period → All (λ (k : KeptFact). is_too_long k.fact ≡ false) kept
    → HoldsTransfers kept stream from to (places_from (λ (k : KeptFact). is_about (stream, block_of to) k.fact) 0 kept)
holds_transfers kept stream from to brief short =
    let keeps : KeptFact → Bool = λ k. is_about (stream, block_of to) k.fact in
    let passes = is_transfer_within stream from to in
    kept_pass keeps passes live_fact kept (λ i d lt fails. left (get_or kept i d) (short i d lt) fails)
    ∙ ap (filter passes) (sym (at_places keeps (live_at kept) live_fact 0 kept
    (λ i d lt. ap (live_at kept) (zero-add i) ∙ ap (option_and_then live_fact) (slice_get-get_or kept i d lt))))
  where
    left : (k : KeptFact) → is_too_long k.fact ≡ false → is_about (stream, block_of to) k.fact ≡ false → filter (is_transfer_within stream from to) (filter_map live_fact (k ∷ [])) ≡ []
    left k short apart = elim (cases_Bool k.struck) [
      | inl struck ↦ rw (struck) refl
      | inr live ↦ elim (cases_Bool (is_transfer_within stream from to k.fact)) [
        | inl within ↦ cc (sym apart ∙ about stream from to k.fact brief short within)
        | inr without ↦ rw (live, without) refl
      ]
    ]

-- ---- an entry without places

abbrev pub places_in : Option (Vec ℕ) → List ℕ
places_in o = option_map_or (λ (places : Vec ℕ). places.items) o []

none_of : {A : Type 0} (o : Option A) → is_some o ≡ false → o ≡ None
none_of None none = refl
none_of (Some v) none = cc none

-- no entry at a key that is the same as one without an entry
absent_at : {S : Type 0} (old : HashMap (List ℕ × ℤ) (Vec ℕ) S) (key q : List ℕ × ℤ) → is_some (get same_key old key) ≡ false → same_key key q ≡ true → get same_key old q ≡ None
absent_at old key q absent here =
    let parts = and_parts (same_name key.0 q.0) (int_eq key.1 q.1) here in
    let name = (bytes_decides key.0 q.0).0 parts.0 in
    let day = (signed_Decides key.1 q.1).0 parts.1 in
    none_of (get same_key old q)
    (subst (λ (n : List ℕ). is_some (get same_key old (n, q.1)) ≡ false) name (subst (λ (z : ℤ). is_some (get same_key old (key.0, z)) ≡ false) day absent))

pub same_places : {S : Type 0} (old new : HashMap (List ℕ × ℤ) (Vec ℕ) S) (key : List ℕ × ℤ) (none : Vec ℕ) → none.items ≡ [] → is_some (get same_key old key) ≡ false
    → ((q : List ℕ × ℤ) → get same_key new q ≡ (if same_key key q then Some none else get same_key old q)) → (q : List ℕ × ℤ) → places_at new q ≡ places_at old q
same_places {S} old new key none empty absent put q = elim (cases_Bool (same_key key q)) [
  | inl here ↦ ap places_in (rw (here) at (put q)) ∙ empty ∙ sym (ap places_in (absent_at old key q absent here))
  | inr other ↦ ap places_in (rw (other) at (put q))
]

-- room at another key stays
pub same_room : {S : Type 0} (old new : HashMap (List ℕ × ℤ) (Vec ℕ) S) (key : List ℕ × ℤ) (none : Vec ℕ) → is_some (get same_key old key) ≡ false
    → ((q : List ℕ × ℤ) → get same_key new q ≡ (if same_key key q then Some none else get same_key old q)) → (q : List ℕ × ℤ) → HasRoomAt old q → HasRoomAt new q
same_room {S} old new key none absent put q room = elim (cases_Bool (same_key key q)) [
  | inl here ↦ absurd (subst (λ (o : Option (Vec ℕ)). IsSomeAnd o (λ v. vec_len v < vec_capacity v)) (absent_at old key q absent here) room)
  | inr other ↦ subst (λ (o : Option (Vec ℕ)). IsSomeAnd o (λ v. vec_len v < vec_capacity v)) (sym (rw (other) at (put q))) room
]

-- ---- an entry whose places stay

-- what is at a key is at one that is the same
present_at : {S : Type 0} (old : HashMap (List ℕ × ℤ) (Vec ℕ) S) (key q : List ℕ × ℤ) (v : Vec ℕ) → get same_key old key ≡ Some v → same_key key q ≡ true → get same_key old q ≡ Some v
present_at old key q v at here =
    let parts = and_parts (same_name key.0 q.0) (int_eq key.1 q.1) here in
    let name = (bytes_decides key.0 q.0).0 parts.0 in
    let day = (signed_Decides key.1 q.1).0 parts.1 in
    subst (λ (n : List ℕ). get same_key old (n, q.1) ≡ Some v) name (subst (λ (z : ℤ). get same_key old (key.0, z) ≡ Some v) day at)

pub same_after : {S : Type 0} (old new : HashMap (List ℕ × ℤ) (Vec ℕ) S) (key : List ℕ × ℤ) (v w : Vec ℕ) → get same_key old key ≡ Some v → w.items ≡ v.items
    → ((q : List ℕ × ℤ) → get same_key new q ≡ (if same_key key q then Some w else get same_key old q)) → (q : List ℕ × ℤ) → places_at new q ≡ places_at old q
same_after {S} old new key v w at same put q = elim (cases_Bool (same_key key q)) [
  | inl here ↦ ap places_in (rw (here) at (put q)) ∙ same ∙ sym (ap places_in (present_at old key q v at here))
  | inr other ↦ ap places_in (rw (other) at (put q))
]

pub room_after : {S : Type 0} (old new : HashMap (List ℕ × ℤ) (Vec ℕ) S) (key : List ℕ × ℤ) (v w : Vec ℕ) → get same_key old key ≡ Some v → (vec_len v < vec_capacity v → vec_len w < vec_capacity w)
    → ((q : List ℕ × ℤ) → get same_key new q ≡ (if same_key key q then Some w else get same_key old q)) → (q : List ℕ × ℤ) → HasRoomAt old q → HasRoomAt new q
room_after {S} old new key v w at wider put q room =
    let HasRoomIn : Option (Vec ℕ) → Type 0 = λ o. IsSomeAnd o (λ places. vec_len places < vec_capacity places) in
    elim (cases_Bool (same_key key q)) [
      | inl here ↦ subst HasRoomIn (sym (rw (here) at (put q))) (wider (subst HasRoomIn (present_at old key q v at here) room))
      | inr other ↦ subst HasRoomIn (sym (rw (other) at (put q))) room
    ]
