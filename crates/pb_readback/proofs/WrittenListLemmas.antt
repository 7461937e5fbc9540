-- What the written lists of a certificate read as: the names of a side, and the parts.
use Rattle.std.specs.Prelude.{nat_le, ◌&&◌, ◌||◌, ◌==◌, All, map, codes}
use Rattle.std.specs.List.{list_any, list_all, slice_split, flat_map, AllByRecursion}
use Rattle.std.proofs.Common.{◌≡◌, ◌∙◌, ℕ, zero, suc, ◌+◌, ◌<◌, ◌≤◌, List, [], ◌∷◌, ◌++◌, length, get_or, Bool, true, false, refl, sym, ap, subst, arith, rules, inl, inr, append_assoc, length-append}
use Rattle.std.proofs.lemmas.Bool.{cases_Bool, and_parts, and_from, or_from, eqb-true, le-leb}
use Rattle.std.proofs.lemmas.List.{append-nil}
use Rattle.std.proofs.lemmas.List.Splits.{slice_split_at, slice_split_none}
use Rattle.std.proofs.lemmas.List.Sums.{AllPass-from_list_all}
use Rattle.std.proofs.Math.Seq.{get_or-append_seam}
use Rattle.pb_rows.specs.Name.{is_name, is_name_byte, same_name}
use Rattle.pb_report.specs.Certificate.{names_in, spaced}
use Rattle.pb_report.specs.Names.{name_at}
use Rattle.pb_blocks.specs.Lists.{space, items, is_among, place_of, rise_from}
use Rattle.pb_blocks.specs.Held.{is_unknown_item, side_of}
use Rattle.pb_readback.proofs.WrittenFieldLemmas.{is_empty, AreApart, same_self, same_sym, place_at, some_byte}
use Rattle.pb_rows.specs.Forms.{has_name_length}

-- ---- pieces separated by one space

-- no byte is a space, and there is one
pub record IsPiece (text : List ℕ) : Type 0 where
  pub whole : All (λ (byte : ℕ). (byte == space) ≡ false) text
  pub some : is_empty text ≡ false

split_pieces : {A : Type 0} (f : A → List ℕ) (x : A) (xs : List A) → IsPiece (f x) → AllByRecursion (λ (y : A). IsPiece (f y)) xs
    → slice_split (λ b. b == space) (f x ++ flat_map (λ (y : A). codes " " ++ f y) xs) ≡ f x ∷ map f xs
split_pieces f x [] piece pieces = rw append-nil (slice_split_none (λ b. b == space) (f x) piece.whole)
split_pieces f x (y ∷ ys) piece pieces =
    slice_split_at (λ b. b == space) (f x) space (f y ++ flat_map (λ y. codes " " ++ f y) ys) piece.whole refl
    ∙ ap (λ (rest : List (List ℕ)). f x ∷ rest) (split_pieces f y ys pieces.0 pieces.1)

items_filled : (text rest : List ℕ) → is_empty text ≡ false → items (text ++ rest) ≡ slice_split (λ b. b == space) (text ++ rest)
items_filled [] rest some = cc some
items_filled (byte ∷ text) rest some =
    let whole : is_empty (byte ∷ (text ++ rest)) ≡ false = some_byte byte (text ++ rest) in
    first_of (search rules, grind (arith, whole))

-- the items of a list are what was written
pub items_back : {A : Type 0} (f : A → List ℕ) (xs : List A) → AllByRecursion (λ (x : A). IsPiece (f x)) xs → items (spaced f xs) ≡ map f xs
items_back f [] pieces = refl
items_back f (x ∷ xs) pieces =
    items_filled (f x) (flat_map (λ y. codes " " ++ f y) xs) pieces.0.some ∙ split_pieces f x xs pieces.0 pieces.1

-- ---- names

-- a byte of a name isn't a space
no_space : (byte : ℕ) → is_name_byte byte ≡ true → (byte == space) ≡ false
no_space byte good = elim (cases_Bool (byte == space)) [
  | inl is ↦ let same : byte ≡ 32 = eqb-true byte space is in cc (rw same at good)
  | inr other ↦ other
]

pub name_bytes : (name : List ℕ) → is_name name ≡ true → All (λ (byte : ℕ). (byte == space) ≡ false) name
name_bytes name form = λ k d lt. no_space (get_or name k d) (AllPass-from_list_all is_name_byte name (and_parts (has_name_length name) (list_all is_name_byte name) form).1 k d lt)

pub name_filled : (name : List ℕ) → is_name name ≡ true → is_empty name ≡ false
name_filled [] form = cc form
name_filled (byte ∷ name) form = some_byte byte name

name_piece : (name : List ℕ) → is_name name ≡ true → IsPiece name
name_piece name form = record { whole = name_bytes name form; some = name_filled name form }

pub cons_apart : (name : List ℕ) (names : List (List ℕ)) → AreApart (name ∷ names) → AreApart names
cons_apart name names apart = λ i j d lt within. apart (suc i) (suc j) d (omega (arith, lt)) (omega (arith, within))

pub first_apart : (name : List ℕ) (names : List (List ℕ)) → AreApart (name ∷ names) → All (λ (other : List ℕ). same_name name other ≡ false) names
first_apart name names apart = λ k d lt. apart zero (suc k) d (omega arith) (omega (arith, lt))

-- ---- sides

-- each of the names has the form of a name
abbrev pub AreNamed : List (List ℕ) → Type 0
AreNamed names = list_all is_name names ≡ true

-- the name at a place has the form
pub named_at : (names : List (List ℕ)) (i : ℕ) → AreNamed names → i < length names → is_name (name_at names i) ≡ true
named_at names i forms lt = AllPass-from_list_all is_name names forms i [] lt

in_pieces : (side : List Bool) (names : List (List ℕ)) → AreNamed names → AllByRecursion (λ (name : List ℕ). IsPiece name) (names_in side names)
in_pieces [] names forms = tt
in_pieces (true ∷ side) [] forms = tt
in_pieces (false ∷ side) [] forms = tt
in_pieces (true ∷ side) (name ∷ names) forms =
    let parts = and_parts (is_name name) (list_all is_name names) forms in
    (name_piece name parts.0, in_pieces side names parts.1)
in_pieces (false ∷ side) (name ∷ names) forms = in_pieces side names (and_parts (is_name name) (list_all is_name names) forms).1

map_same : (names : List (List ℕ)) → map (λ (name : List ℕ). name) names ≡ names
map_same [] = refl
map_same (name ∷ names) = ap (λ (rest : List (List ℕ)). name ∷ rest) (map_same names)

-- the items of a side are the names in it
pub side_items : (side : List Bool) (names : List (List ℕ)) → AreNamed names → items (spaced (λ (name : List ℕ). name) (names_in side names)) ≡ names_in side names
side_items side names forms = items_back (λ (name : List ℕ). name) (names_in side names) (in_pieces side names forms) ∙ map_same (names_in side names)

-- they have the form
pub in_named : (side : List Bool) (names : List (List ℕ)) → AreNamed names → AreNamed (names_in side names)
in_named [] names forms = refl
in_named (true ∷ side) [] forms = refl
in_named (false ∷ side) [] forms = refl
in_named (true ∷ side) (name ∷ names) forms =
    let parts = and_parts (is_name name) (list_all is_name names) forms in
    and_from (is_name name) (list_all is_name (names_in side names)) parts.0 (in_named side names parts.1)
in_named (false ∷ side) (name ∷ names) forms = in_named side names (and_parts (is_name name) (list_all is_name names) forms).1

-- a name that comes after others is among them all
among_seam : (done : List (List ℕ)) (name : List ℕ) (names : List (List ℕ)) → is_among (done ++ name ∷ names) name ≡ true
among_seam [] name names = rw (same_self name) refl
among_seam (other ∷ done) name names = rw (among_seam done name names) (by (same_name name other))
  where
    by : (b : Bool) → (b || true) ≡ true
    by true = refl
    by false = refl

-- and none of them is unknown
pub in_known : (done : List (List ℕ)) (side : List Bool) (names : List (List ℕ)) → list_any (is_unknown_item (done ++ names)) (names_in side names) ≡ false
in_known done [] names = refl
in_known done (true ∷ side) [] = refl
in_known done (false ∷ side) [] = refl
in_known done (true ∷ side) (name ∷ names) =
    or_from (is_unknown_item (done ++ name ∷ names) name) (list_any (is_unknown_item (done ++ name ∷ names)) (names_in side names))
    (rw (among_seam done name names) (by (is_name name)))
    (subst (λ (all : List (List ℕ)). list_any (is_unknown_item all) (names_in side names) ≡ false) (append_assoc done (name ∷ []) names) (in_known (done ++ name ∷ []) side names))
  where
    by : (b : Bool) → (b && false) ≡ false
    by true = refl
    by false = refl
in_known done (false ∷ side) (name ∷ names) =
    subst (λ (all : List (List ℕ)). list_any (is_unknown_item all) (names_in side names) ≡ false) (append_assoc done (name ∷ []) names) (in_known (done ++ name ∷ []) side names)

-- the place of a name is how many stand before it
place_seam : (done : List (List ℕ)) (name : List ℕ) (names : List (List ℕ)) → AreApart (done ++ name ∷ names) → place_of (done ++ name ∷ names) name ≡ length done
place_seam done name names apart =
    let long : length (done ++ name ∷ names) ≡ length done + suc (length names) = length-append done (name ∷ names) in
    let at : name_at (done ++ name ∷ names) (length done) ≡ name = get_or-append_seam done name names [] in
    let place = place_at (done ++ name ∷ names) (length done) apart (omega (arith, long)) in
    rw at at place

-- the names in a side stand in order
pub in_order : (least : ℕ) (done : List (List ℕ)) (side : List Bool) (names : List (List ℕ)) → least ≤ length done → AreApart (done ++ names)
    → rise_from least (map (place_of (done ++ names)) (names_in side names)) ≡ true
in_order least done [] names le apart = refl
in_order least done (true ∷ side) [] le apart = refl
in_order least done (false ∷ side) [] le apart = refl
in_order least done (true ∷ side) (name ∷ names) le apart =
    let more : length (done ++ name ∷ []) ≡ length done + 1 = length-append done (name ∷ []) in
    let next = append_assoc done (name ∷ []) names in
    let rest = subst (λ (all : List (List ℕ)). rise_from (length done + 1) (map (place_of all) (names_in side names)) ≡ true) next
    (in_order (length done + 1) (done ++ name ∷ []) side names (omega (arith, more)) (subst AreApart (sym next) apart)) in
    rw (place_seam done name names apart) (and_from (nat_le least (length done)) _ (le-leb least (length done) le) rest)
in_order least done (false ∷ side) (name ∷ names) le apart =
    let more : length (done ++ name ∷ []) ≡ length done + 1 = length-append done (name ∷ []) in
    let next = append_assoc done (name ∷ []) names in
    subst (λ (all : List (List ℕ)). rise_from least (map (place_of all) (names_in side names)) ≡ true) next
    (in_order least (done ++ name ∷ []) side names (omega (arith, more, le)) (subst AreApart (sym next) apart))

-- a name that isn't one of these isn't in a side of them
not_in : (name : List ℕ) (side : List Bool) (names : List (List ℕ)) → All (λ (other : List ℕ). same_name name other ≡ false) names → is_among (names_in side names) name ≡ false
not_in name [] names apart = refl
not_in name (true ∷ side) [] apart = refl
not_in name (false ∷ side) [] apart = refl
not_in name (true ∷ side) (other ∷ names) apart =
    or_from (same_name name other) (is_among (names_in side names) name) (apart zero [] (omega arith)) (not_in name side names (λ k d lt. apart (suc k) d (omega (arith, lt))))
not_in name (false ∷ side) (other ∷ names) apart = not_in name side names (λ k d lt. apart (suc k) d (omega (arith, lt)))

-- one more name that isn't one of them changes nothing
skip : (name : List ℕ) (chosen names : List (List ℕ)) → All (λ (other : List ℕ). same_name name other ≡ false) names
    → map (is_among (name ∷ chosen)) names ≡ map (is_among chosen) names
skip name chosen [] apart = refl
skip name chosen (other ∷ names) apart =
    let differs : same_name other name ≡ false = same_sym name other (apart zero [] (omega arith)) in
    rw differs (ap (λ (rest : List Bool). is_among chosen other ∷ rest) (skip name chosen names (λ k d lt. apart (suc k) d (omega (arith, lt)))))

-- the side of the names in it is the side
pub side_back : (side : List Bool) (names : List (List ℕ)) → length side ≡ length names → AreApart names → side_of names (names_in side names) ≡ side
side_back [] [] long apart = refl
side_back [] (name ∷ names) long apart = absurd (omega (arith, long))
side_back (true ∷ side) [] long apart = absurd (omega (arith, long))
side_back (false ∷ side) [] long apart = absurd (omega (arith, long))
side_back (true ∷ side) (name ∷ names) long apart =
    rw (same_self name) (ap (λ (rest : List Bool). true ∷ rest)
    (skip name (names_in side names) names (first_apart name names apart) ∙ side_back side names (omega (arith, long)) (cons_apart name names apart)))
side_back (false ∷ side) (name ∷ names) long apart =
    rw (not_in name side names (first_apart name names apart)) (ap (λ (rest : List Bool). false ∷ rest) (side_back side names (omega (arith, long)) (cons_apart name names apart)))
