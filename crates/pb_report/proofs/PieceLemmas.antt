-- Texts made piece by piece: what is written joined to what is left is the whole.
use Rattle.std.specs.List.{flat_map}
use Rattle.std.proofs.Common.{◌≡◌, ◌∙◌, ℕ, zero, suc, ◌+◌, ◌<◌, ◌≤◌, ◌==◌, List, [], ◌∷◌, ◌++◌, length, get_or, drop, Bool, true, false, codes, refl, sym, ap, append_assoc, append-nil, arith}
use Rattle.std.proofs.lemmas.Bool.{ne_eqb}
use Rattle.pb_fixed.proofs.Lists.{drop_next}
use Rattle.pb_graph.specs.declared.records.Witness.{Witness}
use Rattle.pb_graph.specs.declared.records.Witness.TheVariants.{Cut, Cycle}
use Rattle.pb_report.specs.Certificate.{spaced, names_in, certificate_values}
use Rattle.pb_report.specs.Pieces.{gap_before, certificate_parts}
use Rattle.pb_rows.specs.declared.name.Names.{Names}

-- the text of pieces that are left, the first of which has a space before it unless it is the first of all
abbrev pub rest_of : {A : Type 0} → (A → List ℕ) → Bool → List A → List ℕ
rest_of text true items = spaced text items
rest_of text false items = flat_map (λ item. codes " " ++ text item) items

pub rest_cons : {A : Type 0} (text : A → List ℕ) (first : Bool) (x : A) (xs : List A)
    → rest_of text first (x ∷ xs) ≡ (gap_before first ++ text x) ++ rest_of text false xs
rest_cons text true x xs = refl
rest_cons text false x xs = refl

pub rest_more : {A : Type 0} (text : A → List ℕ) (xs : List A) (i : ℕ) (d : A) → i < length xs
    → rest_of text (i == 0) (drop i xs) ≡ (gap_before (i == 0) ++ text (get_or xs i d)) ++ rest_of text ((i + 1) == 0) (drop (i + 1) xs)
rest_more text xs i d lt =
    let later : ((i + 1) == 0) ≡ false = ne_eqb (i + 1) 0 (λ e. absurd (omega (arith, e))) in
    rw (later, drop_next xs i d lt) (rest_cons text (i == 0) (get_or xs i d) (drop (i + 1) xs))

-- one more piece is written
pub piece_more : {A : Type 0} (text : A → List ℕ) (whole done : List ℕ) (xs : List A) (i : ℕ) (d : A) → i < length xs → whole ≡ done ++ rest_of text (i == 0) (drop i xs)
    → whole ≡ (done ++ (gap_before (i == 0) ++ text (get_or xs i d))) ++ rest_of text ((i + 1) == 0) (drop (i + 1) xs)
piece_more text whole done xs i d lt so_far =
    let rest = rest_of text ((i + 1) == 0) (drop (i + 1) xs) in
    so_far ∙ ap (λ (t : List ℕ). done ++ t) (rest_more text xs i d lt) ∙ sym (append_assoc done (gap_before (i == 0) ++ text (get_or xs i d)) rest)

none_left : {A : Type 0} (xs : List A) (i : ℕ) → length xs ≤ i → drop i xs ≡ []
none_left [] zero le = refl
none_left [] (suc i) le = refl
none_left (x ∷ xs) zero le = absurd (omega (arith, le))
none_left (x ∷ xs) (suc i) le = none_left xs i (omega (arith, le))

-- all pieces are written
pub pieces_done : {A : Type 0} (text : A → List ℕ) (whole done : List ℕ) (xs : List A) (i : ℕ) → length xs ≤ i → whole ≡ done ++ rest_of text (i == 0) (drop i xs) → done ≡ whole
pieces_done {A = A} text whole done xs i le so_far =
    sym (so_far ∙ ap (λ (left : List A). done ++ rest_of text (i == 0) left) (none_left xs i le) ∙ ap (λ (t : List ℕ). done ++ t) (none (i == 0)) ∙ append-nil done)
  where
    none : (first : Bool) → rest_of text first [] ≡ []
    none true = refl
    none false = refl

-- the names in a side from place n on, if node n is in the side, and if it isn't
names_inside : (side : List Bool) (nodes : List (List ℕ)) (n : ℕ) → n < length side → n < length nodes → get_or side n false ≡ true
    → names_in (drop n side) (drop n nodes) ≡ get_or nodes n [] ∷ names_in (drop (n + 1) side) (drop (n + 1) nodes)
names_inside side nodes n ls ln in_side = rw (drop_next side n false ls, drop_next nodes n [] ln, in_side) refl

names_outside : (side : List Bool) (nodes : List (List ℕ)) (n : ℕ) → n < length side → n < length nodes → get_or side n false ≡ false
    → names_in (drop n side) (drop n nodes) ≡ names_in (drop (n + 1) side) (drop (n + 1) nodes)
names_outside side nodes n ls ln out = rw (drop_next side n false ls, drop_next nodes n [] ln, out) refl

-- one more node of the side is written
pub side_inside : (whole text : List ℕ) (side : List Bool) (nodes : List (List ℕ)) (n : ℕ) (first : Bool) → n < length side → n < length nodes → get_or side n false ≡ true
    → whole ≡ text ++ rest_of (λ (name : List ℕ). name) first (names_in (drop n side) (drop n nodes))
    → whole ≡ (text ++ (gap_before first ++ get_or nodes n [])) ++ rest_of (λ (name : List ℕ). name) false (names_in (drop (n + 1) side) (drop (n + 1) nodes))
side_inside whole text side nodes n first ls ln in_side so_far =
    let id : List ℕ → List ℕ = λ name. name in
    let rest = names_in (drop (n + 1) side) (drop (n + 1) nodes) in
    let name = get_or nodes n [] in
    so_far ∙ ap (λ (names : List (List ℕ)). text ++ rest_of id first names) (names_inside side nodes n ls ln in_side)
    ∙ ap (λ (t : List ℕ). text ++ t) (rest_cons id first name rest) ∙ sym (append_assoc text (gap_before first ++ name) (rest_of id false rest))

pub side_outside : (whole text : List ℕ) (side : List Bool) (nodes : List (List ℕ)) (n : ℕ) (first : Bool) → n < length side → n < length nodes → get_or side n false ≡ false
    → whole ≡ text ++ rest_of (λ (name : List ℕ). name) first (names_in (drop n side) (drop n nodes))
    → whole ≡ text ++ rest_of (λ (name : List ℕ). name) first (names_in (drop (n + 1) side) (drop (n + 1) nodes))
side_outside whole text side nodes n first ls ln out so_far =
    so_far ∙ ap (λ (names : List (List ℕ)). text ++ rest_of (λ (name : List ℕ). name) first names) (names_outside side nodes n ls ln out)

-- the values of a certificate
pub as_parts : (names : Names) (witness : Witness) → certificate_values names witness ≡ certificate_parts names witness
as_parts names (Cut side members) = refl
as_parts names (Cycle steps) = refl
