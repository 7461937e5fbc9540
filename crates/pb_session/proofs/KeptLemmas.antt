-- Lists of studies that are kept, and of their periods.
use Rattle.std.specs.Prelude.{◌==◌, ◌↔◌, Contains, filter, find, map, not, is_some, IsSome, nat_lt, slice_index_or, if◌then◌else◌}
use Rattle.std.specs.List.{AllByRecursion, position_or_len, remove}
use Rattle.std.specs.Option.{option_and_then}
use Rattle.std.proofs.Common.{◌≡◌, ◌∙◌, ◌<◌, ◌≤◌, ℕ, zero, suc, cond, Bool, true, false, true≢false, List, [], ◌∷◌, length, take, Option, Some, None, slice_get, refl, sym, ap, subst, arith, inl, inr}
use Rattle.std.proofs.lemmas.Bool.{cases_Bool, eq-eqb, eqb-true, ltb-false, ltb-true}
use Rattle.std.proofs.lemmas.List.{take-map}
use Rattle.std.proofs.lemmas.List.Folds.{find_at}
use Rattle.std.proofs.lemmas.Option.{slice_get-get_or, slice_get_past}
use Rattle.pb_study.specs.declared.results.Stage.{Stage}
use Rattle.pb_study.specs.declared.results.Study.{Study}
use Rattle.pb_book.specs.declared.answer.Accepted.TheVariants.{Stored}
use Rattle.pb_kinds.specs.declared.rows.StoredRow.{StoredRow}
use Rattle.pb_book.specs.TakenOut.{touched_at}
use Rattle.pb_session.specs.declared.kept.KeptStudy.{KeptStudy}
use Rattle.pb_session.specs.Kept.{kept_behind, most_kept, untouched, without}
use Rattle.pb_session.specs.Keeping.{is_of, others_than, place_in, saved_by, settled, settled_by, settled_stage, stage_beside, studies_behind, untouched_studies}

-- the periods of kept studies
abbrev pub periods_in : List KeptStudy → List ℕ
periods_in kept = map (λ (k : KeptStudy). k.period) kept

-- ---- filters

map_filter : {A B : Type 0} (f : A → B) (p : B → Bool) (xs : List A) → map f (filter (λ x. p (f x)) xs) ≡ filter p (map f xs)
map_filter f p [] = refl
map_filter f p (x ∷ xs) = elim (cases_Bool (p (f x))) [
  | inl passes ↦ rw passes (ap (λ ys. f x ∷ ys) (map_filter f p xs))
  | inr fails ↦ rw fails (map_filter f p xs)
]

pub all_filter : {A : Type 0} (P : A → Type 0) (test : A → Bool) (xs : List A) → AllByRecursion P xs → AllByRecursion P (filter test xs)
all_filter P test [] all = tt
all_filter P test (x ∷ xs) (here, all) = elim (cases_Bool (test x)) [
  | inl passes ↦ rw passes (here, all_filter P test xs all)
  | inr fails ↦ rw fails (all_filter P test xs all)
]

all_take : {A : Type 0} (P : A → Type 0) (n : ℕ) (xs : List A) → AllByRecursion P xs → AllByRecursion P (take n xs)
all_take P zero xs all = tt
all_take P (suc n) [] all = tt
all_take P (suc n) (x ∷ xs) (here, all) = (here, all_take P n xs all)

pub few_filter : {A : Type 0} (test : A → Bool) (xs : List A) (most : ℕ) → length xs ≤ most → length (filter test xs) ≤ most
few_filter test xs most few = let shorter = by xs in omega (arith, few, shorter)
  where
    by : (xs : List _) → length (filter test xs) ≤ length xs
    by [] = omega arith
    by (x ∷ xs) = let rest = by xs in elim (cases_Bool (test x)) [ inl passes ↦ rw passes (omega (arith, rest)) | inr fails ↦ rw fails (omega (arith, rest)) ]

pub few_take : {A : Type 0} (n : ℕ) (xs : List A) → length (take n xs) ≤ n
few_take zero xs = omega arith
few_take (suc n) [] = omega arith
few_take (suc n) (x ∷ xs) = let rest = few_take n xs in omega (arith, rest)

-- an item that fails might as well be missing
filter_without : {A : Type 0} (test : A → Bool) (xs : List A) (n : ℕ) (d : A) → n < length xs → test (slice_index_or xs n d) ≡ false → filter test (remove xs n) ≡ filter test xs
filter_without test [] n d lt fails = absurd (omega (arith, lt))
filter_without test (x ∷ xs) zero d lt fails = rw fails refl
filter_without test (x ∷ xs) (suc n) d lt fails = ap (λ ys. cond (test x) (x ∷ ys) ys) (filter_without test xs n d (omega (arith, lt)) fails)

-- ---- the periods of the studies that stay

pub others_periods : (i : ℕ) (kept : List KeptStudy) → periods_in (others_than i kept) ≡ without i (periods_in kept)
others_periods i kept = map_filter (λ (k : KeptStudy). k.period) (λ (n : ℕ). not (n == i)) kept

abbrev no_stage : Option Stage
no_stage = None

-- a study of a period
abbrev pub first : ℕ → Study → KeptStudy
first i study = record { period = i; study = study }

pub behind_periods : (i : ℕ) (study : Study) (kept : List KeptStudy) → periods_in (studies_behind i study kept) ≡ kept_behind i study (periods_in kept)
behind_periods i study kept = elim (cases_Bool (length study.stages == 1)) [
  | inl one ↦ rw one (sym (take-map (λ (k : KeptStudy). k.period) most_kept (first i study ∷ others_than i kept)) ∙ ap (λ (ks : List ℕ). take most_kept (i ∷ ks)) (others_periods i kept))
  | inr more ↦ rw more (others_periods i kept)
]

pub untouched_periods : (rows : List StoredRow) (kept : List KeptStudy) → periods_in (untouched_studies rows kept) ≡ untouched rows (periods_in kept)
untouched_periods rows kept = map_filter (λ (k : KeptStudy). k.period) _ kept

-- ---- what holds for the studies that stay

pub all_behind : (P : KeptStudy → Type 0) (i : ℕ) (study : Study) (kept : List KeptStudy) → (length study.stages ≡ 1 → P (first i study)) → AllByRecursion P kept
    → AllByRecursion P (studies_behind i study kept)
all_behind P i study kept here all = elim (cases_Bool (length study.stages == 1)) [
  | inl one ↦
      let whole : AllByRecursion P (first i study ∷ others_than i kept) = (here (eqb-true (length study.stages) 1 one), all_filter P (λ (k : KeptStudy). not (is_of i k)) kept all) in
      rw one (all_take P most_kept (first i study ∷ others_than i kept) whole)
  | inr more ↦ rw more (all_filter P (λ (k : KeptStudy). not (is_of i k)) kept all)
]

pub few_behind : (i : ℕ) (study : Study) (kept : List KeptStudy) → length kept ≤ most_kept → length (studies_behind i study kept) ≤ most_kept
few_behind i study kept few = elim (cases_Bool (length study.stages == 1)) [
  | inl one ↦ rw one (few_take most_kept (first i study ∷ others_than i kept))
  | inr more ↦ rw more (few_filter (λ (k : KeptStudy). not (is_of i k)) kept most_kept few)
]

-- ---- the study of a period

-- what is found is of the period, and what holds for all holds for it
pub found_is : (P : KeptStudy → Type 0) (i : ℕ) (kept : List KeptStudy) (k : KeptStudy) → find (is_of i) kept ≡ Some k → AllByRecursion P kept → (k.period ≡ i) × P k
found_is P i [] k found all = cc found
found_is P i (x ∷ kept) k found (here, all) = elim (cases_Bool (is_of i x)) [
  | inl own ↦
      let same : x ≡ k = cc (rw own at found) in
      subst (λ (y : KeptStudy). (y.period ≡ i) × P y) same (eqb-true x.period i own, here)
  | inr other ↦ found_is P i kept k (rw other at found) all
]

same_self : (a : ℕ) → (a == a) ≡ true
same_self a = eq-eqb a a refl

same_number : (a b : ℕ) → a ≡ b → (a == b) ≡ true
same_number a b is = subst (λ (c : ℕ). (a == c) ≡ true) is (same_self a)

behind : (i : ℕ) (x : KeptStudy) (kept : List KeptStudy) (n : ℕ) → n < length (periods_in (x ∷ kept)) → slice_index_or (periods_in (x ∷ kept)) n i ≡ i → is_of i x ≡ false
    → Contains (periods_in kept) i
behind i x kept zero lt is other = absurd (true≢false (sym (same_number x.period i is) ∙ other))
behind i x kept (suc n) lt is other = (n, omega (arith, lt), is)

pub contained_found : (i : ℕ) (kept : List KeptStudy) → Contains (periods_in kept) i → IsSome (find (is_of i) kept)
contained_found i [] (n, lt, is) = absurd (omega (arith, lt))
contained_found i (x ∷ kept) (n, lt, is) = elim (cases_Bool (is_of i x)) [
  | inl own ↦ rw own refl
  | inr other ↦ rw other (contained_found i kept (behind i x kept n lt is other))
]

pub found_contained : (i : ℕ) (kept : List KeptStudy) (k : KeptStudy) → find (is_of i) kept ≡ Some k → Contains (periods_in kept) i
found_contained i [] k found = cc found
found_contained i (x ∷ kept) k found = elim (cases_Bool (is_of i x)) [
  | inl own ↦ (0, omega arith, eqb-true x.period i own)
  | inr other ↦ let (n, lt, is) = found_contained i kept k (rw other at found) in (suc n, omega (arith, lt), is)
]

-- ---- the place of the study of a period

-- the study at the place of the period's study is the one that is found
pub place_found : (i : ℕ) (kept : List KeptStudy) (n : ℕ) → place_in i kept ≡ Some n → (n < length kept) × (find (is_of i) kept ≡ slice_get kept n)
place_found i kept n at = elim (cases_Bool (nat_lt (position_or_len (is_of i) kept) (length kept))) [
  | inl there ↦
      let same : position_or_len (is_of i) kept ≡ n = cc (rw there at at) in
      (subst (λ (m : ℕ). m < length kept) same (ltb-true (position_or_len (is_of i) kept) (length kept) there), find_at (is_of i) kept ∙ ap (slice_get kept) same)
  | inr past ↦ cc (rw past at at)
]

pub place_none : (i : ℕ) (kept : List KeptStudy) → place_in i kept ≡ None → find (is_of i) kept ≡ None
place_none i kept at = elim (cases_Bool (nat_lt (position_or_len (is_of i) kept) (length kept))) [
  | inl there ↦ cc (rw there at at)
  | inr past ↦
      let long : length kept ≤ position_or_len (is_of i) kept = omega (arith, ltb-false (position_or_len (is_of i) kept) (length kept) past) in
      find_at (is_of i) kept ∙ slice_get_past kept (position_or_len (is_of i) kept) long
]

-- what is found passes the test
found_passes : {A : Type 0} (test : A → Bool) (xs : List A) (x : A) → find test xs ≡ Some x → test x ≡ true
found_passes test [] x found = cc found
found_passes test (y ∷ xs) x found = elim (cases_Bool (test y)) [
  | inl own ↦ let same : y ≡ x = cc (rw own at found) in subst (λ (z : _). test z ≡ true) same own
  | inr other ↦ found_passes test xs x (rw other at found)
]

-- to take out the study at its place, and keep it, is to keep the one that is found
pub settled_place : (i : ℕ) (kept : List KeptStudy) (n : ℕ) (k : KeptStudy) → place_in i kept ≡ Some n → k ≡ slice_index_or kept n k
    → studies_behind i k.study (remove kept n) ≡ settled i None kept
settled_place i kept n k at is =
    let (lt, found) = place_found i kept n at in
    let here : slice_get kept n ≡ Some k = slice_get-get_or kept n k lt ∙ ap (λ (x : KeptStudy). Some x) (sym is) in
    let found_k : find (is_of i) kept ≡ Some k = found ∙ here in
    let own : is_of i k ≡ true = found_passes (is_of i) kept k found_k in
    let fails : not (is_of i (slice_index_or kept n k)) ≡ false = ap (λ (x : KeptStudy). not (is_of i x)) (sym is) ∙ ap not own in
    ap (λ (others : List KeptStudy). if length k.study.stages == 1 then take most_kept ((let first : KeptStudy = record { period = i; study = k.study } in first) ∷ others) else others)
    (filter_without (λ (x : KeptStudy). not (is_of i x)) kept n k lt fails)
    ∙ sym (ap (λ (o : Option KeptStudy). settled_by i o kept) found_k)

pub settled_none : (i : ℕ) (kept : List KeptStudy) → place_in i kept ≡ None → kept ≡ settled i None kept
settled_none i kept at = sym (ap (λ (o : Option KeptStudy). settled_by i o kept) (place_none i kept at))

-- and its first stage is that of the one that is found
pub placed_stage : (i : ℕ) (kept : List KeptStudy) (n : ℕ) (k : KeptStudy) → place_in i kept ≡ Some n → k ≡ slice_index_or kept n k
    → stage_beside k.study ≡ settled_stage i None kept
placed_stage i kept n k at is =
    let (lt, found) = place_found i kept n at in
    let here : slice_get kept n ≡ Some k = slice_get-get_or kept n k lt ∙ ap (λ (x : KeptStudy). Some x) (sym is) in
    sym (ap (λ (o : Option KeptStudy). option_and_then (λ (x : KeptStudy). stage_beside x.study) o) (found ∙ here))

pub unplaced_stage : (i : ℕ) (kept : List KeptStudy) → place_in i kept ≡ None → no_stage ≡ settled_stage i None kept
unplaced_stage i kept at = sym (ap (λ (o : Option KeptStudy). option_and_then (λ (x : KeptStudy). stage_beside x.study) o) (place_none i kept at))

-- ---- the first stage of a study that is dropped

-- the first kept study isn't one of those that stay, if the row touches it
pub first_gone : (rows : List StoredRow) (kept : List KeptStudy) (k : KeptStudy) → 0 < length kept → k ≡ slice_index_or kept 0 k → touched_at rows k.period ≡ true
    → untouched_studies rows (remove kept 0) ≡ untouched_studies rows kept
first_gone rows kept k some is touched =
    filter_without (λ (x : KeptStudy). not (touched_at rows x.period)) kept 0 k some (ap (λ (x : KeptStudy). not (touched_at rows x.period)) (sym is) ∙ ap not touched)

-- and its first stage is saved, unless another was reported last
pub first_saved : (rows : List StoredRow) (kept : List KeptStudy) (k : KeptStudy) (last : Option Stage) → 0 < length kept → k ≡ slice_index_or kept 0 k → touched_at rows k.period ≡ true
    → is_some last ≡ false → slice_get k.study.stages 0 ≡ saved_by Stored rows kept last
first_saved rows [] k last some is touched none = absurd (omega (arith, some))
first_saved rows (x ∷ kept) k (Some stage) some is touched none = cc none
first_saved rows (x ∷ kept) k None some is touched none =
    subst (λ (y : KeptStudy). slice_get k.study.stages 0 ≡ (if touched_at rows y.period then slice_get y.study.stages 0 else no_stage)) is (rw touched refl)

-- otherwise nothing is
pub other_saved : (rows : List StoredRow) (kept : List KeptStudy) (last : Option Stage) → is_some last ≡ true → last ≡ saved_by Stored rows kept last
other_saved rows kept (Some stage) some = refl
other_saved rows kept None some = cc some

pub spared_saved : (rows : List StoredRow) (kept : List KeptStudy) (k : KeptStudy) (last : Option Stage) → k ≡ slice_index_or kept 0 k → touched_at rows k.period ≡ false
    → last ≡ saved_by Stored rows kept last
spared_saved rows kept k (Some stage) is spared = refl
spared_saved rows [] k None is spared = refl
spared_saved rows (x ∷ kept) k None is spared =
    subst (λ (y : KeptStudy). no_stage ≡ (if touched_at rows y.period then slice_get y.study.stages 0 else no_stage)) is (rw spared refl)

pub none_saved : (rows : List StoredRow) (kept : List KeptStudy) (last : Option Stage) → (length kept == 0) ≡ true → last ≡ saved_by Stored rows kept last
none_saved rows kept (Some stage) none = refl
none_saved rows [] None none = refl
none_saved rows (x ∷ kept) None none = absurd (omega (arith, eqb-true (length (x ∷ kept)) 0 none))

slice_get-some : {A : Type 0} (xs : List A) (n : ℕ) → n < length xs → IsSome (slice_get xs n)
slice_get-some [] n lt = absurd (omega (arith, lt))
slice_get-some (x ∷ xs) zero lt = refl
slice_get-some (x ∷ xs) (suc n) lt = slice_get-some xs n (omega (arith, lt))

-- ---- what the places say about the periods

contained : (i : ℕ) (kept : List KeptStudy) (o : Option KeptStudy) → find (is_of i) kept ≡ o → IsSome o → Contains (periods_in kept) i
contained i kept None found some = cc some
contained i kept (Some k) found some = found_contained i kept k found

there : (i : ℕ) (kept : List KeptStudy) (o : Option ℕ) → place_in i kept ≡ o → IsSome o → Contains (periods_in kept) i
there i kept None at some = cc some
there i kept (Some n) at some = let (lt, found) = place_found i kept n at in contained i kept (slice_get kept n) found (slice_get-some kept n lt)

back : (i : ℕ) (kept : List KeptStudy) (o : Option ℕ) → place_in i kept ≡ o → Contains (periods_in kept) i → IsSome o
back i kept (Some n) at has = refl
back i kept None at has = subst (λ (o : Option KeptStudy). IsSome o) (place_none i kept at) (contained_found i kept has)

pub place_contained : (i : ℕ) (kept : List KeptStudy) → IsSome (place_in i kept) ↔ Contains (periods_in kept) i
place_contained i kept = (there i kept (place_in i kept) refl, back i kept (place_in i kept) refl)
