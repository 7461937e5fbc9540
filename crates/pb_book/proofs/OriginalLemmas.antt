-- The facts as they came: a fact joins them, and an amendment or a strike changes none.
use Rattle.std.specs.Prelude.{if◌then◌else◌, IsSome, nat_eq, position}
use Rattle.std.specs.HashMap.{HashMap, get}
use Rattle.std.specs.Option.{option_map, option_or}
use Rattle.std.proofs.Common.{◌≡◌, ◌∙◌, ℕ, ◌+◌, ◌<◌, ◌≤◌, refl, true, false, List, [], ◌∷◌, ◌++◌, get_or, length, slice_get, Option, Some, None, sym, ap, arith, inl, inr, length-append}
use Rattle.std.proofs.lemmas.Bool.{cases_Bool}
use Rattle.std.proofs.lemmas.List.Folds.{list_any_at}
use Rattle.std.proofs.lemmas.Option.{get_or_from_slice_get, slice_get-get_or, slice_get-map, slice_get_past, slice_get_within}
use Rattle.std.proofs.Math.ListN.{get_or-append}
use Rattle.std.proofs.Math.Seq.{get_or-append_seam}
use Rattle.pb_facts.specs.Changes.{amended, changed, struck}
use Rattle.pb_facts.specs.Facts.{NoRepeats, has_id, is_live_with}
use Rattle.pb_facts.specs.declared.fact.Change.{Change}
use Rattle.pb_facts.specs.declared.fact.Fact.{Fact}
use Rattle.pb_facts.specs.declared.facts.KeptFact.{KeptFact}
use Rattle.pb_book.specs.Kept.{HasOriginal, told_at}
use Rattle.pb_book.specs.Rows.{live}
use Rattle.pb_book.proofs.ChangeLemmas.{only_live}
use Rattle.pb_periods.proofs.PeriodLemmas.{none_at_first, position_at_first}

-- facts that are returned where others are returned
pub record TellsAll (told more : ℕ → Option Fact) : Type 0 where
  pub kept : (i : ℕ) (fact : Fact) → told i ≡ Some fact → more i ≡ Some fact

-- the images of the facts that are returned stay where they are
pub tells_as : {Y : Type 0} (f : Fact → Y) (told more : ℕ → Option Fact) → TellsAll told more → (i : ℕ) (y : Y) → option_map f (told i) ≡ Some y → option_map f (more i) ≡ Some y
tells_as {Y} f told more tells i y is = by (told i) refl is
  where
    by : (o : Option Fact) → told i ≡ o → option_map f o ≡ Some y → option_map f (more i) ≡ Some y
    by None at is = cc is
    by (Some fact) at is = ap (option_map f) (tells.kept i fact at) ∙ is

pub tells_itself : (told : ℕ → Option Fact) → TellsAll told told
tells_itself told = record { kept = λ i fact is. is }

pub tells_same : (told more : ℕ → Option Fact) → ((i : ℕ) → more i ≡ told i) → TellsAll told more
tells_same told more same = record { kept = λ i fact is. same i ∙ is }

-- a fact that joins the others: these are returned as before, it is returned at its place, and none after it
pub record Joins (told more : ℕ → Option Fact) (kept : List KeptFact) (fact : Fact) : Type 0 where
  pub all : TellsAll told more
  pub last : more (length kept) ≡ Some fact
  pub none : (i : ℕ) → length (kept ++ live fact ∷ []) ≤ i → more i ≡ None

-- neither of two values is there, if none is chosen
none_of : {X : Type 0} (a b : Option X) → option_or a b ≡ None → a ≡ None
none_of None b is = refl
none_of (Some x) b is = cc is

-- the facts that are returned, if one more is kept
pub joins : {S : Type 0} (kept : List KeptFact) (originals : HashMap ℕ Fact S) (fact : Fact)
    → ((i : ℕ) → length kept ≤ i → told_at kept originals i ≡ None) → Joins (told_at kept originals) (told_at (kept ++ live fact ∷ []) originals) kept fact
joins kept originals fact behind = record {
  all = record { kept = λ i x is. stays i x (get nat_eq originals i) is };
  last = rw (free (length kept) (omega arith), slice_get-get_or (kept ++ live fact ∷ []) (length kept) (live fact) (omega (arith, long)), get_or-append_seam kept (live fact) [] (live fact)) refl;
  none = λ i past. rw (free i (omega (arith, past, long)), slice_get_past (kept ++ live fact ∷ []) i past) refl;
}
  where
    long : length (kept ++ live fact ∷ []) ≡ length kept + 1
    long = length-append kept (live fact ∷ [])

    free : (i : ℕ) → length kept ≤ i → get nat_eq originals i ≡ None
    free i past = none_of (get nat_eq originals i) _ (behind i past)

    there : (i : ℕ) (k : KeptFact) → slice_get kept i ≡ Some k → slice_get (kept ++ live fact ∷ []) i ≡ Some k
    there i k is =
        let within : i < length kept = slice_get_within kept i k is in
        slice_get-get_or (kept ++ live fact ∷ []) i k (omega (arith, within, long)) ∙ ap Some (get_or-append kept (live fact ∷ []) k i within ∙ get_or_from_slice_get kept i k k is)

    held : (i : ℕ) (x : Fact) (o : Option KeptFact) → slice_get kept i ≡ o → option_map (λ (k : KeptFact). k.fact) o ≡ Some x
        → option_map (λ (k : KeptFact). k.fact) (slice_get (kept ++ live fact ∷ []) i) ≡ Some x
    held i x None at is = cc is
    held i x (Some k) at is = ap (option_map (λ (k : KeptFact). k.fact)) (there i k at) ∙ is

    stays : (i : ℕ) (x : Fact) (o : Option Fact) → option_or o (option_map (λ (k : KeptFact). k.fact) (slice_get kept i)) ≡ Some x
        → option_or o (option_map (λ (k : KeptFact). k.fact) (slice_get (kept ++ live fact ∷ []) i)) ≡ Some x
    stays i x None is = held i x (slice_get kept i) refl is
    stays i x (Some f) is = is

-- the same fact is returned if what is kept at its place changes but it is kept as it came
alike : (o a b : Option Fact) → IsSome o → option_or o a ≡ option_or o b
alike None a b some = cc some
alike (Some f) a b some = refl

-- an amendment changes none of the facts as they came, if the one that it changes is kept as it came
pub told_amended : {S : Type 0} (id : List ℕ) (change : Change) (kept : List KeptFact) (originals : HashMap ℕ Fact S) → HasOriginal kept originals id → (i : ℕ)
    → told_at (amended id change kept) originals i ≡ told_at kept originals i
told_amended id change kept originals has i = by (slice_get kept i) refl
  where
    next : KeptFact → KeptFact
    next k = if is_live_with id k then record { fact = changed change k.fact; struck = false } else k

    by : (o : Option KeptFact) → slice_get kept i ≡ o → told_at (amended id change kept) originals i ≡ told_at kept originals i
    by None at = rw (slice_get-map next kept i, at) refl
    by (Some k) at = elim (cases_Bool (is_live_with id k)) [
      | inl is ↦ alike (get nat_eq originals i) _ _ (has i k at is)
      | inr other ↦ rw (slice_get-map next kept i, at, other) refl
    ]

-- neither does a strike
pub told_struck : {S : Type 0} (id : List ℕ) (kept : List KeptFact) (originals : HashMap ℕ Fact S) (i : ℕ) → told_at (struck id kept) originals i ≡ told_at kept originals i
told_struck id kept originals i = by (slice_get kept i) refl
  where
    next : KeptFact → KeptFact
    next k = if has_id id k then record { fact = k.fact; struck = true } else k

    by : (o : Option KeptFact) → slice_get kept i ≡ o → told_at (struck id kept) originals i ≡ told_at kept originals i
    by None at = rw (slice_get-map next kept i, at) refl
    by (Some k) at = elim (cases_Bool (has_id id k)) [
      | inl is ↦ rw (slice_get-map next kept i, at, is) refl
      | inr other ↦ rw (slice_get-map next kept i, at, other) refl
    ]

-- the one live fact of an id is kept as it came
pub has_original : {S : Type 0} (id : List ℕ) (kept : List KeptFact) (originals : HashMap ℕ Fact S) (i : ℕ) → NoRepeats kept → Some i ≡ position (is_live_with id) kept
    → IsSome (get nat_eq originals i) → HasOriginal kept originals id
has_original id kept originals i apart is some = λ place k at live_k.
    let found = position_at_first (is_live_with id) kept i k is in
    let lt = slice_get_within kept place k at in
    let here : is_live_with id (get_or kept place k) ≡ true = rw (get_or_from_slice_get kept place k k at) live_k in
    let same : place ≡ i = only_live id kept i place k apart found.0 found.1 lt here in
    rw same some

-- so it is if there is none
pub no_original : {S : Type 0} (id : List ℕ) (kept : List KeptFact) (originals : HashMap ℕ Fact S) → None ≡ position (is_live_with id) kept → HasOriginal kept originals id
no_original id kept originals none = λ place k at live_k.
    let lt = slice_get_within kept place k at in
    let here : is_live_with id (get_or kept place k) ≡ true = rw (get_or_from_slice_get kept place k k at) live_k in
    cc (sym (none_at_first (is_live_with id) kept none) ∙ list_any_at (is_live_with id) kept place k lt here)
