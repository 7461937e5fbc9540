-- The facts on the shelf, looked up, added and changed.
use Rattle.std.proofs.Common.{◌≡◌, ◌<◌, ◌+◌, ◌++◌, ◌∷◌, [], ◌∙◌, ℕ, zero, suc, List, Bool, true, false, Some, All, length, get_or, set, map, arith, ap, ap₂, cond, sym, refl, inl, inr, length-append, slice_get}
use Rattle.std.specs.Prelude.{◌||◌, not, position}
use Rattle.std.specs.Cmp.Lexicographic.{bytes_decides}
use Rattle.std.specs.List.{list_any, prefix_len}
use Rattle.std.specs.Option.{option_map}
use Rattle.std.proofs.lemmas.Bool.{cases_Bool}
use Rattle.std.proofs.lemmas.List.{length-map, map-append}
use Rattle.std.proofs.lemmas.List.Elements.{All-push}
use Rattle.std.proofs.lemmas.Option.{get_or_from_slice_get, slice_get-map, slice_get_within}
use Rattle.std.proofs.Math.ListN.{get_or-append}
use Rattle.indexmap.specs.IndexMap.{insert_entry, set_value_at}
use Rattle.indexmap.specs.IndexSet.{insert_key}
use Rattle.pb_limits.specs.Limits.{most_facts}
use Rattle.pb_rows.specs.Name.{same_name}
use Rattle.pb_facts.specs.Changes.{changed}
use Rattle.pb_facts.specs.Fact.{id_of}
use Rattle.pb_facts.specs.Facts.{has_id}
use Rattle.pb_facts.specs.Shelf.{IsShelf, kept_facts, kept_of, stream_or_tank, told_fact}
use Rattle.pb_facts.specs.declared.fact.Change.{Change}
use Rattle.pb_facts.specs.declared.fact.Fact.{Fact}
use Rattle.pb_facts.specs.declared.facts.KeptFact.{KeptFact}
use Rattle.pb_facts.specs.declared.shelf.Entry.{Entry}
use Rattle.pb_facts.specs.declared.shelf.Told.{Told}
use Rattle.pb_facts.proofs.ChangeLemmas.{at_map}
use Rattle.pb_facts.proofs.NumberLemmas.{more_names}

-- ---- ids

prefix_images : {X Y Z : Type 0} (p : Y → Bool) (q : Z → Bool) (f : X → Y) (g : X → Z) (xs : List X) → ((x : X) → p (f x) ≡ q (g x)) → prefix_len (λ y. not (p y)) (map f xs) ≡ prefix_len (λ z. not (q z)) (map g xs)
prefix_images p q f g [] same = refl
prefix_images p q f g (x ∷ xs) same = ap₂ (λ (b : Bool) (n : ℕ). cond (not b) (1 + n) 0) (same x) (prefix_images p q f g xs same)

-- the first of two images of each item that pass alike
position_images : {X Y Z : Type 0} (p : Y → Bool) (q : Z → Bool) (f : X → Y) (g : X → Z) (xs : List X) → ((x : X) → p (f x) ≡ q (g x)) → position p (map f xs) ≡ position q (map g xs)
position_images p q f g xs same = rw (prefix_images p q f g xs same, length-map xs f, length-map xs g) refl

any_images : {X Y Z : Type 0} (p : Y → Bool) (q : Z → Bool) (f : X → Y) (g : X → Z) (xs : List X) → ((x : X) → p (f x) ≡ q (g x)) → list_any p (map f xs) ≡ list_any q (map g xs)
any_images p q f g [] same = refl
any_images p q f g (x ∷ xs) same = ap₂ (λ (a b : Bool). a || b) (same x) (any_images p q f g xs same)

same_flip : (a b : List ℕ) → same_name a b ≡ same_name b a
same_flip a b = elim (cases_Bool (same_name a b)) [
  | inl same ↦ same ∙ sym ((bytes_decides b a).1 (sym ((bytes_decides a b).0 same)))
  | inr other ↦ elim (cases_Bool (same_name b a)) [
    | inl same ↦ cc (sym other ∙ (bytes_decides a b).1 (sym ((bytes_decides b a).0 same)))
    | inr apart ↦ other ∙ sym apart
  ]
]

told_id : (id name : List ℕ) (entry : Entry) (told : Told) → id_of (told_fact id name entry.variance told) ≡ id
told_id id name entry (Told.Reading day grams) = refl
told_id id name entry (Told.Transfer first last grams) = refl
told_id id name entry (Told.Dip day mm density) = refl

-- an id is the id of the fact that is stored under it
is_under : (id : List ℕ) (names : List (List ℕ)) (one : List ℕ × Entry) → same_name id one.0 ≡ has_id id (kept_of names one)
is_under id names one = same_flip id one.0 ∙ ap (λ (q : List ℕ). same_name q id) (sym (told_id one.0 (get_or names one.1.name []) one.1 one.1.told))

-- so the place of an id is the place of the fact
pub place_under : (id : List ℕ) (names : List (List ℕ)) (entries : List (List ℕ × Entry)) → position (same_name id) (map (λ e. e.0) entries) ≡ position (has_id id) (kept_facts names entries)
place_under id names entries = position_images (same_name id) (has_id id) (λ (e : List ℕ × Entry). e.0) (kept_of names) entries (λ e. is_under id names e)

pub any_under : (id : List ℕ) (names : List (List ℕ)) (entries : List (List ℕ × Entry)) → list_any (same_name id) (map (λ e. e.0) entries) ≡ list_any (has_id id) (kept_facts names entries)
any_under id names entries = any_images (same_name id) (has_id id) (λ (e : List ℕ × Entry). e.0) (kept_of names) entries (λ e. is_under id names e)

-- ---- one more fact

-- a new id goes after the others
pub entry_behind : (entries : List (List ℕ × Entry)) (id : List ℕ) (entry : Entry) → list_any (same_name id) (map (λ e. e.0) entries) ≡ false → insert_entry same_name entries id entry ≡ entries ++ (id, entry) ∷ []
entry_behind [] id entry new = refl
entry_behind (e ∷ entries) id entry new = elim (cases_Bool (same_name id e.0)) [
  | inl same ↦ cc (rw same at new)
  | inr other ↦ rw other (ap (λ (es : List (List ℕ × Entry)). e ∷ es) (entry_behind entries id entry (rw other at new)))
]

-- the facts stay the same if names are put after the others
names_behind : (names more : List (List ℕ)) (entries : List (List ℕ × Entry)) → All (λ one. one.1.name < length names) entries → kept_facts (names ++ more) entries ≡ kept_facts names entries
names_behind names more [] numbered = refl
names_behind names more (e ∷ entries) numbered =
    let low : e.1.name < length names = numbered 0 e (omega arith) in
    let rest = names_behind names more entries (λ k d lt. numbered (suc k) d (omega (arith, lt))) in
    rw (get_or-append names more [] e.1.name low, rest) refl

-- a name is there, or goes after the others
pub same_facts : (names : List (List ℕ)) (name : List ℕ) (entries : List (List ℕ × Entry)) → All (λ one. one.1.name < length names) entries
    → kept_facts (insert_key same_name names name) entries ≡ kept_facts names entries
same_facts names name entries numbered = elim (cases_Bool (list_any (same_name name) names)) [
  | inl there ↦ rw there refl
  | inr new ↦ rw new (names_behind names (name ∷ []) entries numbered)
]

-- what an entry says under an id, with the number of a name
pub record Tells (fact : Fact) (entry : Entry) (number : ℕ) : Type 0 where
  pub told : told_fact (id_of fact) (stream_or_tank fact) entry.variance entry.told ≡ fact
  pub name : entry.name ≡ number
  pub live : entry.struck ≡ false

pub facts_more : (names : List (List ℕ)) (entries : List (List ℕ × Entry)) (fact : Fact) (entry : Entry) (number : ℕ) → IsShelf names entries → Tells fact entry number
    → slice_get (insert_key same_name names (stream_or_tank fact)) number ≡ Some (stream_or_tank fact)
    → kept_facts (insert_key same_name names (stream_or_tank fact)) (entries ++ (id_of fact, entry) ∷ []) ≡ kept_facts names entries ++ record { fact = fact; struck = false } ∷ []
facts_more names entries fact entry number shelf tells at =
    let all = insert_key same_name names (stream_or_tank fact) in
    let name : get_or all entry.name [] ≡ stream_or_tank fact = ap (λ (n : ℕ). get_or all n []) tells.name ∙ get_or_from_slice_get all number (stream_or_tank fact) [] at in
    let item : kept_of all (id_of fact, entry) ≡ record { fact = fact; struck = false } =
    ap₂ (λ (f : Fact) (b : Bool). record { fact = f; struck = b }) (ap (λ (n : List ℕ). told_fact (id_of fact) n entry.variance entry.told) name ∙ tells.told) tells.live in
    map-append (kept_of all) entries ((id_of fact, entry) ∷ [])
    ∙ ap₂ (λ (front : List KeptFact) (last : KeptFact). front ++ last ∷ []) (same_facts names (stream_or_tank fact) entries shelf.numbered) item

pub shelf_more : (names : List (List ℕ)) (entries : List (List ℕ × Entry)) (fact : Fact) (entry : Entry) (number : ℕ) → IsShelf names entries → Tells fact entry number
    → slice_get (insert_key same_name names (stream_or_tank fact)) number ≡ Some (stream_or_tank fact) → length entries < most_facts
    → IsShelf (insert_key same_name names (stream_or_tank fact)) (entries ++ (id_of fact, entry) ∷ [])
shelf_more names entries fact entry number shelf tells at room =
    let all = insert_key same_name names (stream_or_tank fact) in
    let more = more_names names (stream_or_tank fact) in
    let low : entry.name < length all = let within = slice_get_within all number (stream_or_tank fact) at in omega (arith, within, tells.name) in
    let long = length-append entries ((id_of fact, entry) ∷ []) in
    record {
      numbered = All-push (λ (one : List ℕ × Entry). one.1.name < length all) entries (id_of fact, entry) (λ k d lt. let old = shelf.numbered k d lt in omega (arith, old, more.0)) low;
      few_names = omega (arith, long, more.1, shelf.few_names);
      few = omega (arith, long, room);
    }

-- ---- a fact that is changed

-- one value is changed
map_set_value : {K X Y : Type 0} (f : K × X → Y) (es : List (K × X)) (i : ℕ) (w : X) (y : Y) → i < length es → ((d : K × X) → y ≡ f ((get_or es i d).0, w)) → map f (set_value_at es i w) ≡ set (map f es) i y
map_set_value f [] i w y within is = absurd (omega (arith, within))
map_set_value {K} {X} {Y} f (e ∷ es) zero w y within is = ap (λ (z : Y). z ∷ map f es) (sym (is e))
map_set_value {K} {X} {Y} f (e ∷ es) (suc i) w y within is = ap (λ (ys : List Y). f e ∷ ys) (map_set_value f es i w y (omega (arith, within)) is)

all_set_value : {K X : Type 0} (P : K × X → Type 0) (es : List (K × X)) (i : ℕ) (w : X) → All P es → ((d : K × X) → P ((get_or es i d).0, w)) → (k : ℕ) (d : K × X) → k < length (set_value_at es i w)
    → P (get_or (set_value_at es i w) k d)
all_set_value P [] i w all here k d within = absurd (omega (arith, within))
all_set_value P (e ∷ es) zero w all here zero d within = here e
all_set_value P (e ∷ es) zero w all here (suc k) d within = all (suc k) d within
all_set_value P (e ∷ es) (suc i) w all here zero d within = all zero d (omega arith)
all_set_value P (e ∷ es) (suc i) w all here (suc k) d within =
    all_set_value P es i w (λ j x lt. all (suc j) x (omega (arith, lt))) here k d (omega (arith, within))

length_set_value : {K X : Type 0} (es : List (K × X)) (i : ℕ) (w : X) → length (set_value_at es i w) ≡ length es
length_set_value [] i w = refl
length_set_value (e ∷ es) zero w = refl
length_set_value (e ∷ es) (suc i) w = ap (λ (n : ℕ). suc n) (length_set_value es i w)

-- the value at a place
value_at : (entries : List (List ℕ × Entry)) (i : ℕ) (entry : Entry) → slice_get (map (λ e. e.1) entries) i ≡ Some entry
    → (i < length entries) × ((d : List ℕ × Entry) → (get_or entries i d).1 ≡ entry)
value_at entries i entry at =
    let long = length-map entries (λ (e : List ℕ × Entry). e.1) in
    let within = slice_get_within (map (λ (e : List ℕ × Entry). e.1) entries) i entry at in
    let low : i < length entries = omega (arith, long, within) in
    (low, λ d. sym (at_map (λ (e : List ℕ × Entry). e.1) entries i d entry low) ∙ get_or_from_slice_get (map (λ (e : List ℕ × Entry). e.1) entries) i entry entry at)

-- so it was struck, or not
pub struck_at : (names : List (List ℕ)) (entries : List (List ℕ × Entry)) (i : ℕ) (d : KeptFact) (entry : Entry) → slice_get (map (λ e. e.1) entries) i ≡ Some entry
    → entry.struck ≡ (get_or (kept_facts names entries) i d).struck
struck_at names entries i d entry at =
    let value = value_at entries i entry at in
    ap (λ (e : Entry). e.struck) (sym (value.1 ([], entry))) ∙ ap (λ (k : KeptFact). k.struck) (sym (at_map (kept_of names) entries i ([], entry) d value.0))

pub kept_at : (names : List (List ℕ)) (entries : List (List ℕ × Entry)) (i : ℕ) (id : List ℕ) (entry : Entry) (name : List ℕ) (fact : Fact) → Some (id, entry) ≡ slice_get entries i
    → slice_get names entry.name ≡ Some name → fact ≡ told_fact id name entry.variance entry.told
    → slice_get (kept_facts names entries) i ≡ Some (record { fact = fact; struck = entry.struck })
kept_at names entries i id entry name fact at named is =
    let item : kept_of names (id, entry) ≡ record { fact = fact; struck = entry.struck } =
    ap (λ (f : Fact). record { fact = f; struck = entry.struck }) (ap (λ (n : List ℕ). told_fact id n entry.variance entry.told) (get_or_from_slice_get names entry.name name [] named) ∙ sym is) in
    slice_get-map (kept_of names) entries i ∙ ap (option_map (kept_of names)) (sym at) ∙ ap Some item

-- the shelf after a change that leaves the number
pub shelf_changed : (names : List (List ℕ)) (entries : List (List ℕ × Entry)) (i : ℕ) (old new : Entry) → IsShelf names entries → slice_get (map (λ e. e.1) entries) i ≡ Some old → new.name ≡ old.name
    → IsShelf names (set_value_at entries i new)
shelf_changed names entries i old new shelf at same =
    let value = value_at entries i old at in
    let low : new.name < length names =
    let was = shelf.numbered i ([], old) value.0 in let is = ap (λ (e : Entry). e.name) (value.1 ([], old)) in omega (arith, was, is, same) in
    let long = length_set_value entries i new in
    record {
      numbered = all_set_value (λ (one : List ℕ × Entry). one.1.name < length names) entries i new shelf.numbered (λ d. low);
      few_names = omega (arith, long, shelf.few_names);
      few = omega (arith, long, shelf.few);
    }

-- the facts after one more value is set, if this value stands for what a new fact says
pub facts_changed : (names : List (List ℕ)) (entries : List (List ℕ × Entry)) (i : ℕ) (change : Change) (d : KeptFact) (old new : Entry) → slice_get (map (λ e. e.1) entries) i ≡ Some old
    → ((id name : List ℕ) → told_fact id name new.variance new.told ≡ changed change (told_fact id name old.variance old.told)) → new.name ≡ old.name → new.struck ≡ false
    → kept_facts names (set_value_at entries i new) ≡ set (kept_facts names entries) i (record { fact = changed change (get_or (kept_facts names entries) i d).fact; struck = false })
facts_changed names entries i change d old new at told same live =
    let value = value_at entries i old at in
    map_set_value (kept_of names) entries i new (record { fact = changed change (get_or (kept_facts names entries) i d).fact; struck = false }) value.0
    (λ e. by (get_or entries i e) (get_or (kept_facts names entries) i d) (value.1 e) (at_map (kept_of names) entries i e d value.0))
  where
    by : (one : List ℕ × Entry) (item : KeptFact) → one.1 ≡ old → item ≡ kept_of names one → record { fact = changed change item.fact; struck = false } ≡ kept_of names (one.0, new)
    by one item was is =
        let name : get_or names new.name [] ≡ get_or names old.name [] = ap (λ (n : ℕ). get_or names n []) same in
        let fact : item.fact ≡ told_fact one.0 (get_or names old.name []) old.variance old.told = ap (λ (k : KeptFact). k.fact) is ∙ ap (λ (e : Entry). told_fact one.0 (get_or names e.name []) e.variance e.told) was in
        ap₂ (λ (f : Fact) (b : Bool). record { fact = f; struck = b })
        (ap (changed change) fact ∙ sym (ap (λ (n : List ℕ). told_fact one.0 n new.variance new.told) name ∙ told one.0 (get_or names old.name []))) (sym live)

pub facts_struck : (names : List (List ℕ)) (entries : List (List ℕ × Entry)) (i : ℕ) (d : KeptFact) (old : Entry) → slice_get (map (λ e. e.1) entries) i ≡ Some old
    → kept_facts names (set_value_at entries i (record { variance = old.variance; told = old.told; name = old.name; struck = true }))
    ≡ set (kept_facts names entries) i (record { fact = (get_or (kept_facts names entries) i d).fact; struck = true })
facts_struck names entries i d old at =
    let value = value_at entries i old at in
    map_set_value (kept_of names) entries i (record { variance = old.variance; told = old.told; name = old.name; struck = true }) (record { fact = (get_or (kept_facts names entries) i d).fact; struck = true }) value.0
    (λ e. by (get_or entries i e) (get_or (kept_facts names entries) i d) (value.1 e) (at_map (kept_of names) entries i e d value.0))
  where
    by : (one : List ℕ × Entry) (item : KeptFact) → one.1 ≡ old → item ≡ kept_of names one
        → record { fact = item.fact; struck = true } ≡ kept_of names (one.0, record { variance = old.variance; told = old.told; name = old.name; struck = true })
    by one item was is =
        ap (λ (f : Fact). record { fact = f; struck = true }) (ap (λ (k : KeptFact). k.fact) is ∙ ap (λ (e : Entry). told_fact one.0 (get_or names e.name []) e.variance e.told) was)
