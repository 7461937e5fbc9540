-- The maps of kept facts, as facts are amended and struck.
use Rattle.std.proofs.Common.{◌≡◌, ◌≢◌, ◌<◌, ◌+◌, ◌∷◌, [], ◌∙◌, ℕ, zero, suc, ℤ, List, Bool, true, false, Option, Some, None, All, length, get_or, set, map, arith, ap, ap₂, sym, refl, inl, inr, subst}
use Rattle.std.specs.Prelude.{◌||◌, ◌&&◌, not, is_some, if◌then◌else◌, position, AllPairs}
use Rattle.std.specs.Cmp.{signed_Decides}
use Rattle.std.specs.Cmp.Lexicographic.{bytes_decides}
use Rattle.std.specs.HashMap.{get}
use Rattle.std.specs.List.{list_any, position_or_len}
use Rattle.std.proofs.lemmas.Bool.{and_parts, cases_Bool, cases_lt}
use Rattle.std.proofs.lemmas.List.{get_or_default, length-map}
use Rattle.std.proofs.lemmas.List.Folds.{list_any_at}
use Rattle.std.proofs.lemmas.List.Quantifiers.{position-Some}
use Rattle.pb_rows.specs.Name.{same_name}
use Rattle.pb_facts.specs.Changes.{IsChangeInRange, amend_fault_of, amended, changed, fits, is_live_without, struck}
use Rattle.pb_facts.specs.Fact.{IsFactInRange, id_of, is_dip_on, is_on_day_of, is_reading_on, is_too_long}
use Rattle.pb_facts.specs.Facts.{NoRepeats, has_id, is_live_dip_on, is_live_reading_on, is_live_with, is_repeat, is_repeat_by_day, live_place_of}
use Rattle.pb_facts.specs.Places.{Forgets, IsKept, is_about, numbered_at, places_from, same_key}
use Rattle.pb_facts.specs.Shelf.{stream_or_tank}
use Rattle.pb_facts.specs.declared.fact.Change.{Change}
use Rattle.pb_facts.specs.declared.fact.Change.TheVariants.{Amount, Level}
use Rattle.pb_facts.specs.declared.fact.Fact.{Fact}
use Rattle.pb_facts.specs.declared.fact.Fact.TheVariants.{Reading, Transfer, Dip}
use Rattle.pb_facts.specs.declared.fact.FactFault.TheVariants.{Unknown, Mismatch}
use Rattle.pb_facts.specs.declared.facts.KeptFact.{KeptFact}
use Rattle.pb_facts.specs.declared.places.Places.{Places}
use Rattle.pb_facts.proofs.LiveLemmas.{passes_live}
use Rattle.pb_facts.proofs.NumberLemmas.{numbered_forgotten, numbers_forgotten}
use Rattle.pb_facts.proofs.PlaceLemmas.{or_none}
use Rattle.pb_facts.proofs.PositionLemmas.{is_some-position, position_none}

-- ---- lists whose items are changed

-- the item at a place
pub at_map : {X Y : Type 0} (f : X → Y) (xs : List X) (i : ℕ) (d : X) (e : Y) → i < length xs → get_or (map f xs) i e ≡ f (get_or xs i d)
at_map f [] i d e within = absurd (omega (arith, within))
at_map f (x ∷ xs) zero d e within = refl
at_map f (x ∷ xs) (suc i) d e within = at_map f xs i d e (omega (arith, within))

-- the same items pass
first_map : {X : Type 0} (p : X → Bool) (f : X → X) (xs : List X) → ((i : ℕ) (d : X) → i < length xs → p (f (get_or xs i d)) ≡ p (get_or xs i d))
    → position_or_len p (map f xs) ≡ position_or_len p xs
first_map p f [] same = refl
first_map p f (x ∷ xs) same =
    let here : p (f x) ≡ p x = same 0 x (omega arith) in
    let rest = first_map p f xs (λ i d lt. same (suc i) d (omega (arith, lt))) in
    rw (here, rest) refl

-- so the first that passes is at the same place
position_map : {X : Type 0} (p : X → Bool) (f : X → X) (xs : List X) → ((i : ℕ) (d : X) → i < length xs → p (f (get_or xs i d)) ≡ p (get_or xs i d))
    → position p (map f xs) ≡ position p xs
position_map p f xs same = rw (first_map p f xs same, length-map xs f) refl

-- and so are all that pass
places_map : {X : Type 0} (p : X → Bool) (f : X → X) (from : ℕ) (xs : List X) → ((x : X) → p (f x) ≡ p x) → places_from p from (map f xs) ≡ places_from p from xs
places_map p f from [] same = refl
places_map p f from (x ∷ xs) same = rw (same x, places_map p f (from + 1) xs same) refl

-- what holds of all pairs
pairs_map : {X : Type 0} (R : X → X → Type 0) (f : X → X) (xs : List X) → ((x y : X) → R x y → R (f x) (f y)) → AllPairs R xs → AllPairs R (map f xs)
pairs_map R f xs keeps pairs = λ i k d less within.
    let long = length-map xs f in
    let low : i < length xs = omega (arith, less, within, long) in
    let high : k < length xs = omega (arith, within, long) in
    rw (at_map f xs i d d low, at_map f xs k d d high) (keeps (get_or xs i d) (get_or xs k d) (pairs i k d less high))

-- what holds of all items
all_map : {X : Type 0} (P : X → Type 0) (f : X → X) (xs : List X) → ((x : X) → P x → P (f x)) → All P xs → All P (map f xs)
all_map P f xs keeps all = λ i d within.
    let long = length-map xs f in
    let low : i < length xs = omega (arith, within, long) in
    rw (at_map f xs i d d low) (keeps (get_or xs i d) (all i d low))

-- nothing passes, so nothing is changed
map_none : {X : Type 0} (p : X → Bool) (g : X → X) (xs : List X) → ((k : ℕ) (d : X) → k < length xs → p (get_or xs k d) ≡ false) → map (λ x. if p x then g x else x) xs ≡ xs
map_none p g [] fails = refl
map_none p g (x ∷ xs) fails =
    let here : p x ≡ false = fails 0 x (omega arith) in
    let rest = map_none p g xs (λ k d lt. fails (suc k) d (omega (arith, lt))) in
    rw (here, rest) refl

-- one item passes, and only it is changed
pub map_one : {X : Type 0} (p : X → Bool) (g : X → X) (xs : List X) (i : ℕ) (d : X) → i < length xs → p (get_or xs i d) ≡ true
    → ((k : ℕ) (e : X) → k < length xs → k ≢ i → p (get_or xs k e) ≡ false) → set xs i (g (get_or xs i d)) ≡ map (λ x. if p x then g x else x) xs
map_one p g [] i d within here others = absurd (omega (arith, within))
map_one p g (x ∷ xs) zero d within here others =
    let rest = map_none p g xs (λ k e lt. others (suc k) e (omega (arith, lt)) (λ same. absurd (omega (arith, same)))) in
    rw (here, rest) refl
map_one p g (x ∷ xs) (suc i) d within here others =
    let first : p x ≡ false = others 0 x (omega arith) (λ same. absurd (omega (arith, same))) in
    let rest = map_one p g xs i d (omega (arith, within)) here (λ k e lt apart. others (suc k) e (omega (arith, lt)) (λ same. apart (omega (arith, same)))) in
    rw first (ap (λ (ys : List _). x ∷ ys) rest)

-- ---- the fact with an id

-- no other fact has it
pub apart_ids : (id : List ℕ) (kept : List KeptFact) (i k : ℕ) (d : KeptFact) → NoRepeats kept → i < length kept → k < length kept → k ≢ i
    → has_id id (get_or kept i d) ≡ true → has_id id (get_or kept k d) ≡ false
apart_ids id kept i k d pairs low high apart here = elim (cases_Bool (has_id id (get_or kept k d))) [
  | inr free ↦ free
  | inl used ↦
      let one : id_of (get_or kept i d).fact ≡ id = (bytes_decides _ id).0 here in
      let other : id_of (get_or kept k d).fact ≡ id = (bytes_decides _ id).0 used in
      let same : has_id (id_of (get_or kept k d).fact) (get_or kept i d) ≡ true =
      (bytes_decides (id_of (get_or kept i d).fact) (id_of (get_or kept k d).fact)).1 (one ∙ sym other) in
      let back : has_id (id_of (get_or kept i d).fact) (get_or kept k d) ≡ true =
      (bytes_decides (id_of (get_or kept k d).fact) (id_of (get_or kept i d).fact)).1 (other ∙ sym one) in
      elim (cases_lt i k) [
        | inl less ↦ cc (sym (or_none _ _ (pairs i k d less high)).0 ∙ same)
        | inr from ↦
            let less : k < i = omega (arith, from, apart) in
            cc (sym (or_none _ _ (pairs k i d less low)).0 ∙ back)
      ]
]

-- the live fact with an id has it, is live, and is the only fact with it
pub record IsOnly (id : List ℕ) (kept : List KeptFact) (i : ℕ) (d : KeptFact) : Type 0 where
  pub within : i < length kept
  pub here : has_id id (get_or kept i d) ≡ true
  pub live : (get_or kept i d).struck ≡ false
  pub others : (k : ℕ) (e : KeptFact) → k < length kept → k ≢ i → has_id id (get_or kept k e) ≡ false

not_true : (b : Bool) → not b ≡ true → b ≡ false
not_true true e = cc e
not_true false e = refl

pub only_live : (id : List ℕ) (kept : List KeptFact) (i : ℕ) (d : KeptFact) → NoRepeats kept → live_place_of id kept ≡ Some i → IsOnly id kept i d
only_live id kept i d pairs at =
    let first = position-Some (is_live_with id) kept i d at in
    let parts = and_parts (not (get_or kept i d).struck) (has_id id (get_or kept i d)) first.1 in
    record {
      within = first.0;
      here = parts.1;
      live = not_true (get_or kept i d).struck parts.0;
      others = λ k e within apart. rw (get_or_default kept k e d within) (apart_ids id kept i k d pairs first.0 within apart parts.1);
    }

and_false : (a : Bool) → (a && false) ≡ false
and_false true = refl
and_false false = refl

-- ---- amendments

-- new values leave the id, the stream or tank and the days
changed_id : (c : Change) (fact : Fact) → id_of (changed c fact) ≡ id_of fact
changed_id (Amount g v) (Reading id s d grams variance) = refl
changed_id (Amount g v) (Transfer id s first last grams variance) = refl
changed_id (Amount g v) (Dip id t d mm density variance) = refl
changed_id (Level m w v) (Reading id s d grams variance) = refl
changed_id (Level m w v) (Transfer id s first last grams variance) = refl
changed_id (Level m w v) (Dip id t d mm density variance) = refl

changed_reading : (stream : List ℕ) (day : ℤ) (c : Change) (fact : Fact) → is_reading_on stream day (changed c fact) ≡ is_reading_on stream day fact
changed_reading stream day (Amount g v) (Reading id s d grams variance) = refl
changed_reading stream day (Amount g v) (Transfer id s first last grams variance) = refl
changed_reading stream day (Amount g v) (Dip id t d mm density variance) = refl
changed_reading stream day (Level m w v) (Reading id s d grams variance) = refl
changed_reading stream day (Level m w v) (Transfer id s first last grams variance) = refl
changed_reading stream day (Level m w v) (Dip id t d mm density variance) = refl

changed_dip : (tank : List ℕ) (day : ℤ) (c : Change) (fact : Fact) → is_dip_on tank day (changed c fact) ≡ is_dip_on tank day fact
changed_dip tank day (Amount g v) (Reading id s d grams variance) = refl
changed_dip tank day (Amount g v) (Transfer id s first last grams variance) = refl
changed_dip tank day (Amount g v) (Dip id t d mm density variance) = refl
changed_dip tank day (Level m w v) (Reading id s d grams variance) = refl
changed_dip tank day (Level m w v) (Transfer id s first last grams variance) = refl
changed_dip tank day (Level m w v) (Dip id t d mm density variance) = refl

changed_about : (key : List ℕ × ℤ) (c : Change) (fact : Fact) → is_about key (changed c fact) ≡ is_about key fact
changed_about key (Amount g v) (Reading id s d grams variance) = refl
changed_about key (Amount g v) (Transfer id s first last grams variance) = refl
changed_about key (Amount g v) (Dip id t d mm density variance) = refl
changed_about key (Level m w v) (Reading id s d grams variance) = refl
changed_about key (Level m w v) (Transfer id s first last grams variance) = refl
changed_about key (Level m w v) (Dip id t d mm density variance) = refl

changed_length : (c : Change) (fact : Fact) → is_too_long (changed c fact) ≡ is_too_long fact
changed_length (Amount g v) (Reading id s d grams variance) = refl
changed_length (Amount g v) (Transfer id s first last grams variance) = refl
changed_length (Amount g v) (Dip id t d mm density variance) = refl
changed_length (Level m w v) (Reading id s d grams variance) = refl
changed_length (Level m w v) (Transfer id s first last grams variance) = refl
changed_length (Level m w v) (Dip id t d mm density variance) = refl

-- the day of a new fact and the day of a changed fact
changed_later : (c : Change) (fact other : Fact) → is_on_day_of fact (changed c other) ≡ is_on_day_of fact other
changed_later c (Reading id s d grams variance) other = changed_reading s d c other
changed_later c (Transfer id s first last grams variance) other = refl
changed_later c (Dip id t d mm density variance) other = changed_dip t d c other

changed_earlier : (c : Change) (fact other : Fact) → is_on_day_of (changed c fact) other ≡ is_on_day_of fact other
changed_earlier (Amount g v) (Reading id s d grams variance) other = refl
changed_earlier (Amount g v) (Transfer id s first last grams variance) other = refl
changed_earlier (Amount g v) (Dip id t d mm density variance) other = refl
changed_earlier (Level m w v) (Reading id s d grams variance) other = refl
changed_earlier (Level m w v) (Transfer id s first last grams variance) other = refl
changed_earlier (Level m w v) (Dip id t d mm density variance) other = refl

-- new values in their ranges
changed_range : (c : Change) (fact : Fact) → IsChangeInRange c → IsFactInRange fact → IsFactInRange (changed c fact)
changed_range (Amount g v) (Reading id s d grams variance) new old = (old.0, new.0, new.1)
changed_range (Amount g v) (Transfer id s first last grams variance) new old = (old.0, old.1, new.0, new.1)
changed_range (Amount g v) (Dip id t d mm density variance) new old = old
changed_range (Level m w v) (Reading id s d grams variance) new old = old
changed_range (Level m w v) (Transfer id s first last grams variance) new old = old
changed_range (Level m w v) (Dip id t d mm density variance) new old = (old.0, new.0, new.1, new.2)

-- what an amendment makes of a kept fact
abbrev amend_one : List ℕ → Change → KeptFact → KeptFact
amend_one id c k = if is_live_with id k then record { fact = changed c k.fact; struck = false } else k

-- it is as live as it was, and says the same unless its values are looked at
amend_one_same : {Y : Type 0} (h : Bool → Fact → Y) (id : List ℕ) (c : Change) (k : KeptFact) → ((b : Bool) (fact : Fact) → h b (changed c fact) ≡ h b fact)
    → h (amend_one id c k).struck (amend_one id c k).fact ≡ h k.struck k.fact
amend_one_same h id c k same = elim (cases_Bool (is_live_with id k)) [
  | inl live ↦
      let parts = and_parts (not k.struck) (has_id id k) live in
      rw (live) (same false k.fact ∙ ap (λ (b : Bool). h b k.fact) (sym (not_true k.struck parts.0)))
  | inr other ↦ rw other refl
]

amend_one_repeat : (id : List ℕ) (c : Change) (earlier later : KeptFact) → is_repeat later.fact earlier ≡ false → is_repeat (amend_one id c later).fact (amend_one id c earlier) ≡ false
amend_one_repeat id c earlier later apart =
    let first = amend_one_same (λ (b : Bool) (fact : Fact). is_repeat (amend_one id c later).fact (record { fact = fact; struck = b })) id c earlier
    (λ b fact. ap₂ (λ (x y : Bool). x || (not b && y)) (ap (λ (i : List ℕ). same_name i (id_of (amend_one id c later).fact)) (changed_id c fact)) (changed_later c (amend_one id c later).fact fact)) in
    let second = amend_one_same (λ (b : Bool) (fact : Fact). is_repeat fact earlier) id c later
    (λ b fact. ap₂ (λ (x y : Bool). x || (not earlier.struck && y)) (ap (λ (i : List ℕ). same_name (id_of earlier.fact) i) (changed_id c fact)) (changed_earlier c fact earlier.fact)) in
    first ∙ second ∙ apart

amend_one_range : (id : List ℕ) (c : Change) (k : KeptFact) → IsChangeInRange c → IsFactInRange k.fact → IsFactInRange (amend_one id c k).fact
amend_one_range id c k new old = elim (cases_Bool (is_live_with id k)) [
  | inl live ↦ rw live (changed_range c k.fact new old)
  | inr other ↦ rw other old
]

-- the maps give the places of the facts after an amendment too
pub kept_amended : (id : List ℕ) (c : Change) (kept : List KeptFact) (names : List (List ℕ)) (places : Places) → IsChangeInRange c → IsKept kept names places → IsKept (amended id c kept) names places
kept_amended id c kept names places new right =
    let one = amend_one id c in
    record {
      readings = λ key. right.readings key
          ∙ sym (position_map (is_live_reading_on key.0 key.1) one kept (λ i d lt. amend_one_same (λ b fact. not b && is_reading_on key.0 key.1 fact) id c (get_or kept i d) (λ b fact. ap (λ (x : Bool). not b && x) (changed_reading key.0 key.1 c fact))));
      numbers = right.numbers;
      dips = λ key. right.dips key
          ∙ sym (position_map (is_live_dip_on key.0 key.1) one kept (λ i d lt. amend_one_same (λ b fact. not b && is_dip_on key.0 key.1 fact) id c (get_or kept i d) (λ b fact. ap (λ (x : Bool). not b && x) (changed_dip key.0 key.1 c fact))));
      transfers = λ key. right.transfers key
          ∙ sym (places_map (λ (k : KeptFact). is_about key k.fact) one 0 kept (λ k. amend_one_same (λ b fact. is_about key fact) id c k (λ b fact. changed_about key c fact)));
      no_repeats = pairs_map (λ (earlier later : KeptFact). is_repeat later.fact earlier ≡ false) one kept (λ a b. amend_one_repeat id c a b) right.no_repeats;
      in_range = all_map (λ (k : KeptFact). IsFactInRange k.fact) one kept (λ k old. amend_one_range id c k new old) right.in_range;
      short = all_map (λ (k : KeptFact). is_too_long k.fact ≡ false) one kept (λ k old. amend_one_same (λ b fact. is_too_long fact) id c k (λ b fact. changed_length c fact) ∙ old) right.short;
      few = let long = length-map kept one in omega (arith, long, right.few);
    }

-- the live fact with the id is the fact that is amended
pub set_amended : (id : List ℕ) (c : Change) (kept : List KeptFact) (i : ℕ) (d : KeptFact) → IsOnly id kept i d
    → set kept i (record { fact = changed c (get_or kept i d).fact; struck = false }) ≡ amended id c kept
set_amended id c kept i d only =
    map_one (is_live_with id) (λ (k : KeptFact). record { fact = changed c k.fact; struck = false }) kept i d only.within (rw (only.live, only.here) refl)
    (λ k e within apart. rw (only.others k e within apart) (and_false (not (get_or kept k e).struck)))

-- ---- strikes

-- a fact that repeats no earlier one has another id, and another day than a live one
apart_parts : (earlier later : KeptFact) → is_repeat later.fact earlier ≡ false → (has_id (id_of later.fact) earlier ≡ false) × ((not earlier.struck && is_on_day_of later.fact earlier.fact) ≡ false)
apart_parts earlier later apart = or_none (has_id (id_of later.fact) earlier) (is_repeat_by_day later.fact earlier) apart

-- what a strike makes of a kept fact
abbrev strike_one : List ℕ → KeptFact → KeptFact
strike_one id k = if has_id id k then record { fact = k.fact; struck = true } else k

-- it is the same fact
strike_one_fact : {Y : Type 0} (h : Fact → Y) (id : List ℕ) (k : KeptFact) → h (strike_one id k).fact ≡ h k.fact
strike_one_fact h id k = elim (cases_Bool (has_id id k)) [
  | inl struck ↦ rw struck refl
  | inr other ↦ rw other refl
]

-- a fact that repeats no earlier one repeats none that was struck since
strike_one_repeat : (id : List ℕ) (earlier later : KeptFact) → is_repeat later.fact earlier ≡ false → is_repeat (strike_one id later).fact (strike_one id earlier) ≡ false
strike_one_repeat id earlier later apart =
    strike_one_fact (λ fact. is_repeat fact (strike_one id earlier)) id later ∙ (elim (cases_Bool (has_id id earlier)) [
      | inl struck ↦ let free = (apart_parts earlier later apart).0 in rw (struck, free) refl
      | inr other ↦ rw other apart
    ])

-- two facts on one day
same_reading_day : (stream : List ℕ) (day : ℤ) (a b : Fact) → is_reading_on stream day a ≡ true → is_reading_on stream day b ≡ true → is_on_day_of a b ≡ true
same_reading_day stream day (Reading id s d grams variance) b first second =
    let parts = and_parts (same_name s stream) _ first in
    let e = (bytes_decides s stream).0 parts.0 in
    let f = (signed_Decides d day).0 parts.1 in
    subst (λ (q : List ℕ). is_reading_on q d b ≡ true) (sym e) (subst (λ (q : ℤ). is_reading_on stream q b ≡ true) (sym f) second)
same_reading_day stream day (Transfer id s from to grams variance) b first second = cc first
same_reading_day stream day (Dip id t d mm density variance) b first second = cc first

same_dip_day : (tank : List ℕ) (day : ℤ) (a b : Fact) → is_dip_on tank day a ≡ true → is_dip_on tank day b ≡ true → is_on_day_of a b ≡ true
same_dip_day tank day (Dip id t d mm density variance) b first second =
    let parts = and_parts (same_name t tank) _ first in
    let e = (bytes_decides t tank).0 parts.0 in
    let f = (signed_Decides d day).0 parts.1 in
    subst (λ (q : List ℕ). is_dip_on q d b ≡ true) (sym e) (subst (λ (q : ℤ). is_dip_on tank q b ≡ true) (sym f) second)
same_dip_day tank day (Transfer id s from to grams variance) b first second = cc first
same_dip_day tank day (Reading id s d grams variance) b first second = cc first

-- the entry of a fact that is struck is taken out
forgotten : (q : Fact → Bool) (id : List ℕ) (kept : List KeptFact) (i : ℕ) (d : KeptFact) (old : Option ℕ) → ((a b : Fact) → q a ≡ true → q b ≡ true → is_on_day_of a b ≡ true)
    → NoRepeats kept → IsOnly id kept i d → old ≡ position (passes_live q) kept
    → (if q (get_or kept i d).fact then None else old) ≡ position (passes_live q) (struck id kept)
forgotten q id kept i d old one_day pairs only right = elim (cases_Bool (q (get_or kept i d).fact)) [
  | inl on ↦ rw on (sym (position_none (passes_live q) (struck id kept) (none on)))
  | inr off ↦ rw off (right ∙ sym (position_map (passes_live q) (strike_one id) kept (same off)))
]
  where
    -- no live fact passes if the struck one does
    live_none : q (get_or kept i d).fact ≡ true → (k : ℕ) → k < length kept → k ≢ i → passes_live q (get_or kept k d) ≡ false
    live_none on k within apart = elim (cases_Bool (passes_live q (get_or kept k d))) [
      | inr fails ↦ fails
      | inl passes ↦
          let parts = and_parts (not (get_or kept k d).struck) (q (get_or kept k d).fact) passes in
          elim (cases_lt i k) [
            | inl less ↦
                let free = (apart_parts (get_or kept i d) (get_or kept k d) (pairs i k d less within)).1 in
                cc (sym (rw (only.live) at free) ∙ one_day (get_or kept k d).fact (get_or kept i d).fact parts.1 on)
            | inr from ↦
                let less : k < i = omega (arith, from, apart) in
                let free = (apart_parts (get_or kept k d) (get_or kept i d) (pairs k i d less only.within)).1 in
                cc (sym (rw (parts.0) at free) ∙ one_day (get_or kept i d).fact (get_or kept k d).fact on parts.1)
          ]
    ]

    none : q (get_or kept i d).fact ≡ true → (k : ℕ) (e : KeptFact) → k < length (struck id kept) → passes_live q (get_or (struck id kept) k e) ≡ false
    none on k e within =
        let long = length-map kept (strike_one id) in
        let low : k < length kept = omega (arith, within, long) in
        rw (at_map (strike_one id) kept k d e low) (elim (cases_Bool (has_id id (get_or kept k d))) [
          | inl used ↦ rw used refl
          | inr free ↦ rw free (live_none on k low (λ same. cc (sym free ∙ ap (λ (n : ℕ). has_id id (get_or kept n d)) same ∙ only.here)))
        ])

    same : q (get_or kept i d).fact ≡ false → (k : ℕ) (e : KeptFact) → k < length kept → passes_live q (strike_one id (get_or kept k e)) ≡ passes_live q (get_or kept k e)
    same off k e within = elim (cases_Bool (has_id id (get_or kept k e))) [
      | inr free ↦ rw free refl
      | inl used ↦ elim (cases_lt k i) [
        | inl less ↦ cc (sym used ∙ only.others k e within (λ s. absurd (omega (arith, less, s))))
        | inr from ↦ elim (cases_lt i k) [
          | inl less ↦ cc (sym used ∙ only.others k e within (λ s. absurd (omega (arith, less, s))))
          | inr to ↦
              let here : k ≡ i = omega (arith, from, to) in
              let item : get_or kept k e ≡ get_or kept i d = ap (λ (n : ℕ). get_or kept n e) here ∙ get_or_default kept i e d only.within in
              rw (item, only.here, off) (sym (and_false (not (get_or kept i d).struck)))
        ]
      ]
    ]

-- the maps give the places of the facts after a strike
pub kept_struck : (id : List ℕ) (kept : List KeptFact) (names : List (List ℕ)) (old new : Places) (number : Option ℕ) (i : ℕ) (d : KeptFact) → IsOnly id kept i d → IsKept kept names old
    → Forgets old new (get_or kept i d).fact number → position (same_name (stream_or_tank (get_or kept i d).fact)) names ≡ number → IsKept (struck id kept) names new
kept_struck id kept names old new number i d only right forgets numbered =
    let one = strike_one id in
    record {
      readings = λ key. numbered_forgotten names (get_or kept i d).fact number old.readings new.readings numbered forgets.readings key
          ∙ forgotten (is_reading_on key.0 key.1) id kept i d (numbered_at names old.readings key) (same_reading_day key.0 key.1) right.no_repeats only (right.readings key);
      numbers = numbers_forgotten names (get_or kept i d).fact number old.readings new.readings forgets.readings right.numbers;
      dips = λ key. forgets.dips key
          ∙ forgotten (is_dip_on key.0 key.1) id kept i d (get same_key old.dips key) (same_dip_day key.0 key.1) right.no_repeats only (right.dips key);
      transfers = λ key. forgets.transfers key ∙ right.transfers key
          ∙ sym (places_map (λ (k : KeptFact). is_about key k.fact) one 0 kept (λ k. strike_one_fact (λ fact. is_about key fact) id k));
      no_repeats = pairs_map (λ (earlier later : KeptFact). is_repeat later.fact earlier ≡ false) one kept (λ a b. strike_one_repeat id a b) right.no_repeats;
      in_range = all_map (λ (k : KeptFact). IsFactInRange k.fact) one kept (λ k ranges. elim (cases_Bool (has_id id k)) [ inl used ↦ rw used ranges | inr free ↦ rw free ranges ]) right.in_range;
      short = all_map (λ (k : KeptFact). is_too_long k.fact ≡ false) one kept (λ k short. strike_one_fact is_too_long id k ∙ short) right.short;
      few = let long = length-map kept one in omega (arith, long, right.few);
    }

-- the live fact with the id is the fact that is struck
pub set_struck : (id : List ℕ) (kept : List KeptFact) (i : ℕ) (d : KeptFact) → IsOnly id kept i d
    → set kept i (record { fact = (get_or kept i d).fact; struck = true }) ≡ struck id kept
set_struck id kept i d only =
    map_one (has_id id) (λ (k : KeptFact). record { fact = k.fact; struck = true }) kept i d only.within only.here only.others

-- ---- faults of amendments

-- no live fact has the id
pub unknown_id : (id : List ℕ) (c : Change) (kept : List KeptFact) → live_place_of id kept ≡ None → amend_fault_of kept id c ≡ Some Unknown
unknown_id id c kept none =
    let absent : list_any (is_live_with id) kept ≡ false = sym (is_some-position (is_live_with id) kept) ∙ ap is_some none in
    rw absent refl

-- the live fact with the id is the fact that a change has to fit
pub fault_at : (id : List ℕ) (c : Change) (kept : List KeptFact) (i : ℕ) (d : KeptFact) → IsOnly id kept i d
    → amend_fault_of kept id c ≡ (if fits c (get_or kept i d).fact then None else Some Mismatch)
fault_at id c kept i d only =
    let there : list_any (is_live_with id) kept ≡ true = list_any_at (is_live_with id) kept i d only.within (rw (only.live, only.here) refl) in
    elim (cases_Bool (fits c (get_or kept i d).fact)) [
      | inl fit ↦
          let none : list_any (is_live_without id c) kept ≡ false = sym (is_some-position (is_live_without id c) kept) ∙ ap is_some (position_none (is_live_without id c) kept (λ k e within. elim (cases_Bool (has_id id (get_or kept k e))) [
            | inr free ↦ rw (free, and_false (not (get_or kept k e).struck)) refl
            | inl used ↦ elim (cases_lt k i) [
              | inl less ↦ cc (sym used ∙ only.others k e within (λ s. absurd (omega (arith, less, s))))
              | inr from ↦ elim (cases_lt i k) [
                | inl less ↦ cc (sym used ∙ only.others k e within (λ s. absurd (omega (arith, less, s))))
                | inr to ↦
                    let here : k ≡ i = omega (arith, from, to) in
                    let item : get_or kept k e ≡ get_or kept i d = ap (λ (n : ℕ). get_or kept n e) here ∙ get_or_default kept i e d only.within in
                    rw (item, fit) (and_false (is_live_with id (get_or kept i d)))
              ]
            ]
          ])) in
          rw (there, none, fit) refl
      | inr misfit ↦
          let some : list_any (is_live_without id c) kept ≡ true = list_any_at (is_live_without id c) kept i d only.within (rw (only.live, only.here, misfit) refl) in
          rw (there, some, misfit) refl
    ]

-- ---- the same for the item that was found at the place

pub kept_struck_item : (id : List ℕ) (kept : List KeptFact) (names : List (List ℕ)) (old new : Places) (number : Option ℕ) (i : ℕ) (item : KeptFact) → IsOnly id kept i item → item ≡ get_or kept i item
    → IsKept kept names old → Forgets old new item.fact number → position (same_name (stream_or_tank item.fact)) names ≡ number → IsKept (struck id kept) names new
kept_struck_item id kept names old new number i item only is right forgets numbered =
    kept_struck id kept names old new number i item only right (subst (λ (k : KeptFact). Forgets old new k.fact number) is forgets)
    (subst (λ (k : KeptFact). position (same_name (stream_or_tank k.fact)) names ≡ number) is numbered)

pub fit_at : (id : List ℕ) (c : Change) (kept : List KeptFact) (i : ℕ) (item : KeptFact) → IsOnly id kept i item → item ≡ get_or kept i item → fits c item.fact ≡ true
    → amend_fault_of kept id c ≡ None
fit_at id c kept i item only is fit =
    fault_at id c kept i item only ∙ ap (λ (b : Bool). if b then None else Some Mismatch) (sym (ap (λ (k : KeptFact). fits c k.fact) is) ∙ fit)

pub misfit_at : (id : List ℕ) (c : Change) (kept : List KeptFact) (i : ℕ) (item : KeptFact) → IsOnly id kept i item → item ≡ get_or kept i item → fits c item.fact ≡ false
    → amend_fault_of kept id c ≡ Some Mismatch
misfit_at id c kept i item only is misfit =
    fault_at id c kept i item only ∙ ap (λ (b : Bool). if b then None else Some Mismatch) (sym (ap (λ (k : KeptFact). fits c k.fact) is) ∙ misfit)
