-- Inside. The places of the kept facts, as the maps of facts give them.
use Rattle.std.specs.Prelude.{◌≡◌, ◌+◌, ◌<◌, ◌≤◌, ◌&&◌, ◌||◌, ◌++◌, ℕ, ℤ, nat_eq, pos, ◌+ℤ◌, List, [], ◌∷◌, length, Bool, false, Option, Some, None, IsSomeAnd, if◌then◌else◌, All, option_and_then, position, vec_len, vec_capacity}
use Rattle.std.specs.Int.{int_div_euclid}
use Rattle.std.specs.Option.{option_map_or}
use Rattle.std.specs.Ordering.{int_eq}
use Rattle.std.specs.HashMap.{HashMap, get, spare}
use Rattle.std.specs.Global.{Vec}
use Rattle.pb_limits.specs.Limits.{most_facts}
use Rattle.pb_rows.specs.Name.{same_name}
use Rattle.pb_facts.specs.Fact.{IsFactInRange, is_dip_on, is_too_long}
use Rattle.pb_facts.specs.Facts.{NoRepeats, is_live_dip_on, is_live_reading_on}
use Rattle.pb_facts.specs.declared.fact.Fact.{Fact}
use Rattle.pb_facts.specs.declared.fact.Fact.TheVariants.{Reading, Transfer, Dip}
use Rattle.pb_facts.specs.declared.facts.KeptFact.{KeptFact}
use Rattle.pb_facts.specs.declared.places.Places.{Places}

-- two keys of a name and a day, or of a name and a block of days, are the same
abbrev pub same_key : List ℕ × ℤ → List ℕ × ℤ → Bool
same_key a b = same_name a.0 b.0 && int_eq a.1 b.1

-- two keys of the number of a name and a day are the same
abbrev pub same_numbered : ℕ × ℤ → ℕ × ℤ → Bool
same_numbered a b = nat_eq a.0 b.0 && int_eq a.1 b.1

-- what a map has for the number of a name and a day; none if the name has no number
abbrev pub numbered_at : {S : Type 0} → List (List ℕ) → HashMap (ℕ × ℤ) ℕ S → List ℕ × ℤ → Option ℕ
numbered_at names map key =
    option_and_then (λ (number : ℕ). get same_numbered map (number, key.1)) (position (same_name key.0) names)

-- a name that may have a number has this one
abbrev pub has_number : Option ℕ → ℕ → Bool
has_number None wanted = false
has_number (Some number) wanted = nat_eq number wanted

-- a reading of this day, of the stream whose name may have a number, and has this one
abbrev pub is_reading_numbered : Option ℕ → ℕ × ℤ → Fact → Bool
is_reading_numbered number key (Reading id stream day grams variance) = has_number number key.0 && int_eq day key.1
is_reading_numbered number key _ = false

-- the number of the name of this reading's stream, and its day
abbrev pub IsKeyOf : List (List ℕ) → ℕ × ℤ → Fact → Type 0
IsKeyOf names key (Reading id stream day grams variance) = (position (same_name stream) names ≡ Some key.0) × (key.1 ≡ day)
IsKeyOf names key _ = ⊥

-- the block of 512 days that a day lies in: no period and a transfer together are longer
abbrev pub block_of : ℤ → ℤ
block_of day = int_div_euclid day (pos 512)

-- a transfer of this stream that begins in this block of days, or in the block before
abbrev pub is_about : List ℕ × ℤ → Fact → Bool
is_about key (Transfer id stream first last grams variance) =
    same_name stream key.0 && (int_eq (block_of first) key.1 || int_eq (block_of first +ℤ pos 1) key.1)
is_about key _ = false

-- the places of the items that pass, where the first item has the place `from`
abbrev pub places_from : {X : Type 0} → (X → Bool) → ℕ → List X → List ℕ
places_from passes from [] = []
places_from passes from (x ∷ xs) =
    if passes x then from ∷ places_from passes (from + 1) xs else places_from passes (from + 1) xs

-- the places at a key; none if the map has no entry
abbrev pub places_at : {S : Type 0} → HashMap (List ℕ × ℤ) (Vec ℕ) S → List ℕ × ℤ → List ℕ
places_at transfers key =
    option_map_or (λ (places : Vec ℕ). places.items) (get same_key transfers key) []

-- there is an entry at a key, with room for one more place
abbrev pub HasRoomAt : {S : Type 0} → HashMap (List ℕ × ℤ) (Vec ℕ) S → List ℕ × ℤ → Type 0
HasRoomAt transfers key =
    IsSomeAnd (get same_key transfers key) (λ places. vec_len places < vec_capacity places)

-- the maps give the places of the kept facts, readings by the numbers of these names, no fact repeats an earlier one, each lies in
-- its ranges, and no transfer is too long
pub record IsKept (kept : List KeptFact) (names : List (List ℕ)) (places : Places) : Type 0 where
  pub readings : (key : List ℕ × ℤ)
      → numbered_at names places.readings key ≡ position (is_live_reading_on key.0 key.1) kept
  pub numbers : (key : ℕ × ℤ)
      → length names ≤ key.0 → get same_numbered places.readings key ≡ None
  pub dips : (key : List ℕ × ℤ)
      → get same_key places.dips key ≡ position (is_live_dip_on key.0 key.1) kept
  pub transfers : (key : List ℕ × ℤ)
      → places_at places.transfers key ≡ places_from (λ (k : KeptFact). is_about key k.fact) 0 kept
  pub no_repeats : NoRepeats kept
  pub in_range : All (λ k. IsFactInRange k.fact) kept
  pub short : All (λ k. is_too_long k.fact ≡ false) kept
  pub few : length kept ≤ most_facts

-- maps that give the same places
pub record SamePlaces (old new : Places) : Type 0 where
  pub readings : (key : ℕ × ℤ) → get same_numbered new.readings key ≡ get same_numbered old.readings key
  pub dips : (key : List ℕ × ℤ) → get same_key new.dips key ≡ get same_key old.dips key
  pub transfers : (key : List ℕ × ℤ) → places_at new.transfers key ≡ places_at old.transfers key

-- there is room for the place of a new fact: by its stream or tank, and its day, or the block of its first day and the next block
abbrev pub HasRoom : Places → Fact → Type 0
HasRoom places (Reading id stream day grams variance) = 0 < spare places.readings
HasRoom places (Transfer id stream first last grams variance) =
    HasRoomAt places.transfers (stream, block_of first)
    × HasRoomAt places.transfers (stream, block_of first +ℤ pos 1)
HasRoom places (Dip id tank day mm density variance) = 0 < spare places.dips

-- the maps give the place of a new fact by its stream or tank, whose name has this number, and its day or days, and otherwise what
-- they gave before
pub record Notes (old new : Places) (fact : Fact) (number place : ℕ) : Type 0 where
  pub readings : (key : ℕ × ℤ)
      → get same_numbered new.readings key
      ≡ (if is_reading_numbered (Some number) key fact then Some place else get same_numbered old.readings key)
  pub dips : (key : List ℕ × ℤ)
      → get same_key new.dips key
      ≡ (if is_dip_on key.0 key.1 fact then Some place else get same_key old.dips key)
  pub transfers : (key : List ℕ × ℤ)
      → places_at new.transfers key
      ≡ places_at old.transfers key ++ (if is_about key fact then place ∷ [] else [])

-- the maps don't give the place of a fact by its stream or tank, whose name may have a number, and its day, and otherwise give what
-- they gave before
pub record Forgets (old new : Places) (fact : Fact) (number : Option ℕ) : Type 0 where
  pub readings : (key : ℕ × ℤ)
      → get same_numbered new.readings key
      ≡ (if is_reading_numbered number key fact then None else get same_numbered old.readings key)
  pub dips : (key : List ℕ × ℤ)
      → get same_key new.dips key
      ≡ (if is_dip_on key.0 key.1 fact then None else get same_key old.dips key)
  pub transfers : (key : List ℕ × ℤ) → places_at new.transfers key ≡ places_at old.transfers key
