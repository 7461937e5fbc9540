-- The names of a made session: each has the form of a name, and no two are the same.
use Rattle.std.proofs.Common.{◌≡◌, ◌≢◌, ◌<◌, ◌≤◌, ◌+◌, ◌^◌, ◌∷◌, ℕ, zero, suc, List, true, false, arith, refl}
use Rattle.std.specs.Prelude.{Option, Some, None, IsSome, MatchOption}
use Rattle.std.proofs.lemmas.Bool.{ne_eqb}
use Rattle.pb_rows.specs.Name.{is_name, same_name}
use Rattle.pb_rows.specs.Number.{decimal_text}
use Rattle.pb_rows.proofs.TextLaws.{decimal_one, names_apart, numbered_name}
use Rattle.pb_make.specs.Rows.{made_node_name, stream_name}
use Rattle.pb_make.proofs.Abbreviations.{reading_id}

pub unit_is : (i : ℕ) → 1 ≤ i → made_node_name i ≡ 117 ∷ decimal_text i
unit_is i some = rw (ne_eqb i 0 (λ e. absurd (omega (arith, e, some)))) refl

pub is_node_name : (i : ℕ) → i < 2 ^ 32 → is_name (made_node_name i) ≡ true
is_node_name zero small = refl
is_node_name (suc i) small = rw (unit_is (suc i) (omega arith)) (numbered_name 117 (suc i) refl small)

pub is_stream_name : (i : ℕ) → i < 2 ^ 32 → is_name (stream_name i) ≡ true
is_stream_name i small = numbered_name 115 i refl small

pub is_reading_id : (place : ℕ) → place + 1 < 2 ^ 32 → is_name (reading_id place) ≡ true
is_reading_id place small = numbered_name 114 (place + 1) refl small

-- a field that is a name is read as one
pub is_read : (o : Option (List ℕ)) (field : List ℕ) → is_name field ≡ true → MatchOption o (is_name field ≡ false) (λ name. (is_name field ≡ true) × (name ≡ field)) → IsSome o
is_read (Some name) field good read = refl
is_read None field good read = cc (good, read)

-- ---- apart

numbered_apart : (letter m n : ℕ) → m ≢ n → same_name (letter ∷ decimal_text m) (letter ∷ decimal_text n) ≡ false
numbered_apart letter m n other = names_apart (letter ∷ decimal_text m) (letter ∷ decimal_text n) (λ same. other (decimal_one m n (cc same)))

pub nodes_apart : (m n : ℕ) → m ≢ n → same_name (made_node_name m) (made_node_name n) ≡ false
nodes_apart zero zero other = absurd (other refl)
nodes_apart zero (suc n) other = rw (unit_is (suc n) (omega arith)) refl
nodes_apart (suc m) zero other = rw (unit_is (suc m) (omega arith)) refl
nodes_apart (suc m) (suc n) other =
    rw (unit_is (suc m) (omega arith), unit_is (suc n) (omega arith)) (numbered_apart 117 (suc m) (suc n) other)

pub streams_apart : (m n : ℕ) → m ≢ n → same_name (stream_name m) (stream_name n) ≡ false
streams_apart m n other = numbered_apart 115 m n other

pub ids_apart : (m n : ℕ) → m ≢ n → same_name (reading_id m) (reading_id n) ≡ false
ids_apart m n other = numbered_apart 114 (m + 1) (n + 1) (λ same. other (omega (arith, same)))

-- a stream has no node's name
pub stream_no_node : (i node : ℕ) → same_name (stream_name i) (made_node_name node) ≡ false
stream_no_node i zero = refl
stream_no_node i (suc node) = rw (unit_is (suc node) (omega arith)) refl
