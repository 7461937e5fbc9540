-- A record as JSON: it has no float, and the members so far, joined to the fields that are left, make up all members.
use Rattle.std.specs.Prelude.{map}
use Rattle.std.proofs.Common.{◌≡◌, ℕ, ◌+◌, ◌<◌, List, [], ◌∷◌, length, drop, get_or, false, refl, add-one, IsOk, Result, Ok, Err, rules, Ordering, Less, Equal, Greater, nat_cmp}
use Rattle.std.specs.Prelude.{MatchResult}
use Rattle.std.specs.Cmp.Lexicographic.{slice_cmp}
use Rattle.std.specs.Ordering.{match_ordering}
use Rattle.std.proofs.lemmas.Bool.{or_parts}
use Rattle.std.proofs.Math.Seq.{drop-cons}
use Rattle.serde_json.specs.Data.{Members, no_members, member, object, put, string}
use Rattle.serde_json.specs.Written.{has_float, members_have_float}
use Rattle.pb_form.specs.Columns.{Column}
use Rattle.pb_form.specs.Json.{members_after}
use Rattle.pb_form.specs.Seen.{column_seen}
use Rattle.pb_form.specs.declared.column.Column as coded

-- a text put among members that have no float
put_text : (key value : List ℕ) (members : Members) → members_have_float members ≡ false → members_have_float (put key (string value) members) ≡ false
put_text key value no_members none = refl
put_text key value (member other held members) none =
    let parts = or_parts (has_float held) (members_have_float members) none in
    by parts (put_text key value members parts.1) (slice_cmp nat_cmp key other)
  where
    by : (has_float held ≡ false) × (members_have_float members ≡ false) → members_have_float (put key (string value) members) ≡ false → (o : Ordering)
        → members_have_float (match_ordering o (member key (string value) (member other held members)) (member other (string value) members) (member other held (put key (string value) members))) ≡ false
    by parts rest Less = none
    by parts rest Equal = parts.1
    by parts rest Greater = rw parts.0 rest

texts_put : (members : Members) (columns : List Column) (fields : List (List ℕ)) → members_have_float members ≡ false → members_have_float (members_after members columns fields) ≡ false
texts_put held [] fields none = none
texts_put held (column ∷ columns) [] none = none
texts_put held (column ∷ columns) (field ∷ fields) none =
    texts_put (put column.key (string field) held) columns fields (put_text column.key field held none)

pub record_has_no_float : (columns : List Column) (fields : List (List ℕ)) → has_float (object (members_after no_members columns fields)) ≡ false
record_has_no_float columns fields = texts_put no_members columns fields refl

-- one more field is put
pub one_member : (members new : Members) (columns : List coded.Column) (row : List (List ℕ)) (i : ℕ) (d : coded.Column) (all : Members) → i < length columns → i < length row
    → members_after members (map column_seen (drop i columns)) (drop i row) ≡ all
    → new ≡ put (get_or columns i d).key.now (string (get_or row i [])) members
    → members_after new (map column_seen (drop (i + 1) columns)) (drop (i + 1) row) ≡ all
one_member members new columns row i d all there has so_far more =
    rw (more, add-one i) (rw (drop-cons columns i d there, drop-cons row i [] has) at so_far)

-- what is a text is read as one
pub reads_text : {T E : Type 0} (A : T → Type 0) (B : E → Type 0) (P : Type 0) (result : Result T E) → P → MatchResult result A (λ e. ¬ P × B e) → IsOk result
reads_text A B P (Ok text) p cases = search rules
reads_text A B P (Err e) p cases = absurd (cases.0 p)
