-- The schema of a kind stands at the kind's place.
use Rattle.std.specs.Prelude.{◌&&◌, map, nat_le, slice_get, Some}
use Rattle.std.specs.List.{list_all}
use Rattle.std.proofs.Common.{◌≡◌, ◌∙◌, ◌<◌, ◌≤◌, ℕ, zero, suc, Bool, true, false, List, [], ◌∷◌, length, get_or, refl, sym, ap, arith}
use Rattle.std.proofs.lemmas.Bool.Decides.{nat_tests}
use Rattle.std.proofs.lemmas.List.{length-map}
use Rattle.std.proofs.lemmas.Option.{slice_get_within}
use Rattle.pb_form.specs.Columns.{Schema}
use Rattle.pb_form.specs.Seen.{column_seen, schema_seen}
use Rattle.pb_form.specs.declared.column.Schema as coded

-- what stands at the place of a kind is the kind's
pub seen_at : {K : Type 0} (schema_of : K → Schema) (schemas : List coded.Schema) (kinds : List K) (place : ℕ) (kind : K) (d : coded.Schema)
    → map schema_seen schemas ≡ map schema_of kinds → slice_get kinds place ≡ Some kind → schema_seen (get_or schemas place d) ≡ schema_of kind
seen_at schema_of schemas [] place kind d same at = cc at
seen_at schema_of [] (first ∷ kinds) place kind d same at = cc same
seen_at schema_of (schema ∷ schemas) (first ∷ kinds) zero kind d same at =
    let one : schema_seen schema ≡ schema_of first = cc in
    let told : first ≡ kind = cc in
    one ∙ ap schema_of told
seen_at schema_of (schema ∷ schemas) (first ∷ kinds) (suc place) kind d same at =
    let rest : map schema_seen schemas ≡ map schema_of kinds = cc in
    seen_at schema_of schemas kinds place kind d rest at

-- that place is one of the schemas
pub within_seen : {K : Type 0} (schema_of : K → Schema) (schemas : List coded.Schema) (kinds : List K) (place : ℕ) (kind : K)
    → map schema_seen schemas ≡ map schema_of kinds → slice_get kinds place ≡ Some kind → place < length schemas
within_seen schema_of schemas kinds place kind same at =
    let within = slice_get_within kinds place kind at in
    omega (arith, within, ap length same, length-map schemas schema_seen, length-map kinds schema_of)

-- if each kind passes a test, so does the kind at any place among them
pub passes_at : {K : Type 0} (test : K → Bool) (kinds : List K) (place : ℕ) (kind : K) → list_all test kinds ≡ true → slice_get kinds place ≡ Some kind → test kind ≡ true
passes_at test [] place kind all at = cc at
passes_at test (first ∷ kinds) zero kind all at = by (test first) refl all
  where
    by : (b : Bool) → test first ≡ b → (b && list_all test kinds) ≡ true → test kind ≡ true
    by true is all = let told : first ≡ kind = cc in ap test (sym told) ∙ is
    by false is all = cc all
passes_at test (first ∷ kinds) (suc place) kind all at = passes_at test kinds place kind (by (test first) all) at
  where
    by : (b : Bool) → (b && list_all test kinds) ≡ true → list_all test kinds ≡ true
    by true all = all
    by false all = cc all

-- no kind has more columns than there is room for: nor has it in the code
pub few_seen : {K : Type 0} (schema_of : K → Schema) (schemas : List coded.Schema) (kinds : List K) (place : ℕ) (kind : K) (d : coded.Schema)
    → map schema_seen schemas ≡ map schema_of kinds → slice_get kinds place ≡ Some kind
    → list_all (λ kind. nat_le (length (schema_of kind).columns) 16) kinds ≡ true → length (get_or schemas place d).columns.now ≤ 16
few_seen schema_of schemas kinds place kind d same at all =
    let schema = get_or schemas place d in
    let is = seen_at schema_of schemas kinds place kind d same at in
    let passes = passes_at (λ kind. nat_le (length (schema_of kind).columns) 16) kinds place kind all at in
    let few : length (schema_of kind).columns ≤ 16 = grind (arith, nat_tests, passes) in
    let count : length (map column_seen schema.columns.now) ≡ length (schema_of kind).columns = ap (λ (s : Schema). length s.columns) is in
    omega (arith, few, count, length-map schema.columns.now column_seen)
