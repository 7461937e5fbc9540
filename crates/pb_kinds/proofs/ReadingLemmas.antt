-- A row of a reading whose fields have no fault, and the kind that a record is identified as.
use Rattle.std.specs.Prelude.{◌&&◌, ◌-◌, ◌==◌, ◌≤ℤ◌, bytes_eq, codes, int_le, nat_le, neg_ℤ, Option, Some, None, Result, Ok, Err, IfOk, if◌then◌else◌}
use Rattle.std.specs.List.{find}
use Rattle.std.proofs.Common.{◌≡◌, ◌∙◌, ℕ, ℤ, pos, Bool, true, false, List, [], ◌∷◌, length, get_or, refl, subst, sym, ap, arith}
use Rattle.std.proofs.lemmas.Bool.{and_parts}
use Rattle.std.proofs.lemmas.Bool.Decides.{nat_tests}
use Rattle.std.proofs.lemmas.Int.{ints}
use Rattle.pb_limits.specs.Limits.{most_grams, most_row_variance}
use Rattle.pb_rows.specs.Date.{IsDay, day_of}
use Rattle.pb_rows.specs.Name.{is_name}
use Rattle.pb_rows.specs.Number.{number, within}
use Rattle.pb_form.specs.Reading.{are_turns, has_count, row_read}
use Rattle.pb_form.specs.SessionRows.{session_columns, session_schema, session_told}
use Rattle.pb_form.specs.Telling.{agrees, is_of}
use Rattle.pb_form.specs.Value.{Value, Word, Name, Number, Date}
use Rattle.pb_form.specs.declared.fault.FormFault.{FormFault}
use Rattle.pb_form.specs.declared.session.SessionKind.{SessionKind}
use Rattle.pb_form.specs.declared.session.SessionKind.TheVariants as kind
use Rattle.pb_site.specs.declared.declared.Version.{Version}
use Rattle.pb_facts.specs.declared.fact.Fact.{Fact}
use Rattle.pb_facts.specs.declared.fact.Fact.TheVariants.{Reading}
use Rattle.pb_kinds.specs.declared.rows.Request.{Request}
use Rattle.pb_kinds.specs.Ranges.{IsRequestInRange}
use Rattle.pb_kinds.specs.Requests.{books}
use Rattle.pb_kinds.specs.There.{IsReadingIn, kinds_of, request_by}
use Rattle.pb_kinds.specs.Versions.{may_ask}
use Rattle.pb_kinds.proofs.RangeLemmas.{asked_in_range}
use Rattle.pb_kinds.proofs.VersionLemmas.{kind_found, told_may}

-- ---- the six fields of a reading

-- a number that passes lies within its range
pub between_ends : (lo hi z : ℤ) (number : Option ℤ) → within lo hi number ≡ Some z → (lo ≤ℤ z) × (z ≤ℤ hi)
between_ends lo hi z None passes = cc passes
between_ends lo hi z (Some n) passes = by (int_le lo n) refl (int_le n hi) refl passes
  where
    by : (a : Bool) → int_le lo n ≡ a → (b : Bool) → int_le n hi ≡ b → (if a && b then Some n else None) ≡ Some z → (lo ≤ℤ z) × (z ≤ℤ hi)
    by true low true high is =
        let same : n ≡ z = cc is in
        let least : lo ≤ℤ n = grind (arith, ints) in
        let most : n ≤ℤ hi = grind (arith, ints) in
        rw (← same) (least, most)
    by true low false high is = cc is
    by false low b high is = cc is

-- the fields of a reading that have no fault say these values
six_read : (word id stream date grams variance : List ℕ) (day g v : ℤ) → bytes_eq word (codes "reading") ≡ true → is_name id ≡ true → is_name stream ≡ true
    → day_of date ≡ Some day → IsDay day → within (neg_ℤ (pos most_grams)) (pos most_grams) (number grams) ≡ Some g
    → within (pos 0) (pos most_row_variance) (number variance) ≡ Some v
    → IsReadingIn (word ∷ (id ∷ (stream ∷ (date ∷ (grams ∷ (variance ∷ [])))))) (Reading id stream day g v)
six_read word id stream date grams variance day g v worded named of dated range carried spread = record {
  values = Word 0 ∷ (Name id ∷ (Name stream ∷ (Date day ∷ (Number g ∷ (Number v ∷ [])))));
  read = rw (worded, named, of, dated, carried, spread) refl;
  fit = ((refl, refl), (named, (of, (range, (between_ends (neg_ℤ (pos most_grams)) (pos most_grams) g (number grams) carried, (between_ends (pos 0) (pos most_row_variance) v (number variance) spread, tt))))));
  is = rw (named, of) refl;
}

-- a row of a reading has six fields
six_fields : (n : ℕ) → has_count (session_schema kind.Reading) n ≡ true → n ≡ 6
six_fields n counts =
    let parts = and_parts (nat_le 6 n) (are_turns [] (n - 6)) counts in
    let least : nat_le 6 n ≡ true = parts.0 in
    let rest : (n - 6 == 0) ≡ true = parts.1 in
    grind (arith, nat_tests)

-- a record of this kind has that many fields
pub reading_length : (fields : List (List ℕ)) → is_of fields (session_schema kind.Reading) ≡ true → length fields ≡ 6
reading_length fields is =
    six_fields (length fields) (and_parts (has_count (session_schema kind.Reading) (length fields)) (agrees (session_columns kind.Reading) fields) is).0

six_items : (fields : List (List ℕ)) → length fields ≡ 6
    → fields ≡ get_or fields 0 [] ∷ (get_or fields 1 [] ∷ (get_or fields 2 [] ∷ (get_or fields 3 [] ∷ (get_or fields 4 [] ∷ (get_or fields 5 [] ∷ [])))))
six_items [] count = absurd (omega (arith, count))
six_items (a ∷ []) count = absurd (omega (arith, count))
six_items (a ∷ (b ∷ [])) count = absurd (omega (arith, count))
six_items (a ∷ (b ∷ (c ∷ []))) count = absurd (omega (arith, count))
six_items (a ∷ (b ∷ (c ∷ (d ∷ [])))) count = absurd (omega (arith, count))
six_items (a ∷ (b ∷ (c ∷ (d ∷ (e ∷ []))))) count = absurd (omega (arith, count))
six_items (a ∷ (b ∷ (c ∷ (d ∷ (e ∷ (f ∷ [])))))) count = refl
six_items (a ∷ (b ∷ (c ∷ (d ∷ (e ∷ (f ∷ (g ∷ fields))))))) count = absurd (omega (arith, count))

-- the reading that its row says
pub reading_read : (fields : List (List ℕ)) (id stream : List ℕ) (day grams variance : ℤ) → is_of fields (session_schema kind.Reading) ≡ true
    → is_name (get_or fields 1 []) ≡ true → id ≡ get_or fields 1 [] → is_name (get_or fields 2 []) ≡ true → stream ≡ get_or fields 2 []
    → day_of (get_or fields 3 []) ≡ Some day → IsDay day → within (neg_ℤ (pos most_grams)) (pos most_grams) (number (get_or fields 4 [])) ≡ Some grams
    → within (pos 0) (pos most_row_variance) (number (get_or fields 5 [])) ≡ Some variance → IsReadingIn fields (Reading id stream day grams variance)
reading_read fields id stream day grams variance is named id_is of stream_is dated range carried spread =
    let parts = and_parts (has_count (session_schema kind.Reading) (length fields)) (agrees (session_columns kind.Reading) fields) is in
    let all = six_items fields (reading_length fields is) in
    let words : (bytes_eq (get_or fields 0 []) (codes "reading") && true) ≡ true =
    subst (λ (all : List (List ℕ)). agrees (session_columns kind.Reading) all ≡ true) all parts.1 in
    let worded = (and_parts (bytes_eq (get_or fields 0 []) (codes "reading")) true words).0 in
    let read = six_read (get_or fields 0 []) (get_or fields 1 []) (get_or fields 2 []) (get_or fields 3 []) (get_or fields 4 []) (get_or fields 5 []) day grams variance
    worded named of dated range carried spread in
    rw (id_is, stream_is) (subst (λ (all : List (List ℕ)). IsReadingIn all (Reading (get_or fields 1 []) (get_or fields 2 []) day grams variance)) (sym all) read)

-- what it asks for
pub reading_asks : (fields : List (List ℕ)) (fact : Fact) → IsReadingIn fields fact
    → Ok (books false fact) ≡ request_by kind.Reading (row_read (session_schema kind.Reading) fields)
reading_asks fields fact reads =
    let asked : Fact → Result Request FormFault = λ fact. Ok (books false fact) in
    ap asked reads.is ∙ sym (ap (request_by kind.Reading) reads.read)

pub reading_in_range : (fields : List (List ℕ)) (fact : Fact) → IsReadingIn fields fact → IsRequestInRange (books false fact)
reading_in_range fields fact reads =
    subst (λ (fact : Fact). IsRequestInRange (books false fact)) (sym reads.is) (asked_in_range kind.Reading reads.values reads.fit)

-- ---- a record that is identified as of a kind

-- it has the words and the number of fields of the kind
pub told_is_of : (kinds : List SessionKind) (fields : List (List ℕ)) (it : SessionKind) → session_told kinds fields ≡ Ok it → is_of fields (session_schema it) ≡ true
unfolding session_told
told_is_of kinds fields it told = passes (λ kind. is_of fields (session_schema kind)) kinds (kind_found (find (λ kind. is_of fields (session_schema kind)) kinds) _ it told)
  where
    passes : (is_its : SessionKind → Bool) (kinds : List SessionKind) → find is_its kinds ≡ Some it → is_its it ≡ true
    passes is_its [] found = cc found
    passes is_its (kind ∷ kinds) found = by (is_its kind) refl (passes is_its kinds) found
      where
        by : (b : Bool) → is_its kind ≡ b → (find is_its kinds ≡ Some it → is_its it ≡ true) → (if b then Some kind else find is_its kinds) ≡ Some it → is_its it ≡ true
        by true here later found =
            let same : kind ≡ it = cc found in
            ap is_its (sym same) ∙ here
        by false here later found = later found

-- what it asks for may be asked for in a session of the version
pub asked_may : (version : Version) (fields : List (List ℕ)) (it : SessionKind) (read : Result (List Value) FormFault) → session_told (kinds_of version) fields ≡ Ok it
    → IfOk (request_by it read) (λ request. may_ask (Some version) request ≡ true)
asked_may version fields it (Ok values) told = told_may version fields it values told
asked_may version fields it (Err fault) told = tt
