-- What a record asks for, by what its kind and its fields are read as.
use Rattle.std.specs.Prelude.{◌-◌, Option, Some, None, Result, Ok, Err, if◌then◌else◌, nat_le, slice_get}
use Rattle.std.specs.List.{list_all}
use Rattle.std.proofs.Common.{◌≡◌, ◌∙◌, ◌≤◌, ℕ, Bool, true, false, List, [], ◌∷◌, length, refl, subst, sym, ap, arith, inl, inr}
use Rattle.std.proofs.lemmas.Bool.{and_parts}
use Rattle.std.proofs.lemmas.Bool.Decides.{nat_tests}
use Rattle.pb_rows.specs.Name.{is_name}
use Rattle.pb_rows.specs.Records.{without_trailing_empty}
use Rattle.pb_form.specs.Columns.{Schema}
use Rattle.pb_form.specs.Laws.{FittingLaw, IsOfKind, OneKindLaw}
use Rattle.pb_form.specs.Reading.{are_turns, has_count, row_read}
use Rattle.pb_form.specs.SessionRows.{is_of_version_1, is_of_version_2, kinds_of_version_1, kinds_of_version_2, session_columns, session_kinds, session_schema, session_told}
use Rattle.pb_form.specs.Telling.{agrees, is_of}
use Rattle.pb_form.specs.Value.{Value, Word}
use Rattle.pb_form.specs.Writing.{FitEach, Writes}
use Rattle.pb_form.specs.declared.fault.FormFault.{FormFault}
use Rattle.pb_form.specs.declared.session.SessionKind.{SessionKind}
use Rattle.pb_form.specs.declared.session.SessionKind.TheVariants as kind
use Rattle.pb_site.specs.declared.declared.Declared.TheVariants.{Version2}
use Rattle.pb_site.specs.declared.declared.Version.{Version}
use Rattle.pb_site.specs.declared.declared.Version.TheVariants.{One, Two}
use Rattle.pb_kinds.specs.declared.rows.Request.{Request}
use Rattle.pb_kinds.specs.declared.rows.Request.TheVariants.{Blank, Store}
use Rattle.pb_kinds.specs.Laws.{AskingLaw, StoredLaw}
use Rattle.pb_kinds.specs.Ranges.{IsRequestInRange}
use Rattle.pb_kinds.specs.Requests.{asked_by, asked_in, declares, request_if, request_in, request_of}
use Rattle.pb_kinds.specs.There.{request_by}
use Rattle.pb_kinds.specs.Versions.{has_kind, may_ask, may_begin}
use Rattle.pb_kinds.proofs.RangeLemmas.{asked_in_range, asked_named, stored_names}
use Rattle.pb_kinds.proofs.VersionLemmas.{asks_what_it_may, begins, kept_passes, may_begin_so, told_among}

-- no fields
pub blank_asks : (kinds : List SessionKind) (fields : List (List ℕ)) → length fields ≡ 0 → asked_by kinds fields ≡ Ok Blank
blank_asks kinds [] none = refl
blank_asks kinds (field ∷ fields) none = absurd (omega (arith, none))

-- others
pub told_asks : (kinds : List SessionKind) (fields : List (List ℕ)) (told : Result SessionKind FormFault) → 1 ≤ length fields → session_told kinds fields ≡ told
    → asked_by kinds fields ≡ request_if told fields
told_asks kinds [] told some is = absurd (omega (arith, some))
told_asks kinds (field ∷ fields) told some is = ap (λ (t : Result SessionKind FormFault). request_if t (field ∷ fields)) is

-- fields of a kind ask for what their values ask for
kind_asks : (kinds : List SessionKind) (it : SessionKind) (values : List Value) (fields : List (List ℕ)) → session_told kinds fields ≡ Ok it → row_read (session_schema it) fields ≡ Ok values
    → 1 ≤ length fields → asked_by kinds fields ≡ Ok (request_of it values)
kind_asks kinds it values fields told writes some = told_asks kinds fields (Ok it) some told ∙ ap (request_by it) writes

-- a record of a kind has a field
some_field : (fields : List (List ℕ)) (schema : Schema) → 1 ≤ length schema.columns → is_of fields schema ≡ true → 1 ≤ length fields
some_field fields schema some is =
    let parts = and_parts (has_count schema (length fields)) (agrees schema.columns fields) is in
    let least : nat_le (length schema.columns) (length fields) ≡ true =
    (and_parts (nat_le (length schema.columns) (length fields)) (are_turns schema.tail (length fields - length schema.columns)) parts.0).0 in
    grind (arith, nat_tests)

some_column : (it : SessionKind) → nat_le 1 (length (session_schema it).columns) ≡ true
some_column kind.Version = refl
some_column it = refl

-- a record of a kind asks for what its values ask for, in a session that has rows of the kind
pub asks_of : (version : Option Version) (it : SessionKind) (values : List Value) (fields : List (List ℕ)) → has_kind version it ≡ true → IsOfKind it fields
    → Writes (session_schema it) values fields → request_in version fields ≡ Ok (request_of it values)
unfolding request_in
asks_of version it values fields has is writes = ap (asked_in version) is.filled ∙ by version has
  where
    some : 1 ≤ length fields
    some =
        let columns : 1 ≤ length (session_schema it).columns = grind (arith, nat_tests, some_column it) in
        some_field fields (session_schema it) columns is.is

    first : (kind_is : Bool) → is_of fields (session_schema kind.Version) ≡ kind_is → may_begin it ≡ true
        → (if kind_is then Ok (declares Version2) else asked_by kinds_of_version_1 fields) ≡ Ok (request_of it values)
    first true says may =
        let ok : SessionKind → Result Request FormFault = λ k. Ok (request_of k values) in
        ap ok (is.only kind.Version says)
    first false says may = elim (begins it may) [
      | inl same ↦ absurd (cc (sym says ∙ ap (λ (k : SessionKind). is_of fields (session_schema k)) (sym same) ∙ is.is))
      | inr one ↦ kind_asks kinds_of_version_1 it values fields (is.told_1 one) writes some
    ]

    by : (version : Option Version) → has_kind version it ≡ true → asked_in version fields ≡ Ok (request_of it values)
    by None has = first (is_of fields (session_schema kind.Version)) refl has
    by (Some One) has = kind_asks kinds_of_version_1 it values fields (is.told_1 has) writes some
    by (Some Two) has = kind_asks kinds_of_version_2 it values fields (is.told_2 has) writes some

pub asking : OneKindLaw → AskingLaw
asking law version it values fields has writes = asks_of version it values fields has (law it values fields writes) writes

-- ---- what holds of what is asked for

same_request : (a b : Request) → (let one : Result Request FormFault = Ok a in one) ≡ Ok b → a ≡ b
same_request a b is = cc is

-- what holds of a blank record, and of what values that fit ask for, holds of what is asked for
read_holds : (P : Request → Type 0) (it : SessionKind) → ((values : List Value) → FitEach (session_columns it) values → P (request_of it values)) → FittingLaw
    → (fields : List (List ℕ)) (request : Request) (read : Result (List Value) FormFault) → row_read (session_schema it) fields ≡ read
    → request_by it read ≡ Ok request → P request
read_holds P it each law fields request (Ok values) reads is =
    subst P (same_request (request_of it values) request is) (each values (law (session_schema it) values fields reads))
read_holds P it each law fields request (Err fault) reads is = cc is

told_holds : (P : Request → Type 0) (kinds : List SessionKind)
    → ((it : SessionKind) (values : List Value) → (i : ℕ) × (slice_get kinds i ≡ Some it) → FitEach (session_columns it) values → P (request_of it values)) → FittingLaw
    → (fields : List (List ℕ)) (request : Request) → request_if (session_told kinds fields) fields ≡ Ok request → P request
told_holds P kinds each law fields request is = by (session_told kinds fields) refl is
  where
    by : (told : Result SessionKind FormFault) → session_told kinds fields ≡ told → request_if told fields ≡ Ok request → P request
    by (Ok it) e is = read_holds P it (λ values fit. each it values (told_among kinds fields it e) fit) law fields request (row_read (session_schema it) fields) refl is
    by (Err fault) e is = cc is

fields_hold : (P : Request → Type 0) (kinds : List SessionKind) → P Blank
    → ((it : SessionKind) (values : List Value) → (i : ℕ) × (slice_get kinds i ≡ Some it) → FitEach (session_columns it) values → P (request_of it values)) → FittingLaw
    → (fields : List (List ℕ)) (request : Request) → asked_by kinds fields ≡ Ok request → P request
fields_hold P kinds blank each law [] request is = subst P (same_request Blank request is) blank
fields_hold P kinds blank each law (field ∷ fields) request is = told_holds P kinds each law (field ∷ fields) request is

asked_holds : (P : Request → Type 0) (version : Option Version) → P Blank
    → ((it : SessionKind) (values : List Value) → has_kind version it ≡ true → FitEach (session_columns it) values → P (request_of it values)) → FittingLaw
    → (fields : List (List ℕ)) (request : Request) → request_in version fields ≡ Ok request → P request
unfolding request_in
asked_holds P None blank each law fields request is = by (is_of (without_trailing_empty fields) (session_schema kind.Version)) is
  where
    by : (says : Bool) → (if says then Ok (declares Version2) else asked_by kinds_of_version_1 (without_trailing_empty fields)) ≡ Ok request → P request
    by true is = subst P (same_request (declares Version2) request is) (each kind.Version (Word 0 ∷ (Word 0 ∷ [])) refl ((refl, refl), ((refl, refl), tt)))
    by false is =
        fields_hold P kinds_of_version_1 blank (λ it values at fit. each it values (may_begin_so it (kept_passes is_of_version_1 session_kinds at.0 it at.1)) fit) law
        (without_trailing_empty fields) request is
asked_holds P (Some One) blank each law fields request is =
    fields_hold P kinds_of_version_1 blank (λ it values at fit. each it values (kept_passes is_of_version_1 session_kinds at.0 it at.1) fit) law (without_trailing_empty fields) request is
asked_holds P (Some Two) blank each law fields request is =
    fields_hold P kinds_of_version_2 blank (λ it values at fit. each it values (kept_passes is_of_version_2 session_kinds at.0 it at.1) fit) law (without_trailing_empty fields) request is

pub stored : FittingLaw → StoredLaw
stored law = record {
  in_range = λ version fields effect is.
      asked_holds IsRequestInRange version tt (λ it values has fit. asked_in_range it values fit) law fields (Store effect) is;
  named = λ version fields effect is.
      asked_holds (λ (request : Request). list_all is_name (stored_names request) ≡ true) version refl (λ it values has fit. asked_named it values fit) law fields (Store effect) is;
  of_version = λ version fields effect is.
      asked_holds (λ (request : Request). may_ask version request ≡ true) version refl (λ it values has fit. sym (asks_what_it_may version it values) ∙ has) law fields (Store effect) is;
}
