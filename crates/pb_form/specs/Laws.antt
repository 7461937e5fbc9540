-- Statement. Records that write values: no two write the same, their values fit, and each is of one kind.
use Rattle.std.specs.Prelude.{◌≡◌, ℕ, true, List, [], Ok}
use Rattle.pb_rows.specs.Records.{without_trailing_empty}
use Rattle.pb_form.specs.Columns.{Schema}
use Rattle.pb_form.specs.SessionRows.{is_of_version_1, is_of_version_2, kinds_of_version_1, kinds_of_version_2, session_schema, session_told}
use Rattle.pb_form.specs.Telling.{is_of}
use Rattle.pb_form.specs.Value.{Value}
use Rattle.pb_form.specs.Writing.{FitEach, Writes}
use Rattle.pb_form.specs.declared.session.SessionKind.{SessionKind}

-- No two records write the same values by a schema without a tail. So a record that is read and written again stays as it was.
abbrev pub OneRecordLaw : Type 0
OneRecordLaw = (schema : Schema) (values : List Value) (a b : List (List ℕ)) → schema.tail ≡ [] → Writes schema values a → Writes schema values b → a ≡ b

-- The values that a record has by a schema fit its columns.
abbrev pub FittingLaw : Type 0
FittingLaw = (schema : Schema) (values : List Value) (fields : List (List ℕ)) → Writes schema values fields → FitEach schema.columns values

-- a record is of a kind and of no other, also among the kinds of a version that has this kind, and it doesn't end with an empty field
pub record IsOfKind (kind : SessionKind) (fields : List (List ℕ)) : Type 0 where
  pub is : is_of fields (session_schema kind) ≡ true
  pub only : (other : SessionKind) → is_of fields (session_schema other) ≡ true → other ≡ kind
  pub told_1 : is_of_version_1 kind ≡ true → session_told kinds_of_version_1 fields ≡ Ok kind
  pub told_2 : is_of_version_2 kind ≡ true → session_told kinds_of_version_2 fields ≡ Ok kind
  pub filled : without_trailing_empty fields ≡ fields

-- A record that has values by the schema of a kind is of this kind: no two kinds have their words and their number of fields in
-- common, and none takes an empty field at its end.
abbrev pub OneKindLaw : Type 0
OneKindLaw = (kind : SessionKind) (values : List Value) (fields : List (List ℕ)) → Writes (session_schema kind) values fields → IsOfKind kind fields
