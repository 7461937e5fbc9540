-- The kind of a row among one.
use denote.Enum.Bare.{sameb}
use Rattle.std.specs.Prelude.{◌||◌, not, is_ok, position, if◌then◌else◌}
use Rattle.std.specs.Option.{ok_or}
use Rattle.std.proofs.Common.{◌≡◌, ℕ, Bool, true, false, List, [], ◌∷◌, length, Some, None, Result, Err, refl, sym, inl, inr}
use Rattle.std.proofs.lemmas.Bool.{and_parts, cases_Bool}
use Rattle.pb_form.specs.contracts.fault.FormFault.{the_type}
use Rattle.pb_form.specs.Columns.{Schema}
use Rattle.pb_form.specs.Reading.{has_count}
use Rattle.pb_form.specs.Telling.{agrees, is_of}
use Rattle.pb_form.specs.Told.{schema_told, untold}
use Rattle.pb_form.specs.declared.fault.FormFault.{FormFault}
use Rattle.pb_form.specs.declared.fault.FormFault.TheVariants as form

-- the place of the only item
alone : {A : Type 0} (test : A → Bool) (x : A) → position test (x ∷ []) ≡ (if test x then Some 0 else None)
alone test x = elim (cases_Bool (test x)) [
  | inl holds ↦ rw holds refl
  | inr fails ↦ rw fails refl
]

-- a row is identified among one schema exactly when it is of it
pub told_alone : (schema : Schema) (row : List (List ℕ)) → is_ok (schema_told (schema ∷ []) row) ≡ is_of row schema
told_alone schema row = rw (alone (is_of row) schema) (by (is_of row schema))
  where
    by : (b : Bool) → is_ok {T = ℕ} (ok_or (if b then Some 0 else None) (untold (schema ∷ []) row)) ≡ b
    by true = refl
    by false = refl

-- a result other than that no schema has the row's words
abbrev pub tells_words : Result ℕ FormFault → Bool
tells_words (Err form.Kind) = false
tells_words told = true

-- a fault that says whether a row has the words of one schema
by_words : (has : Bool) → tells_words (Err (if has || false then form.Fields else form.Kind)) ≡ has
by_words true = refl
by_words false = refl

-- a row has the words of one schema exactly when the result says so
pub words_alone : (schema : Schema) (row : List (List ℕ)) → tells_words (schema_told (schema ∷ []) row) ≡ agrees schema.columns row
words_alone schema row = elim (cases_Bool (is_of row schema)) [
  | inl holds ↦ rw (alone (is_of row) schema, holds) (sym (and_parts (has_count schema (length row)) (agrees schema.columns row) holds).1)
  | inr fails ↦ rw (alone (is_of row) schema, fails) (by_words (agrees schema.columns row))
]

-- a fault isn't `Kind` exactly when its result says that there are the words
pub another : (fault : FormFault) → not (sameb the_type fault form.Kind) ≡ tells_words (Err fault)
another form.Kind = refl
another form.Fields = refl
another form.Name = refl
another form.Number = refl
another form.Date = refl
another form.Word = refl
