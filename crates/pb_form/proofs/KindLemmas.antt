-- A record is of one kind: no two schemas of a table have their words and their number of fields in common.
use Rattle.std.specs.Prelude.{◌&&◌, ◌||◌, ◌==◌, bytes_eq, filter, map, nat_lt, not, position, slice_get, Some, None, Option, Result, Ok, Err, if◌then◌else◌}
use Rattle.std.specs.List.{find, list_all, position_or_len, prefix_len}
use Rattle.std.specs.Option.{ok_or, option_and_then, option_map}
use Rattle.std.proofs.Common.{◌≡◌, ◌∙◌, ◌<◌, ◌≤◌, ◌⊎◌, ◌+◌, ◌-◌, ℕ, zero, suc, Bool, true, false, List, [], ◌∷◌, length, drop, length-drop, get_or, take, refl, sym, ap, subst, arith, inl, inr}
use Rattle.std.proofs.lemmas.Bool.{and_parts, cases_Bool, cases_lt, ne_eqb}
use Rattle.std.proofs.lemmas.Bool.Decides.{nat_tests}
use Rattle.std.proofs.lemmas.List.{drop-map, get_or-drop, take_all}
use Rattle.std.proofs.lemmas.List.Folds.{find_at}
use Rattle.std.proofs.lemmas.Option.{slice_get-get_or, slice_get-map, slice_get_past}
use Rattle.std.proofs.lemmas.Slice.Eq.{bytes_eq-Decides}
use Rattle.pb_rows.specs.Records.{without_trailing_empty}
use Rattle.pb_form.proofs.ListLemmas.{any_map, position_map}
use Rattle.pb_form.proofs.PartsLemmas.{IsRead, has_columns, just_count, parts_of, read_parts}
use Rattle.pb_form.proofs.TableLemmas.{passes_at}
use Rattle.pb_form.specs.Columns.{Column, Schema}
use Rattle.pb_form.specs.Field.{field_read, held_in}
use Rattle.pb_form.specs.Holds as holds
use Rattle.pb_form.specs.Laws.{OneKindLaw}
use Rattle.pb_form.specs.Reading.{fields_read, has_count, repeated, row_read}
use Rattle.pb_form.specs.SessionRows.{is_of_version_1, is_of_version_2, kinds_of_version_1, kinds_of_version_2, session_columns, session_kinds, session_schema, session_schemas, session_tail, session_told}
use Rattle.pb_form.specs.Said.{found}
use Rattle.pb_form.specs.Seen.{schema_seen}
use Rattle.pb_form.specs.Telling.{agrees, has_word, is_of, kind_told}
use Rattle.pb_form.specs.Told.{schema_told, untold}
use Rattle.pb_form.specs.Value.{Value, Word}
use Rattle.pb_form.specs.declared.column.Schema as coded
use Rattle.pb_form.specs.declared.fault.FormFault.{FormFault}
use Rattle.pb_form.specs.declared.fault.FormFault.TheVariants as fault
use Rattle.pb_form.specs.declared.session.SessionKind.{SessionKind}
use Rattle.pb_form.specs.declared.session.SessionKind.TheVariants as kind

-- ---- a record that was read has the words of its schema

-- a field that is the one word of a column
one_word : (word field : List ℕ) (v : Value) → found Word fault.Word (position (bytes_eq field) (word ∷ [])) ≡ Ok v → bytes_eq field word ≡ true
one_word word field v says = elim (cases_Bool (bytes_eq field word)) [
  | inl is ↦ is
  | inr other ↦ absurd (cc (rw other at says))
]

held_word : (takes : holds.Holds) (field : List ℕ) (v : Value) → held_in takes field ≡ Ok v → has_word takes field ≡ true
held_word (holds.Word []) field v says = refl
held_word (holds.Word (word ∷ [])) field v says = one_word word field v says
held_word (holds.Word (one ∷ (other ∷ words))) field v says = refl
held_word holds.Name field v says = refl
held_word holds.Reason field v says = refl
held_word (holds.Number lo hi) field v says = refl
held_word holds.Date field v says = refl
held_word holds.Items field v says = refl

-- a column takes no empty field
abbrev is_firm : Column → Bool
is_firm column = not column.optional

firm : (optional : Bool) → not optional ≡ true → optional ≡ false
firm true is = cc is
firm false is = refl

field_word : (column : Column) (field : List ℕ) (v : Value) → is_firm column ≡ true → field_read column field ≡ Ok v → has_word column.holds field ≡ true
field_word column field v is says = held_word column.holds field v (rw (firm column.optional is) at says)

words_read : (columns : List Column) (values : List Value) (fields : List (List ℕ)) → list_all is_firm columns ≡ true → fields_read columns fields ≡ Ok values
    → agrees columns fields ≡ true
words_read [] values [] all says = refl
words_read [] values (field ∷ fields) all says = refl
words_read (column ∷ columns) values [] all says = refl
words_read (column ∷ columns) values (field ∷ fields) all says =
    let parts = parts_of (field_read column field) (fields_read columns fields) values says in
    let tests = and_parts (is_firm column) (list_all is_firm columns) all in
    rw (field_word column field parts.value tests.0 parts.one, words_read columns parts.others fields tests.1 parts.more) refl

-- ---- two schemas of one record

-- two columns take one word each, and not the same
abbrev other_word : holds.Holds → holds.Holds → Bool
other_word (holds.Word (a ∷ [])) (holds.Word (b ∷ [])) = not (bytes_eq a b)
other_word a b = false

-- two lists of columns take different words at some place
abbrev other_words : List Column → List Column → Bool
other_words (a ∷ xs) (b ∷ ys) = other_word a.holds b.holds || other_words xs ys
other_words xs ys = false

-- two schemas without tails have different numbers of columns
abbrev other_count : Schema → Schema → Bool
other_count a b = ((length a.tail == 0) && (length b.tail == 0)) && not (length a.columns == length b.columns)

-- two schemas have different words, or different numbers of columns
abbrev differ : Schema → Schema → Bool
differ a b = other_words a.columns b.columns || other_count a b

same_word : (a b field : List ℕ) → bytes_eq field a ≡ true → bytes_eq field b ≡ true → not (bytes_eq a b) ≡ false
same_word a b field one other =
    let x = (bytes_eq-Decides field a).0 one in
    let y = (bytes_eq-Decides field b).0 other in
    let same : bytes_eq a b ≡ true = (bytes_eq-Decides a b).1 (sym x ∙ y) in
    rw same refl

no_other_word : (a b : holds.Holds) (field : List ℕ) → has_word a field ≡ true → has_word b field ≡ true → other_word a b ≡ false
no_other_word (holds.Word []) b field one other = refl
no_other_word (holds.Word (a ∷ [])) (holds.Word []) field one other = refl
no_other_word (holds.Word (a ∷ [])) (holds.Word (b ∷ [])) field one other = same_word a b field one other
no_other_word (holds.Word (a ∷ [])) (holds.Word (b ∷ (c ∷ words))) field one other = refl
no_other_word (holds.Word (a ∷ [])) holds.Name field one other = refl
no_other_word (holds.Word (a ∷ [])) holds.Reason field one other = refl
no_other_word (holds.Word (a ∷ [])) (holds.Number lo hi) field one other = refl
no_other_word (holds.Word (a ∷ [])) holds.Date field one other = refl
no_other_word (holds.Word (a ∷ [])) holds.Items field one other = refl
no_other_word (holds.Word (a ∷ (c ∷ words))) b field one other = refl
no_other_word holds.Name b field one other = refl
no_other_word holds.Reason b field one other = refl
no_other_word (holds.Number lo hi) b field one other = refl
no_other_word holds.Date b field one other = refl
no_other_word holds.Items b field one other = refl

alike : (xs ys : List Column) (fields : List (List ℕ)) → length xs ≤ length fields → length ys ≤ length fields → agrees xs fields ≡ true → agrees ys fields ≡ true
    → other_words xs ys ≡ false
alike [] ys fields m n one other = refl
alike (a ∷ xs) [] fields m n one other = refl
alike (a ∷ xs) (b ∷ ys) [] m n one other = absurd (omega (arith, m))
alike (a ∷ xs) (b ∷ ys) (field ∷ fields) m n one other =
    let x = and_parts (has_word a.holds field) (agrees xs fields) one in
    let y = and_parts (has_word b.holds field) (agrees ys fields) other in
    rw (no_other_word a.holds b.holds field x.0 y.0, alike xs ys fields (omega (arith, m)) (omega (arith, n)) x.1 y.1) refl

no_tail : (tail : List Column) → (length tail == 0) ≡ true → tail ≡ []
no_tail [] is = refl
no_tail (column ∷ tail) is =
    let some : (length (column ∷ tail) == 0) ≡ false = ne_eqb (length (column ∷ tail)) 0 (λ same. absurd (omega (arith, same))) in
    cc (sym some ∙ is)

one_count : (a b : Schema) (n : ℕ) → has_count a n ≡ true → has_count b n ≡ true → other_count a b ≡ false
one_count a b n one other = by (length a.tail == 0) (length b.tail == 0) refl refl
  where
    by : (p q : Bool) → (length a.tail == 0) ≡ p → (length b.tail == 0) ≡ q → ((p && q) && not (length a.columns == length b.columns)) ≡ false
    by true true is it =
        let same : length a.columns ≡ length b.columns = sym (just_count a n (no_tail a.tail is) one) ∙ just_count b n (no_tail b.tail it) other in
        let test : (length a.columns == length b.columns) ≡ true = grind (arith, nat_tests, same) in
        rw test refl
    by true false is it = refl
    by false q is it = refl

-- a record of two schemas
of_both : (a b : Schema) (fields : List (List ℕ)) → is_of fields a ≡ true → is_of fields b ≡ true → differ a b ≡ false
of_both a b fields one other =
    let x = and_parts (has_count a (length fields)) (agrees a.columns fields) one in
    let y = and_parts (has_count b (length fields)) (agrees b.columns fields) other in
    rw (alike a.columns b.columns fields (has_columns a (length fields) x.0) (has_columns b (length fields) y.0) x.1 y.1) (one_count a b (length fields) x.0 y.0)

-- ---- a table of schemas

-- a schema differs from each of the others
abbrev all_differ : List Schema → Bool
all_differ [] = true
all_differ (schema ∷ schemas) = list_all (differ schema) schemas && all_differ schemas

differ_at : (schemas : List Schema) (k i : ℕ) (a b : Schema) → all_differ schemas ≡ true → k < i → slice_get schemas k ≡ Some a → slice_get schemas i ≡ Some b
    → differ a b ≡ true
differ_at [] k i a b all before at there = cc at
differ_at (schema ∷ schemas) zero zero a b all before at there = absurd (omega (arith, before))
differ_at (schema ∷ schemas) zero (suc i) a b all before at there =
    let parts = and_parts (list_all (differ schema) schemas) (all_differ schemas) all in
    let same : schema ≡ a = cc at in
    subst (λ (s : Schema). differ s b ≡ true) same (passes_at (differ schema) schemas i b parts.0 there)
differ_at (schema ∷ schemas) (suc k) zero a b all before at there = absurd (omega (arith, before))
differ_at (schema ∷ schemas) (suc k) (suc i) a b all before at there =
    let parts = and_parts (list_all (differ schema) schemas) (all_differ schemas) all in
    differ_at schemas k i a b parts.1 (omega (arith, before)) at there

-- the first item that passes stands where one passes and none before it does
first_at : {X : Type 0} (p : X → Bool) (xs : List X) (i : ℕ) (x : X) → slice_get xs i ≡ Some x → p x ≡ true → ((k : ℕ) (y : X) → k < i → slice_get xs k ≡ Some y → p y ≡ false)
    → (prefix_len (λ y. not (p y)) xs ≡ i) × (i < length xs)
first_at p [] i x at is none = cc at
first_at p (y ∷ xs) zero x at is none =
    let same : y ≡ x = cc at in
    let passes : p y ≡ true = ap p same ∙ is in
    (rw passes refl, omega arith)
first_at p (y ∷ xs) (suc i) x at is none =
    let fails : p y ≡ false = none 0 y (omega arith) refl in
    let rest = first_at p xs i x at is (λ k z before there. none (suc k) z (omega (arith, before)) there) in
    (rw (fails, rest.0) (omega arith), omega (arith, rest.1))

position_is : {X : Type 0} (p : X → Bool) (xs : List X) (i : ℕ) → (prefix_len (λ y. not (p y)) xs ≡ i) × (i < length xs) → position p xs ≡ Some i
position_is p xs i at =
    let within : i < length xs = at.1 in
    let test : nat_lt i (length xs) ≡ true = grind (arith, nat_tests) in
    rw (at.0, test) refl

-- no column of a schema takes an empty field
abbrev has_firm_columns : Schema → Bool
has_firm_columns schema = list_all is_firm schema.columns

-- the place of a schema that a record is of is the place of the first one
place_first : (schemas : List Schema) (i : ℕ) (schema : Schema) (fields : List (List ℕ)) → all_differ schemas ≡ true → slice_get schemas i ≡ Some schema
    → is_of fields schema ≡ true → position (is_of fields) schemas ≡ Some i
place_first schemas i schema fields apart at is = position_is (is_of fields) schemas i (first_at (is_of fields) schemas i schema at is others)
  where
    others : (k : ℕ) (other : Schema) → k < i → slice_get schemas k ≡ Some other → is_of fields other ≡ false
    others k other before there = elim (cases_Bool (is_of fields other)) [
      | inr not_it ↦ not_it
      | inl it ↦ absurd (cc (sym (differ_at schemas k i other schema apart before there at) ∙ of_both other schema fields it is))
    ]

-- the place of a schema by which a record was read is the place of the first one that the record is of
place_told : (schemas : List Schema) (i : ℕ) (schema : Schema) (values : List Value) (fields : List (List ℕ)) → all_differ schemas ≡ true → list_all has_firm_columns schemas ≡ true
    → slice_get schemas i ≡ Some schema → row_read schema fields ≡ Ok values → position (is_of fields) schemas ≡ Some i
place_told schemas i schema values fields apart firm at reads =
    let read = read_parts schema values fields reads in
    let words = words_read schema.columns values fields (passes_at has_firm_columns schemas i schema firm at) read.says in
    let is : is_of fields schema ≡ true = rw (read.counts, words) refl in
    place_first schemas i schema fields apart at is

-- ---- no empty field at the end

abbrev is_fault : Result Value FormFault → Bool
is_fault (Ok value) = false
is_fault (Err bad) = true

-- a column takes no empty field
abbrev is_filled : Column → Bool
is_filled column = is_fault (field_read column [])

-- the last column takes no empty field
abbrev ends_filled : List Column → Bool
ends_filled [] = true
ends_filled (column ∷ []) = is_filled column
ends_filled (column ∷ (next ∷ columns)) = ends_filled (next ∷ columns)

some_field : (column : Column) (field : List ℕ) (v : Value) → is_fault (field_read column []) ≡ true → field_read column field ≡ Ok v → (length field == 0) ≡ false
some_field column [] v bad says = cc (ap is_fault (sym says) ∙ bad)
some_field column (byte ∷ field) v bad says = ne_eqb (length (byte ∷ field)) 0 (λ same. absurd (omega (arith, same)))

-- a field that isn't empty, before others
filled_more : (field : List ℕ) (fields : List (List ℕ)) → (length field == 0) ≡ false → without_trailing_empty fields ≡ fields → without_trailing_empty (field ∷ fields) ≡ field ∷ fields
filled_more field fields some rest = rw (some, rest) refl

-- a field before others, of which the last isn't empty
filled_before : (field : List ℕ) (fields : List (List ℕ)) → 1 ≤ length fields → without_trailing_empty fields ≡ fields → without_trailing_empty (field ∷ fields) ≡ field ∷ fields
filled_before field fields some rest =
    let more : (length fields == 0) ≡ false = ne_eqb (length fields) 0 (λ same. absurd (omega (arith, same, some))) in
    rw (rest, more) (by (length field == 0))
  where
    by : (b : Bool) → (if b && false then [] else field ∷ fields) ≡ field ∷ fields
    by true = refl
    by false = refl

all_filled : (columns : List Column) (values : List Value) (fields : List (List ℕ)) → length fields ≡ length columns → ends_filled columns ≡ true → fields_read columns fields ≡ Ok values
    → without_trailing_empty fields ≡ fields
all_filled [] values [] count ends says = refl
all_filled [] values (field ∷ fields) count ends says = absurd (omega (arith, count))
all_filled (column ∷ columns) values [] count ends says = absurd (omega (arith, count))
all_filled (column ∷ []) values (field ∷ []) count ends says =
    let parts = parts_of (field_read column field) (fields_read [] []) values says in
    rw (some_field column field parts.value ends parts.one) refl
all_filled (column ∷ []) values (field ∷ (more ∷ fields)) count ends says = absurd (omega (arith, count))
all_filled (column ∷ (next ∷ columns)) values (field ∷ []) count ends says = absurd (omega (arith, count))
all_filled (column ∷ (next ∷ columns)) values (field ∷ (more ∷ fields)) count ends says =
    let parts = parts_of (field_read column field) (fields_read (next ∷ columns) (more ∷ fields)) values says in
    let rest = all_filled (next ∷ columns) parts.others (more ∷ fields) (omega (arith, count)) ends parts.more in
    filled_before field (more ∷ fields) (omega arith) rest

-- the fields of some turns of a tail that takes no empty field
turns_filled : (first : Column) (tail rest : List Column) (n : ℕ) (values : List Value) (fields : List (List ℕ)) → length fields ≡ n → list_all is_filled (first ∷ tail) ≡ true
    → list_all is_filled rest ≡ true → fields_read (repeated (first ∷ tail) rest n) fields ≡ Ok values → without_trailing_empty fields ≡ fields
turns_filled first tail rest zero values [] count all left says = refl
turns_filled first tail rest zero values (field ∷ fields) count all left says = absurd (omega (arith, count))
turns_filled first tail rest (suc n) values [] count all left says = absurd (omega (arith, count))
turns_filled first tail [] (suc n) values (field ∷ fields) count all left says =
    let parts = parts_of (field_read first field) (fields_read (repeated (first ∷ tail) tail n) fields) values says in
    let tests = and_parts (is_filled first) (list_all is_filled tail) all in
    filled_more field fields (some_field first field parts.value tests.0 parts.one) (turns_filled first tail tail n parts.others fields (omega (arith, count)) all tests.1 parts.more)
turns_filled first tail (column ∷ rest) (suc n) values (field ∷ fields) count all left says =
    let parts = parts_of (field_read column field) (fields_read (repeated (first ∷ tail) rest n) fields) values says in
    let tests = and_parts (is_filled column) (list_all is_filled rest) left in
    filled_more field fields (some_field column field parts.value tests.0 parts.one) (turns_filled first tail rest n parts.others fields (omega (arith, count)) all tests.1 parts.more)

-- fields of which the last ones, from a place on, end with one that isn't empty
front_filled : (k : ℕ) (fields : List (List ℕ)) → 1 ≤ length (drop k fields) → without_trailing_empty (drop k fields) ≡ drop k fields → without_trailing_empty fields ≡ fields
front_filled zero fields some rest = rest
front_filled (suc k) [] some rest = refl
front_filled (suc k) (field ∷ fields) some rest =
    filled_before field fields (omega (arith, some, length-drop k fields)) (front_filled k fields some rest)

-- the fields of a record of a schema: either it has a tail and some turns of it, or it has just one field for each column
schema_filled : (schema : Schema) (values : List Value) (fields : List (List ℕ)) → ends_filled schema.columns ≡ true → list_all is_filled schema.tail ≡ true
    → IsRead schema values fields → without_trailing_empty fields ≡ fields
schema_filled schema values fields ends turns read = by schema.tail (length (drop (length schema.columns) fields)) turns refl refl read.tail
  where
    just : length fields ≡ length schema.columns → without_trailing_empty fields ≡ fields
    just count = all_filled schema.columns values fields count ends read.says

    by : (tail : List Column) (n : ℕ) → list_all is_filled tail ≡ true → schema.tail ≡ tail → length (drop (length schema.columns) fields) ≡ n
        → fields_read (repeated tail [] (length fields - length schema.columns)) (drop (length schema.columns) fields) ≡ Ok read.others → without_trailing_empty fields ≡ fields
    by [] n turns none count says = just (just_count schema (length fields) none read.counts)
    by (first ∷ tail) zero turns is count says = just (omega (arith, count, length-drop (length schema.columns) fields, has_columns schema (length fields) read.counts))
    by (first ∷ tail) (suc n) turns is count says =
        let left : length (drop (length schema.columns) fields) ≡ length fields - length schema.columns = omega (arith, length-drop (length schema.columns) fields) in
        front_filled (length schema.columns) fields (omega (arith, count)) (turns_filled first tail [] _ read.others _ left turns refl says)

-- ---- the kinds of a session

-- the place of a kind
place_in : (it : SessionKind) → (i : ℕ) × (slice_get session_kinds i ≡ Some it)
place_in kind.Version = (0, refl)
place_in kind.Boundary = (1, refl)
place_in kind.TankInService = (2, refl)
place_in kind.MeteredInService = (3, refl)
place_in kind.BatchInService = (4, refl)
place_in kind.PlainInService = (5, refl)
place_in kind.Unit = (6, refl)
place_in kind.Tank = (7, refl)
place_in kind.Strap = (8, refl)
place_in kind.StreamMetered = (9, refl)
place_in kind.StreamBatch = (10, refl)
place_in kind.StreamPlain = (11, refl)
place_in kind.Period = (12, refl)
place_in kind.CriticalGlobal = (13, refl)
place_in kind.CriticalNodal = (14, refl)
place_in kind.CriticalMeasure = (15, refl)
place_in kind.Reading = (16, refl)
place_in kind.Transfer = (17, refl)
place_in kind.Dip = (18, refl)
place_in kind.LateReading = (19, refl)
place_in kind.LateTransfer = (20, refl)
place_in kind.LateDip = (21, refl)
place_in kind.AmendAmount = (22, refl)
place_in kind.AmendLevel = (23, refl)
place_in kind.Strike = (24, refl)
place_in kind.Close = (25, refl)
place_in kind.Assay = (26, refl)
place_in kind.Design = (27, refl)
place_in kind.Report = (28, refl)
place_in kind.History = (29, refl)
place_in kind.Advise = (30, refl)
place_in kind.Window = (31, refl)
place_in kind.Component = (32, refl)

-- the schemas of the kinds from a place on
pub schemas_from : (schemas : List coded.Schema) (start : ℕ) → map schema_seen schemas ≡ session_schemas
    → map schema_seen (take (length schemas - start) (drop start schemas)) ≡ map session_schema (drop start session_kinds)
schemas_from schemas start same =
    ap (map schema_seen) (take_all (length schemas - start) (drop start schemas) (omega (arith, length-drop start schemas)))
    ∙ sym (drop-map schema_seen start schemas) ∙ ap (drop start) same ∙ drop-map session_schema start session_kinds

-- the first item that passes stands at the first place of one
found_at : {X : Type 0} (p : X → Bool) (xs : List X) → find p xs ≡ option_and_then (slice_get xs) (position p xs)
found_at p xs = find_at p xs ∙ by (cases_lt (position_or_len p xs) (length xs))
  where
    by : (position_or_len p xs < length xs) ⊎ (length xs ≤ position_or_len p xs) → slice_get xs (position_or_len p xs) ≡ option_and_then (slice_get xs) (position p xs)
    by (inl there) =
        let test : nat_lt (position_or_len p xs) (length xs) ≡ true = grind (arith, nat_tests) in
        rw test refl
    by (inr past) =
        let test : nat_lt (position_or_len p xs) (length xs) ≡ false = grind (arith, nat_tests) in
        rw test (slice_get_past xs (position_or_len p xs) past)

-- the kind at the first place of a schema that a record is of, or why there is none
told_here : {K : Type 0} (schema_of : K → Schema) (kinds : List K) (fields : List (List ℕ)) (place : ℕ) (it : K) → position (is_of fields) (map schema_of kinds) ≡ Some place
    → slice_get kinds place ≡ Some it → kind_told schema_of kinds fields ≡ Ok it
told_here schema_of kinds fields place it first at =
    rw (found_at (λ kind. is_of fields (schema_of kind)) kinds, sym (position_map (is_of fields) schema_of kinds) ∙ first, at) refl

told_none : {K : Type 0} (schema_of : K → Schema) (kinds : List K) (fields : List (List ℕ)) → position (is_of fields) (map schema_of kinds) ≡ None
    → kind_told schema_of kinds fields ≡ Err (untold (map schema_of kinds) fields)
told_none schema_of kinds fields none =
    rw (found_at (λ kind. is_of fields (schema_of kind)) kinds, sym (position_map (is_of fields) schema_of kinds) ∙ none, any_map (λ (schema : Schema). agrees schema.columns fields) schema_of kinds) refl

place_found : (o : Option ℕ) (why : FormFault) (place : ℕ) → ok_or o why ≡ Ok place → o ≡ Some place
place_found (Some i) why place is = cc is
place_found None why place is = cc is

none_found : (o : Option ℕ) (why bad : FormFault) → ok_or o why ≡ Err bad → (o ≡ None) × (why ≡ bad)
none_found (Some i) why bad is = cc is
none_found None why bad is = (refl, cc is)

-- the kind that they give
pub kind_from_told : (start place : ℕ) (fields : List (List ℕ)) → schema_told (map session_schema (drop start session_kinds)) fields ≡ Ok place
    → start + place < length session_kinds → session_told (drop start session_kinds) fields ≡ Ok (get_or session_kinds (start + place) kind.Version)
unfolding session_told
kind_from_told start place fields told within =
    let kinds = drop start session_kinds in
    let there : place < length kinds = omega (arith, length-drop start session_kinds, within) in
    let first = place_found (position (is_of fields) (map session_schema kinds)) (untold (map session_schema kinds) fields) place told in
    told_here session_schema kinds fields place (get_or kinds place kind.Version) first (slice_get-get_or kinds place kind.Version there)
    ∙ ap (λ (it : SessionKind). (let told_kind : Result SessionKind FormFault = Ok it in told_kind)) (get_or-drop start session_kinds place kind.Version)

-- or why there is none
pub no_kind_told : (start : ℕ) (fields : List (List ℕ)) (bad : FormFault) → schema_told (map session_schema (drop start session_kinds)) fields ≡ Err bad
    → session_told (drop start session_kinds) fields ≡ Err bad
unfolding session_told
no_kind_told start fields bad told =
    let kinds = drop start session_kinds in
    let none = none_found (position (is_of fields) (map session_schema kinds)) (untold (map session_schema kinds) fields) bad told in
    told_none session_schema kinds fields none.0 ∙ ap (λ (bad : FormFault). (let told_fault : Result SessionKind FormFault = Err bad in told_fault)) none.1

-- what passes a test has a place among all that do
place_kept : {X : Type 0} (p : X → Bool) (xs : List X) (i : ℕ) (x : X) → slice_get xs i ≡ Some x → p x ≡ true → (j : ℕ) × (slice_get (filter p xs) j ≡ Some x)
place_kept p [] i x at is = cc at
place_kept p (y ∷ xs) zero x at is =
    let same : y ≡ x = cc at in
    let passes : p y ≡ true = ap p same ∙ is in
    (0, rw passes at)
place_kept p (y ∷ xs) (suc i) x at is =
    let rest = place_kept p xs i x at is in
    by (p y) refl rest
  where
    by : (b : Bool) → p y ≡ b → (j : ℕ) × (slice_get (filter p xs) j ≡ Some x) → (j : ℕ) × (slice_get (if b then y ∷ filter p xs else filter p xs) j ≡ Some x)
    by true e rest = (suc rest.0, rest.1)
    by false e rest = rest

session_ends : list_all (λ (it : SessionKind). ends_filled (session_columns it)) session_kinds ≡ true
session_ends = refl

session_turns : list_all (λ (it : SessionKind). list_all is_filled (session_tail it)) session_kinds ≡ true
session_turns = refl

session_firm : list_all (λ (it : SessionKind). list_all is_firm (session_columns it)) session_kinds ≡ true
session_firm = refl

-- the kinds that a session has, of which no two have their words and their number of fields in common
record AreKinds (kinds : List SessionKind) : Type 0 where
  apart : all_differ (map session_schema kinds) ≡ true
  firm : list_all has_firm_columns (map session_schema kinds) ≡ true

kinds_1 : AreKinds kinds_of_version_1
kinds_1 = record { apart = refl; firm = refl }

kinds_2 : AreKinds kinds_of_version_2
kinds_2 = record { apart = refl; firm = refl }

told : (kinds : List SessionKind) (it : SessionKind) (values : List Value) (fields : List (List ℕ)) → AreKinds kinds → (i : ℕ) × (slice_get kinds i ≡ Some it)
    → row_read (session_schema it) fields ≡ Ok values → session_told kinds fields ≡ Ok it
unfolding session_told
told kinds it values fields are at reads =
    let schema_there : slice_get (map session_schema kinds) at.0 ≡ Some (session_schema it) =
    slice_get-map session_schema kinds at.0 ∙ ap (λ (o : Option SessionKind). option_map session_schema o) at.1 in
    let place = place_told (map session_schema kinds) at.0 (session_schema it) values fields are.apart are.firm schema_there reads in
    told_here session_schema kinds fields at.0 it place at.1

-- some of the schemas of a table differ too
apart_after : (n : ℕ) (schemas : List Schema) → all_differ schemas ≡ true → all_differ (drop n schemas) ≡ true
apart_after zero schemas apart = apart
apart_after (suc n) [] apart = refl
apart_after (suc n) (schema ∷ schemas) apart = apart_after n schemas (and_parts (list_all (differ schema) schemas) (all_differ schemas) apart).1

-- two kinds of one record have one place
schema_at : (it : SessionKind) (i : ℕ) → slice_get session_kinds i ≡ Some it → slice_get session_schemas i ≡ Some (session_schema it)
schema_at it i at = slice_get-map session_schema session_kinds i ∙ ap (λ (o : Option SessionKind). option_map session_schema o) at

session_differ : all_differ session_schemas ≡ true
session_differ = refl

same_kind : (fields : List (List ℕ)) (a b : SessionKind) → is_of fields (session_schema a) ≡ true → is_of fields (session_schema b) ≡ true → a ≡ b
same_kind fields a b one other =
    let x = place_in a in
    let y = place_in b in
    by x.0 x.1 y.0 y.1 (cases_lt x.0 y.0) (cases_lt y.0 x.0)
  where
    by : (i : ℕ) → slice_get session_kinds i ≡ Some a → (j : ℕ) → slice_get session_kinds j ≡ Some b → (i < j) ⊎ (j ≤ i) → (j < i) ⊎ (i ≤ j) → a ≡ b
    by i at j there (inl lt) after =
        absurd (cc (sym (differ_at session_schemas i j (session_schema a) (session_schema b) session_differ lt (schema_at a i at) (schema_at b j there))
        ∙ of_both (session_schema a) (session_schema b) fields one other))
    by i at j there (inr ge) (inl gt) =
        absurd (cc (sym (differ_at session_schemas j i (session_schema b) (session_schema a) session_differ gt (schema_at b j there) (schema_at a i at))
        ∙ of_both (session_schema b) (session_schema a) fields other one))
    by i at j there (inr ge) (inr le) =
        let same : i ≡ j = omega (arith, ge, le) in
        let both : (let a_there : Option SessionKind = Some a in a_there) ≡ Some b = sym at ∙ ap (slice_get session_kinds) same ∙ there in
        cc both

-- a record that is of the kind of readings is identified as a reading among the kinds of each version
pub reading_told : (start : ℕ) (fields : List (List ℕ)) → start ≤ 6 → is_of fields (session_schema kind.Reading) ≡ true
    → session_told (drop start session_kinds) fields ≡ Ok kind.Reading
unfolding session_told
reading_told start fields few is =
    let schema_at_place : slice_get (map session_schema (drop start session_kinds)) (16 - start) ≡ Some (session_schema kind.Reading) =
    slice_get-map session_schema (drop start session_kinds) (16 - start) ∙ ap (λ (o : Option SessionKind). option_map session_schema o) at in
    let place = place_first (map session_schema (drop start session_kinds)) (16 - start) (session_schema kind.Reading) fields apart schema_at_place is in
    told_here session_schema (drop start session_kinds) fields (16 - start) kind.Reading place at
  where
    at : slice_get (drop start session_kinds) (16 - start) ≡ Some kind.Reading
    at =
        let count : length session_kinds ≡ 33 = refl in
        let there : 16 - start < length (drop start session_kinds) = omega (arith, few, count, length-drop start session_kinds) in
        let place : start + (16 - start) ≡ 16 = omega (arith, few) in
        let some : SessionKind → Option SessionKind = λ it. Some it in
        slice_get-get_or (drop start session_kinds) (16 - start) kind.Version there
        ∙ ap some (get_or-drop start session_kinds (16 - start) kind.Version ∙ ap (λ (n : ℕ). get_or session_kinds n kind.Version) place)

    apart : all_differ (map session_schema (drop start session_kinds)) ≡ true
    apart =
        subst (λ (schemas : List Schema). all_differ schemas ≡ true) (drop-map session_schema start session_kinds)
        (apart_after start session_schemas session_differ)

pub one_kind : OneKindLaw
one_kind it values fields reads =
    let at = place_in it in
    let read = read_parts (session_schema it) values fields reads in
    let ends = passes_at (λ (it : SessionKind). ends_filled (session_columns it)) session_kinds at.0 it session_ends at.1 in
    let turns = passes_at (λ (it : SessionKind). list_all is_filled (session_tail it)) session_kinds at.0 it session_turns at.1 in
    let firm = passes_at (λ (it : SessionKind). list_all is_firm (session_columns it)) session_kinds at.0 it session_firm at.1 in
    let is : is_of fields (session_schema it) ≡ true = rw (read.counts, words_read (session_columns it) values fields firm read.says) refl in
    record {
      is = is;
      only = λ other there. same_kind fields other it there is;
      told_1 = λ has. told kinds_of_version_1 it values fields kinds_1 (place_kept is_of_version_1 session_kinds at.0 it at.1 has) reads;
      told_2 = λ has. told kinds_of_version_2 it values fields kinds_2 (place_kept is_of_version_2 session_kinds at.0 it at.1 has) reads;
      filled = schema_filled (session_schema it) values fields ends turns read;
    }
