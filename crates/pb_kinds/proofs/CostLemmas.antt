-- The pairs of a record that asks for advice.
use Rattle.std.specs.Prelude.{All, map, unwrap_or, slice_get, slice_index_or, None, Some, Result, Ok, Err, if◌then◌else◌}
use Rattle.std.proofs.Common.{◌≡◌, ◌∙◌, ◌<◌, ◌≤◌, ◌+◌, ◌*◌, ◌/◌, ◌-◌, ℕ, zero, suc, Bool, true, false, List, [], ◌∷◌, length, drop, length-drop, refl, sym, ap, ap₂, subst, ℤ, pos, Option, FitsSigned, of_z, to_z, arith}
use mir.Syntax.{w64}
use Rattle.std.proofs.lemmas.Int.{ints, to_z-of_z}
use Rattle.std.proofs.lemmas.List.{length-map}
use Rattle.std.proofs.lemmas.List.Elements.{All-cons, All-nil}
use Rattle.pb_rows.specs.Records.{without_trailing_empty}
use Rattle.pb_form.specs.Columns.{Column, Schema}
use Rattle.pb_form.specs.Field.{field_read}
use Rattle.pb_form.specs.Holds as holds
use Rattle.pb_form.specs.Laws.{FittingLaw}
use Rattle.pb_form.specs.Values.{number_at, number_in}
use Rattle.pb_form.specs.Reading.{both_read, fields_read, has_count, repeated, row_read, tail_read}
use Rattle.pb_form.specs.SessionRows.{kinds_of_version_1, most_meter_cost, session_schema, session_told}
use Rattle.pb_form.specs.Telling.{is_of}
use Rattle.pb_form.specs.Value.{Value}
use Rattle.pb_form.specs.Writing.{FitEach}
use Rattle.pb_form.specs.Seen.{column_seen, schema_seen}
use Rattle.pb_form.specs.declared.column.Schema as coded_schema
use Rattle.pb_form.specs.declared.fault.FormFault.{FormFault}
use Rattle.pb_form.specs.declared.fault.FormFault.TheVariants as fault
use Rattle.pb_form.specs.declared.session.SessionKind.{SessionKind}
use Rattle.pb_form.specs.declared.session.SessionKind.TheVariants as kind
use Rattle.pb_site.specs.declared.declared.Declared.TheVariants.{Version2}
use Rattle.pb_site.specs.declared.declared.Version.{Version}
use Rattle.pb_kinds.specs.declared.costs.NamedCost.{NamedCost}
use Rattle.pb_kinds.specs.declared.rows.Request.TheVariants.{Advise}
use Rattle.pb_kinds.specs.Costs.{IsMeterCost, costs_in}
use Rattle.pb_kinds.specs.Laws.{NamedCostsLaw}
use Rattle.pb_kinds.specs.Requests.{asked_by, asked_in, declares, name_there, request_if, request_in, request_of}
use Rattle.pb_kinds.specs.There.{ArePairs, IsNameThere, IsNumberThere, cost_columns, costs_by, kinds_of, pairs_read, request_by}
use Rattle.pb_kinds.proofs.VersionLemmas.{asked_in_version}
use Rattle.pb_kinds.proofs.ThereLemmas.{name_is, number_is, column_of}

-- ---- a record that asks for advice

is_advise : (it : SessionKind) (values : List Value) → request_of it values ≡ Advise → it ≡ kind.Advise
is_advise kind.Advise values is = refl
is_advise it values is = cc is

-- the fields of a tail say something if the fields of the row do
tail_says : (schema : Schema) (values : List Value) (fields : List (List ℕ)) → row_read schema fields ≡ Ok values → (others : List Value) × (tail_read schema fields ≡ Ok others)
tail_says schema values fields reads = by (has_count schema (length fields)) reads
  where
    both : (front rest : Result (List Value) FormFault) → both_read (λ values rest. values) front rest ≡ Ok values → (others : List Value) × (rest ≡ Ok others)
    both (Ok front) (Ok rest) is = (rest, refl)
    both (Ok front) (Err bad) is = absurd (cc is)
    both (Err bad) (Ok rest) is = absurd (cc is)
    both (Err bad) (Err other) is = absurd (cc is)

    by : (b : Bool) → (if b then both_read (λ values rest. values) (fields_read schema.columns fields) (tail_read schema fields) else Err fault.Fields) ≡ Ok values
        → (others : List Value) × (tail_read schema fields ≡ Ok others)
    by true is = both (fields_read schema.columns fields) (tail_read schema fields) is
    by false is = absurd (cc is)

-- it has a field, and the others are pairs
pub advise_read : (version : Option Version) (fields : List (List ℕ)) → request_in version fields ≡ Ok Advise
    → (1 ≤ length (without_trailing_empty fields)) × ((others : List Value) × (tail_read (session_schema kind.Advise) (without_trailing_empty fields) ≡ Ok others))
unfolding request_in
advise_read version fields asks = at version asks
  where
    by_values : (filled : List (List ℕ)) (it : SessionKind) (read : Result (List Value) FormFault) → row_read (session_schema it) filled ≡ read → request_by it read ≡ Ok Advise
        → (others : List Value) × (tail_read (session_schema kind.Advise) filled ≡ Ok others)
    by_values filled it (Ok values) reads asks =
        let same : request_of it values ≡ Advise = cc asks in
        let tail = tail_says (session_schema it) values filled reads in
        subst (λ (k : SessionKind). (others : List Value) × (tail_read (session_schema k) filled ≡ Ok others)) (is_advise it values same) tail
    by_values filled it (Err bad) reads asks = absurd (cc asks)

    by_kind : (filled : List (List ℕ)) (told : Result SessionKind FormFault) → request_if told filled ≡ Ok Advise
        → (others : List Value) × (tail_read (session_schema kind.Advise) filled ≡ Ok others)
    by_kind filled (Ok it) asks = by_values filled it (row_read (session_schema it) filled) refl asks
    by_kind filled (Err bad) asks = absurd (cc asks)

    by : (kinds : List SessionKind) (filled : List (List ℕ)) → asked_by kinds filled ≡ Ok Advise
        → (1 ≤ length filled) × ((others : List Value) × (tail_read (session_schema kind.Advise) filled ≡ Ok others))
    by kinds [] asks = absurd (cc asks)
    by kinds (field ∷ filled) asks = (omega arith, by_kind (field ∷ filled) (session_told kinds (field ∷ filled)) asks)

    first : (says : Bool) (filled : List (List ℕ)) → (if says then Ok (declares Version2) else asked_by kinds_of_version_1 filled) ≡ Ok Advise
        → (1 ≤ length filled) × ((others : List Value) × (tail_read (session_schema kind.Advise) filled ≡ Ok others))
    first true filled asks = absurd (cc asks)
    first false filled asks = by kinds_of_version_1 filled asks

    at : (version : Option Version) → asked_in version (without_trailing_empty fields) ≡ Ok Advise
        → (1 ≤ length (without_trailing_empty fields)) × ((others : List Value) × (tail_read (session_schema kind.Advise) (without_trailing_empty fields) ≡ Ok others))
    at None asks = first (is_of (without_trailing_empty fields) (session_schema kind.Version)) (without_trailing_empty fields) asks
    at (Some version) asks = by (kinds_of version) (without_trailing_empty fields) (sym (asked_in_version version (without_trailing_empty fields)) ∙ asks)

-- the fields after the word are the fields of the tail
pub after_word : (filled : List (List ℕ)) → pairs_read (drop 1 filled) ≡ tail_read (session_schema kind.Advise) filled
after_word filled =
    let count : length (drop 1 filled) ≡ length filled - 1 = length-drop 1 filled in
    ap (λ (n : ℕ). fields_read (repeated cost_columns [] n) (drop 1 filled)) count

-- ---- the pairs one by one

-- the values of a first field and of the others
record AreJoined (first : Result Value FormFault) (rest : Result (List Value) FormFault) (values : List Value) : Type 0 where
  pub value : Value
  pub others : List Value
  pub one : first ≡ Ok value
  pub more : rest ≡ Ok others
  pub all : values ≡ value ∷ others

joined_parts : (first : Result Value FormFault) (rest : Result (List Value) FormFault) (values : List Value) → both_read (λ value values. value ∷ values) first rest ≡ Ok values → AreJoined first rest values
joined_parts (Ok v) (Ok others) values says =
    let same : v ∷ others ≡ values = cc says in
    record { value = v; others = others; one = refl; more = refl; all = sym same }
joined_parts (Ok v) (Err bad) values says = absurd (cc says)
joined_parts (Err bad) (Ok others) values says = absurd (cc says)
joined_parts (Err bad) (Err other) values says = absurd (cc says)

-- the columns of a pair
abbrev stream_column : Column
stream_column = slice_index_or cost_columns 0 (column_of [] holds.Items)

abbrev cost_column : Column
cost_column = slice_index_or cost_columns 1 (column_of [] holds.Items)

-- the first pair of some, and those after it
record ArePairsFrom (a b : List ℕ) (n : ℕ) (pairs : List (List ℕ)) (values : List Value) : Type 0 where
  pub stream : Value
  pub cost : Value
  pub others : List Value
  pub stream_says : field_read stream_column a ≡ Ok stream
  pub cost_says : field_read cost_column b ≡ Ok cost
  pub more : fields_read (repeated cost_columns [] n) pairs ≡ Ok others
  pub all : values ≡ stream ∷ (cost ∷ others)

pairs_parts : (a b : List ℕ) (n : ℕ) (pairs : List (List ℕ)) (values : List Value) → fields_read (repeated cost_columns [] (suc (suc n))) (a ∷ (b ∷ pairs)) ≡ Ok values
    → ArePairsFrom a b n pairs values
pairs_parts a b n pairs values says =
    let x = joined_parts (field_read stream_column a) _ values says in
    let y = joined_parts (field_read cost_column b) _ x.others x.more in
    record {
      stream = x.value;
      cost = y.value;
      others = y.others;
      stream_says = x.one;
      cost_says = y.one;
      more = y.more;
      all = x.all ∙ ap (λ (rest : List Value). x.value ∷ rest) y.all;
    }

-- there are half as many costs as fields
pub half_many : (n : ℕ) (pairs : List (List ℕ)) (values : List Value) → length pairs ≡ n → fields_read (repeated cost_columns [] n) pairs ≡ Ok values → length (costs_in values) ≡ n / 2
half_many zero [] values count says =
    let none : values ≡ [] = cc says in
    ap (λ (v : List Value). length (costs_in v)) none
half_many zero (a ∷ pairs) values count says = absurd (omega (arith, count))
half_many (suc n) [] values count says = absurd (omega (arith, count))
half_many (suc zero) (a ∷ []) values count says =
    let x = joined_parts (field_read stream_column a) _ values says in
    let none : x.others ≡ [] = cc x.more in
    let one : values ≡ x.value ∷ [] = x.all ∙ ap (λ (rest : List Value). x.value ∷ rest) none in
    ap (λ (v : List Value). length (costs_in v)) one
half_many (suc zero) (a ∷ (b ∷ pairs)) values count says = absurd (omega (arith, count))
half_many (suc (suc n)) (a ∷ []) values count says = absurd (omega (arith, count))
half_many (suc (suc n)) (a ∷ (b ∷ pairs)) values count says =
    let parts = pairs_parts a b n pairs values says in
    let rest = half_many n pairs parts.others (omega (arith, count)) parts.more in
    let count : length (costs_in values) ≡ suc (length (costs_in parts.others)) = ap (λ (v : List Value). length (costs_in v)) parts.all in
    omega (arith, rest, count)

-- a pair as it is read by itself
pub record IsPair (place : ℕ) (pairs : List (List ℕ)) (values : List Value) : Type 0 where
  pub pair : List Value
  pub reads : fields_read cost_columns (drop (2 * place) pairs) ≡ Ok pair
  pub there : slice_get (costs_in values) place ≡ Some (let it : NamedCost = record { stream = name_there pair 0; cost = number_at pair 1 } in it)
  pub room : 2 * place + 2 ≤ length pairs

pub pair_at : (place n : ℕ) (pairs : List (List ℕ)) (values : List Value) → length pairs ≡ n → fields_read (repeated cost_columns [] n) pairs ≡ Ok values → place < length (costs_in values)
    → IsPair place pairs values
pair_at place zero [] values count says within =
    let none : [] ≡ values = cc says in
    absurd (omega (arith, subst (λ (v : List Value). place < length (costs_in v)) (sym none) within))
pair_at place zero (a ∷ pairs) values count says within = absurd (omega (arith, count))
pair_at place (suc n) [] values count says within = absurd (omega (arith, count))
pair_at place (suc zero) (a ∷ []) values count says within =
    let half = half_many 1 (a ∷ []) values count says in
    absurd (omega (arith, half, within))
pair_at place (suc zero) (a ∷ (b ∷ pairs)) values count says within = absurd (omega (arith, count))
pair_at place (suc (suc n)) (a ∷ []) values count says within = absurd (omega (arith, count))
pair_at zero (suc (suc n)) (a ∷ (b ∷ pairs)) values count says within =
    let parts = pairs_parts a b n pairs values says in
    record {
      pair = parts.stream ∷ (parts.cost ∷ []);
      reads = rw (parts.stream_says, parts.cost_says) refl;
      there = ap (λ (v : List Value). slice_get (costs_in v) 0) parts.all;
      room = omega arith;
    }
pair_at (suc place) (suc (suc n)) (a ∷ (b ∷ pairs)) values count says within =
    let parts = pairs_parts a b n pairs values says in
    let less : place < length (costs_in parts.others) = omega (arith, subst (λ (v : List Value). suc place < length (costs_in v)) parts.all within) in
    let rest = pair_at place n pairs parts.others (omega (arith, count)) parts.more less in
    let twice : 2 * suc place ≡ suc (suc (2 * place)) = omega arith in
    record {
      pair = rest.pair;
      reads = rw twice rest.reads;
      there = ap (λ (v : List Value). slice_get (costs_in v) (suc place)) parts.all ∙ rest.there;
      room = omega (arith, rest.room);
    }

-- ---- one pair, as the code reads it

-- what a pair says is there, and is the cost at its place
pub record IsCostRead (costs : List NamedCost) (place : ℕ) (read : Result (List Value) FormFault) : Type 0 where
  pub pair : List Value
  pub reads : read ≡ Ok pair
  pub there : slice_get costs place ≡ Some (let it : NamedCost = record { stream = name_there pair 0; cost = number_at pair 1 } in it)

-- the columns of a tail, as the code has them, are the columns of a pair
pub seen_pair : (schema : coded_schema.Schema) → schema_seen schema ≡ session_schema kind.Advise → map column_seen schema.tail.now ≡ cost_columns
seen_pair schema is = ap (λ (s : Schema). s.tail) is

pub two_columns : (schema : coded_schema.Schema) → schema_seen schema ≡ session_schema kind.Advise → length schema.tail.now ≡ 2
two_columns schema is = sym (length-map schema.tail.now column_seen) ∙ ap (λ (columns : List Column). length columns) (seen_pair schema is)

pub within_pairs : (pairs : List (List ℕ)) (n : ℕ) (costs : List NamedCost) (place : ℕ) → ArePairs pairs n → costs_by (pairs_read pairs) ≡ costs → place < length costs
    → (costs_in_pairs : List Value) × ((costs ≡ costs_in costs_in_pairs) × IsPair place pairs costs_in_pairs)
within_pairs pairs n costs place are view within =
    let same : costs ≡ costs_in are.values = sym view ∙ ap costs_by are.read in
    (are.values, (same, pair_at place (length pairs) pairs are.values refl are.read (subst (λ (c : List NamedCost). place < length c) same within)))

pub cost_read : (schema : coded_schema.Schema) (pairs fields : List (List ℕ)) (n : ℕ) (costs : List NamedCost) (place : ℕ) (read : Result (List Value) FormFault)
    → schema_seen schema ≡ session_schema kind.Advise → ArePairs pairs n → costs_by (pairs_read pairs) ≡ costs → place < length costs → fields ≡ drop (2 * place) pairs
    → read ≡ fields_read (map column_seen schema.tail.now) fields → IsCostRead costs place read
cost_read schema pairs fields n costs place read is are view within from reads =
    let found = within_pairs pairs n costs place are view within in
    let it = found.1.1 in
    record {
      pair = it.pair;
      reads = reads ∙ ap₂ fields_read (seen_pair schema is) from ∙ it.reads;
      there = ap (λ (c : List NamedCost). slice_get c place) found.1.0 ∙ it.there;
    }

-- it is a name and a cost
pub pair_there : (schema : coded_schema.Schema) (pair : List Value) → schema_seen schema ≡ session_schema kind.Advise → FitEach (map column_seen schema.tail.now) pair
    → IsNameThere pair 0 × IsNumberThere (pos 0) (pos most_meter_cost) pair 1
pair_there schema pair is fit =
    let fits : FitEach cost_columns pair = subst (λ (columns : List Column). FitEach columns pair) (seen_pair schema is) fit in
    (name_is cost_columns pair 0 0 0 _ fits refl refl, number_is cost_columns pair 0 1 1 _ _ _ fits refl refl)

-- the cost at a place, as it is handed on
pub cost_is : (costs : List NamedCost) (place : ℕ) (read : Result (List Value) FormFault) (pair : List Value) (stream : List ℕ) (cost : ℤ) → IsCostRead costs place read → read ≡ Ok pair
    → IsNumberThere (pos 0) (pos most_meter_cost) pair 1 → stream ≡ name_there pair 0 → cost ≡ number_at pair 1
    → slice_get costs place ≡ Some (let it : NamedCost = record { stream = stream; cost = to_z w64 (of_z w64 cost) } in it)
cost_is costs place read pair stream cost it reads range named numbered =
    let same : it.pair ≡ pair = cc (sym it.reads ∙ reads) in
    let number : number_at pair 1 ≡ range.number = ap (λ (o : Option ℤ). unwrap_or o (pos 0)) range.is in
    let fits : FitsSigned w64 cost = omega (arith, ints, numbered, number, range.least, range.most) in
    it.there ∙ rw (to_z-of_z w64 cost fits, named, numbered, same) refl

-- ---- each cost is what a meter may cost

abbrev IsCostInRange : NamedCost → Type 0
IsCostInRange named = IsMeterCost named.cost

pair_in_range : FittingLaw → (a b : List ℕ) (stream cost : Value) → field_read stream_column a ≡ Ok stream → field_read cost_column b ≡ Ok cost → IsMeterCost (unwrap_or (number_in cost) (pos 0))
pair_in_range law a b stream cost one other =
    let reads : row_read (record { columns = cost_columns; tail = [] }) (a ∷ (b ∷ [])) ≡ Ok (stream ∷ (cost ∷ [])) = rw (one, other) refl in
    let fits : FitEach cost_columns (stream ∷ (cost ∷ [])) = law (record { columns = cost_columns; tail = [] }) (stream ∷ (cost ∷ [])) (a ∷ (b ∷ [])) reads in
    let it = number_is cost_columns (stream ∷ (cost ∷ [])) 0 1 1 _ _ _ fits refl refl in
    let number : unwrap_or (number_in cost) (pos 0) ≡ it.number = ap (λ (o : Option ℤ). unwrap_or o (pos 0)) it.is in
    rw number (it.least, it.most)

all_in_range : FittingLaw → (n : ℕ) (pairs : List (List ℕ)) (values : List Value) → length pairs ≡ n → fields_read (repeated cost_columns [] n) pairs ≡ Ok values → All IsCostInRange (costs_in values)
all_in_range law zero [] values count says =
    let none : [] ≡ values = cc says in
    subst (λ (v : List Value). All IsCostInRange (costs_in v)) none (All-nil IsCostInRange)
all_in_range law zero (a ∷ pairs) values count says = absurd (omega (arith, count))
all_in_range law (suc n) [] values count says = absurd (omega (arith, count))
all_in_range law (suc zero) (a ∷ []) values count says =
    let x = joined_parts (field_read stream_column a) _ values says in
    let none : [] ≡ x.others = cc x.more in
    let one : x.value ∷ [] ≡ values = ap (λ (rest : List Value). x.value ∷ rest) none ∙ sym x.all in
    subst (λ (v : List Value). All IsCostInRange (costs_in v)) one (All-nil IsCostInRange)
all_in_range law (suc zero) (a ∷ (b ∷ pairs)) values count says = absurd (omega (arith, count))
all_in_range law (suc (suc n)) (a ∷ []) values count says = absurd (omega (arith, count))
all_in_range law (suc (suc n)) (a ∷ (b ∷ pairs)) values count says =
    let parts = pairs_parts a b n pairs values says in
    let rest = all_in_range law n pairs parts.others (omega (arith, count)) parts.more in
    let first = pair_in_range law a b parts.stream parts.cost parts.stream_says parts.cost_says in
    subst (λ (v : List Value). All IsCostInRange (costs_in v)) (sym parts.all) (All-cons IsCostInRange _ (costs_in parts.others) first rest)

pub named_in_range : FittingLaw → NamedCostsLaw
named_in_range law version fields asks =
    let filled = without_trailing_empty fields in
    let tail = (advise_read version fields asks).1 in
    let reads : pairs_read (drop 1 filled) ≡ Ok tail.0 = after_word filled ∙ tail.1 in
    subst (λ (costs : List NamedCost). All IsCostInRange costs) (sym (ap costs_by tail.1)) (all_in_range law (length (drop 1 filled)) (drop 1 filled) tail.0 refl reads)
