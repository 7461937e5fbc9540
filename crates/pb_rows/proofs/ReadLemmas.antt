-- Each record takes at least one byte, so what a reader of bytes in memory has left are the records that follow.
use Rattle.std.proofs.Common.{Bor, ap, ◌≡◌, ◌<◌, ◌≤◌, ◌+◌, ◌∷◌, ◌++◌, [], ◌∙◌, ℕ, zero, suc, List, Bool, true, false, Option, Some, None, length, arith, sym, refl, inl, inr}
use Rattle.std.specs.Prelude.{◌==◌, ◌||◌, IfOk, OnOk, if◌then◌else◌, Result, Ok, Err}
use Rattle.std.proofs.lemmas.Bool.{cases_Bool}
use Rattle.csv.specs.Machine.{Read, ends_at_end, fields_after, field_after, in_field, is_end, next_record, start_field, start_record, step}
use Rattle.csv.specs.Reading.{ExplainsRead, NotLengths, ReadRecord, Reached, Ready, default_config, is_bom, is_flexible, reader_state, reader_trim, records_from, records_next, strip_bom, took_first}
use Rattle.csv.specs.declared.error.ErrorKind.{ErrorKind}
use Rattle.csv.specs.declared.error.ErrorKind.TheVariants as kind
use Rattle.csv.specs.declared.parser.Action.{Action}
use Rattle.csv.specs.declared.parser.Action.TheVariants as act
use Rattle.csv.specs.declared.parser.State.{State}
use Rattle.csv.specs.declared.parser.State.TheVariants as st
use Rattle.csv.specs.declared.reader.Reader.{Reader}
use Rattle.csv.specs.declared.reader.Trim.TheVariants as trim
use Rattle.csv.proofs.ReadFacts.{rows-end, rows-more}
use Rattle.pb_rows.specs.InHand.{IsBetween, ReadsFirst, records_in, records_left, unread_by}
use Rattle.pb_rows.specs.Records.{records_of}

-- what a byte does in a field: it is a comma, a carriage return, a line feed, or another one
abbrev field_next : Bool → Bool → Bool → State × Action
field_next true cr lf = (st.StartField, act.EndField)
field_next false true lf = (st.AfterCr, act.EndRecord)
field_next false false true = (st.StartRecord, act.EndRecord)
field_next false false false = (st.InField, act.Copy)

-- if a byte ends a record, the state after it lies between records
abbrev Between : State × Action → Type 0
Between next = is_end next.1 ≡ true → ends_at_end next.0 ≡ false

field_between : (comma cr lf : Bool) → Between (field_next comma cr lf)
field_between true cr lf = λ e. cc e
field_between false true lf = λ e. refl
field_between false false true = λ e. refl
field_between false false false = λ e. cc e

in_field_is : (c : ℕ) → in_field default_config c ≡ field_next (c == 44) (c == 13) (c == 10)
in_field_is c = by (c == 44) (c == 13) (c == 10)
  where
    by : (comma cr lf : Bool) → if◌then◌else◌ {A = State × Action} comma (st.StartField, act.EndField) (if◌then◌else◌ {A = State × Action} (cr || lf) (if◌then◌else◌ {A = State} cr st.AfterCr st.StartRecord, act.EndRecord) (st.InField, act.Copy)) ≡ field_next comma cr lf
    by true cr lf = refl
    by false true lf = refl
    by false false true = refl
    by false false false = refl

in_field_between : (c : ℕ) → Between (in_field default_config c)
in_field_between c = rw (in_field_is c) (field_between (c == 44) (c == 13) (c == 10))

-- a step that skips a byte, or one that is between by itself
skip_or : (test : Bool) (s : State) (next : State × Action) → Between next → Between (if◌then◌else◌ {A = State × Action} test (s, act.Skip) next)
skip_or true s next h = λ e. cc e
skip_or false s next h = h

copy_or : (test : Bool) (s : State) (next : State × Action) → Between next → Between (if◌then◌else◌ {A = State × Action} test (s, act.Copy) next)
copy_or true s next h = λ e. cc e
copy_or false s next h = h

start_field_between : (c : ℕ) → Between (start_field default_config c)
start_field_between c = skip_or (c == 34) st.InQuoted (in_field default_config c) (in_field_between c)

start_record_between : (c : ℕ) → Between (start_record default_config c)
start_record_between c = skip_or ((c == 13) || (c == 10)) st.StartRecord (start_field default_config c) (start_field_between c)

-- a byte that ends a record leaves a state between records
between_step : (s : State) (c : ℕ) → Between (step default_config s c)
between_step st.StartRecord c = start_record_between c
between_step st.StartField c = start_field_between c
between_step st.InField c = in_field_between c
between_step st.InQuoted c = skip_or (c == 34) st.AfterQuote (st.InQuoted, act.Copy) (λ e. cc e)
between_step st.InEscape c = λ e. cc e
between_step st.AfterQuote c = copy_or (c == 34) st.InQuoted (in_field default_config c) (in_field_between c)
between_step st.InComment c = skip_or (c == 10) st.StartRecord (st.InComment, act.Skip) (λ e. cc e)
between_step st.AfterCr c = skip_or (c == 10) st.StartRecord (start_record default_config c) (start_record_between c)

some_is : {A : Type 0} {x y : A} → Some x ≡ Some y → x ≡ y
some_is e = cc e

-- what a record leaves: a state between records, and no more bytes than there were
record_leaves : (s : State) (fields : List (List ℕ)) (field xs : List ℕ) (p : Read) → next_record default_config s fields field xs ≡ Some p
    → (ends_at_end p.1 ≡ false) × (length p.2 ≤ length xs)
unfolding next_record
record_leaves s fields field [] p e = elim (cases_Bool (ends_at_end s)) [
  | inl ends ↦
      let q : (fields ++ field ∷ [], st.StartRecord, []) ≡ p = some_is (rw ends at e) in
      rw (← q) (refl, omega arith)
  | inr none ↦ cc (rw none at e)
]
record_leaves s fields field (c ∷ xs) p e = elim (cases_Bool (is_end (step default_config s c).1)) [
  | inl ends ↦
      let q : (fields_after (step default_config s c).1 fields field, (step default_config s c).0, xs) ≡ p = some_is (rw ends at e) in
      rw (← q) (between_step s c ends, omega arith)
  | inr more ↦
      let rest = record_leaves (step default_config s c).0 (fields_after (step default_config s c).1 fields field) (field_after (step default_config s c).1 c field) xs p (rw more at e) in
      (rest.0, omega (arith, rest.1))
]

-- from between records, a record takes at least one byte
record_takes : (s : State) (fields : List (List ℕ)) (field xs : List ℕ) (p : Read) → ends_at_end s ≡ false → next_record default_config s fields field xs ≡ Some p
    → length p.2 < length xs
unfolding next_record
record_takes s fields field [] p between e = cc (rw between at e)
record_takes s fields field (c ∷ xs) p between e = elim (cases_Bool (is_end (step default_config s c).1)) [
  | inl ends ↦
      let q : (fields_after (step default_config s c).1 fields field, (step default_config s c).0, xs) ≡ p = some_is (rw ends at e) in
      rw (← q) (omega arith)
  | inr more ↦
      let rest = record_leaves (step default_config s c).0 (fields_after (step default_config s c).1 fields field) (field_after (step default_config s c).1 c field) xs p (rw more at e) in
      omega (arith, rest.1)
]

-- how many steps a reader may take makes no difference if there are more of them than bytes
same_records : (m n : ℕ) (s : State) (xs : List ℕ) → ends_at_end s ≡ false → length xs < m → length xs < n
    → records_from default_config m s xs ≡ records_from default_config n s xs
unfolding records_from
same_records zero n s xs between room more = absurd (omega arith)
same_records (suc m) zero s xs between room more = absurd (omega arith)
same_records (suc m) (suc n) s xs between room more =
    by (next_record default_config s [] [] xs) refl (λ t ys stands less enough. same_records m n t ys stands less enough)
  where
    by : (o : Option Read) → next_record default_config s [] [] xs ≡ o
        → ((t : State) (ys : List ℕ) → ends_at_end t ≡ false → length ys < m → length ys < n → records_from default_config m t ys ≡ records_from default_config n t ys)
        → records_next (records_from default_config m) o ≡ records_next (records_from default_config n) o
    by None e rest = refl
    by (Some p) e rest =
        let leaves = record_leaves s [] [] xs p e in
        let takes = record_takes s [] [] xs p between e in
        ap (λ (records : List (List (List ℕ))). p.0 ∷ records) (rest p.1 p.2 leaves.0 (omega (arith, takes, room)) (omega (arith, takes, more)))

-- records are at most as many as their bytes
few_records : (n : ℕ) (s : State) (xs : List ℕ) → ends_at_end s ≡ false → length (records_from default_config n s xs) ≤ length xs
unfolding records_from
few_records zero s xs between = omega arith
few_records (suc n) s xs between = by (next_record default_config s [] [] xs) refl (λ t ys stands. few_records n t ys stands)
  where
    by : (o : Option Read) → next_record default_config s [] [] xs ≡ o
        → ((t : State) (ys : List ℕ) → ends_at_end t ≡ false → length (records_from default_config n t ys) ≤ length ys)
        → length (records_next (records_from default_config n) o) ≤ length xs
    by None e rest = omega arith
    by (Some p) e rest =
        let leaves = record_leaves s [] [] xs p e in
        let takes = record_takes s [] [] xs p between e in
        let few = rest p.1 p.2 leaves.0 in
        omega (arith, takes, few)

-- the records of bytes, if there is a first one and if there is none
records_more : (s : State) (xs : List ℕ) (p : Read) → ends_at_end s ≡ false → next_record default_config s [] [] xs ≡ Some p
    → records_from default_config (length xs + 1) s xs ≡ p.0 ∷ records_from default_config (length p.2 + 1) p.1 p.2
unfolding records_from
records_more s xs p between e =
    let leaves = record_leaves s [] [] xs p e in
    let takes = record_takes s [] [] xs p between e in
    let steps : length xs + 1 ≡ suc (length xs) = omega arith in
    rw (steps, e) (ap (λ (rest : List (List (List ℕ))). p.0 ∷ rest) (same_records (length xs) (length p.2 + 1) p.1 p.2 leaves.0 (omega (arith, takes)) (omega arith)))

records_none : (s : State) (xs : List ℕ) → next_record default_config s [] [] xs ≡ None → records_from default_config (length xs + 1) s xs ≡ []
unfolding records_from
records_none s xs e =
    let steps : length xs + 1 ≡ suc (length xs) = omega arith in
    rw (steps, e) refl

-- a first record, and those after it
follows : (p : Read) (fields : List (List ℕ)) (s : State) (ys : List ℕ) (unread : Option (List ℕ)) → fields ≡ p.0 → p.1 ≡ s → p.2 ≡ ys → unread ≡ Some ys
    → p.0 ∷ records_from default_config (length p.2 + 1) p.1 p.2 ≡ fields ∷ records_in s unread
follows p fields s ys unread first state bytes known = rw (first, known, state, bytes) refl

-- what a read of a record leaves of a reader of bytes in memory, and of its records
record_read : (old new : Reader (Bor (List ℕ))) (fields : List (List ℕ)) → IsBetween old
    → ReadRecord (λ s. Some s.now) old new true fields → took_first new ≡ true → is_flexible new ≡ is_flexible old → ReadsFirst old new true fields
unfolding Reached
record_read old new fields stands read first flexible =
    let more = rows-more (λ (s : Bor (List ℕ)). Some s.now) old new fields default_config (reader_state old) stands.bytes stands.bytes [] stands.config stands.unread (refl, refl) read in
    let p = more.2.0 in
    let leaves = record_leaves (reader_state old) [] [] stands.bytes p more.2.1 in (
      record {
        config = read.2 ∙ stands.config;
        trim = read.3 ∙ stands.trim;
        flexible = flexible ∙ stands.flexible;
        between = rw more.2.3.0 at leaves.0;
        bytes = more.0;
        unread = more.1;
      },
      inl first,
      ap (records_in (reader_state old)) stands.unread ∙ records_more (reader_state old) stands.bytes p stands.between more.2.1
          ∙ follows p fields (reader_state new) more.0 (unread_by new) more.2.2 more.2.3.0 more.2.3.1 more.1,
    )

-- if a read finds no record, none was left
none_read : (old new : Reader (Bor (List ℕ))) (fields : List (List ℕ)) → IsBetween old
    → ReadRecord (λ s. Some s.now) old new false fields → records_left old false ≡ []
none_read old new fields stands read =
    let none = rows-end (λ (s : Bor (List ℕ)). Some s.now) old new fields default_config stands.bytes stands.config stands.unread read in
    rw stands.unread (records_none (reader_state old) stands.bytes none)

-- what a read does to a reader of bytes in memory, if it succeeds
pub reads_first : {E : Type 0} (old new : Reader (Bor (List ℕ))) (fields : List (List ℕ)) (r : Result Bool E) → IsBetween old → Ready old
    → IfOk r (λ found. (reader_trim old ≡ trim.None) → Ready old → ReadRecord (λ s. Some s.now) old new found fields)
    → OnOk r (took_first new ≡ true) → OnOk r (is_flexible new ≡ is_flexible old) → IfOk r (λ found. ReadsFirst old new found fields)
reads_first old new fields (Ok true) stands ready reads first flexible = record_read old new fields stands (reads stands.trim ready) first flexible
reads_first old new fields (Ok false) stands ready reads first flexible = none_read old new fields stands (reads stands.trim ready)
reads_first old new fields (Err e) stands ready reads first flexible = tt

-- a text without its byte order mark is no longer than it
strip_bom_within : (bytes : List ℕ) → length (strip_bom bytes) ≤ length bytes
unfolding strip_bom
strip_bom_within [] = omega arith
strip_bom_within (a ∷ []) = omega arith
strip_bom_within (a ∷ b ∷ []) = omega arith
strip_bom_within (a ∷ b ∷ c ∷ rest) = elim (cases_Bool (is_bom a b c)) [ inl mark ↦ rw mark (omega arith) | inr none ↦ rw none (omega arith) ]

-- the records of a text are at most as many as its bytes
pub few_records_of : (bytes : List ℕ) → length (records_of bytes) ≤ length bytes
few_records_of bytes =
    let few = few_records (length (strip_bom bytes) + 1) st.StartRecord (strip_bom bytes) refl in
    let mark = strip_bom_within bytes in
    omega (arith, few, mark)

-- the records that were reached, if no further one follows, are all the records of the text
from_reached : (n : ℕ) (s s2 : State) (xs ys : List ℕ) (rows : List (List (List ℕ))) → ends_at_end s ≡ false → length xs < n
    → Reached default_config s xs rows s2 ys → next_record default_config s2 [] [] ys ≡ None → records_from default_config n s xs ≡ rows
unfolding Reached records_from
from_reached zero s s2 xs ys rows between room reached ended = absurd (omega arith)
from_reached (suc n) s s2 xs ys [] between room reached ended = rw (reached.0, reached.1, ended) refl
from_reached (suc n) s s2 xs ys (row ∷ rows) between room reached ended =
    let p = reached.0 in
    let leaves = record_leaves s [] [] xs p reached.1 in
    let takes = record_takes s [] [] xs p between reached.1 in
    rw (reached.1, reached.2, from_reached n p.1 s2 p.2 ys rows leaves.0 (omega arith) reached.3 ended) refl

-- all that a text's reader reaches
pub all_reached : (bytes ys : List ℕ) (s2 : State) (rows : List (List (List ℕ))) → Reached default_config st.StartRecord (strip_bom bytes) rows s2 ys
    → next_record default_config s2 [] [] ys ≡ None → rows ≡ records_of bytes
all_reached bytes ys s2 rows reached ended =
    sym (from_reached (length (strip_bom bytes) + 1) st.StartRecord s2 (strip_bom bytes) ys rows refl (omega arith) reached ended)

-- a flexible reader never refuses a record for its length
pub flexible_refuses : {R : Type 0} (rem : R → Option (List ℕ)) (old new : Reader R) (text : Bool) (k : ErrorKind) → is_flexible old ≡ true
    → ExplainsRead rem old new text k → NotLengths k
flexible_refuses rem old new text (kind.UnequalLengths pos expected len) flexible why = cc (sym flexible ∙ why.0)
flexible_refuses rem old new text (kind.Io e) flexible why = tt
flexible_refuses rem old new text kind.OutOfMemory flexible why = tt
flexible_refuses rem old new text (kind.Utf8 pos err) flexible why = tt
flexible_refuses rem old new text (kind.Serialize t) flexible why = tt
flexible_refuses rem old new text (kind.Deserialize pos err) flexible why = tt
