-- A text of the plain rows.
use Rattle.std.specs.Prelude.{if◌then◌else◌, map, ◌&&◌}
use Rattle.std.specs.List.{AllByRecursion, cons_option, fold, list_all}
use Rattle.std.proofs.Common.{◌≡◌, ◌∙◌, ℕ, suc, ◌+◌, ℤ, pos, negsuc, neg_ℤ, ◌≤ℤ◌, Bool, true, false, List, [], ◌∷◌, ◌++◌, slice_get, Option, Some, None, Result, Ok, refl, sym, ap, subst, inl, inr, arith}
use Rattle.std.proofs.lemmas.Bool.{cases_Bool}
use Rattle.std.proofs.lemmas.Int.{ints}
use Rattle.pb_fixed.proofs.Lists.{AllByRecursion-from_all}
use Rattle.pb_limits.specs.Limits.{most_grams}
use Rattle.pb_limits.specs.Ranges.{IsGrams}
use Rattle.pb_rows.specs.Name.{is_name}
use Rattle.pb_rows.specs.Texts.{WrittenRowsReadBack}
use Rattle.pb_rows.specs.Written.{begins_with_word, text_of_rows}
use Rattle.pb_form.specs.Laws.{OneKindLaw}
use Rattle.pb_form.specs.SessionRows.{session_columns, session_schema}
use Rattle.pb_form.specs.TextLaws.{TextLaw}
use Rattle.pb_form.specs.Texts.{texts_of}
use Rattle.pb_form.specs.Value.{Value, Word, Name, Number, Date}
use Rattle.pb_form.specs.Writing.{FitEach, Writes}
use Rattle.pb_form.specs.declared.fault.FormFault.{FormFault}
use Rattle.pb_form.specs.declared.session.SessionKind.{SessionKind}
use Rattle.pb_form.specs.declared.session.SessionKind.TheVariants as kind
use Rattle.pb_site.specs.declared.declared.Declared.{Declared}
use Rattle.pb_site.specs.declared.declared.Declared.TheVariants.{Version2, Boundary, Tank, Strap, Stream, CritGlobal, CritNodal, CritMeasure}
use Rattle.pb_site.specs.declared.declared.Kind.TheVariants.{Metered, Batch, Plain}
use Rattle.pb_site.specs.declared.declared.Version.{Version}
use Rattle.pb_site.specs.declared.declared.Version.TheVariants.{One, Two}
use Rattle.pb_site.specs.Row.{IsDeclaredInRange}
use Rattle.pb_facts.specs.Changes.{changed}
use Rattle.pb_facts.specs.Fact.{IsFactInRange}
use Rattle.pb_facts.specs.Facts.{has_id, is_live_with, live_facts}
use Rattle.pb_facts.specs.declared.fact.Change.{Change}
use Rattle.pb_facts.specs.declared.fact.Change.TheVariants.{Amount, Level}
use Rattle.pb_facts.specs.declared.fact.Fact.{Fact}
use Rattle.pb_facts.specs.declared.fact.Fact.TheVariants.{Reading, Transfer, Dip}
use Rattle.pb_facts.specs.declared.facts.KeptFact.{KeptFact}
use Rattle.pb_kinds.specs.Effects.{declared_names, effect_names, fact_names}
use Rattle.pb_kinds.specs.Laws.{AskingLaw}
use Rattle.pb_kinds.specs.Ranges.{IsEffectInRange}
use Rattle.pb_kinds.specs.Requests.{request_of}
use Rattle.pb_kinds.specs.Versions.{has_kind, may_ask}
use Rattle.pb_kinds.specs.declared.rows.Edit.TheVariants as edits
use Rattle.pb_kinds.specs.declared.rows.Effect.{Effect}
use Rattle.pb_kinds.specs.declared.rows.Effect.TheVariants.{Declares, Opens, Books, Edits, Closes, Assays}
use Rattle.pb_kinds.specs.declared.rows.Request.{Request}
use Rattle.pb_kinds.specs.declared.rows.Request.TheVariants.{Store}
use Rattle.pb_kinds.specs.declared.rows.StoredRow.{StoredRow}
use Rattle.pb_book.specs.Plain.{PlainLaw, booked, numbered, plain_rows, settled, settled_rows}
use Rattle.pb_book.specs.Rows.{facts_after, facts_of}
use Rattle.pb_book.specs.Written.{WriteRows, WritesRow}
use Rattle.pb_laws.specs.PlainText.{SomePlainTextLaw}

-- what the proof relies on
pub record ReadBack : Type 0 where
  pub plain : PlainLaw
  pub text : TextLaw
  pub kind : OneKindLaw
  pub asking : AskingLaw
  pub back : WrittenRowsReadBack

-- ---- an effect has values of a kind, which fit and ask it
record HasValues (effect : Effect) : Type 0 where
  it : SessionKind
  values : List Value
  fit : FitEach (session_columns it) values
  asks : request_of it values ≡ Store effect
  begins : begins_with_word (texts_of (session_columns it) values) ≡ true

first_of : (a b : Bool) → (a && b) ≡ true → a ≡ true
first_of true b is = refl
first_of false b is = cc is

rest_of : (a b : Bool) → (a && b) ≡ true → b ≡ true
rest_of true b is = is
rest_of false b is = cc is

-- the names of a list are names
one_name : (a : List ℕ) → list_all is_name (a ∷ []) ≡ true → is_name a ≡ true
one_name a is = first_of (is_name a) true is

two_names : (a b : List ℕ) → list_all is_name (a ∷ b ∷ []) ≡ true → (is_name a ≡ true) × (is_name b ≡ true)
two_names a b is = (first_of (is_name a) (list_all is_name (b ∷ [])) is, one_name b (rest_of (is_name a) (list_all is_name (b ∷ [])) is))

three_names : (a b c : List ℕ) → list_all is_name (a ∷ b ∷ c ∷ []) ≡ true → (is_name a ≡ true) × (is_name b ≡ true) × (is_name c ≡ true)
three_names a b c is =
    let (second, third) = two_names b c (rest_of (is_name a) (list_all is_name (b ∷ c ∷ [])) is) in
    (first_of (is_name a) (list_all is_name (b ∷ c ∷ [])) is, second, third)

declared_values : (declared : Declared) → IsDeclaredInRange declared → list_all is_name (declared_names declared) ≡ true → HasValues (Declares declared)
declared_values Version2 range names = record { it = kind.Version; values = Word 0 ∷ Word 0 ∷ []; fit = ((refl, refl), ((refl, refl), tt)); asks = refl; begins = refl }
declared_values (Declared.Unit name) range names =
    let n = one_name name names in
    record { it = kind.Unit; values = Word 0 ∷ Name name ∷ []; fit = ((refl, refl), (n, tt)); asks = rw n refl; begins = refl }
declared_values (Boundary name) range names =
    let n = one_name name names in
    record { it = kind.Boundary; values = Word 0 ∷ Name name ∷ []; fit = ((refl, refl), (n, tt)); asks = rw n refl; begins = refl }
declared_values (Tank name base None) range names =
    let n = one_name name names in
    record { it = kind.Tank; values = Word 0 ∷ Name name ∷ Number base ∷ []; fit = ((refl, refl), (n, (range.0, tt))); asks = rw n refl; begins = refl }
declared_values (Tank name base (Some service)) range names =
    let n = one_name name names in
    record {
      it = kind.TankInService;
      values = Word 0 ∷ Name name ∷ Number base ∷ Date service.since ∷ Date service.until ∷ [];
      fit = ((refl, refl), (n, (range.0, (range.1.since, (range.1.until, tt)))));
      asks = rw n refl;
      begins = refl;
    }
declared_values (Strap tank mm ml) range names =
    let n = one_name tank names in
    record { it = kind.Strap; values = Word 0 ∷ Name tank ∷ Number mm ∷ Number ml ∷ []; fit = ((refl, refl), (n, (range.0, (range.1, tt)))); asks = rw n refl; begins = refl }
declared_values (Stream name from to Metered base None) range names =
    let (a, b, c) = three_names name from to names in
    record {
      it = kind.StreamMetered;
      values = Word 0 ∷ Name name ∷ Name from ∷ Name to ∷ Word 0 ∷ Number base ∷ [];
      fit = ((refl, refl), (a, (b, (c, ((refl, refl), (range.0, tt))))));
      asks = rw (a, b, c) refl;
      begins = refl;
    }
declared_values (Stream name from to Batch base None) range names =
    let (a, b, c) = three_names name from to names in
    record {
      it = kind.StreamBatch;
      values = Word 0 ∷ Name name ∷ Name from ∷ Name to ∷ Word 0 ∷ Number base ∷ [];
      fit = ((refl, refl), (a, (b, (c, ((refl, refl), (range.0, tt))))));
      asks = rw (a, b, c) refl;
      begins = refl;
    }
declared_values (Stream name from to Plain base None) range names =
    let (a, b, c) = three_names name from to names in
    let none = range.0 in
    record {
      it = kind.StreamPlain;
      values = Word 0 ∷ Name name ∷ Name from ∷ Name to ∷ Word 0 ∷ Number base ∷ [];
      fit = ((refl, refl), (a, (b, (c, ((refl, refl), ((omega (arith, ints, none), omega (arith, ints, none)), tt))))));
      asks = rw (a, b, c) refl;
      begins = refl;
    }
declared_values (Stream name from to Metered base (Some service)) range names =
    let (a, b, c) = three_names name from to names in
    record {
      it = kind.MeteredInService;
      values = Word 0 ∷ Name name ∷ Name from ∷ Name to ∷ Word 0 ∷ Number base ∷ Date service.since ∷ Date service.until ∷ [];
      fit = ((refl, refl), (a, (b, (c, ((refl, refl), (range.0, (range.1.since, (range.1.until, tt))))))));
      asks = rw (a, b, c) refl;
      begins = refl;
    }
declared_values (Stream name from to Batch base (Some service)) range names =
    let (a, b, c) = three_names name from to names in
    record {
      it = kind.BatchInService;
      values = Word 0 ∷ Name name ∷ Name from ∷ Name to ∷ Word 0 ∷ Number base ∷ Date service.since ∷ Date service.until ∷ [];
      fit = ((refl, refl), (a, (b, (c, ((refl, refl), (range.0, (range.1.since, (range.1.until, tt))))))));
      asks = rw (a, b, c) refl;
      begins = refl;
    }
declared_values (Stream name from to Plain base (Some service)) range names =
    let (a, b, c) = three_names name from to names in
    let none = range.0 in
    record {
      it = kind.PlainInService;
      values = Word 0 ∷ Name name ∷ Name from ∷ Name to ∷ Word 0 ∷ Number base ∷ Date service.since ∷ Date service.until ∷ [];
      fit = ((refl, refl), (a, (b, (c, ((refl, refl), ((omega (arith, ints, none), omega (arith, ints, none)), (range.1.since, (range.1.until, tt))))))));
      asks = rw (a, b, c) refl;
      begins = refl;
    }
declared_values (CritGlobal dof value) range names =
    let least = range.0 in
    let most = range.1 in
    record {
      it = kind.CriticalGlobal;
      values = Word 0 ∷ Word 0 ∷ Number (pos dof) ∷ Number value ∷ [];
      fit = ((refl, refl), ((refl, refl), ((omega (arith, ints, least), omega (arith, ints, most)), (range.2, tt))));
      asks = refl;
      begins = refl;
    }
declared_values (CritNodal value) range names = record { it = kind.CriticalNodal; values = Word 0 ∷ Word 0 ∷ Number value ∷ []; fit = ((refl, refl), ((refl, refl), (range, tt))); asks = refl; begins = refl }
declared_values (CritMeasure value) range names =
    record { it = kind.CriticalMeasure; values = Word 0 ∷ Word 0 ∷ Number value ∷ []; fit = ((refl, refl), ((refl, refl), (range, tt))); asks = refl; begins = refl }

grams_fit : (grams : ℤ) → IsGrams grams → (neg_ℤ (pos most_grams) ≤ℤ grams) × (grams ≤ℤ pos most_grams)
grams_fit (pos n) most = (omega (arith, ints, most), omega (arith, ints, most))
grams_fit (negsuc n) most = (omega (arith, ints, most), omega (arith, ints, most))

fact_values : (fact : Fact) → IsFactInRange fact → list_all is_name (fact_names fact) ≡ true → HasValues (Books fact false)
fact_values (Reading id stream day grams variance) range names =
    let (a, b) = two_names id stream names in
    record {
      it = kind.Reading;
      values = Word 0 ∷ Name id ∷ Name stream ∷ Date day ∷ Number grams ∷ Number variance ∷ [];
      fit = ((refl, refl), (a, (b, (range.0, (grams_fit grams range.1, (range.2, tt))))));
      asks = rw (a, b) refl;
      begins = refl;
    }
fact_values (Transfer id stream first last grams variance) range names =
    let (a, b) = two_names id stream names in
    record {
      it = kind.Transfer;
      values = Word 0 ∷ Name id ∷ Name stream ∷ Date first ∷ Date last ∷ Number grams ∷ Number variance ∷ [];
      fit = ((refl, refl), (a, (b, (range.0, (range.1, (grams_fit grams range.2, (range.3, tt)))))));
      asks = rw (a, b) refl;
      begins = refl;
    }
fact_values (Dip id tank day mm density variance) range names =
    let (a, b) = two_names id tank names in
    record {
      it = kind.Dip;
      values = Word 0 ∷ Name id ∷ Name tank ∷ Date day ∷ Number mm ∷ Number density ∷ Number variance ∷ [];
      fit = ((refl, refl), (a, (b, (range.0, (range.1, (range.2, (range.3, tt)))))));
      asks = rw (a, b) refl;
      begins = refl;
    }

-- a row that a plain row may be: a declaration, a period, a fact that isn't late or an assay
abbrev MayBePlain : Effect → Type 0
MayBePlain (Declares declared) = Unit {0}
MayBePlain (Opens name first last) = Unit {0}
MayBePlain (Books fact late) = late ≡ false
MayBePlain (Edits id edit reason) = ⊥
MayBePlain (Closes name) = ⊥
MayBePlain (Assays assay) = Unit {0}

abbrev IsNamed : Effect → Type 0
IsNamed effect = list_all is_name (effect_names effect) ≡ true

abbrev IsGiven : Effect → Type 0
IsGiven effect = MayBePlain effect × IsNamed effect

values_of : (effect : Effect) → IsGiven effect → IsEffectInRange effect → HasValues effect
values_of (Declares declared) given range = declared_values declared range given.1
values_of (Opens name first last) given range =
    let n = one_name name given.1 in
    record { it = kind.Period; values = Word 0 ∷ Name name ∷ Date first ∷ Date last ∷ []; fit = ((refl, refl), (n, (range.0, (range.1, tt)))); asks = rw n refl; begins = refl }
values_of (Books fact late) given range = subst (λ (b : Bool). HasValues (Books fact b)) (sym given.0) (fact_values fact range given.1)
values_of (Edits id edit reason) given range = absurd given.0
values_of (Closes name) given range = absurd given.0
values_of (Assays assay) given range =
    let (a, b, c) = three_names assay.component assay.stream assay.period given.1 in
    record {
      it = kind.Assay;
      values = Word 0 ∷ Name assay.component ∷ Name assay.stream ∷ Name assay.period ∷ Number assay.grade.ppm ∷ Number assay.grade.variance ∷ [];
      fit = ((refl, refl), (a, (b, (c, ((range.least, range.most), ((range.exact, range.widest), tt))))));
      asks = rw (a, b, c) refl;
      begins = refl;
    }

-- ---- values have a record
asks_what_it_may : (version : Option Version) (it : SessionKind) (values : List Value) → has_kind version it ≡ may_ask version (request_of it values)
asks_what_it_may None kind.Version values = refl
asks_what_it_may None it values = refl
asks_what_it_may (Some One) kind.Version values = refl
asks_what_it_may (Some One) it values = refl
asks_what_it_may (Some Two) kind.Version values = refl
asks_what_it_may (Some Two) it values = refl

abbrev fields_of : (effect : Effect) → HasValues effect → List (List ℕ)
fields_of effect has = texts_of (session_columns has.it) has.values

writes : ReadBack → (effect : Effect) (has : HasValues effect) → WritesRow (fields_of effect has) effect
writes laws effect has =
    let fields = fields_of effect has in
    let written : Writes (session_schema has.it) has.values fields = laws.text (session_schema has.it) has.values has.fit in
    let ok : Request → Result Request FormFault = λ request. Ok request in
    record {
      asks = λ version may.
          laws.asking version has.it has.values fields (asks_what_it_may version has.it has.values ∙ ap (may_ask version) has.asks ∙ may) written ∙ ap ok has.asks;
      filled = (laws.kind has.it has.values fields written).filled;
    }

record AreWritten (effects : List Effect) : Type 0 where
  records : List (List (List ℕ))
  write : WriteRows records effects
  begin : list_all begins_with_word records ≡ true

all_written : ReadBack → (effects : List Effect) → AllByRecursion IsGiven effects → AllByRecursion IsEffectInRange effects → AreWritten effects
all_written laws [] given range = record { records = []; write = tt; begin = refl }
all_written laws (effect ∷ effects) given range =
    let has = values_of effect given.0 range.0 in
    let rest = all_written laws effects given.1 range.1 in
    let first : begins_with_word (fields_of effect has) ≡ true = has.begins in
    record { records = fields_of effect has ∷ rest.records; write = (writes laws effect has, rest.write); begin = rw first rest.begin }

-- ---- the plain rows: in range, and with names
ranges_of : (at : ℕ) (effects : List Effect) → ((i : ℕ) (stored : StoredRow) → slice_get (numbered at effects) i ≡ Some stored → IsEffectInRange stored.effect)
    → AllByRecursion IsEffectInRange effects
ranges_of at [] each = tt
ranges_of at (effect ∷ effects) each = (each 0 (record { at = at; effect = effect }) refl, ranges_of (at + 1) effects (λ i stored is. each (suc i) stored is))

all_append : {X : Type 0} (P : X → Type 0) (xs ys : List X) → AllByRecursion P xs → AllByRecursion P ys → AllByRecursion P (xs ++ ys)
all_append P [] ys first second = second
all_append P (x ∷ xs) ys first second = (first.0, all_append P xs ys first.1 second)

all_images : {X : Type 0} (P : X → Type 0) (f : X → X) → ((x : X) → P x → P (f x)) → (xs : List X) → AllByRecursion P xs → AllByRecursion P (map f xs)
all_images P f each [] all = tt
all_images P f each (x ∷ xs) all = (each x all.0, all_images P f each xs all.1)

abbrev IsNamedRow : StoredRow → Type 0
IsNamedRow stored = IsNamed stored.effect

settled_given : (rows : List StoredRow) → AllByRecursion IsNamedRow rows → AllByRecursion IsGiven (settled_rows rows)
settled_given [] all = tt
settled_given (stored ∷ rows) all = one stored.effect (settled_rows rows) all.0 (settled_given rows all.1)
  where
    one : (effect : Effect) (rest : List Effect) → IsNamed effect → AllByRecursion IsGiven rest → AllByRecursion IsGiven (cons_option (settled effect) rest)
    one (Declares declared) rest names given = ((tt, names), given)
    one (Opens name first last) rest names given = ((tt, names), given)
    one (Books fact late) rest names given = given
    one (Edits id edit reason) rest names given = given
    one (Closes name) rest names given = given
    one (Assays assay) rest names given = ((tt, names), given)

abbrev HasNames : KeptFact → Type 0
HasNames kept = list_all is_name (fact_names kept.fact) ≡ true

same_names : (change : Change) (fact : Fact) → fact_names (changed change fact) ≡ fact_names fact
same_names (Amount grams variance) (Reading id stream day old_grams old_variance) = refl
same_names (Amount grams variance) (Transfer id stream first last old_grams old_variance) = refl
same_names (Amount grams variance) (Dip id tank day mm density old_variance) = refl
same_names (Level mm density variance) (Reading id stream day old_grams old_variance) = refl
same_names (Level mm density variance) (Transfer id stream first last old_grams old_variance) = refl
same_names (Level mm density variance) (Dip id tank day old_mm old_density old_variance) = refl

amended_names : (id : List ℕ) (change : Change) (k : KeptFact) → HasNames k → HasNames (if is_live_with id k then record { fact = changed change k.fact; struck = false } else k)
amended_names id change k names = elim (cases_Bool (is_live_with id k)) [
  | inl here ↦ rw here (ap (list_all is_name) (same_names change k.fact) ∙ names)
  | inr other ↦ rw other names
]

struck_names : (id : List ℕ) (k : KeptFact) → HasNames k → HasNames (if has_id id k then record { fact = k.fact; struck = true } else k)
struck_names id k names = elim (cases_Bool (has_id id k)) [ inl here ↦ rw here names | inr other ↦ rw other names ]

facts_after_named : (kept : List KeptFact) (effect : Effect) → AllByRecursion HasNames kept → IsNamed effect → AllByRecursion HasNames (facts_after kept effect)
facts_after_named kept (Declares declared) all names = all
facts_after_named kept (Opens name first last) all names = all
facts_after_named kept (Books fact late) all names = all_append HasNames kept (record { fact = fact; struck = false } ∷ []) all (names, tt)
facts_after_named kept (Edits id (edits.Change change) reason) all names =
    all_images HasNames (λ (k : KeptFact). if is_live_with id k then record { fact = changed change k.fact; struck = false } else k) (amended_names id change) kept all
facts_after_named kept (Edits id edits.Strike reason) all names =
    all_images HasNames (λ (k : KeptFact). if has_id id k then record { fact = k.fact; struck = true } else k) (struck_names id) kept all
facts_after_named kept (Closes name) all names = all
facts_after_named kept (Assays assay) all names = all

facts_named : (kept : List KeptFact) (rows : List StoredRow) → AllByRecursion HasNames kept → AllByRecursion IsNamedRow rows
    → AllByRecursion HasNames (fold (λ (so_far : List KeptFact) (stored : StoredRow). facts_after so_far stored.effect) kept rows)
facts_named kept [] all named = all
facts_named kept (stored ∷ rows) all named = facts_named (facts_after kept stored.effect) rows (facts_after_named kept stored.effect all named.0) named.1

booked_given : (kept : List KeptFact) → AllByRecursion HasNames kept → AllByRecursion IsGiven (map booked (live_facts kept))
booked_given [] all = tt
booked_given (k ∷ kept) all = one k.struck k.fact (live_facts kept) all.0 (booked_given kept all.1)
  where
    one : (struck : Bool) (fact : Fact) (rest : List Fact) → list_all is_name (fact_names fact) ≡ true → AllByRecursion IsGiven (map booked rest)
        → AllByRecursion IsGiven (map booked (cons_option (if struck then None else Some fact) rest))
    one true fact rest names given = given
    one false fact rest names given = ((refl, names), given)

pub some_plain_text : ReadBack → SomePlainTextLaw
some_plain_text laws rows accepted named =
    let names = AllByRecursion-from_all IsNamedRow rows named in
    let plain = laws.plain rows accepted in
    let given = all_append IsGiven (settled_rows rows) (map booked (live_facts (facts_of rows))) (settled_given rows names) (booked_given (facts_of rows) (facts_named [] rows tt names)) in
    let range = ranges_of 1 (plain_rows rows) (λ i stored at. (plain.accepted i stored at).in_range) in
    let written = all_written laws (plain_rows rows) given range in
    (text_of_rows written.records, subst (λ (records : List (List (List ℕ))). WriteRows records (plain_rows rows)) (sym (laws.back written.records written.begin)) written.write)
