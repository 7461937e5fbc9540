-- What the rows of a made session ask.
use Rattle.std.proofs.Common.{◌≡◌, ◌≢◌, ◌≤◌, ◌≤ℤ◌, ◌∙◌, ℕ, ◌+◌, ◌∷◌, [], List, Bool, true, false, ℤ, pos, neg_ℤ, Ok, sym, refl, arith}
use Rattle.std.specs.Prelude.{Option, Some, None, if◌then◌else◌}
use Rattle.std.proofs.lemmas.Int.{ints}
use Rattle.jiff_core.specs.Calendar.{day_count, days_from_civil, days_of_months, days_of_years}
use Rattle.pb_limits.specs.Limits.{most_grams, most_row_variance}
use Rattle.pb_rows.specs.Date.{IsDay}
use Rattle.pb_rows.specs.Name.{is_name}
use Rattle.pb_form.specs.SessionRows.{is_of_version_1, is_of_version_2, session_columns, session_schema}
use Rattle.pb_form.specs.TextLaws.{TextLaw}
use Rattle.pb_form.specs.Value as value
use Rattle.pb_form.specs.Writing.{FitEach}
use Rattle.pb_form.specs.declared.session.SessionKind.{SessionKind}
use Rattle.pb_form.specs.declared.session.SessionKind.TheVariants as kind
use Rattle.pb_site.specs.declared.declared.Declared.TheVariants.{CritNodal, CritMeasure}
use Rattle.pb_site.specs.declared.declared.Declared.{Declared}
use Rattle.pb_site.specs.declared.declared.Kind.{Kind}
use Rattle.pb_site.specs.declared.declared.Kind.TheVariants.{Metered, Plain}
use Rattle.pb_site.specs.declared.declared.Version.{Version}
use Rattle.pb_site.specs.declared.declared.Version.TheVariants.{One, Two}
use Rattle.pb_facts.specs.declared.fact.Fact.{Fact}
use Rattle.pb_kinds.specs.declared.rows.Effect.TheVariants.{Declares, Opens, Books}
use Rattle.pb_kinds.specs.declared.rows.Request.TheVariants.{Store}
use Rattle.pb_kinds.specs.declared.rows.Request.{Request}
use Rattle.pb_kinds.specs.Laws.{AskingLaw}
use Rattle.pb_kinds.specs.Requests.{request_in, request_of}
use Rattle.pb_kinds.specs.Versions.{has_kind, may_begin}
use Rattle.pb_make.specs.declared.plant.MadeStream.{MadeStream}
use Rattle.pb_make.specs.Readings.{is_plain_stream}
use Rattle.pb_make.specs.Rows.{january, made_critical_row, made_node_name, made_period, made_period_row, made_report_row, made_row, made_stream_row, stream_name, stream_values, unit_row}

-- a row of a kind asks what its values ask, if they fit
abbrev pub Asks : Type 0
Asks = (version : Option Version) (kind : SessionKind) (values : List value.Value) → has_kind version kind ≡ true → FitEach (session_columns kind) (value.Word 0 ∷ values)
    → request_in version (made_row kind values) ≡ Ok (request_of kind (value.Word 0 ∷ values))

pub asks : AskingLaw → TextLaw → Asks
asks law texts version kind values has fit =
    law version kind (value.Word 0 ∷ values) (made_row kind values) has (texts (session_schema kind) (value.Word 0 ∷ values) fit)

-- the kinds of a made session are of each version
of_each : (kind : SessionKind) → is_of_version_1 kind ≡ true → is_of_version_2 kind ≡ true → may_begin kind ≡ true → (version : Option Version) → has_kind version kind ≡ true
of_each kind first second begins None = begins
of_each kind first second begins (Some One) = first
of_each kind first second begins (Some Two) = second

-- ---- declarations

pub unit_asks : Asks → (version : Option Version) (i : ℕ) → is_name (made_node_name i) ≡ true → request_in version (unit_row i) ≡ Ok (Store (Declares (Declared.Unit (made_node_name i))))
unit_asks law version i good = law version kind.Unit (value.Name (made_node_name i) ∷ []) (of_each kind.Unit refl refl refl version) ((refl, refl), (good, tt)) ∙ rw good refl

-- the kind of a stream, and its base variance
abbrev pub kind_at : ℕ → Kind
kind_at i = if is_plain_stream i then Plain else Metered

abbrev pub base_at : ℕ → ℤ
base_at i = if is_plain_stream i then pos 0 else pos 1

pub stream_asks : Asks → (version : Option Version) (i : ℕ) (stream : MadeStream) → is_name (stream_name i) ≡ true → is_name (made_node_name stream.from) ≡ true → is_name (made_node_name stream.to) ≡ true
    → request_in version (made_stream_row i stream) ≡ Ok (Store (Declares (Declared.Stream (stream_name i) (made_node_name stream.from) (made_node_name stream.to) (kind_at i) (base_at i) None)))
stream_asks law version i stream name_is from_is to_is = by (is_plain_stream i)
  where
    by : (plain : Bool) → request_in version (if plain then made_row kind.StreamPlain (stream_values i stream (pos 0)) else made_row kind.StreamMetered (stream_values i stream (pos 1)))
        ≡ Ok (Store (Declares (Declared.Stream (stream_name i) (made_node_name stream.from) (made_node_name stream.to) (if plain then Plain else Metered) (if plain then pos 0 else pos 1) None)))
    by true =
        let base : (pos 0 ≤ℤ pos 0) × (pos 0 ≤ℤ pos 0) = (omega (arith, ints), omega (arith, ints)) in
        law version kind.StreamPlain (stream_values i stream (pos 0)) (of_each kind.StreamPlain refl refl refl version) ((refl, refl), (name_is, (from_is, (to_is, ((refl, refl), (base, tt)))))) ∙ rw (name_is, from_is, to_is) refl
    by false =
        let base : (pos 1 ≤ℤ pos 1) × (pos 1 ≤ℤ pos most_row_variance) = (omega (arith, ints), omega (arith, ints)) in
        law version kind.StreamMetered (stream_values i stream (pos 1)) (of_each kind.StreamMetered refl refl refl version) ((refl, refl), (name_is, (from_is, (to_is, ((refl, refl), (base, tt)))))) ∙ rw (name_is, from_is, to_is) refl

-- ---- the rows between the plant and its readings

-- the number of a day of January 2024
pub january_is : (day : ℕ) → 1 ≤ day → pos (19722 + day) ≡ january day
unfolding days_from_civil day_count days_of_years days_of_months
january_is day from =
    let years : days_of_years 12024 ≡ 4391676 = refl in
    let epoch : days_of_years 11970 ≡ 4371953 = refl in
    omega (arith, ints, from, years, epoch)

pub january_fits : (day : ℕ) → 1 ≤ day → day ≤ 31 → IsDay (january day)
january_fits day from to = rw (← january_is day from) (omega (arith, ints, to), omega (arith, ints, to))

-- two days of January differ
pub days_apart : (m n : ℕ) → 1 ≤ m → 1 ≤ n → m ≢ n → january m ≢ january n
days_apart m n m_from n_from other = λ same.
    let numbers : pos (19722 + m) ≡ pos (19722 + n) = january_is m m_from ∙ same ∙ sym (january_is n n_from) in
    other (omega (arith, ints, numbers))

pub period_asks : Asks → (version : Option Version) → request_in version made_period_row ≡ Ok (Store (Opens made_period (january 1) (january 30)))
period_asks law version =
    law version kind.Period (value.Name made_period ∷ value.Date (january 1) ∷ value.Date (january 30) ∷ []) (of_each kind.Period refl refl refl version)
    ((refl, refl), (refl, (january_fits 1 (omega arith) (omega arith), (january_fits 30 (omega arith) (omega arith), tt))))

pub nodal_asks : Asks → (version : Option Version) → request_in version (made_critical_row kind.CriticalNodal) ≡ Ok (Store (Declares (CritNodal (pos 3841))))
nodal_asks law version = law version kind.CriticalNodal (value.Word 0 ∷ value.Number (pos 3841) ∷ []) (of_each kind.CriticalNodal refl refl refl version) ((refl, refl), ((refl, refl), ((omega (arith, ints), omega (arith, ints)), tt)))

pub measure_asks : Asks → (version : Option Version) → request_in version (made_critical_row kind.CriticalMeasure) ≡ Ok (Store (Declares (CritMeasure (pos 3841))))
measure_asks law version = law version kind.CriticalMeasure (value.Word 0 ∷ value.Number (pos 3841) ∷ []) (of_each kind.CriticalMeasure refl refl refl version) ((refl, refl), ((refl, refl), ((omega (arith, ints), omega (arith, ints)), tt)))

pub report_asks : Asks → (version : Option Version) → request_in version made_report_row ≡ Ok (Request.Report made_period)
report_asks law version = law version kind.Report (value.Name made_period ∷ []) (of_each kind.Report refl refl refl version) ((refl, refl), (refl, tt))

-- ---- readings

pub reading_asks : Asks → (version : Option Version) (id stream : List ℕ) (day : ℕ) (grams variance : ℤ) → is_name id ≡ true → is_name stream ≡ true → 1 ≤ day → day ≤ 31
    → neg_ℤ (pos most_grams) ≤ℤ grams → grams ≤ℤ pos most_grams → pos 0 ≤ℤ variance → variance ≤ℤ pos most_row_variance
    → request_in version (made_row kind.Reading (value.Name id ∷ value.Name stream ∷ value.Date (january day) ∷ value.Number grams ∷ value.Number variance ∷ []))
    ≡ Ok (Store (Books (Fact.Reading id stream (january day) grams variance) false))
reading_asks law version id stream day grams variance id_is stream_is from to grams_low grams_high variance_low variance_high =
    law version kind.Reading (value.Name id ∷ value.Name stream ∷ value.Date (january day) ∷ value.Number grams ∷ value.Number variance ∷ []) (of_each kind.Reading refl refl refl version)
    ((refl, refl), (id_is, (stream_is, (january_fits day from to, ((grams_low, grams_high), ((variance_low, variance_high), tt))))))
    ∙ rw (id_is, stream_is) refl
