-- Each reading of a made session is taken after those before it, and its report is one of the period.
use Rattle.std.proofs.Common.{◌≡◌, ◌≢◌, ◌≤◌, ◌<◌, ◌∙◌, ℕ, zero, suc, ◌+◌, ◌/◌, ◌%◌, ◌++◌, ◌∷◌, [], List, Bool, true, false, ℤ, pos, negsuc, ◌*ℤ◌, Some, All, length, ap, ap₂, refl, sym, subst, arith, inl, inr}
use Rattle.std.specs.Prelude.{◌-◌, ◌==◌, ◌&&◌, ◌||◌, ◌≤ℤ◌, map, neg_ℤ, find, position, if◌then◌else◌}
use Rattle.std.specs.Int.{int_div_euclid}
use Rattle.std.specs.List.{range_with_len}
use Rattle.std.specs.Option.{option_map}
use Rattle.std.specs.Ordering.{int_eq}
use Rattle.std.proofs.lemmas.Bool.{cases_Bool, eqb-false, eqb-true, ne_eqb}
use Rattle.std.proofs.lemmas.Bool.Decides.{Decides-int_eq}
use Rattle.std.proofs.lemmas.Int.{ints}
use Rattle.std.proofs.lemmas.List.FromFn.{length-map-range_with_len, map-range_with_len_more}
use Rattle.pb_fixed.proofs.Order.{le_trans, mul_mono_left, square_mono, square_pos}
use Rattle.pb_limits.specs.Limits.{most_facts, most_grams, most_row_variance, most_made_streams}
use Rattle.pb_rows.specs.Name.{same_name}
use Rattle.pb_site.specs.declared.declared.Arc.{Arc}
use Rattle.pb_site.specs.declared.declared.ArcKind.{ArcKind}
use Rattle.pb_site.specs.declared.declared.Kind.TheVariants.{Metered, Plain}
use Rattle.pb_site.specs.declared.declared.Declared.{Declared}
use Rattle.pb_site.specs.Row.{arc_kind}
use Rattle.pb_site.specs.Site.{boundary_names, kind_of, node_names}
use Rattle.pb_facts.specs.declared.fact.Fact.{Fact}
use Rattle.pb_facts.specs.declared.fact.Fact.TheVariants.{Reading}
use Rattle.pb_facts.specs.declared.facts.KeptFact.{KeptFact}
use Rattle.pb_facts.specs.Facts.{is_repeat}
use Rattle.pb_kinds.specs.declared.rows.Effect.TheVariants.{Books}
use Rattle.pb_kinds.specs.Costs.{named_costs}
use Rattle.pb_periods.specs.declared.period.Period.{Period}
use Rattle.pb_book.specs.Answer.{after, answer_if, is_refused, if_known}
use Rattle.pb_book.specs.declared.answer.Accepted.TheVariants as answered
use Rattle.pb_periods.specs.Apart.{is_named}
use Rattle.pb_book.specs.Rows.{version_at}
use Rattle.pb_book.specs.Refusals.{is_of_other_kind, names_other}
use Rattle.pb_kinds.specs.declared.rows.StoredRow.{StoredRow}
use Rattle.pb_make.specs.declared.plant.MadeStream.{MadeStream}
use Rattle.pb_make.specs.Bounds.{IsMade}
use Rattle.pb_make.specs.Laws.{Anything}
use Rattle.pb_make.specs.Readings.{day_read, error_of_draw, is_plain_stream, meter_variance, metered_at, readings_of, shown_grams, stream_read, truth_at}
use Rattle.pb_make.specs.Rows.{january, made_period, made_report_row, reading_row_at, stream_name}
use Rattle.pb_make.proofs.Abbreviations.{meter_deviation, reading_draw, reading_id}
use Rattle.pb_make.proofs.DeclaredLemmas.{AreOther, arcs_are, kind_found, none_any, plant_of}
use Rattle.pb_make.proofs.MadeLemmas.{Rest, measure, nodal, the_period}
use Rattle.pb_make.proofs.NameLemmas.{ids_apart, is_reading_id, is_stream_name, streams_apart}
use Rattle.pb_make.proofs.RequestLemmas.{Asks, days_apart, reading_asks, report_asks}
use Rattle.pb_make.proofs.TakenLemmas.{HasNoCause, IsAt, fewer, store_fact}

-- ---- which streams are metered

-- each stream at a place is
pub metered : (place : ℕ) → is_plain_stream (metered_at place) ≡ false
metered place = ne_eqb (metered_at place % 7) 0 (λ e. absurd (omega (arith, e)))

pub metered_rises : (place : ℕ) → metered_at place < metered_at (place + 1)
metered_rises place = omega arith

pub metered_within : (streams place : ℕ) → place < streams - streams / 7 → metered_at place ≤ streams
metered_within streams place lt = omega (arith, lt)

pub metered_each : (streams i : ℕ) → 1 ≤ i → i ≤ streams → is_plain_stream i ≡ false → (place : ℕ) × (place < streams - streams / 7) × (metered_at place ≡ i)
metered_each streams i from to metered_is =
    let other = eqb-false (i % 7) 0 metered_is in
    (i - 1 - i / 7, omega (arith, from, to, other), omega (arith, from, to, other))

-- places of one stream are of one run of days
metered_one : (a b : ℕ) → metered_at a ≡ metered_at b → a ≡ b
metered_one a b same = omega (arith, same)

-- two readings differ in their stream or in their day
two_readings : (p q : ℕ) → p ≢ q → stream_read p ≡ stream_read q → day_read p ≢ day_read q
two_readings p q other same = λ day.
    let run : p / 30 ≡ q / 30 = metered_one (p / 30) (q / 30) same in
    let rest : p % 30 ≡ q % 30 = omega (arith, day) in
    other (omega (arith, run, rest))

-- ---- the grams

-- what a meter shows and its variance are within the limits
pub record AreShown (truth error : ℤ) : Type 0 where
  pub low : neg_ℤ (pos most_grams) ≤ℤ shown_grams truth error
  pub high : shown_grams truth error ≤ℤ pos most_grams
  pub least : pos 0 ≤ℤ meter_variance truth
  pub most : meter_variance truth ≤ℤ pos most_row_variance

pub shown : (truth error : ℤ) → pos 1 ≤ℤ truth → truth ≤ℤ pos 100000000000 → neg_ℤ (pos 1000) ≤ℤ error → error ≤ℤ pos 1000 → AreShown truth error
shown truth error least most low high =
    let up = mul_mono_left error (pos 1000) truth high (omega (arith, ints, least)) in
    let down = mul_mono_left (neg_ℤ (pos 1000)) error truth low (omega (arith, ints, least)) in
    let part = div_within (truth *ℤ error) (omega (arith, ints, down, most)) (omega (arith, ints, up, most)) in
    let deviation = deviation_within truth least most in
    let square = square_mono (meter_deviation truth) (pos 500000000) deviation.0 deviation.1 in
    record {
      low = omega (arith, ints, part.0, least);
      high = omega (arith, ints, part.1, most);
      least = square_pos (meter_deviation truth);
      most = le_trans (meter_variance truth) (pos 250000000000000000) (pos most_row_variance) square (omega (arith, ints));
    }
  where
    div_within : (p : ℤ) → neg_ℤ (pos 100000000000000) ≤ℤ p → p ≤ℤ pos 100000000000000
        → (neg_ℤ (pos 1000000000) ≤ℤ int_div_euclid p (pos 100000)) × (int_div_euclid p (pos 100000) ≤ℤ pos 1000000000)
    div_within (pos a) from to = (omega (arith, ints, from, to), omega (arith, ints, from, to))
    div_within (negsuc a) from to = (omega (arith, ints, from, to), omega (arith, ints, from, to))

    deviation_within : (t : ℤ) → pos 1 ≤ℤ t → t ≤ℤ pos 100000000000 → (pos 0 ≤ℤ meter_deviation t) × (meter_deviation t ≤ℤ pos 500000000)
    deviation_within (pos a) from to = (omega (arith, ints, from, to), omega (arith, ints, from, to))
    deviation_within (negsuc a) from to = absurd (omega (arith, ints, from))

-- ---- one reading

-- a reading as a fact
abbrev pub fact_at : ℕ → ℕ → List MadeStream → ℕ → Fact
fact_at number sides streams place =
    let truth = truth_at streams (stream_read place) in
    Reading (reading_id place) (stream_name (stream_read place)) (january (day_read place)) (shown_grams truth (error_of_draw (reading_draw number sides place))) (meter_variance truth)

abbrev pub kept_at : ℕ → ℕ → List MadeStream → ℕ → KeptFact
kept_at number sides streams place = record { fact = fact_at number sides streams place; struck = false }

-- the readings so far
abbrev pub kept_to : ℕ → ℕ → List MadeStream → ℕ → List KeptFact
kept_to number sides streams count = map (kept_at number sides streams) (range_with_len 0 count)

-- no reading repeats another
no_repeat : (number sides : ℕ) (streams : List MadeStream) (p q : ℕ) → p ≢ q
    → is_repeat (fact_at number sides streams p) (kept_at number sides streams q) ≡ false
no_repeat number sides streams p q other =
    ap₂ (λ (a b : Bool). a || b) (ids_apart q p (λ e. other (sym e))) by_day
  where
    by_day : (same_name (stream_name (stream_read q)) (stream_name (stream_read p)) && int_eq (january (day_read q)) (january (day_read p))) ≡ false
    by_day = elim (cases_Bool (stream_read q == stream_read p)) [
      | inl same ↦
          let day = days_apart (day_read q) (day_read p) (omega arith) (omega arith)
          (two_readings q p (λ e. other (sym e)) (eqb-true (stream_read q) (stream_read p) same)) in
          ap (λ (b : Bool). same_name (stream_name (stream_read q)) (stream_name (stream_read p)) && b) (differ (january (day_read q)) (january (day_read p)) day)
          ∙ no (same_name (stream_name (stream_read q)) (stream_name (stream_read p)))
      | inr differs ↦
          ap (λ (b : Bool). b && int_eq (january (day_read q)) (january (day_read p)))
          (streams_apart (stream_read q) (stream_read p) (eqb-false (stream_read q) (stream_read p) differs))
    ]
      where
        differ : (a b : ℤ) → a ≢ b → int_eq a b ≡ false
        differ a b apart = elim (cases_Bool (int_eq a b)) [ inl same ↦ absurd (apart ((Decides-int_eq a b).0 same)) | inr is ↦ is ]

        no : (b : Bool) → (b && false) ≡ false
        no true = refl
        no false = refl

criticals : AreOther (nodal ∷ measure ∷ [])
criticals = record { first = refl; no_node = refl; no_boundary = refl; no_arc = λ boundaries nodes. refl }

-- the stream of a reading is metered
kind_is : (n place : ℕ) (streams : List MadeStream) → length streams ≤ most_made_streams → place < readings_of (length streams)
    → kind_of (plant_of n streams (nodal ∷ measure ∷ [])) (stream_name (stream_read place)) ≡ Some ArcKind.Metered
kind_is n place streams few within =
    let declared = plant_of n streams (nodal ∷ measure ∷ []) in
    let boundaries = boundary_names declared in
    let names = node_names declared in
    let j = stream_read place in
    let there : j ≤ length streams = metered_within (length streams) (place / 30) (omega (arith, within)) in
    ap (λ (l : List Arc). option_map (λ (arc : Arc). arc.kind) (find (λ (arc : Arc). same_name (stream_name j) arc.name) l)) (arcs_are n streams (nodal ∷ measure ∷ []) boundaries names criticals)
    ∙ kind_found boundaries names 1 streams j (omega arith) (omega (arith, there)) (omega (arith, few))
    ∙ ap (λ (plain : Bool). Some (kind_by plain)) (metered (place / 30))
  where
    kind_by : Bool → ArcKind
    kind_by plain = arc_kind (if plain then Plain else Metered)

reading_fine : (number sides n place : ℕ) (streams : List MadeStream) → length streams ≤ most_made_streams → place < readings_of (length streams)
    → HasNoCause (plant_of n streams (nodal ∷ measure ∷ [])) (kept_to number sides streams place) (the_period ∷ []) (Books (fact_at number sides streams place) false)
reading_fine number sides n place streams few within =
    let fact = fact_at number sides streams place in
    let kind = kind_is n place streams few within in
    let small : place < 60000 = omega (arith, few, within) in
    record {
      known = ap (names_other fact) kind;
      new = none_any (kept_at number sides streams) (is_repeat fact) 0 place (λ k low high. no_repeat number sides streams place k (λ e. absurd (omega (arith, e, high))));
      ordered = refl;
      matching = ap (is_of_other_kind fact) kind;
      unsealed = refl;
      still_open = refl;
      in_range = refl;
      room = fewer most_facts (length (kept_to number sides streams place)) (omega (arith, small, length-map-range_with_len (kept_at number sides streams) 0 place));
    }

-- the true flow of a stream is within the limits of the plant
truth_fits : (n i : ℕ) (streams : List MadeStream) → All (IsMade n) streams → 1 ≤ i → i ≤ length streams → (pos 1 ≤ℤ truth_at streams i) × (truth_at streams i ≤ℤ pos 100000000000)
truth_fits n i streams made from to =
    let fits = made (i - 1) (record { from = 0; to = 0; truth = pos 0 }) (omega (arith, from, to)) in
    (fits.least, fits.most)

pub error_fits : (draw : ℕ) → (neg_ℤ (pos 1000) ≤ℤ error_of_draw draw) × (error_of_draw draw ≤ℤ pos 1000)
error_fits draw =
    let small : draw % 2001 < 2001 = omega arith in
    (omega (arith, ints, small), omega (arith, ints, small))

-- the remaining readings, after those before them
pub readings_taken : Asks → (Holds : List StoredRow → Type 0) → (number sides n place left : ℕ) (streams : List MadeStream) (records : List (List (List ℕ))) → length streams ≤ most_made_streams
    → All (IsMade n) streams → place + left ≤ readings_of (length streams)
    → Rest Holds (plant_of n streams (nodal ∷ measure ∷ [])) (kept_to number sides streams (place + left)) (the_period ∷ []) records
    → Rest Holds (plant_of n streams (nodal ∷ measure ∷ [])) (kept_to number sides streams place) (the_period ∷ []) (map (reading_row_at number sides streams) (range_with_len place left) ++ records)
readings_taken law Holds number sides n place zero streams records few made within rest rows at is =
    let same : place ≡ place + 0 = omega arith in
    rest rows at (subst (λ (k : ℕ). IsAt rows (plant_of n streams (nodal ∷ measure ∷ [])) (kept_to number sides streams k) (the_period ∷ [])) same is)
readings_taken law Holds number sides n place (suc left) streams records few made within rest rows at is =
    let declared = plant_of n streams (nodal ∷ measure ∷ []) in
    let row = reading_row_at number sides streams place in
    let j = stream_read place in
    let here : place < readings_of (length streams) = omega (arith, within) in
    let there : j ≤ length streams = metered_within (length streams) (place / 30) (omega (arith, here)) in
    let truth = truth_at streams j in
    let error = error_of_draw (reading_draw number sides place) in
    let truth_is = truth_fits n j streams made (omega arith) there in
    let error_is = error_fits (reading_draw number sides place) in
    let are = shown truth error truth_is.0 truth_is.1 error_is.0 error_is.1 in
    let taken = store_fact rows at row (fact_at number sides streams place) declared (kept_to number sides streams place) (the_period ∷ []) is
    (reading_asks law (version_at rows) (reading_id place) (stream_name j) (day_read place) (shown_grams truth error) (meter_variance truth) (is_reading_id place (omega (arith, here, few)))
    (is_stream_name j (omega (arith, there, few))) (omega arith) (omega arith) are.low are.high are.least are.most)
    (reading_fine number sides n place streams few here) in
    let more : kept_to number sides streams place ++ kept_at number sides streams place ∷ [] ≡ kept_to number sides streams (place + 1) =
    sym (map-range_with_len_more (kept_at number sides streams) 0 place place (omega arith)) in
    let same : place + suc left ≡ (place + 1) + left = omega arith in (
      taken.fine,
      readings_taken law Holds number sides n (place + 1) left streams records few made (omega (arith, within))
          (subst (λ (k : ℕ). Rest Holds declared (kept_to number sides streams k) (the_period ∷ []) records) same rest) (after rows at row) (at + 1)
          (subst (λ (k : List KeptFact). IsAt (after rows at row) declared k (the_period ∷ [])) more taken.next),
    )

-- ---- the report

pub report_taken : Asks → (declared : List Declared) (kept : List KeptFact) → Rest Anything declared kept (the_period ∷ []) (made_report_row ∷ [])
report_taken law declared kept rows at is = (
  ap (λ r. is_refused (answer_if rows (named_costs made_report_row) r)) (report_asks law (version_at rows))
      ∙ ap (λ (p : List Period). is_refused (if_known answered.Report (position (is_named made_period) p))) is.periods_is,
  tt,
)
