-- The row of a stream: what it reads as.
use Rattle.std.specs.Prelude.{◌&&◌, not, ◌^◌, codes, bytes_eq, IfSome}
use Rattle.std.specs.List.{list_all, list_any}
use Rattle.std.specs.Option.{option_and}
use Rattle.std.proofs.Common.{◌≡◌, ◌∙◌, ◌++◌, ℕ, ◌<◌, List, [], length, take, Bool, true, false, Option, None, Some, refl, sym, ap, ap₂, subst, arith, inl, inr}
use Rattle.std.proofs.lemmas.Bool.{and_from, cases_Bool, or_from}
use Rattle.std.specs.Cmp.Lexicographic.{bytes_decides}
use Rattle.pb_limits.specs.Limits.{most_value, most_variance, most_wide}
use Rattle.pb_rows.specs.Name.{same_name}
use Rattle.pb_rows.specs.Texts.{HaveOneNumberText}
use Rattle.pb_rows.specs.declared.name.Names.{Names}
use Rattle.pb_graph.specs.declared.records.Meas.{Meas}
use Rattle.pb_graph.specs.declared.records.Stream.{Stream}
use Rattle.pb_graph.specs.declared.records.Member.{Member}
use Rattle.pb_graph.specs.declared.records.Step.{Step}
use Rattle.pb_graph.specs.declared.records.Witness.{Witness}
use Rattle.pb_study.specs.declared.results.Bounds.{Bounds}
use Rattle.pb_study.specs.declared.results.StreamResult.{StreamResult}
use Rattle.pb_graph.specs.ProcessGraph.{ProcessGraph, IsMeasurement, IsStream, IsWithinLimits}
use Rattle.pb_study.specs.WellFormed.{AreBoundsWithin, IsResultWithin}
use Rattle.pb_graph.specs.WellFormed.{IsWitnessWithin}
use Rattle.pb_report.specs.Block.{high_end, low_end, result_row}
use Rattle.pb_report.specs.Certificate.{certificate_values}
use Rattle.pb_report.specs.Names.{name_at}
use Rattle.pb_report.specs.Row.{fields_of, value_or_none, OutputRow}
use Rattle.pb_form.specs.Holds.{Holds, either_way, from_one}
use Rattle.pb_form.specs.OutputRows.{output_columns, wide_range}
use Rattle.pb_form.specs.Texts.{value_text}
use Rattle.pb_form.specs.Value.{Value, Number}
use Rattle.pb_form.specs.Values.{number_in}
use Rattle.pb_form.specs.Words.{class_words, shape_words}
use Rattle.pb_form.specs.Writing.{FitEach, FitsIn, word_at}
use Rattle.pb_form.specs.declared.output.OutputKind.{OutputKind}
use Rattle.pb_choices.specs.Places.{class_place, placed_class, placed_shape, shape_place, witness_shape}
use Rattle.pb_blocks.specs.declared.rows.StreamRow.{StreamRow}
use Rattle.pb_blocks.specs.Beside.{has_bad_list, has_unknown_node, is_half}
use Rattle.pb_blocks.specs.Lists.{is_among, is_part, is_side, items, place_of}
use Rattle.pb_blocks.specs.Held.{is_unknown_item, names_no_stream, side_of}
use Rattle.pb_blocks.specs.Results.{has_unknown_part, result_of, witness_by}
use Rattle.pb_blocks.specs.Values.{said_arc, both_bounds, both_meas, said_stream}
use Rattle.pb_readback.specs.declared.draft.Draft.{Draft}
use Rattle.pb_readback.specs.Reading.{AwaitsStreams}
use Rattle.pb_readback.specs.Written.{HasBoundsForLeast}
use Rattle.pb_readback.proofs.WrittenFieldLemmas.{is_empty, AreApart, AreWritten, abs_between, among_at, not_blank, place_at, under_between, word_fits}
use Rattle.pb_readback.proofs.WrittenListLemmas.{AreNamed, in_known, in_named, in_order, named_at, side_back, side_items}
use Rattle.pb_readback.proofs.WrittenPartLemmas.{AreStreamNames, members_back, steps_back}
use Rattle.pb_readback.proofs.WrittenRowLemmas.{IsSoundRow, row_back, stream_beside, takes_least, told_stream}
use Rattle.pb_report.specs.Pieces.{certificate_parts, parts_text, side_text}

-- ---- measurements and bounds

abbrev pub value_of : Option Meas → Value
value_of meas = value_or_none (λ (m : Meas). Number m.value) meas

abbrev pub variance_of : Option Meas → Value
variance_of meas = value_or_none (λ (m : Meas). Number m.variance) meas

meas_back : (meas : Option Meas) → both_meas (number_in (value_of meas)) (number_in (variance_of meas)) ≡ meas
meas_back None = refl
meas_back (Some meas) = refl

bounds_back : (bounds : Option Bounds) → both_bounds (number_in (low_end bounds)) (number_in (high_end bounds)) ≡ bounds
bounds_back None = refl
bounds_back (Some bounds) = refl

whole_meas : HaveOneNumberText → (one other : Holds) (meas : Option Meas) → is_half (value_text one (value_of meas)) (value_text other (variance_of meas)) ≡ false
whole_meas numbers one other None = refl
whole_meas numbers one other (Some meas) = rw (not_blank numbers meas.value, not_blank numbers meas.variance) refl

whole_bounds : HaveOneNumberText → (one other : Holds) (bounds : Option Bounds) → is_half (value_text one (low_end bounds)) (value_text other (high_end bounds)) ≡ false
whole_bounds numbers one other None = refl
whole_bounds numbers one other (Some bounds) = rw (not_blank numbers bounds.lo, not_blank numbers bounds.hi) refl

value_fits : (meas : Option Meas) → IfSome meas IsMeasurement → FitsIn (either_way most_value) true (value_of meas)
value_fits None h = refl
value_fits (Some meas) h = abs_between most_value meas.value h.value

variance_fits : (meas : Option Meas) → IfSome meas IsMeasurement → FitsIn (from_one most_variance) true (variance_of meas)
variance_fits None h = refl
variance_fits (Some meas) h = (h.least, h.greatest)

low_fits : (bounds : Option Bounds) → IfSome bounds AreBoundsWithin → FitsIn wide_range true (low_end bounds)
low_fits None h = refl
low_fits (Some bounds) h = abs_between most_wide bounds.lo h.lo

high_fits : (bounds : Option Bounds) → IfSome bounds AreBoundsWithin → FitsIn wide_range true (high_end bounds)
high_fits None h = refl
high_fits (Some bounds) h = abs_between most_wide bounds.hi h.hi

-- the least bounds that are written are within the limits
least_within : (result : StreamResult) → IfSome result.least AreBoundsWithin → IfSome (option_and result.bounds result.least) AreBoundsWithin
least_within result h = by result.bounds
  where
    by : (bounds : Option Bounds) → IfSome (option_and bounds result.least) AreBoundsWithin
    by None = tt
    by (Some bounds) = h

-- and they are the least bounds of the stream, if it has none without bounds
least_back : (result : StreamResult) → HasBoundsForLeast result → option_and result.bounds result.least ≡ result.least
least_back result whole = by result.bounds whole
  where
    by : (bounds : Option Bounds) → (bounds ≡ None → result.least ≡ None) → option_and bounds result.least ≡ result.least
    by None h = sym (h refl)
    by (Some bounds) h = refl

-- ---- the row

-- what is known of the names of a block
pub record AreKnownNames (names : Names) (graph : ProcessGraph) : Type 0 where
  pub form_nodes : AreNamed names.nodes
  pub apart_nodes : AreApart names.nodes
  pub of_streams : AreStreamNames names.streams
  pub each_node : length names.nodes ≡ graph.nodes
  pub each_stream : length names.streams ≡ length graph.streams

-- the values of a certificate
pub as_parts : (names : Names) (witness : Witness) → certificate_values names witness ≡ certificate_parts names witness
as_parts names (Witness.Cut side members) = refl
as_parts names (Witness.Cycle steps) = refl

-- the row of a stream with each value of its certificate by the certificate
abbrev row_with : Names → ℕ → Stream → StreamResult → List Value → OutputRow
row_with names i stream result values = record { kind = OutputKind.Stream; values = take 12 (result_row names i stream result).values ++ values }

abbrev parts_row : Names → ℕ → Stream → StreamResult → OutputRow
parts_row names i stream result = row_with names i stream result (certificate_parts names result.classified.witness)

-- the fields of the row of a stream, and its values
abbrev pub stream_fields : Names → ℕ → Stream → StreamResult → List (List ℕ)
stream_fields names i stream result = fields_of (parts_row names i stream result)

pub fields_are : (names : Names) (i : ℕ) (stream : Stream) (result : StreamResult) → stream_fields names i stream result ≡ fields_of (result_row names i stream result)
fields_are names i stream result = ap (λ (values : List Value). fields_of (row_with names i stream result values)) (sym (as_parts names result.classified.witness))

abbrev pub stream_values : Names → ℕ → Stream → StreamResult → List Value
stream_values names i stream result = (parts_row names i stream result).values

-- what the row says about a stream
pub stream_back : (names : Names) (graph : ProcessGraph) (i : ℕ) (stream : Stream) (result : StreamResult) → AreKnownNames names graph → IsStream graph.nodes stream
    → said_arc names.nodes (stream_fields names i stream result) (stream_values names i stream result) ≡ stream
stream_back names graph i stream result known joins =
    let from : stream.from < length names.nodes = omega (arith, joins.from, known.each_node) in
    let to : stream.to < length names.nodes = omega (arith, joins.to, known.each_node) in
    rw (
      place_at names.nodes stream.from known.apart_nodes from,
      place_at names.nodes stream.to known.apart_nodes to,
      meas_back stream.meas,
    ) refl

-- a certificate's side, as it is read: the side of a cycle has no node
abbrev pub side_in : List (List ℕ) → Witness → List Bool
side_in nodes (Witness.Cut side members) = side
side_in nodes (Witness.Cycle steps) = side_of nodes []

-- what the row says about the result
abbrev pub told_of : Names → StreamResult → StreamRow
told_of names result = record {
  class = result.classified.class;
  flow = result.flow;
  bounds = result.bounds;
  least = option_and result.bounds result.least;
  shape = witness_shape result.classified.witness;
  side = side_in names.nodes result.classified.witness;
  parts = parts_text names.streams result.classified.witness;
}

side_told : (names : Names) (graph : ProcessGraph) (witness : Witness) → AreKnownNames names graph → IsWitnessWithin graph witness
    → side_of names.nodes (items (side_text names.nodes witness)) ≡ side_in names.nodes witness
side_told names graph (Witness.Cut side members) known within =
    rw (side_items side names.nodes known.form_nodes) (side_back side names.nodes (within.0 ∙ sym known.each_node) known.apart_nodes)
side_told names graph (Witness.Cycle steps) known within = refl

pub result_told : AreWritten → (names : Names) (graph : ProcessGraph) (i : ℕ) (stream : Stream) (result : StreamResult) → AreKnownNames names graph → IsResultWithin graph result
    → said_stream names.nodes OutputKind.Stream (stream_fields names i stream result) (stream_values names i stream result) ≡ told_of names result
result_told written names graph i stream result known within =
    rw (
      written.classes.there result.classified.class,
      bounds_back result.bounds,
      bounds_back (option_and result.bounds result.least),
      written.shapes.there (witness_shape result.classified.witness),
      side_told names graph result.classified.witness known within.witness,
    ) refl

-- a certificate's parts, as they are written
record AreGoodParts (names : Names) (witness : Witness) : Type 0 where
  pub forms : list_all is_part (items (parts_text names.streams witness)) ≡ true
  pub known : list_any (names_no_stream names.streams) (items (parts_text names.streams witness)) ≡ false

good_parts : (names : Names) (graph : ProcessGraph) (witness : Witness) → AreKnownNames names graph → IsWitnessWithin graph witness → AreGoodParts names witness
good_parts names graph (Witness.Cut side members) known within =
    let parts = members_back graph names.streams known.of_streams known.each_stream members within.1 in
    record { forms = parts.forms; known = parts.known }
good_parts names graph (Witness.Cycle steps) known within =
    let parts = steps_back graph names.streams known.of_streams known.each_stream steps within in
    record { forms = parts.forms; known = parts.known }

-- a certificate's side, as it is written
record IsGoodSide (names : Names) (witness : Witness) : Type 0 where
  pub known : list_any (is_unknown_item names.nodes) (items (side_text names.nodes witness)) ≡ false
  pub form : is_side names.nodes (items (side_text names.nodes witness)) ≡ true
  pub of_cut : (bytes_eq (word_at shape_words (shape_place (witness_shape witness))) (codes "cycle") && not (is_empty (side_text names.nodes witness))) ≡ false

good_side : (names : Names) (graph : ProcessGraph) (witness : Witness) → AreKnownNames names graph → IsGoodSide names witness
good_side names graph (Witness.Cut side members) known =
    let read = side_items side names.nodes known.form_nodes in
    record {
      known = rw read (in_known [] side names.nodes);
      form = rw read (and_from _ _ (in_named side names.nodes known.form_nodes) (in_order 0 [] side names.nodes (omega arith) known.apart_nodes));
      of_cut = refl;
    }
good_side names graph (Witness.Cycle steps) known = record { known = refl; form = refl; of_cut = refl }

-- two nodes have two names
ends_apart : (names : Names) (graph : ProcessGraph) (stream : Stream) → AreKnownNames names graph → IsStream graph.nodes stream
    → same_name (name_at names.nodes stream.from) (name_at names.nodes stream.to) ≡ false
ends_apart names graph stream known joins = elim (cases_Bool (same_name (name_at names.nodes stream.from) (name_at names.nodes stream.to))) [
  | inr apart ↦ apart
  | inl same ↦
      let from : stream.from < length names.nodes = omega (arith, joins.from, known.each_node) in
      let to : stream.to < length names.nodes = omega (arith, joins.to, known.each_node) in
      let alike : name_at names.nodes stream.from ≡ name_at names.nodes stream.to = (bytes_decides (name_at names.nodes stream.from) (name_at names.nodes stream.to)).0 same in
      let places : stream.from ≡ stream.to =
      sym (place_at names.nodes stream.from known.apart_nodes from) ∙ ap (λ (name : List ℕ). place_of names.nodes name) alike ∙ place_at names.nodes stream.to known.apart_nodes to in
      absurd (joins.apart places)
]

-- where the row of a stream stands
pub record IsAtStream (draft : Draft) (names : Names) (i : ℕ) : Type 0 where
  pub awaits : AwaitsStreams draft
  pub nodes : draft.nodes ≡ names.nodes
  pub new : is_among draft.streams (name_at names.streams i) ≡ false
  pub with_least : takes_least draft.last ≡ true

stream_fits : AreWritten → (names : Names) (graph : ProcessGraph) (i : ℕ) (stream : Stream) (result : StreamResult) → AreKnownNames names graph
    → IsStream graph.nodes stream → IsWithinLimits stream → IsResultWithin graph result → i < length names.streams
    → FitEach (output_columns OutputKind.Stream) (stream_values names i stream result)
stream_fits written names graph i stream result known joins limits within lt =
    let from : stream.from < length names.nodes = omega (arith, joins.from, known.each_node) in
    let to : stream.to < length names.nodes = omega (arith, joins.to, known.each_node) in
    let least = least_within result within.least in (
      (refl, refl),
      (
        named_at names.streams i known.of_streams.forms lt,
        (
          named_at names.nodes stream.from known.form_nodes from,
          (
            named_at names.nodes stream.to known.form_nodes to,
            (
              value_fits stream.meas limits,
              (
                variance_fits stream.meas limits,
                (
                  word_fits class_words class_place placed_class written.classes result.classified.class,
                  (
                    under_between (2 ^ 68) result.flow within.flow,
                    (
                      low_fits result.bounds within.bounds,
                      (
                        high_fits result.bounds within.bounds,
                        (
                          low_fits (option_and result.bounds result.least) least,
                          (
                            high_fits (option_and result.bounds result.least) least,
                            (word_fits shape_words shape_place placed_shape written.shapes (witness_shape result.classified.witness), (refl, (refl, tt))),
                          ),
                        ),
                      ),
                    ),
                  ),
                ),
              ),
            ),
          ),
        ),
      ),
    )

pub stream_fine : AreWritten → (draft : Draft) (names : Names) (graph : ProcessGraph) (i : ℕ) (stream : Stream) (result : StreamResult) → AreKnownNames names graph
    → IsStream graph.nodes stream → IsWithinLimits stream → IsResultWithin graph result → i < length names.streams → IsAtStream draft names i
    → IsSoundRow draft OutputKind.Stream (stream_fields names i stream result) (stream_values names i stream result)
stream_fine written draft names graph i stream result known joins limits within lt at =
    let row = stream_fields names i stream result in
    let from : stream.from < length names.nodes = omega (arith, joins.from, known.each_node) in
    let to : stream.to < length names.nodes = omega (arith, joins.to, known.each_node) in
    let side = good_side names graph result.classified.witness known in
    let parts = good_parts names graph result.classified.witness known within.witness in
    let of_nodes = λ (P : List (List ℕ) → Type 0) (h : P names.nodes). subst P (sym at.nodes) h in
    let ends : has_unknown_node names.nodes OutputKind.Stream row ≡ false =
    rw (among_at names.nodes stream.from from, among_at names.nodes stream.to to) side.known in
    let lists : has_bad_list names.nodes OutputKind.Stream row ≡ false = rw (side.form, side.of_cut, parts.forms) refl in
    record {
      told = told_stream draft row at.awaits at.with_least refl;
      read = row_back written.texts (parts_row names i stream result) (stream_fits written names graph i stream result known joins limits within lt);
      beside = stream_beside draft row (record {
        whole = or_from _ _ (whole_meas written.numbers (either_way most_value) (from_one most_variance) stream.meas)
            (or_from _ _ (whole_bounds written.numbers wide_range wide_range result.bounds)
            (or_from _ _ (whole_bounds written.numbers wide_range wide_range (option_and result.bounds result.least)) refl));
        known = of_nodes (λ nodes. has_unknown_node nodes OutputKind.Stream row ≡ false) ends;
        new = at.new;
        good = of_nodes (λ nodes. has_bad_list nodes OutputKind.Stream row ≡ false) lists;
        apart = ends_apart names graph stream known joins;
      });
    }

-- no part of it is unknown
pub parts_known : (names : Names) (graph : ProcessGraph) (result : StreamResult) → AreKnownNames names graph → IsResultWithin graph result
    → has_unknown_part names.streams (told_of names result) ≡ false
parts_known names graph result known within = (good_parts names graph result.classified.witness known within.witness).known

-- and what was said about the result is the result
pub result_back : (names : Names) (graph : ProcessGraph) (result : StreamResult) → AreKnownNames names graph → IsResultWithin graph result
    → HasBoundsForLeast result → result_of names.streams (told_of names result) ≡ result
result_back names graph result known within whole =
    ap₂ (λ (witness : Witness) (least : Option Bounds). record {
      classified = record { class = result.classified.class; witness = witness };
      flow = result.flow;
      bounds = result.bounds;
      least = least;
    }) (by result.classified.witness within.witness) (least_back result whole)
  where
    by : (witness : Witness) → IsWitnessWithin graph witness
        → witness_by (witness_shape witness) names.streams (record {
          class = result.classified.class;
          flow = result.flow;
          bounds = result.bounds;
          least = option_and result.bounds result.least;
          shape = witness_shape witness;
          side = side_in names.nodes witness;
          parts = parts_text names.streams witness;
        }) ≡ witness
    by (Witness.Cut side members) h =
        ap (λ (all : List Member). Witness.Cut side all) (members_back graph names.streams known.of_streams known.each_stream members h.1).value
    by (Witness.Cycle steps) h =
        ap (λ (all : List Step). Witness.Cycle all) (steps_back graph names.streams known.of_streams known.each_stream steps h).value
