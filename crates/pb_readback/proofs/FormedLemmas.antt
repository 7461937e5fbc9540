-- A block that is read is well formed.
use Rattle.std.specs.Prelude.{◌||◌, ◌&&◌, not, int_lt, unsigned_abs, All, IfSome, codes, bytes_eq, if◌then◌else◌, slice_index_or, position, option_map, Result, Ok, Err}
use Rattle.std.specs.Cmp.Lexicographic.{bytes_decides}
use Rattle.std.specs.List.{list_any}
use Rattle.std.specs.Result.{result_unwrap_or}
use Rattle.std.proofs.Common.{◌≡◌, ◌∙◌, ℕ, ◌-◌, ◌^◌, ◌<◌, ◌≤◌, ◌==◌, ℤ, pos, negsuc, neg_ℤ, List, [], ◌∷◌, ◌++◌, length, map, Bool, true, false, Option, Some, None, refl, sym, ap, arith, inl, inr}
use Rattle.std.proofs.lemmas.Bool.{cases_Bool, or_parts}
use Rattle.std.proofs.lemmas.Int.{ints}
use Rattle.std.proofs.lemmas.List.{length-map}
use Rattle.std.proofs.lemmas.List.Elements.{All-cons, All-head, All-map, All-nil, All-push, All-tail, All-weaker}
use Rattle.pb_limits.specs.Limits.{most_critical, most_freedom, most_gap, most_nodes, most_price, most_rounds, most_streams, most_sweeps, most_value, most_variance}
use Rattle.pb_limits.specs.Ranges.{IsCriticalValue}
use Rattle.pb_rows.specs.Name.{is_name}
use Rattle.pb_study.specs.declared.results.NodalTest.{NodalTest}
use Rattle.pb_study.specs.declared.results.MeasureTest.{MeasureTest}
use Rattle.pb_study.specs.declared.results.Solved.TheVariants.{Converged, Unconverged}
use Rattle.pb_study.specs.declared.results.Tests.{Tests}
use Rattle.pb_graph.specs.ProcessGraph.{IsMeasurement, IsStream, IsWithinLimits, ProcessGraph}
use Rattle.pb_study.specs.WellFormed.{AreBoundsWithin, AreTestsWithin, IsMeasureWithin, IsNodalWithin, IsResultWithin, IsWide, sweeps_of}
use Rattle.pb_graph.specs.WellFormed.{IsFlow, IsMember, IsPrice, IsSign, IsStep, IsWitnessWithin}
use Rattle.pb_form.specs.OutputRows.{output_schema}
use Rattle.pb_form.specs.Reading.{row_read}
use Rattle.pb_form.specs.Value.{Value}
use Rattle.pb_form.specs.Words.{shape_words}
use Rattle.pb_form.specs.declared.fault.FormFault.{FormFault}
use Rattle.pb_form.specs.declared.output.OutputKind.{OutputKind}
use Rattle.pb_form.specs.declared.output.OutputKind.TheVariants.{Report, Node, Stream, StreamBefore, Solved, Global, Nodal, Measure, End}
use Rattle.pb_blocks.specs.declared.fault.RowFault.{RowFault}
use Rattle.pb_blocks.specs.declared.fault.RowFault.TheVariants.{Unknown, Duplicate, Shape, Count, Env}
use Rattle.pb_blocks.specs.declared.rows.Heading.{Heading}
use Rattle.pb_choices.specs.Places.{placed_truth}
use Rattle.pb_choices.specs.declared.places.Shape.{Shape as ShapeKind}
use Rattle.pb_choices.specs.declared.places.Shape.TheVariants.{Cut, Cycle}
use Rattle.pb_blocks.specs.declared.rows.Solution.{Solution}
use Rattle.pb_blocks.specs.declared.rows.StreamRow.{StreamRow}
use Rattle.pb_blocks.specs.Beside.{are_miscounted, has_bad_list, has_unknown_node, heading_fault, is_half_told, opening_fault}
use Rattle.pb_blocks.specs.Held.{leads_to_itself, heading_in, names_no_stream, side_of, form_fault}
use Rattle.pb_blocks.specs.Codes.{lowest}
use Rattle.pb_blocks.specs.Counts.{IsHeading}
use Rattle.pb_blocks.specs.Kinds.{kind_among}
use Rattle.pb_blocks.specs.Laws.{LiesWithin}
use Rattle.pb_blocks.specs.Lists.{is_among, is_plus, items, member_of, part_name, step_of}
use Rattle.pb_blocks.specs.Results.{has_unknown_part, result_of, witness_by}
use Rattle.pb_blocks.specs.Texts.{name_field, side_field}
use Rattle.pb_blocks.specs.Values.{said_arc, both_bounds, both_meas, chosen_at, said_measure, natural_at, said_nodal, said_stream, values_in}
use Rattle.pb_blocks.proofs.NameLemmas.{some_found}
use Rattle.pb_blocks.proofs.RowLaws.{name_read, number_read, optional_read, word_read}
use Rattle.pb_form.specs.Values.{value_at, number_in, number_at}
use Rattle.pb_readback.specs.declared.draft.Draft.{Draft}
use Rattle.pb_readback.specs.Blocks.{block_of}
use Rattle.pb_readback.specs.Drafts.{draft_with_row, kinds_next, with_measure, with_nodal, with_rows, with_stream}
use Rattle.pb_readback.specs.Reading.{told_with, AwaitsStreams, IsUnderWay, MayCome}
use Rattle.pb_readback.specs.Faults.{fault_behind, fault_beside, first_unknown, row_fault_of}
use Rattle.pb_readback.specs.Laws.{FormedBlockLaw}
use Rattle.pb_readback.specs.Next.{AreSound, opened_draft}
use Rattle.pb_readback.specs.WellFormed.{AreNames, IsWellFormedBlock}
use Rattle.pb_readback.proofs.StreamLemmas.{arc_joins, names_more, not_false, place_within}
use Rattle.pb_readback.proofs.ReadingLemmas.{all_nodes, begins_under_way, fault_if, may_come, one_more, opening_by, still_under, stream_under, told_if}
use Rattle.pb_readback.proofs.NextLemmas.{ended_complete}

-- ---- numbers

abs_within : (m : ℕ) (z : ℤ) → LiesWithin (neg_ℤ (pos m)) (pos m) z → unsigned_abs z ≤ m
abs_within m (pos n) h = omega (arith, ints, h.1)
abs_within m (negsuc n) h = omega (arith, ints, h.0)

natural_within : (lo hi : ℕ) (z : ℤ) → LiesWithin (pos lo) (pos hi) z → (lo ≤ unsigned_abs z) × (unsigned_abs z ≤ hi)
natural_within lo hi (pos n) h = (omega (arith, ints, h.0), omega (arith, ints, h.1))
natural_within lo hi (negsuc n) h = absurd (omega (arith, ints, h.0))

wide_if : (number : Option ℤ) → IfSome number (LiesWithin (neg_ℤ (pos (2 ^ 126))) (pos (2 ^ 126))) → IfSome number IsWide
wide_if None h = tt
wide_if (Some z) h = abs_within (2 ^ 126) z h

meas_in : (value variance : Option ℤ) → IfSome value (LiesWithin (neg_ℤ (pos most_value)) (pos most_value)) → IfSome variance (LiesWithin (pos 1) (pos most_variance))
    → IfSome (both_meas value variance) IsMeasurement
meas_in None variance h k = tt
meas_in (Some value) None h k = tt
meas_in (Some value) (Some variance) h k = record { value = abs_within most_value value h; least = k.0; greatest = k.1 }

bounds_in : (lo hi : Option ℤ) → IfSome lo IsWide → IfSome hi IsWide → IfSome (both_bounds lo hi) AreBoundsWithin
bounds_in None hi h k = tt
bounds_in (Some lo) None h k = tt
bounds_in (Some lo) (Some hi) h k = record { lo = h; hi = k }

-- ---- a row without a fault

-- a stream's row has none of its faults, a node's row neither of its two, and what a test names is known
none_of_five : (a b c d e : Bool)
    → (if a then Some RowFault.Number else if b then Some Unknown else if c then Some Duplicate else if d then Some Shape else if e then Some Count else None) ≡ None
    → (b ≡ false) × (c ≡ false) × (e ≡ false) × (let same : Bool = false in same ≡ false)
none_of_five true b c d e is = cc is
none_of_five false true c d e is = cc is
none_of_five false false true d e is = cc is
none_of_five false false false true e is = cc is
none_of_five false false false false true is = cc is
none_of_five false false false false false is = (refl, refl, refl, refl)

none_of_two : (a b : Bool) → (if a then Some Duplicate else if b then Some Env else None) ≡ None → (a ≡ false) × (b ≡ false)
none_of_two true b is = cc is
none_of_two false true is = cc is
none_of_two false false is = (refl, refl)

is_known : (known : Bool) → (if known then None else Some Unknown) ≡ None → not known ≡ false
is_known true is = refl
is_known false is = cc is

pub none_lowest : (one other : Option RowFault) → lowest one other ≡ None → (one ≡ None) × (other ≡ None)
none_lowest None other none = (refl, none)
none_lowest (Some one) None none = cc none
none_lowest (Some one) (Some other) none = cc none

pub is_read : (kind : OutputKind) (row : List (List ℕ)) → form_fault (row_read (output_schema kind) row) ≡ None → row_read (output_schema kind) row ≡ Ok (values_in kind row)
is_read kind row none = by (row_read (output_schema kind) row) none
  where
    by : (read : Result (List Value) FormFault) → form_fault read ≡ None → read ≡ Ok (result_unwrap_or read [])
    by (Ok values) none = refl
    by (Err fault) none = cc none

-- what a row names isn't in the block, is there already, leads from a node to itself, or is the first node and not the environment
abbrev pub is_unknown : OutputKind → Draft → List (List ℕ) → Bool
is_unknown Stream draft row = has_unknown_node draft.nodes Stream row
is_unknown StreamBefore draft row = has_unknown_node draft.nodes StreamBefore row
is_unknown Nodal draft row = not (is_among draft.nodes (name_field row))
is_unknown Measure draft row = not (is_among draft.streams (name_field row))
is_unknown kind draft row = false

abbrev pub is_duplicate : OutputKind → Draft → List (List ℕ) → Bool
is_duplicate Node draft row = is_among draft.nodes (name_field row)
is_duplicate Stream draft row = is_among draft.streams (name_field row)
is_duplicate StreamBefore draft row = is_among draft.streams (name_field row)
is_duplicate kind draft row = false

abbrev pub is_loop : OutputKind → List (List ℕ) → Bool
is_loop Stream row = leads_to_itself row
is_loop StreamBefore row = leads_to_itself row
is_loop kind row = false

abbrev pub is_other_env : OutputKind → Draft → List (List ℕ) → Bool
is_other_env Node draft row = (length draft.nodes == 0) && not (bytes_eq (name_field row) (codes "env"))
is_other_env kind draft row = false

-- no fault besides the form
pub beside_fine : (kind : OutputKind) (draft : Draft) (row : List (List ℕ)) → fault_beside kind draft row ≡ None
    → (is_unknown kind draft row ≡ false) × (is_duplicate kind draft row ≡ false) × (is_loop kind row ≡ false) × (is_other_env kind draft row ≡ false)
beside_fine Node draft row none =
    let two = none_of_two (is_among draft.nodes (name_field row)) ((length draft.nodes == 0) && not (bytes_eq (name_field row) (codes "env"))) none in
    (refl, two.0, refl, two.1)
beside_fine Stream draft row none =
    none_of_five (is_half_told Stream row) (has_unknown_node draft.nodes Stream row) (is_among draft.streams (name_field row)) (has_bad_list draft.nodes Stream row) (leads_to_itself row) none
beside_fine StreamBefore draft row none =
    none_of_five (is_half_told StreamBefore row) (has_unknown_node draft.nodes StreamBefore row) (is_among draft.streams (name_field row)) (has_bad_list draft.nodes StreamBefore row) (leads_to_itself row) none
beside_fine Nodal draft row none = (is_known (is_among draft.nodes (name_field row)) none, refl, refl, refl)
beside_fine Measure draft row none = (is_known (is_among draft.streams (name_field row)) none, refl, refl, refl)
beside_fine kind draft row none = (refl, refl, refl, refl)

pub read_values : (kind : OutputKind) (row : List (List ℕ)) (values : List Value) → row_read (output_schema kind) row ≡ Ok values → values_in kind row ≡ values
read_values kind row values read = ap (λ (r : Result (List Value) FormFault). result_unwrap_or r []) read

-- the row is read, and none of the faults besides its form holds
pub record IsFine (kind : OutputKind) (draft : Draft) (row : List (List ℕ)) : Type 0 where
  pub read : row_read (output_schema kind) row ≡ Ok (values_in kind row)
  pub known : is_unknown kind draft row ≡ false
  pub new : is_duplicate kind draft row ≡ false
  pub apart : is_loop kind row ≡ false
  pub env : is_other_env kind draft row ≡ false

pub fine : (kind : OutputKind) (draft : Draft) (row : List (List ℕ)) → row_fault_of kind draft row ≡ None → IsFine kind draft row
fine kind draft row none =
    let both = none_lowest (form_fault (row_read (output_schema kind) row)) (fault_beside kind draft row) none in
    let each = beside_fine kind draft row both.1 in
    record { read = is_read kind row both.0; known = each.0; new = each.1; apart = each.2; env = each.3 }

-- ---- what a draft keeps

record IsFormedHeading (heading : Heading) : Type 0 where
  name : is_name heading.period ≡ true
  greatest_round : heading.round ≤ most_rounds
  some_gap : 1 ≤ heading.gap
  greatest_gap : heading.gap ≤ most_gap
  greatest_sweeps : heading.sweeps ≤ most_sweeps

record AreFormedNodes (nodes : List (List ℕ)) (prices : List ℤ) : Type 0 where
  names : AreNames nodes
  env : 0 < length nodes → slice_index_or nodes 0 [] ≡ codes "env"
  each : length prices ≡ length nodes
  ranges : All IsPrice prices

record IsFormedRow (nodes : ℕ) (row : StreamRow) : Type 0 where
  side : length row.side ≡ nodes
  flow : IsFlow row.flow
  bounds : IfSome row.bounds AreBoundsWithin
  least : IfSome row.least AreBoundsWithin

record AreFormedStreams (nodes : ℕ) (draft : Draft) : Type 0 where
  names : AreNames draft.streams
  joins : All (IsStream nodes) draft.graph.streams
  limits : All IsWithinLimits draft.graph.streams
  rows : All (IsFormedRow nodes) draft.rows

record IsFormedSolution (solution : Solution) : Type 0 where
  sweeps : sweeps_of solution.solved ≤ most_sweeps
  g : solution.g ≤ 2 ^ 63
  h : solution.h ≤ 32
  dof : solution.dof ≤ most_freedom
  low : IsWide solution.low
  high : IfSome solution.high IsWide

record IsFormedNodal (heading : Heading) (test : NodalTest) : Type 0 where
  node : test.node < heading.nodes
  net : IsWide test.net
  variance : IsWide test.variance
  critical : IfSome test.critical IsCriticalValue

record IsFormedMeasure (heading : Heading) (test : MeasureTest) : Type 0 where
  stream : test.stream < heading.streams
  low : IsWide test.low
  high : IfSome test.high IsWide
  critical : IfSome test.critical IsCriticalValue

record AreFormedTests (heading : Heading) (tests : Tests) : Type 0 where
  overall : IfSome tests.global.critical IsCriticalValue
  nodal : All (IsFormedNodal heading) tests.nodal
  measure : All (IsFormedMeasure heading) tests.measure

record IsFormed (draft : Draft) : Type 0 where
  way : IsUnderWay draft
  heading : IsFormedHeading draft.heading
  nodes : AreFormedNodes draft.nodes draft.prices
  streams : AreFormedStreams draft.heading.nodes draft
  solution : IsFormedSolution draft.solution
  tests : IfSome draft.tests (AreFormedTests draft.heading)

-- ---- rows that are read

node_formed : (draft : Draft) (row : List (List ℕ)) → IsFormed draft → MayCome draft Node → IsFine Node draft row → IsFormed (told_with Node draft row)
node_formed draft row formed may fine =
    let values = values_in Node row in
    let name = name_read Node row values 1 (codes "name") fine.read refl in
    let price = number_read Node row values 2 (codes "price") (neg_ℤ (pos most_price)) (pos most_price) fine.read refl in
    let names = one_more draft.nodes (name_field row) in
    let prices = one_more draft.prices (number_at values 2) in
    let each = formed.nodes.each in
    record {
      way = still_under draft Node row formed.way may;
      heading = formed.heading;
      nodes = record {
        names = names_more draft.nodes (name_field row) formed.nodes.names name fine.new;
        env = first draft.nodes formed.nodes.env fine.env;
        each = omega (arith, names, prices, each);
        ranges = All-push IsPrice draft.prices (number_at values 2) formed.nodes.ranges (abs_within most_price (number_at values 2) price);
      };
      streams = record { names = formed.streams.names; joins = formed.streams.joins; limits = formed.streams.limits; rows = formed.streams.rows };
      solution = formed.solution;
      tests = formed.tests;
    }
  where
    first : (nodes : List (List ℕ)) → (0 < length nodes → slice_index_or nodes 0 [] ≡ codes "env") → ((length nodes == 0) && not (bytes_eq (name_field row) (codes "env"))) ≡ false
        → 0 < length (nodes ++ name_field row ∷ []) → slice_index_or (nodes ++ name_field row ∷ []) 0 [] ≡ codes "env"
    first [] env other some = (bytes_decides (name_field row) (codes "env")).0 (not_false (bytes_eq (name_field row) (codes "env")) other)
    first (node ∷ nodes) env other some = env (omega arith)

-- what the row of a stream says is within the limits
record IsSaidStream (kind : OutputKind) (row : List (List ℕ)) : Type 0 where
  name : is_name (name_field row) ≡ true
  meas : IfSome (both_meas (value_at number_in (values_in kind row) 4) (value_at number_in (values_in kind row) 5)) IsMeasurement
  flow : IsFlow (number_at (values_in kind row) 7)
  bounds : IfSome (both_bounds (value_at number_in (values_in kind row) 8) (value_at number_in (values_in kind row) 9)) AreBoundsWithin
  least : IfSome (both_bounds (value_at number_in (values_in kind row) 10) (value_at number_in (values_in kind row) 11)) AreBoundsWithin

flow_in : (z : ℤ) → LiesWithin (neg_ℤ (pos (2 ^ 68 - 1))) (pos (2 ^ 68 - 1)) z → IsFlow z
flow_in z h = let most = abs_within (2 ^ 68 - 1) z h in omega (arith, most)

stream_within : (row : List (List ℕ)) → row_read (output_schema Stream) row ≡ Ok (values_in Stream row) → IsSaidStream Stream row
stream_within row read =
    let values = values_in Stream row in
    let wide = λ (place : ℕ) (number : IfSome (value_at number_in values place) (LiesWithin (neg_ℤ (pos (2 ^ 126))) (pos (2 ^ 126)))). wide_if (value_at number_in values place) number in
    record {
      name = name_read Stream row values 1 (codes "name") read refl;
      meas = meas_in (value_at number_in values 4) (value_at number_in values 5) (optional_read Stream row values 4 (codes "value") (neg_ℤ (pos most_value)) (pos most_value) read refl)
          (optional_read Stream row values 5 (codes "variance") (pos 1) (pos most_variance) read refl);
      flow = flow_in (number_at values 7) (number_read Stream row values 7 (codes "flow") (neg_ℤ (pos (2 ^ 68 - 1))) (pos (2 ^ 68 - 1)) read refl);
      bounds = bounds_in (value_at number_in values 8) (value_at number_in values 9)
          (wide 8 (optional_read Stream row values 8 (codes "lo") (neg_ℤ (pos (2 ^ 126))) (pos (2 ^ 126)) read refl))
          (wide 9 (optional_read Stream row values 9 (codes "hi") (neg_ℤ (pos (2 ^ 126))) (pos (2 ^ 126)) read refl));
      least = bounds_in (value_at number_in values 10) (value_at number_in values 11)
          (wide 10 (optional_read Stream row values 10 (codes "least_lo") (neg_ℤ (pos (2 ^ 126))) (pos (2 ^ 126)) read refl))
          (wide 11 (optional_read Stream row values 11 (codes "least_hi") (neg_ℤ (pos (2 ^ 126))) (pos (2 ^ 126)) read refl));
    }

before_within : (row : List (List ℕ)) → row_read (output_schema StreamBefore) row ≡ Ok (values_in StreamBefore row) → IsSaidStream StreamBefore row
before_within row read =
    let values = values_in StreamBefore row in
    let wide = λ (place : ℕ) (number : IfSome (value_at number_in values place) (LiesWithin (neg_ℤ (pos (2 ^ 126))) (pos (2 ^ 126)))). wide_if (value_at number_in values place) number in
    record {
      name = name_read StreamBefore row values 1 (codes "name") read refl;
      meas = meas_in (value_at number_in values 4) (value_at number_in values 5) (optional_read StreamBefore row values 4 (codes "value") (neg_ℤ (pos most_value)) (pos most_value) read refl)
          (optional_read StreamBefore row values 5 (codes "variance") (pos 1) (pos most_variance) read refl);
      flow = flow_in (number_at values 7) (number_read StreamBefore row values 7 (codes "flow") (neg_ℤ (pos (2 ^ 68 - 1))) (pos (2 ^ 68 - 1)) read refl);
      bounds = bounds_in (value_at number_in values 8) (value_at number_in values 9)
          (wide 8 (optional_read StreamBefore row values 8 (codes "lo") (neg_ℤ (pos (2 ^ 126))) (pos (2 ^ 126)) read refl))
          (wide 9 (optional_read StreamBefore row values 9 (codes "hi") (neg_ℤ (pos (2 ^ 126))) (pos (2 ^ 126)) read refl));
      least = rw (word_read StreamBefore row values 10 (codes "shape") shape_words read refl) tt;
    }

-- a side has as many items as there are nodes
side_long : (nodes names : List (List ℕ)) → length (side_of nodes names) ≡ length nodes
side_long nodes names = length-map nodes (is_among names)

stream_formed : (draft : Draft) (kind : OutputKind) (row : List (List ℕ)) → IsFormed draft → AwaitsStreams draft → IsSaidStream kind row
    → has_unknown_node draft.nodes kind row ≡ false → is_among draft.streams (name_field row) ≡ false → leads_to_itself row ≡ false
    → IsFormed (record (with_stream kind row draft) { last = kind })
stream_formed draft kind row formed may said known new apart =
    let values = values_in kind row in
    let nodes = all_nodes draft formed.way may in
    let long = side_long draft.nodes (items (side_field kind row)) in
    record {
      way = stream_under draft kind row formed.way may;
      heading = formed.heading;
      nodes = formed.nodes;
      streams = record {
        names = names_more draft.streams (name_field row) formed.streams.names said.name new;
        joins = All-push (IsStream draft.heading.nodes) draft.graph.streams (said_arc draft.nodes row values) formed.streams.joins
            (arc_joins draft.nodes kind row values draft.heading.nodes formed.way.nodes known apart);
        limits = All-push IsWithinLimits draft.graph.streams (said_arc draft.nodes row values) formed.streams.limits said.meas;
        rows = All-push (IsFormedRow draft.heading.nodes) draft.rows (said_stream draft.nodes kind row values) formed.streams.rows (record {
          side = long ∙ nodes;
          flow = said.flow;
          bounds = said.bounds;
          least = said.least;
        });
      };
      solution = formed.solution;
      tests = formed.tests;
    }

sweeps_within : (met : Bool) (k : ℕ) → k ≤ most_sweeps → sweeps_of (if met then Converged k else Unconverged k) ≤ most_sweeps
sweeps_within true k h = h
sweeps_within false k h = h

solved_formed : (draft : Draft) (row : List (List ℕ)) → IsFormed draft → MayCome draft Solved → IsFine Solved draft row → IsFormed (told_with Solved draft row)
solved_formed draft row formed may fine =
    let values = values_in Solved row in
    let count = λ (place most : ℕ) (number : LiesWithin (pos 0) (pos most) (number_at values place)). (natural_within 0 most (number_at values place) number).1 in
    record {
      way = still_under draft Solved row formed.way may;
      heading = formed.heading;
      nodes = formed.nodes;
      streams = record { names = formed.streams.names; joins = formed.streams.joins; limits = formed.streams.limits; rows = formed.streams.rows };
      solution = record {
        sweeps = sweeps_within (chosen_at placed_truth false values 2) (natural_at values 1) (count 1 most_sweeps (number_read Solved row values 1 (codes "k") (pos 0) (pos most_sweeps) fine.read refl));
        g = count 3 (2 ^ 63) (number_read Solved row values 3 (codes "g") (pos 0) (pos (2 ^ 63)) fine.read refl);
        h = count 4 32 (number_read Solved row values 4 (codes "h") (pos 0) (pos 32) fine.read refl);
        dof = count 5 most_freedom (number_read Solved row values 5 (codes "dof") (pos 0) (pos most_freedom) fine.read refl);
        low = abs_within (2 ^ 126) (number_at values 6) (number_read Solved row values 6 (codes "low") (neg_ℤ (pos (2 ^ 126))) (pos (2 ^ 126)) fine.read refl);
        high = wide_if (value_at number_in values 7) (optional_read Solved row values 7 (codes "high") (neg_ℤ (pos (2 ^ 126))) (pos (2 ^ 126)) fine.read refl);
      };
      tests = formed.tests;
    }

global_formed : (draft : Draft) (row : List (List ℕ)) → IsFormed draft → MayCome draft Global → IsFine Global draft row → IsFormed (told_with Global draft row)
global_formed draft row formed may fine =
    let nodal = All-nil (IsFormedNodal draft.heading) in
    let measure = All-nil (IsFormedMeasure draft.heading) in
    record {
      way = still_under draft Global row formed.way may;
      heading = formed.heading;
      nodes = formed.nodes;
      streams = record { names = formed.streams.names; joins = formed.streams.joins; limits = formed.streams.limits; rows = formed.streams.rows };
      solution = formed.solution;
      tests = record {
        overall = optional_read Global row (values_in Global row) 1 (codes "critical") (pos 0) (pos most_critical) fine.read refl;
        nodal = nodal;
        measure = measure;
      };
    }

nodal_formed : (draft : Draft) (row : List (List ℕ)) → IsFormed draft → MayCome draft Nodal → IsFine Nodal draft row → IsFormed (told_with Nodal draft row)
nodal_formed draft row formed may fine =
    let values = values_in Nodal row in
    let at = place_within draft.nodes (name_field row) (not_false (is_among draft.nodes (name_field row)) fine.known) in
    let few = formed.way.nodes in
    let test : IsFormedNodal draft.heading (said_nodal draft.nodes row values) = record {
      node = omega (arith, at, few);
      net = abs_within (2 ^ 126) (number_at values 2) (number_read Nodal row values 2 (codes "net") (neg_ℤ (pos (2 ^ 126))) (pos (2 ^ 126)) fine.read refl);
      variance = abs_within (2 ^ 126) (number_at values 3) (number_read Nodal row values 3 (codes "variance") (neg_ℤ (pos (2 ^ 126))) (pos (2 ^ 126)) fine.read refl);
      critical = optional_read Nodal row values 4 (codes "critical") (pos 0) (pos most_critical) fine.read refl;
    } in
    record {
      way = still_under draft Nodal row formed.way may;
      heading = formed.heading;
      nodes = formed.nodes;
      streams = record { names = formed.streams.names; joins = formed.streams.joins; limits = formed.streams.limits; rows = formed.streams.rows };
      solution = formed.solution;
      tests = by draft.tests formed.tests test;
    }
  where
    by : (tests : Option Tests) → IfSome tests (AreFormedTests draft.heading) → IsFormedNodal draft.heading (said_nodal draft.nodes row (values_in Nodal row))
        → IfSome (option_map (with_nodal (said_nodal draft.nodes row (values_in Nodal row))) tests) (AreFormedTests draft.heading)
    by None h test = tt
    by (Some tests) h test = record {
      overall = h.overall;
      nodal = All-push (IsFormedNodal draft.heading) tests.nodal (said_nodal draft.nodes row (values_in Nodal row)) h.nodal test;
      measure = h.measure;
    }

measure_formed : (draft : Draft) (row : List (List ℕ)) → IsFormed draft → MayCome draft Measure → IsFine Measure draft row → IsFormed (told_with Measure draft row)
measure_formed draft row formed may fine =
    let values = values_in Measure row in
    let at = place_within draft.streams (name_field row) (not_false (is_among draft.streams (name_field row)) fine.known) in
    let few = formed.way.streams in
    let test : IsFormedMeasure draft.heading (said_measure draft.streams row values) = record {
      stream = omega (arith, at, few);
      low = abs_within (2 ^ 126) (number_at values 2) (number_read Measure row values 2 (codes "low") (neg_ℤ (pos (2 ^ 126))) (pos (2 ^ 126)) fine.read refl);
      high = wide_if (value_at number_in values 3) (optional_read Measure row values 3 (codes "high") (neg_ℤ (pos (2 ^ 126))) (pos (2 ^ 126)) fine.read refl);
      critical = optional_read Measure row values 4 (codes "critical") (pos 0) (pos most_critical) fine.read refl;
    } in
    record {
      way = still_under draft Measure row formed.way may;
      heading = formed.heading;
      nodes = formed.nodes;
      streams = record { names = formed.streams.names; joins = formed.streams.joins; limits = formed.streams.limits; rows = formed.streams.rows };
      solution = formed.solution;
      tests = by draft.tests formed.tests test;
    }
  where
    by : (tests : Option Tests) → IfSome tests (AreFormedTests draft.heading) → IsFormedMeasure draft.heading (said_measure draft.streams row (values_in Measure row))
        → IfSome (option_map (with_measure (said_measure draft.streams row (values_in Measure row))) tests) (AreFormedTests draft.heading)
    by None h test = tt
    by (Some tests) h test = record {
      overall = h.overall;
      nodal = h.nodal;
      measure = All-push (IsFormedMeasure draft.heading) tests.measure (said_measure draft.streams row (values_in Measure row)) h.measure test;
    }

kind_formed : (draft : Draft) (kind : OutputKind) (row : List (List ℕ)) → IsFormed draft → MayCome draft kind → IsFine kind draft row → IsFormed (told_with kind draft row)
kind_formed draft Node row formed may fine = node_formed draft row formed may fine
kind_formed draft Stream row formed may fine = stream_formed draft Stream row formed may (stream_within row fine.read) fine.known fine.new fine.apart
kind_formed draft StreamBefore row formed may fine = stream_formed draft StreamBefore row formed may (before_within row fine.read) fine.known fine.new fine.apart
kind_formed draft Solved row formed may fine = solved_formed draft row formed may fine
kind_formed draft Global row formed may fine = global_formed draft row formed may fine
kind_formed draft Nodal row formed may fine = nodal_formed draft row formed may fine
kind_formed draft Measure row formed may fine = measure_formed draft row formed may fine
kind_formed draft End row formed may fine = record {
  way = still_under draft End row formed.way may;
  heading = formed.heading;
  nodes = formed.nodes;
  streams = record { names = formed.streams.names; joins = formed.streams.joins; limits = formed.streams.limits; rows = formed.streams.rows };
  solution = formed.solution;
  tests = formed.tests;
}
kind_formed draft kind row formed may fine = absurd may

row_formed : (draft : Draft) (row : List (List ℕ)) → IsFormed draft → fault_behind draft row ≡ None → IsFormed (draft_with_row draft row)
row_formed draft row formed none = by (kind_among (kinds_next draft) row) refl none
  where
    by : (kind : Result OutputKind RowFault) → kind_among (kinds_next draft) row ≡ kind → fault_if kind draft row ≡ None → IsFormed (told_if kind draft row)
    by (Err fault) is none = cc none
    by (Ok kind) is none = kind_formed draft kind row formed (may_come draft row kind is) (fine kind draft row none)

rows_formed : (draft : Draft) (rows : List (List (List ℕ))) → IsFormed draft → AreSound draft rows → IsFormed (with_rows draft rows)
rows_formed draft [] formed sound = formed
rows_formed draft (row ∷ rows) formed sound = rows_formed (draft_with_row draft row) rows (row_formed draft row formed sound.1) sound.2

-- ---- the heading

record IsFineHeading (row : List (List ℕ)) : Type 0 where
  read : row_read (output_schema Report) row ≡ Ok (values_in Report row)
  counts : are_miscounted (number_at (values_in Report row) 3) (number_at (values_in Report row) 4) ≡ false

not_miscounted : (b : Bool) → (if b then Some Count else None) ≡ None → b ≡ false
not_miscounted true none = cc none
not_miscounted false none = refl

heading_read : (read : Result (List Value) FormFault) → heading_fault read ≡ None
    → (read ≡ Ok (result_unwrap_or read [])) × (are_miscounted (number_at (result_unwrap_or read []) 3) (number_at (result_unwrap_or read []) 4) ≡ false)
heading_read (Err fault) none = cc none
heading_read (Ok values) none = (refl, not_miscounted (are_miscounted (number_at values 3) (number_at values 4)) none)

heading_fine : (row : List (List ℕ)) → opening_fault row ≡ None → IsFineHeading row
heading_fine row opens = by (kind_among (Report ∷ []) row) opens
  where
    by : (kind : Result OutputKind RowFault) → opening_by kind row ≡ None → IsFineHeading row
    by (Err fault) none = cc none
    by (Ok kind) none = let h = heading_read (row_read (output_schema Report) row) none in record { read = h.0; counts = h.1 }

count_within : (lo hi : ℕ) (z : ℤ) → int_lt z (pos lo) ≡ false → int_lt (pos hi) z ≡ false → (lo ≤ unsigned_abs z) × (unsigned_abs z ≤ hi)
count_within lo hi z least most = natural_within lo hi z (omega (arith, ints, least), omega (arith, ints, most))

heading_counts : (row : List (List ℕ)) → are_miscounted (number_at (values_in Report row) 3) (number_at (values_in Report row) 4) ≡ false → IsHeading (heading_in row)
heading_counts row fine =
    let nodes = number_at (values_in Report row) 3 in
    let streams = number_at (values_in Report row) 4 in
    let c = or_parts (int_lt nodes (pos 1) || int_lt (pos most_nodes) nodes || int_lt streams (pos 0)) (int_lt (pos most_streams) streams) fine in
    let b = or_parts (int_lt nodes (pos 1) || int_lt (pos most_nodes) nodes) (int_lt streams (pos 0)) c.0 in
    let a = or_parts (int_lt nodes (pos 1)) (int_lt (pos most_nodes) nodes) b.0 in
    let n = count_within 1 most_nodes nodes a.0 a.1 in
    let s = count_within 0 most_streams streams b.1 c.1 in
    record { env = n.0; few_nodes = n.1; few_streams = s.1 }

opened_formed : (row : List (List ℕ)) → opening_fault row ≡ None → IsFormed (opened_draft row)
opened_formed row opens =
    let fine = heading_fine row opens in
    let values = values_in Report row in
    let gap = natural_within 1 most_gap (number_at values 5) (number_read Report row values 5 (codes "gap") (pos 1) (pos most_gap) fine.read refl) in
    record {
      way = begins_under_way (heading_in row) (heading_counts row fine.counts);
      heading = record {
        name = name_read Report row values 1 (codes "period") fine.read refl;
        greatest_round = (natural_within 0 most_rounds (number_at values 2) (number_read Report row values 2 (codes "round") (pos 0) (pos most_rounds) fine.read refl)).1;
        some_gap = gap.0;
        greatest_gap = gap.1;
        greatest_sweeps = (natural_within 0 most_sweeps (number_at values 6) (number_read Report row values 6 (codes "sweeps") (pos 0) (pos most_sweeps) fine.read refl)).1;
      };
      nodes = record { names = record { forms = refl; different = refl }; env = λ none. absurd (omega (arith, none)); each = refl; ranges = All-nil IsPrice };
      streams = record {
        names = record { forms = refl; different = refl };
        joins = All-nil (IsStream (natural_at values 3));
        limits = All-nil IsWithinLimits;
        rows = All-nil (IsFormedRow (natural_at values 3));
      };
      solution = record { sweeps = omega arith; g = omega arith; h = omega arith; dof = omega arith; low = omega arith; high = tt };
      tests = tt;
    }

-- ---- the block

none_of : {A : Type 0} (test : A → Bool) (xs : List A) → list_any test xs ≡ false → All (λ x. test x ≡ false) xs
none_of test [] none = All-nil (λ x. test x ≡ false)
none_of test (x ∷ xs) none =
    let parts = or_parts (test x) (list_any test xs) none in
    All-cons (λ y. test y ≡ false) x xs parts.0 (none_of test xs parts.1)

none_at : {A : Type 0} (test : A → Bool) (xs : List A) → position test xs ≡ None → list_any test xs ≡ false
none_at test xs none = elim (cases_Bool (list_any test xs)) [
  | inl some ↦ let e = sym none ∙ some_found test xs some in cc e
  | inr fails ↦ fails
]

member_within : (graph : ProcessGraph) (streams : List (List ℕ)) (part : List ℕ) → length streams ≡ length graph.streams → names_no_stream streams part ≡ false
    → IsMember graph (member_of streams part)
member_within graph streams part each known =
    let at = place_within streams (part_name part) (not_false (is_among streams (part_name part)) known) in
    record { stream = omega (arith, at, each); sign = by (is_plus part) }
  where
    by : (b : Bool) → IsSign (if b then pos 1 else negsuc 0)
    by true = inl refl
    by false = inr refl

step_within : (graph : ProcessGraph) (streams : List (List ℕ)) (part : List ℕ) → length streams ≡ length graph.streams → names_no_stream streams part ≡ false
    → IsStep graph (step_of streams part)
step_within graph streams part each known =
    let at = place_within streams (part_name part) (not_false (is_among streams (part_name part)) known) in
    omega (arith, at, each)

witness_within : (graph : ProcessGraph) (streams : List (List ℕ)) (row : StreamRow) (shape : ShapeKind) → length streams ≡ length graph.streams → length row.side ≡ graph.nodes
    → has_unknown_part streams row ≡ false → IsWitnessWithin graph (witness_by shape streams row)
witness_within graph streams row Cut each side known = (
  side,
  All-map (IsMember graph) (member_of streams) (items row.parts)
      (All-weaker (λ part. names_no_stream streams part ≡ false) (λ part. IsMember graph (member_of streams part)) (λ part fine. member_within graph streams part each fine) (items row.parts)
      (none_of (names_no_stream streams) (items row.parts) known)),
)
witness_within graph streams row Cycle each side known =
    All-map (IsStep graph) (step_of streams) (items row.parts)
    (All-weaker (λ part. names_no_stream streams part ≡ false) (λ part. IsStep graph (step_of streams part)) (λ part fine. step_within graph streams part each fine) (items row.parts)
    (none_of (names_no_stream streams) (items row.parts) known))

results_within : (graph : ProcessGraph) (streams : List (List ℕ)) (rows : List StreamRow) → length streams ≡ length graph.streams → All (IsFormedRow graph.nodes) rows
    → All (λ row. has_unknown_part streams row ≡ false) rows → All (IsResultWithin graph) (map (result_of streams) rows)
results_within graph streams [] each formed known = All-nil (IsResultWithin graph)
results_within graph streams (row ∷ rows) each formed known =
    let first = All-head (IsFormedRow graph.nodes) row rows formed in
    let parts = All-head (λ r. has_unknown_part streams r ≡ false) row rows known in
    All-cons (IsResultWithin graph) (result_of streams row) (map (result_of streams) rows)
    (record { witness = witness_within graph streams row row.shape each first.side parts; flow = first.flow; bounds = first.bounds; least = first.least })
    (results_within graph streams rows each (All-tail (IsFormedRow graph.nodes) row rows formed) (All-tail (λ r. has_unknown_part streams r ≡ false) row rows known))

nodal_within : (graph : ProcessGraph) (heading : Heading) (test : NodalTest) → graph.nodes ≡ heading.nodes → IsFormedNodal heading test → IsNodalWithin graph test
nodal_within graph heading test same h = let at = h.node in record { node = omega (arith, at, same); net = h.net; variance = h.variance; critical = h.critical }

measure_within : (graph : ProcessGraph) (heading : Heading) (test : MeasureTest) → length graph.streams ≡ heading.streams → IsFormedMeasure heading test → IsMeasureWithin graph test
measure_within graph heading test same h = let at = h.stream in record { stream = omega (arith, at, same); low = h.low; high = h.high; critical = h.critical }

tests_within : (graph : ProcessGraph) (heading : Heading) (tests : Option Tests) → graph.nodes ≡ heading.nodes → length graph.streams ≡ heading.streams
    → IfSome tests (AreFormedTests heading) → IfSome tests (AreTestsWithin graph)
tests_within graph heading None nodes streams h = tt
tests_within graph heading (Some tests) nodes streams h = record {
  overall = h.overall;
  nodal = All-weaker (IsFormedNodal heading) (IsNodalWithin graph) (λ test fine. nodal_within graph heading test nodes fine) tests.nodal h.nodal;
  measure = All-weaker (IsFormedMeasure heading) (IsMeasureWithin graph) (λ test fine. measure_within graph heading test streams fine) tests.measure h.measure;
}

block_formed : (draft : Draft) → IsFormed draft → first_unknown draft ≡ None → draft.heading.nodes ≤ length draft.nodes → draft.heading.streams ≤ length draft.streams
    → IsWellFormedBlock (block_of draft)
block_formed draft formed known nodes streams =
    let way = formed.way in
    let counts = way.heading in
    let env = counts.env in
    let few_nodes = counts.few_nodes in
    let few_streams = counts.few_streams in
    let at_most = way.nodes in
    let at_most_streams = way.streams in
    let graph = way.graph in
    let each = way.each_stream in
    let each_row = way.each_row in
    let each_price = formed.nodes.each in
    let all_streams : length draft.streams ≡ draft.heading.streams = omega (arith, streams, at_most_streams) in
    let same : (length draft.streams == draft.heading.streams) ≡ true = grind (arith, all_streams) in
    let parts = none_of (has_unknown_part draft.streams) draft.rows (none_at (has_unknown_part draft.streams) draft.rows (rw same at known)) in
    let joins : All (IsStream draft.graph.nodes) draft.graph.streams = rw graph formed.streams.joins in
    let rows : All (IsFormedRow draft.graph.nodes) draft.rows = rw graph formed.streams.rows in
    record {
      graph = record {
        env = omega (arith, env, graph);
        few_nodes = omega (arith, few_nodes, graph);
        few_streams = omega (arith, few_streams, each, at_most_streams);
        joins = joins;
        limits = formed.streams.limits;
      };
      formed = record {
        each_price = omega (arith, each_price, nodes, at_most, graph);
        each_stream = length-map draft.rows (result_of draft.streams) ∙ omega (arith, each, each_row);
        results = results_within draft.graph draft.streams draft.rows (omega (arith, each)) rows parts;
        prices = formed.nodes.ranges;
        sweeps = formed.solution.sweeps;
        g = formed.solution.g;
        h = formed.solution.h;
        dof = formed.solution.dof;
        low = formed.solution.low;
        high = formed.solution.high;
        tests = tests_within draft.graph draft.heading draft.tests graph (omega (arith, each, all_streams)) formed.tests;
      };
      named = record { nodes = omega (arith, nodes, at_most, graph); streams = omega (arith, each) };
      nodes = formed.nodes.names;
      streams = formed.streams.names;
      env = formed.nodes.env (omega (arith, env, nodes));
      name = formed.heading.name;
      greatest_round = formed.heading.greatest_round;
      some_gap = formed.heading.some_gap;
      greatest_gap = formed.heading.greatest_gap;
      greatest_sweeps = formed.heading.greatest_sweeps;
    }

pub formed_holds : FormedBlockLaw
formed_holds records rest block found =
    let whole = found in
    let formed = rows_formed (opened_draft found.first) found.rows (opened_formed found.first whole.opens) whole.sound in
    let complete = ended_complete found.first found.rows whole.sound whole.ends in
    rw (whole.value) (block_formed (with_rows (opened_draft found.first) found.rows) formed whole.known complete.0 complete.1)
