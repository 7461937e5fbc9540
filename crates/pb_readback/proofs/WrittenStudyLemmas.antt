-- The rows of a study read back: its blocks, and the rows between them.
use Rattle.std.specs.Prelude.{◌==◌, neg_ℤ, nat_lt, if◌then◌else◌, map, All, Ok, position}
use Rattle.std.specs.Option.{option_map, option_to_list}
use Rattle.std.specs.List.{AllByRecursion, position_or_len}
use Rattle.std.proofs.Common.{◌≡◌, ◌∙◌, ℕ, pos, ◌+◌, ◌≤◌, List, [], ◌∷◌, ◌++◌, length, Bool, true, false, Option, None, Some, refl, sym, ap, ap₂, subst, arith, append_assoc}
use Rattle.std.proofs.lemmas.Bool.{le-ltb}
use Rattle.std.proofs.lemmas.List.{map-append}
use Rattle.std.proofs.lemmas.List.Elements.{All-from_recursion, recursion_from_All}
use Rattle.std.proofs.lemmas.List.Sums.{position_or_len_is}
use Rattle.pb_limits.specs.Limits.{most_gap, most_nodes, most_rounds, most_streams, most_sweeps, most_wide}
use Rattle.pb_rows.specs.Name.{is_name}
use Rattle.pb_rows.specs.declared.name.Names.{Names}
use Rattle.pb_study.specs.declared.results.Options.{Options}
use Rattle.pb_study.specs.declared.results.Stage.{Stage}
use Rattle.pb_study.specs.declared.results.Stop.{Stop}
use Rattle.pb_study.specs.declared.results.Taken.{Taken}
use Rattle.pb_study.specs.declared.results.StreamResult.{StreamResult}
use Rattle.pb_graph.specs.ProcessGraph.{IsProcessGraph, IsStream, IsWithinLimits, ProcessGraph}
use Rattle.pb_study.specs.WellFormed.{HasShapeOf, IsResultWithin, IsWellFormed}
use Rattle.pb_graph.specs.WellFormed.{IsPrice}
use Rattle.pb_report.specs.Block.{block_rows, end_row, node_row, report_row, result_row, solved_row}
use Rattle.pb_report.specs.Names.{IsNamed}
use Rattle.pb_report.specs.Row.{OutputRow, fields_of}
use Rattle.pb_report.specs.Rows.{rows_with}
use Rattle.pb_report.specs.Study.{round_rows, stage_rows, stop_row, taken_row}
use Rattle.pb_report.specs.Tests.{tests_rows}
use Rattle.pb_form.specs.OutputRows.{output_schema}
use Rattle.pb_form.specs.Reading.{row_read}
use Rattle.pb_form.specs.declared.output.OutputKind.{OutputKind}
use Rattle.pb_form.specs.declared.output.OutputKind.TheVariants.{Report, Node, Stream, Solved, End}
use Rattle.pb_blocks.specs.declared.rows.Heading.{Heading}
use Rattle.pb_blocks.specs.declared.rows.StreamRow.{StreamRow}
use Rattle.pb_blocks.specs.Beside.{opening_fault}
use Rattle.pb_blocks.specs.Held.{heading_in}
use Rattle.pb_blocks.specs.Results.{has_unknown_part, result_of}
use Rattle.pb_blocks.specs.Values.{said_heading}
use Rattle.pb_readback.specs.declared.draft.Draft.{Draft}
use Rattle.pb_readback.specs.Blocks.{block_of}
use Rattle.pb_readback.specs.Drafts.{draft_of}
use Rattle.pb_readback.specs.Faults.{first_unknown}
use Rattle.pb_readback.specs.Next.{AreBlocks, ArePassedOver, IsFound, opened_draft}
use Rattle.pb_readback.specs.Reading.{IsBlock}
use Rattle.pb_readback.specs.Written.{AreBlockNames, AreOptionsWithin, HasBoundsForLeast, StudyRowsLaw, block_with, blocks_from, records_in}
use Rattle.pb_readback.proofs.WrittenBlockLemmas.{Tells, all_nodes, behind_nodes, last_of, nodes_tell}
use Rattle.pb_readback.proofs.WrittenFieldLemmas.{AreWritten, IsBetween, abs_between, count_between, le_count, new_from}
use Rattle.pb_readback.proofs.WrittenRowLemmas.{heading_opens, may_follow, row_back, takes_least, values_back}
use Rattle.pb_readback.proofs.WrittenStageLemmas.{behind_streams, streams_tell}
use Rattle.pb_readback.proofs.WrittenStreamLemmas.{AreKnownNames, parts_known, result_back, told_of}
use Rattle.pb_readback.proofs.WrittenTestLemmas.{IsBehindAll, behind_tests, end_order, end_tells, solution_in, solved_tells, tests_tell, tells_both}

-- what is known of a stage that is written as a block
pub record IsStageToWrite (names : Names) (period : List ℕ) (options : Options) (round : ℕ) (stage : Stage) : Type 0 where
  pub graph : IsProcessGraph stage.graph
  pub formed : IsWellFormed stage
  pub named : IsNamed names stage.graph
  pub all_names : AreBlockNames names
  pub name : is_name period ≡ true
  pub asked : AreOptionsWithin options
  pub greatest_round : round ≤ most_rounds
  pub least : All HasBoundsForLeast stage.streams

known_names : (names : Names) (graph : ProcessGraph) → AreBlockNames names → IsNamed names graph → AreKnownNames names graph
known_names names graph all named = record {
  form_nodes = all.node_forms;
  apart_nodes = all.nodes_differ;
  of_streams = record { forms = all.stream_forms; apart = all.streams_differ };
  each_node = named.nodes;
  each_stream = named.streams;
}

-- ---- the row that opens a block

abbrev stage_heading : List ℕ → Options → ℕ → Stage → Heading
stage_heading period options round stage = record {
  period = period;
  round = round;
  nodes = stage.graph.nodes;
  streams = length stage.graph.streams;
  gap = options.gap;
  sweeps = options.sweeps;
}

abbrev heading_row : List ℕ → Options → ℕ → Stage → OutputRow
heading_row period options round stage = report_row period round stage.graph options

abbrev heading_fields : List ℕ → Options → ℕ → Stage → List (List ℕ)
heading_fields period options round stage = fields_of (heading_row period options round stage)

-- a count lies within the widest numbers, since it is far smaller
wide_between : (most n : ℕ) → most ≤ most_wide → n ≤ most → IsBetween (neg_ℤ (pos most_wide)) (pos most_wide) (pos n)
wide_between most n small le = abs_between most_wide (pos n) (omega (arith, small, le))

heading_reads : AreWritten → (names : Names) (period : List ℕ) (options : Options) (round : ℕ) (stage : Stage) → IsStageToWrite names period options round stage
    → row_read (output_schema Report) (heading_fields period options round stage) ≡ Ok (heading_row period options round stage).values
heading_reads written names period options round stage h =
    row_back written.texts (heading_row period options round stage) (
      (refl, refl),
      (
        h.name,
        (
          count_between 0 most_rounds round (omega arith) h.greatest_round,
          (
            wide_between most_nodes stage.graph.nodes (omega arith) h.graph.few_nodes,
            (
              wide_between most_streams (length stage.graph.streams) (omega arith) h.graph.few_streams,
              (
                count_between 1 most_gap options.gap h.asked.some_gap h.asked.greatest_gap,
                (count_between 0 most_sweeps options.sweeps (omega arith) h.asked.greatest_sweeps, tt),
              ),
            ),
          ),
        ),
      ),
    )

heading_back : AreWritten → (names : Names) (period : List ℕ) (options : Options) (round : ℕ) (stage : Stage) → IsStageToWrite names period options round stage
    → heading_in (heading_fields period options round stage) ≡ stage_heading period options round stage
heading_back written names period options round stage h =
    let row = heading_fields period options round stage in
    ap (said_heading row) (values_back Report row (heading_row period options round stage).values (heading_reads written names period options round stage h))

heading_fine : AreWritten → (names : Names) (period : List ℕ) (options : Options) (round : ℕ) (stage : Stage) → IsStageToWrite names period options round stage
    → opening_fault (heading_fields period options round stage) ≡ None
heading_fine written names period options round stage h =
    heading_opens (heading_fields period options round stage) (heading_row period options round stage).values
    (record {
      told = refl;
      read = heading_reads written names period options round stage h;
      some_node = le_count 1 stage.graph.nodes h.graph.env;
      most_node = le_count stage.graph.nodes most_nodes h.graph.few_nodes;
      some_stream = le_count 0 (length stage.graph.streams) (omega arith);
      most_stream = le_count (length stage.graph.streams) most_streams h.graph.few_streams;
    })

-- ---- a block

-- if none passes, no place is the first
none_passes : {A : Type 0} (p : A → Bool) (xs : List A) → All (λ (x : A). p x ≡ false) xs → position p xs ≡ None
none_passes p [] none = refl
none_passes p (x ∷ xs) none =
    let most : position_or_len p (x ∷ xs) ≡ length (x ∷ xs) =
    position_or_len_is p (x ∷ xs) (length (x ∷ xs)) x (omega arith) (λ k lt. none k x lt) (λ h. absurd (omega (arith, h))) in
    let behind : nat_lt (position_or_len p (x ∷ xs)) (length (x ∷ xs)) ≡ false = le-ltb (position_or_len p (x ∷ xs)) (length (x ∷ xs)) (omega (arith, most)) in
    rw behind refl

all_known : (names : Names) (graph : ProcessGraph) (results : List StreamResult) → AreKnownNames names graph → AllByRecursion (IsResultWithin graph) results
    → AllByRecursion (λ (row : StreamRow). has_unknown_part names.streams row ≡ false) (map (told_of names) results)
all_known names graph [] known within = tt
all_known names graph (result ∷ results) known within = (parts_known names graph result known within.0, all_known names graph results known within.1)

all_back : (names : Names) (graph : ProcessGraph) (results : List StreamResult) → AreKnownNames names graph → AllByRecursion (IsResultWithin graph) results
    → AllByRecursion HasBoundsForLeast results → map (result_of names.streams) (map (told_of names) results) ≡ results
all_back names graph [] known within least = refl
all_back names graph (result ∷ results) known within least =
    ap₂ (λ (first : StreamResult) (rest : List StreamResult). first ∷ rest) (result_back names graph result known within.0 least.0)
    (all_back names graph results known within.1 least.1)

node_then_solved : {A : Type 0} (kind : OutputKind) (xs : List A) → may_follow kind Solved ≡ true → may_follow (last_of Node kind xs) Solved ≡ true
node_then_solved kind [] order = order
node_then_solved kind (x ∷ xs) order = node_then_solved Node xs refl

stream_then_solved : {A : Type 0} (kind : OutputKind) (xs : List A) → may_follow kind Solved ≡ true → may_follow (last_of Stream kind xs) Solved ≡ true
stream_then_solved kind [] order = order
stream_then_solved kind (x ∷ xs) order = stream_then_solved Stream xs refl

-- after nodes no stream has come without least bounds
node_then_least : {A : Type 0} (xs : List A) → takes_least (last_of Node Node xs) ≡ true
node_then_least [] = refl
node_then_least (x ∷ xs) = node_then_least xs

nodes_then_least : {A : Type 0} (xs : List A) → takes_least (last_of Node Report xs) ≡ true
nodes_then_least [] = refl
nodes_then_least (x ∷ xs) = node_then_least xs

-- the draft after the rows of nodes, after the rows of streams, and after the solution
abbrev first_draft : List ℕ → Options → ℕ → Stage → Draft
first_draft period options round stage = draft_of (stage_heading period options round stage)

abbrev node_draft : Names → List ℕ → Options → ℕ → Stage → Draft
node_draft names period options round stage = behind_nodes (first_draft period options round stage) names.nodes stage.prices

abbrev stream_draft : Names → List ℕ → Options → ℕ → Stage → Draft
stream_draft names period options round stage =
    behind_streams names (node_draft names period options round stage) names.streams stage.graph.streams stage.streams

abbrev solved_draft : Names → List ℕ → Options → ℕ → Stage → Draft
solved_draft names period options round stage = record (stream_draft names period options round stage) { last = Solved; solution = solution_in stage }

abbrev whole_draft : Names → List ℕ → Options → ℕ → Stage → Draft
whole_draft names period options round stage = record (behind_tests (solved_draft names period options round stage) stage.tests) { last = End }

-- the rows after the first
abbrev body_rows : Names → List ℕ → ℕ → Stage → List OutputRow
body_rows names period round stage =
    rows_with (λ n name price. node_row name price) 0 names.nodes stage.prices
    ++ (rows_with (result_row names) 0 stage.graph.streams stage.streams
    ++ (solved_row stage ∷ (tests_rows names stage.tests ++ end_row period round ∷ [])))

behind_all : (names : Names) (period : List ℕ) (options : Options) (round : ℕ) (stage : Stage) → IsStageToWrite names period options round stage
    → IsBehindAll names (stream_draft names period options round stage)
behind_all names period options round stage h =
    let known = known_names names stage.graph h.all_names h.named in
    let rows = map (told_of names) stage.streams in
    let within = recursion_from_All (IsResultWithin stage.graph) stage.streams h.formed.results in
    let none = none_passes (has_unknown_part names.streams) rows (All-from_recursion (λ (row : StreamRow). has_unknown_part names.streams row ≡ false) rows (all_known names stage.graph stage.streams known within)) in
    record {
      all_nodes = le-ltb (length names.nodes) stage.graph.nodes (omega (arith, h.named.nodes));
      all_streams = le-ltb (length names.streams) (length stage.graph.streams) (omega (arith, h.named.streams));
      nodes = refl;
      streams = refl;
      known = rw none (by (length names.streams == length stage.graph.streams) None refl);
    }
  where
    by : (b : Bool) (o : Option ℕ) → o ≡ None → (if b then o else None) ≡ None
    by true o e = e
    by false o e = refl

body_tells : AreWritten → (names : Names) (period : List ℕ) (options : Options) (round : ℕ) (stage : Stage) → IsStageToWrite names period options round stage
    → Tells (first_draft period options round stage) (records_in (body_rows names period round stage)) (whole_draft names period options round stage)
body_tells written names period options round stage h =
    let known = known_names names stage.graph h.all_names h.named in
    let d0 = first_draft period options round stage in
    let d1 = node_draft names period options round stage in
    let d2 = stream_draft names period options round stage in
    let d3 = solved_draft names period options round stage in
    let d4 = behind_tests d3 stage.tests in
    let d5 = whole_draft names period options round stage in
    let behind = behind_all names period options round stage h in
    let at : IsBehindAll names d3 = record { all_nodes = behind.all_nodes; all_streams = behind.all_streams; nodes = behind.nodes; streams = behind.streams; known = behind.known } in
    let at_end : IsBehindAll names d4 = record { all_nodes = behind.all_nodes; all_streams = behind.all_streams; nodes = behind.nodes; streams = behind.streams; known = behind.known } in
    let nodes = nodes_tell written 0 d0 names.nodes stage.prices (h.named.nodes ∙ sym h.formed.each_price)
    (all_nodes names.nodes h.all_names.node_forms (new_from [] names.nodes h.all_names.nodes_differ) h.all_names.env)
    (recursion_from_All IsPrice stage.prices h.formed.prices) (omega (arith, h.named.nodes)) refl in
    let streams = streams_tell written names stage.graph known d1 names.streams stage.graph.streams stage.streams h.named.streams h.formed.each_stream
    (recursion_from_All (IsStream stage.graph.nodes) stage.graph.streams h.graph.joins) (recursion_from_All IsWithinLimits stage.graph.streams h.graph.limits)
    (recursion_from_All (IsResultWithin stage.graph) stage.streams h.formed.results)
    (record {
      all_nodes = behind.all_nodes;
      nodes = refl;
      split = refl;
      room = omega (arith, h.named.streams);
      new = new_from [] names.streams h.all_names.streams_differ;
      with_least = nodes_then_least names.nodes;
    }) in
    let order : may_follow d2.last Solved ≡ true =
    stream_then_solved (last_of Node Report names.nodes) stage.graph.streams (node_then_solved Report names.nodes refl) in
    let solved = solved_tells written names d2 stage behind order h.formed in
    let tests = tests_tell written names stage.graph known d3 stage.tests at h.formed.tests in
    let ends = end_tells written names d4 period round at_end (end_order stage.tests) h.name h.greatest_round refl refl in
    let tail = tells_both d3 d4 d5 (tests_rows names stage.tests) (end_row period round ∷ []) tests ends in
    let rest = tells_both d2 d3 d5 (solved_row stage ∷ []) (tests_rows names stage.tests ++ end_row period round ∷ []) solved tail in
    let more = tells_both d1 d2 d5 (rows_with (result_row names) 0 stage.graph.streams stage.streams) (solved_row stage ∷ (tests_rows names stage.tests ++ end_row period round ∷ [])) streams rest in
    tells_both d0 d1 d5 (rows_with (λ n name price. node_row name price) 0 names.nodes stage.prices) (rows_with (result_row names) 0 stage.graph.streams stage.streams ++ (solved_row stage ∷ (tests_rows names stage.tests ++ end_row period round ∷ []))) nodes more

whole_back : (names : Names) (period : List ℕ) (options : Options) (round : ℕ) (stage : Stage) → IsStageToWrite names period options round stage
    → block_of (whole_draft names period options round stage) ≡ block_with names period options round stage
whole_back names period options round stage h =
    let known = known_names names stage.graph h.all_names h.named in
    let within = recursion_from_All (IsResultWithin stage.graph) stage.streams h.formed.results in
    let least = recursion_from_All HasBoundsForLeast stage.streams h.least in
    ap (λ (results : List StreamResult). block_with names period options round (record stage { streams = results })) (all_back names stage.graph stage.streams known within least)

block_back : AreWritten → (names : Names) (period : List ℕ) (options : Options) (round : ℕ) (stage : Stage) → IsStageToWrite names period options round stage
    → IsBlock (fields_of (report_row period round stage.graph options)) (records_in (body_rows names period round stage)) (block_with names period options round stage)
block_back written names period options round stage h =
    let first = heading_fields period options round stage in
    let rows = records_in (body_rows names period round stage) in
    let whole = whole_draft names period options round stage in
    let heading = heading_back written names period options round stage h in
    let tells : Tells (opened_draft first) rows whole =
    subst (λ (head : Heading). Tells (draft_of head) rows whole) (sym heading) (body_tells written names period options round stage h) in
    record {
      opens = heading_fine written names period options round stage h;
      sound = tells.sound;
      known = subst (λ (draft : Draft). first_unknown draft ≡ None) (sym tells.told) (behind_all names period options round stage h).known;
      ends = ap (λ (draft : Draft). draft.last) tells.told;
      value = sym (whole_back names period options round stage h) ∙ ap (λ (draft : Draft). block_of draft) (sym tells.told);
    }

-- ---- blocks among other rows

-- a block after rows that are passed over, and whatever comes after it
found_back : AreWritten → (names : Names) (period : List ℕ) (options : Options) (round : ℕ) (stage : Stage) → IsStageToWrite names period options round stage
    → (passed rest : List OutputRow) → ArePassedOver (records_in passed)
    → IsFound (records_in (passed ++ (block_rows names period options round stage ++ rest))) (block_with names period options round stage) (records_in rest)
found_back written names period options round stage h passed rest over =
    let first = fields_of (report_row period round stage.graph options) in
    let body = body_rows names period round stage in
    let whole = block_back written names period options round stage h in
    record {
      passed = records_in passed;
      first = first;
      rows = records_in body;
      split =
          map-append fields_of passed (block_rows names period options round stage ++ rest)
          ∙ ap (λ (rows : List (List (List ℕ))). records_in passed ++ first ∷ rows) (map-append fields_of body rest);
      skipped = over;
      opens = whole.opens;
      sound = whole.sound;
      known = whole.known;
      ends = whole.ends;
      value = whole.value;
    }

-- what is known of all stages
pub record AreStagesToWrite (names : Names) (period : List ℕ) (options : Options) : Type 0 where
  pub all_names : AreBlockNames names
  pub name : is_name period ≡ true
  pub asked : AreOptionsWithin options

-- what is known of one stage
pub record IsGoodStage (names : Names) (stage : Stage) : Type 0 where
  pub graph : IsProcessGraph stage.graph
  pub formed : IsWellFormed stage
  pub named : IsNamed names stage.graph
  pub least : All HasBoundsForLeast stage.streams

to_write : (names : Names) (period : List ℕ) (options : Options) (round : ℕ) (stage : Stage) → AreStagesToWrite names period options → IsGoodStage names stage → round ≤ most_rounds
    → IsStageToWrite names period options round stage
to_write names period options round stage all good most = record {
  graph = good.graph;
  formed = good.formed;
  named = good.named;
  all_names = all.all_names;
  name = all.name;
  asked = all.asked;
  greatest_round = most;
  least = good.least;
}

rounds_back : AreWritten → (names : Names) (period : List ℕ) (options : Options) → AreStagesToWrite names period options → (round : ℕ) (taken : List Taken) (stages : List Stage)
    (rest : List OutputRow) → ArePassedOver (records_in rest) → length stages ≡ length taken → round + length stages ≤ most_rounds + 1 → AllByRecursion (IsGoodStage names) stages
    → AreBlocks (records_in (round_rows names period options round taken stages ++ rest)) (blocks_from names period options round stages)
rounds_back written names period options all round [] [] rest over long few good = over
rounds_back written names period options all round [] (stage ∷ stages) rest over long few good = absurd (omega (arith, long))
rounds_back written names period options all round (suspect ∷ taken) [] rest over long few good = absurd (omega (arith, long))
rounds_back written names period options all round (suspect ∷ taken) (stage ∷ stages) rest over long few good =
    let row = taken_row names period round suspect in
    let more = round_rows names period options (round + 1) taken stages in
    let behind = rounds_back written names period options all (round + 1) taken stages rest over (omega (arith, long)) (omega (arith, few)) good.1 in
    let found = found_back written names period options round stage (to_write names period options round stage all good.0 (omega (arith, few))) (row ∷ []) (more ++ rest) refl in
    let same : records_in (row ∷ (block_rows names period options round stage ++ (more ++ rest)))
    ≡ records_in (((row ∷ block_rows names period options round stage) ++ more) ++ rest) =
    ap (λ (rows : List OutputRow). records_in (row ∷ rows)) (sym (append_assoc (block_rows names period options round stage) more rest)) in (
      records_in (more ++ rest),
      subst (λ (rows : List (List (List ℕ))). IsFound rows (block_with names period options round stage) (records_in (more ++ rest))) same found,
      behind,
    )

stops_passed : (period : List ℕ) (rounds : ℕ) (stop : Option Stop) → ArePassedOver (records_in (option_to_list (option_map (stop_row period rounds) stop)))
stops_passed period rounds None = refl
stops_passed period rounds (Some reason) = refl

stages_back : AreWritten → (names : Names) (period : List ℕ) (options : Options) → AreStagesToWrite names period options → (taken : List Taken) (stages : List Stage)
    (rest : List OutputRow) → ArePassedOver (records_in rest) → length stages ≡ length taken + 1 → length stages ≤ most_rounds + 1 → AllByRecursion (IsGoodStage names) stages
    → AreBlocks (records_in (stage_rows names period options taken stages ++ rest)) (blocks_from names period options 0 stages)
stages_back written names period options all taken [] rest over long few good = absurd (omega (arith, long))
stages_back written names period options all taken (stage ∷ stages) rest over long few good =
    let more = round_rows names period options 1 taken stages in
    let behind = rounds_back written names period options all 1 taken stages rest over (omega (arith, long)) (omega (arith, few)) good.1 in
    let found = found_back written names period options 0 stage (to_write names period options 0 stage all good.0 (omega arith)) [] (more ++ rest) refl in (
      records_in (more ++ rest),
      subst (λ (rows : List OutputRow). IsFound (records_in rows) (block_with names period options 0 stage) (records_in (more ++ rest)))
          (sym (append_assoc (block_rows names period options 0 stage) more rest)) found,
      behind,
    )

good_stages : (names : Names) (graph : ProcessGraph) (stages : List Stage) → IsNamed names graph → AllByRecursion (λ (stage : Stage). IsProcessGraph stage.graph) stages
    → AllByRecursion IsWellFormed stages → AllByRecursion (HasShapeOf graph) stages → AllByRecursion (λ (stage : Stage). All HasBoundsForLeast stage.streams) stages
    → AllByRecursion (IsGoodStage names) stages
good_stages names graph [] named graphs formed shapes least = tt
good_stages names graph (stage ∷ stages) named graphs formed shapes least = (
  record {
    graph = graphs.0;
    formed = formed.0;
    named = record { nodes = named.nodes ∙ sym shapes.0.nodes; streams = named.streams ∙ sym shapes.0.streams };
    least = least.0;
  },
  good_stages names graph stages named graphs.1 formed.1 shapes.1 least.1,
)

-- the rows of a study read back as its stages
pub study_back : AreWritten → StudyRowsLaw
study_back written names period options study h =
    let formed = h.named.formed in
    let good = good_stages names h.named.graph study.stages h.named.named
    (recursion_from_All (λ (stage : Stage). IsProcessGraph stage.graph) study.stages h.graphs)
    (recursion_from_All IsWellFormed study.stages formed.stages)
    (recursion_from_All (HasShapeOf h.named.graph) study.stages formed.shapes)
    (recursion_from_All (λ (stage : Stage). All HasBoundsForLeast stage.streams) study.stages h.least) in
    stages_back written names period options (record { all_names = h.all_names; name = h.name; asked = h.asked }) study.taken study.stages
    (option_to_list (option_map (stop_row period (length study.taken)) study.stop)) (stops_passed period (length study.taken) study.stop) formed.between h.greatest_round good
