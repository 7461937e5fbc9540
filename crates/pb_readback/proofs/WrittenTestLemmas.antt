-- The rows after the streams: how the stage was solved, its tests and the end.
use Rattle.std.specs.Prelude.{◌^◌, neg_ℤ, nat_lt, map, IfSome, if◌then◌else◌}
use Rattle.std.specs.Ordering.{int_eq}
use Rattle.std.specs.List.{AllByRecursion}
use Rattle.std.specs.Option.{unwrap_or}
use Rattle.std.proofs.Common.{◌≡◌, ◌∙◌, ℕ, ℤ, pos, ◌<◌, ◌≤◌, List, [], ◌∷◌, ◌++◌, length, Bool, true, false, Option, None, Some, refl, sym, ap, ap₂, subst, arith, append_assoc}
use Rattle.std.proofs.lemmas.Bool.Decides.{Decides-int_eq}
use Rattle.std.proofs.lemmas.List.{append-nil, map-append}
use Rattle.std.proofs.lemmas.List.Elements.{recursion_from_All}
use Rattle.pb_limits.specs.Limits.{most_critical, most_freedom, most_rounds, most_sweeps, most_wide}
use Rattle.pb_limits.specs.Ranges.{IsCriticalValue}
use Rattle.pb_rows.specs.Name.{is_name, same_name}
use Rattle.pb_rows.specs.declared.name.Names.{Names}
use Rattle.pb_study.specs.declared.results.GlobalTest.{GlobalTest}
use Rattle.pb_study.specs.declared.results.NodalTest.{NodalTest}
use Rattle.pb_study.specs.declared.results.MeasureTest.{MeasureTest}
use Rattle.pb_study.specs.declared.results.Solved.{Solved as Met}
use Rattle.pb_study.specs.declared.results.Solved.TheVariants.{Converged, Unconverged}
use Rattle.pb_study.specs.declared.results.Stage.{Stage}
use Rattle.pb_study.specs.declared.results.Tests.{Tests}
use Rattle.pb_study.specs.declared.results.Verdict.{Verdict}
use Rattle.pb_study.specs.declared.results.Verdict.TheVariants.{NoTest}
use Rattle.pb_graph.specs.ProcessGraph.{ProcessGraph}
use Rattle.pb_study.specs.WellFormed.{AreTestsWithin, IsMeasureWithin, IsNodalWithin, IsWellFormed, IsWide, sweeps_of}
use Rattle.pb_report.specs.Block.{end_row, solved_row}
use Rattle.pb_report.specs.Names.{name_at}
use Rattle.pb_report.specs.Row.{OutputRow, fields_of, value_or_none}
use Rattle.pb_report.specs.Tests.{global_row, measure_row, nodal_row, tests_rows}
use Rattle.pb_form.specs.Holds.{Word as WordColumn}
use Rattle.pb_form.specs.OutputRows.{output_columns}
use Rattle.pb_form.specs.SessionRows.{critical_range}
use Rattle.pb_form.specs.Value.{Value, Number, Word}
use Rattle.pb_form.specs.Words.{state_words, verdict_words}
use Rattle.pb_form.specs.Writing.{FitEach, FitsIn}
use Rattle.pb_choices.specs.Places.{gap_met, placed_truth, placed_verdict, truth_place, verdict_place}
use Rattle.pb_form.specs.declared.output.OutputKind.{OutputKind}
use Rattle.pb_form.specs.declared.output.OutputKind.TheVariants.{Solved, Global, Nodal, Measure, End}
use Rattle.pb_blocks.specs.declared.rows.Solution.{Solution}
use Rattle.pb_blocks.specs.Beside.{is_round}
use Rattle.pb_blocks.specs.Lists.{is_among, place_of}
use Rattle.pb_blocks.specs.Values.{said_global, said_measure, said_nodal, said_solution}
use Rattle.pb_readback.specs.declared.draft.Draft.{Draft}
use Rattle.pb_readback.specs.Drafts.{draft_with_row}
use Rattle.pb_readback.specs.Reading.{tests_begun}
use Rattle.pb_readback.specs.Faults.{first_unknown}
use Rattle.pb_readback.specs.Written.{records_in}
use Rattle.pb_readback.proofs.WrittenBlockLemmas.{Tells, last_of, tells_append, tells_more, tells_none, tells_to}
use Rattle.pb_readback.proofs.WrittenFieldLemmas.{AreWritten, IsBetween, abs_between, among_at, count_between, number_back, number_fits, place_at, same_self, within_back, word_fits}
use Rattle.pb_readback.proofs.WrittenListLemmas.{named_at}
use Rattle.pb_readback.proofs.WrittenRowLemmas.{IsSoundRow, end_after, global_after, may_follow, measure_after, nodal_after, row_back, row_leaves, row_sound, solved_after, told_behind, values_back}
use Rattle.pb_readback.proofs.WrittenStreamLemmas.{AreKnownNames}

-- after all nodes and all streams, whose parts are known
pub record IsBehindAll (names : Names) (draft : Draft) : Type 0 where
  pub all_nodes : nat_lt (length draft.nodes) draft.heading.nodes ≡ false
  pub all_streams : nat_lt (length draft.streams) draft.heading.streams ≡ false
  pub nodes : draft.nodes ≡ names.nodes
  pub streams : draft.streams ≡ names.streams
  pub known : first_unknown draft ≡ None

-- ---- how the stage was solved

solved_back : (solved : Met) (met : Bool) → met ≡ gap_met solved → (if met then Converged (sweeps_of solved) else Unconverged (sweeps_of solved)) ≡ solved
solved_back (Converged sweeps) met is = rw is refl
solved_back (Unconverged sweeps) met is = rw is refl

-- the state that its word says
state_back : AreWritten → (solved : Met) → unwrap_or (placed_truth (truth_place (gap_met solved))) false ≡ gap_met solved
state_back written solved = ap (λ (o : Option Bool). unwrap_or o false) (written.states.there (gap_met solved))

abbrev pub solution_in : Stage → Solution
solution_in stage = record { solved = stage.solved; g = stage.g; h = stage.h; dof = stage.dof; low = stage.low; high = stage.high }

wide_if : (o : Option ℤ) → IfSome o IsWide → IfSome o (IsBetween (neg_ℤ (pos most_wide)) (pos most_wide))
wide_if None h = h
wide_if (Some z) h = abs_between most_wide z h

critical_if : (o : Option ℤ) → IfSome o IsCriticalValue → IfSome o (IsBetween (pos 0) (pos most_critical))
critical_if None h = h
critical_if (Some z) h = (h.0, h.1)

solved_fits : AreWritten → (stage : Stage) → IsWellFormed stage → FitEach (output_columns Solved) (solved_row stage).values
solved_fits written stage formed = (
  (refl, refl),
  (
    count_between 0 most_sweeps (sweeps_of stage.solved) (omega arith) formed.sweeps,
    (
      word_fits state_words truth_place placed_truth written.states (gap_met stage.solved),
      (
        count_between 0 (2 ^ 63) stage.g (omega arith) formed.g,
        (
          count_between 0 32 stage.h (omega arith) formed.h,
          (
            count_between 0 most_freedom stage.dof (omega arith) formed.dof,
            (abs_between most_wide stage.low formed.low, (number_fits (neg_ℤ (pos most_wide)) (pos most_wide) stage.high (wide_if stage.high formed.high), tt)),
          ),
        ),
      ),
    ),
  ),
)

pub solved_tells : AreWritten → (names : Names) (draft : Draft) (stage : Stage) → IsBehindAll names draft → may_follow draft.last Solved ≡ true → IsWellFormed stage
    → Tells draft (fields_of (solved_row stage) ∷ []) (record draft { last = Solved; solution = solution_in stage })
solved_tells written names draft stage at order formed =
    let next : Draft = record draft { last = Solved; solution = solution_in stage } in
    let row = fields_of (solved_row stage) in
    let values : List Value = (solved_row stage).values in
    let sound : IsSoundRow draft Solved row values = record {
      told = told_behind draft Solved row (at.all_nodes, at.all_streams) (solved_after draft.last stage order);
      read = row_back written.texts (solved_row stage) (solved_fits written stage formed);
      beside = refl;
    } in
    let met : Met = if unwrap_or (placed_truth (truth_place (gap_met stage.solved))) false then Converged (sweeps_of stage.solved) else Unconverged (sweeps_of stage.solved) in
    let state : met ≡ stage.solved = solved_back stage.solved (unwrap_or (placed_truth (truth_place (gap_met stage.solved))) false) (state_back written stage.solved) in
    let read : said_solution values ≡ solution_in stage =
    ap₂ (λ (s : Met) (h : Option ℤ). record { solved = s; g = stage.g; h = stage.h; dof = stage.dof; low = stage.low; high = h }) state (number_back stage.high) in
    let leaves : draft_with_row draft row ≡ next =
    row_leaves draft Solved row values sound ∙ ap (λ (said : List Value). record draft { last = Solved; solution = said_solution said }) (values_back Solved row values sound.read)
    ∙ ap (λ (s : Solution). record draft { last = Solved; solution = s }) read in
    tells_more draft next row [] next at.known (row_sound draft Solved row values sound) leaves (tells_none next)

-- ---- tests

-- the verdict that its word says
verdict_back : AreWritten → (verdict : Verdict) → unwrap_or (placed_verdict (verdict_place verdict)) NoTest ≡ verdict
verdict_back written verdict = ap (λ (o : Option Verdict). unwrap_or o NoTest) (written.verdicts.there verdict)

verdict_fits : AreWritten → (verdict : Verdict) → FitsIn (WordColumn verdict_words) false (Word (verdict_place verdict))
verdict_fits written verdict = word_fits verdict_words verdict_place placed_verdict written.verdicts verdict

critical_fits : (critical : Option ℤ) → IfSome critical IsCriticalValue → FitsIn critical_range true (value_or_none Number critical)
critical_fits critical h = number_fits (pos 0) (pos most_critical) critical (critical_if critical h)

-- the draft with these tests, and a last row of this kind
abbrev pub with_tests : Draft → OutputKind → Tests → Draft
with_tests draft kind tests = record draft { last = kind; tests = Some tests }

abbrev only_global : GlobalTest → Tests
only_global test = record { global = test; nodal = []; measure = [] }

global_tells : AreWritten → (names : Names) (draft : Draft) (test : GlobalTest) → IsBehindAll names draft → may_follow draft.last Global ≡ true → IfSome test.critical IsCriticalValue
    → Tells draft (fields_of (global_row test) ∷ []) (with_tests draft Global (only_global test))
global_tells written names draft test at order range =
    let next = with_tests draft Global (only_global test) in
    let row = fields_of (global_row test) in
    let values : List Value = (global_row test).values in
    let sound : IsSoundRow draft Global row values = record {
      told = told_behind draft Global row (at.all_nodes, at.all_streams) (global_after draft.last test order);
      read = row_back written.texts (global_row test) ((refl, refl), (critical_fits test.critical range, (verdict_fits written test.verdict, tt)));
      beside = refl;
    } in
    let read : said_global values ≡ test =
    ap₂ (λ (c : Option ℤ) (v : Verdict). record { critical = c; verdict = v }) (number_back test.critical) (verdict_back written test.verdict) in
    let leaves : draft_with_row draft row ≡ next =
    row_leaves draft Global row values sound ∙ ap (λ (said : List Value). with_tests draft Global (tests_begun said)) (values_back Global row values sound.read)
    ∙ ap (λ (t : GlobalTest). with_tests draft Global (only_global t)) read in
    tells_more draft next row [] next at.known (row_sound draft Global row values sound) leaves (tells_none next)

nodals_tell : AreWritten → (names : Names) (graph : ProcessGraph) → AreKnownNames names graph → (draft : Draft) (kind : OutputKind) (tests : Tests) (todo : List NodalTest)
    → IsBehindAll names draft → may_follow kind Nodal ≡ true → AllByRecursion (IsNodalWithin graph) todo
    → Tells (with_tests draft kind tests) (records_in (map (nodal_row names) todo)) (with_tests draft (last_of Nodal kind todo) (record tests { nodal = tests.nodal ++ todo }))
nodals_tell written names graph known draft kind tests [] at order within =
    tells_to (with_tests draft kind tests) (with_tests draft kind tests) (with_tests draft kind (record tests { nodal = tests.nodal ++ [] })) []
    (ap (λ (all : List NodalTest). with_tests draft kind (record tests { nodal = all })) (sym (append-nil tests.nodal))) (tells_none (with_tests draft kind tests))
nodals_tell written names graph known draft kind tests (test ∷ todo) at order within =
    let told = with_tests draft kind tests in
    let more : Tests = record tests { nodal = tests.nodal ++ test ∷ [] } in
    let next = with_tests draft Nodal more in
    let below : test.node < length names.nodes = omega (arith, within.0.node, known.each_node) in
    let place : place_of draft.nodes (name_at names.nodes test.node) ≡ test.node =
    ap (λ (nodes : List (List ℕ)). place_of nodes (name_at names.nodes test.node)) at.nodes ∙ place_at names.nodes test.node known.apart_nodes below in
    let row = fields_of (nodal_row names test) in
    let values : List Value = (nodal_row names test).values in
    let there : is_among draft.nodes (name_at names.nodes test.node) ≡ true =
    subst (λ (nodes : List (List ℕ)). is_among nodes (name_at names.nodes test.node) ≡ true) (sym at.nodes) (among_at names.nodes test.node below) in
    let sound : IsSoundRow told Nodal row values = record {
      told = told_behind told Nodal row (at.all_nodes, at.all_streams) (nodal_after kind names test order);
      read = row_back written.texts (nodal_row names test) (
        (refl, refl),
        (
          named_at names.nodes test.node known.form_nodes below,
          (
            abs_between most_wide test.net within.0.net,
            (abs_between most_wide test.variance within.0.variance, (critical_fits test.critical within.0.critical, (verdict_fits written test.verdict, tt))),
          ),
        ),
      );
      beside = rw there refl;
    } in
    let read : said_nodal draft.nodes row values ≡ test =
    ap₂ (λ (n : ℕ) (p : Option ℤ × Verdict). record { node = n; net = test.net; variance = test.variance; critical = p.0; verdict = p.1 }) place
    (ap₂ (λ (c : Option ℤ) (v : Verdict). (c, v)) (number_back test.critical) (verdict_back written test.verdict)) in
    let with = λ (t : NodalTest). with_tests draft Nodal (record tests { nodal = tests.nodal ++ t ∷ [] }) in
    let leaves : draft_with_row told row ≡ next =
    row_leaves told Nodal row values sound ∙ ap (λ (said : List Value). with (said_nodal draft.nodes row said)) (values_back Nodal row values sound.read) ∙ ap with read in
    let rest = nodals_tell written names graph known draft Nodal more todo at refl within.1 in
    let last = with_tests draft (last_of Nodal kind (test ∷ todo)) (record tests { nodal = tests.nodal ++ test ∷ todo }) in
    let rows = records_in (map (nodal_row names) todo) in
    let same : with_tests draft (last_of Nodal Nodal todo) (record tests { nodal = (tests.nodal ++ test ∷ []) ++ todo }) ≡ last =
    ap (λ (all : List NodalTest). with_tests draft (last_of Nodal Nodal todo) (record tests { nodal = all })) (append_assoc tests.nodal (test ∷ []) todo) in
    tells_more told next row rows last at.known (row_sound told Nodal row values sound) leaves
    (tells_to next (with_tests draft (last_of Nodal Nodal todo) (record tests { nodal = (tests.nodal ++ test ∷ []) ++ todo })) last rows same rest)

measures_tell : AreWritten → (names : Names) (graph : ProcessGraph) → AreKnownNames names graph → (draft : Draft) (kind : OutputKind) (tests : Tests) (todo : List MeasureTest)
    → IsBehindAll names draft → may_follow kind Measure ≡ true → AllByRecursion (IsMeasureWithin graph) todo
    → Tells (with_tests draft kind tests) (records_in (map (measure_row names) todo)) (with_tests draft (last_of Measure kind todo) (record tests { measure = tests.measure ++ todo }))
measures_tell written names graph known draft kind tests [] at order within =
    tells_to (with_tests draft kind tests) (with_tests draft kind tests) (with_tests draft kind (record tests { measure = tests.measure ++ [] })) []
    (ap (λ (all : List MeasureTest). with_tests draft kind (record tests { measure = all })) (sym (append-nil tests.measure))) (tells_none (with_tests draft kind tests))
measures_tell written names graph known draft kind tests (test ∷ todo) at order within =
    let told = with_tests draft kind tests in
    let more : Tests = record tests { measure = tests.measure ++ test ∷ [] } in
    let next = with_tests draft Measure more in
    let below : test.stream < length names.streams = omega (arith, within.0.stream, known.each_stream) in
    let place : place_of draft.streams (name_at names.streams test.stream) ≡ test.stream =
    ap (λ (streams : List (List ℕ)). place_of streams (name_at names.streams test.stream)) at.streams ∙ place_at names.streams test.stream known.of_streams.apart below in
    let row = fields_of (measure_row names test) in
    let values : List Value = (measure_row names test).values in
    let there : is_among draft.streams (name_at names.streams test.stream) ≡ true =
    subst (λ (streams : List (List ℕ)). is_among streams (name_at names.streams test.stream) ≡ true) (sym at.streams) (among_at names.streams test.stream below) in
    let sound : IsSoundRow told Measure row values = record {
      told = told_behind told Measure row (at.all_nodes, at.all_streams) (measure_after kind names test order);
      read = row_back written.texts (measure_row names test) (
        (refl, refl),
        (
          named_at names.streams test.stream known.of_streams.forms below,
          (
            abs_between most_wide test.low within.0.low,
            (
              number_fits (neg_ℤ (pos most_wide)) (pos most_wide) test.high (wide_if test.high within.0.high),
              (critical_fits test.critical within.0.critical, (verdict_fits written test.verdict, tt)),
            ),
          ),
        ),
      );
      beside = rw there refl;
    } in
    let read : said_measure draft.streams row values ≡ test =
    ap₂ (λ (p : ℕ × Option ℤ) (q : Option ℤ × Verdict). record { stream = p.0; low = test.low; high = p.1; critical = q.0; verdict = q.1 })
    (ap₂ (λ (n : ℕ) (h : Option ℤ). (n, h)) place (number_back test.high)) (ap₂ (λ (c : Option ℤ) (v : Verdict). (c, v)) (number_back test.critical) (verdict_back written test.verdict)) in
    let with = λ (t : MeasureTest). with_tests draft Measure (record tests { measure = tests.measure ++ t ∷ [] }) in
    let leaves : draft_with_row told row ≡ next =
    row_leaves told Measure row values sound ∙ ap (λ (said : List Value). with (said_measure draft.streams row said)) (values_back Measure row values sound.read) ∙ ap with read in
    let rest = measures_tell written names graph known draft Measure more todo at refl within.1 in
    let last = with_tests draft (last_of Measure kind (test ∷ todo)) (record tests { measure = tests.measure ++ test ∷ todo }) in
    let rows = records_in (map (measure_row names) todo) in
    let same : with_tests draft (last_of Measure Measure todo) (record tests { measure = (tests.measure ++ test ∷ []) ++ todo }) ≡ last =
    ap (λ (all : List MeasureTest). with_tests draft (last_of Measure Measure todo) (record tests { measure = all })) (append_assoc tests.measure (test ∷ []) todo) in
    tells_more told next row rows last at.known (row_sound told Measure row values sound) leaves
    (tells_to next (with_tests draft (last_of Measure Measure todo) (record tests { measure = (tests.measure ++ test ∷ []) ++ todo })) last rows same rest)

-- the kind of the last row before the end
abbrev pub last_kind : Option Tests → OutputKind
last_kind None = Solved
last_kind (Some tests) = last_of Measure (last_of Nodal Global tests.nodal) tests.measure

nodal_then_measure : (kind : OutputKind) (todo : List NodalTest) → may_follow kind Measure ≡ true → may_follow (last_of Nodal kind todo) Measure ≡ true
nodal_then_measure kind [] order = order
nodal_then_measure kind (test ∷ todo) order = nodal_then_measure Nodal todo refl

nodal_then_end : (kind : OutputKind) (todo : List NodalTest) → may_follow kind End ≡ true → may_follow (last_of Nodal kind todo) End ≡ true
nodal_then_end kind [] order = order
nodal_then_end kind (test ∷ todo) order = nodal_then_end Nodal todo refl

measure_then_end : (kind : OutputKind) (todo : List MeasureTest) → may_follow kind End ≡ true → may_follow (last_of Measure kind todo) End ≡ true
measure_then_end kind [] order = order
measure_then_end kind (test ∷ todo) order = measure_then_end Measure todo refl

pub end_order : (tests : Option Tests) → may_follow (last_kind tests) End ≡ true
end_order None = refl
end_order (Some tests) = measure_then_end (last_of Nodal Global tests.nodal) tests.measure (nodal_then_end Global tests.nodal refl)

-- one list of rows after the other
pub tells_both : (draft next after : Draft) (front back : List OutputRow) → Tells draft (records_in front) next → Tells next (records_in back) after → Tells draft (records_in (front ++ back)) after
tells_both draft next after front back first second =
    subst (λ (rows : List (List (List ℕ))). Tells draft rows after) (sym (map-append fields_of front back)) (tells_append draft next (records_in front) (records_in back) after first second)

-- the draft before the tests, and after them
abbrev pub before_tests : Draft → Draft
before_tests draft = record draft { last = Solved; tests = None }

abbrev pub behind_tests : Draft → Option Tests → Draft
behind_tests draft tests = record draft { last = last_kind tests; tests = tests }

pub tests_tell : AreWritten → (names : Names) (graph : ProcessGraph) → AreKnownNames names graph → (draft : Draft) (tests : Option Tests) → IsBehindAll names draft
    → IfSome tests (AreTestsWithin graph) → Tells (before_tests draft) (records_in (tests_rows names tests)) (behind_tests draft tests)
tests_tell written names graph known draft None at within = tells_none (before_tests draft)
tests_tell written names graph known draft (Some tests) at within =
    let only = only_global tests.global in
    let balances : Tests = record only { nodal = tests.nodal } in
    let first = global_tells written names (before_tests draft) tests.global (record { all_nodes = at.all_nodes; all_streams = at.all_streams; nodes = at.nodes; streams = at.streams; known = at.known }) refl within.overall in
    let second = nodals_tell written names graph known draft Global only tests.nodal at refl (recursion_from_All (IsNodalWithin graph) tests.nodal within.nodal) in
    let third = measures_tell written names graph known draft (last_of Nodal Global tests.nodal) balances tests.measure at (nodal_then_measure Global tests.nodal refl)
    (recursion_from_All (IsMeasureWithin graph) tests.measure within.measure) in
    let rest = tells_both (with_tests draft Global only) (with_tests draft (last_of Nodal Global tests.nodal) balances) (behind_tests draft (Some tests))
    (map (nodal_row names) tests.nodal) (map (measure_row names) tests.measure) second third in
    tells_both (before_tests draft) (with_tests draft Global only) (behind_tests draft (Some tests)) (global_row tests.global ∷ [])
    (map (nodal_row names) tests.nodal ++ map (measure_row names) tests.measure) first rest

-- ---- the end

same_number : (n : ℕ) → int_eq (pos n) (pos n) ≡ true
same_number n = (Decides-int_eq (pos n) (pos n)).1 refl

pub end_tells : AreWritten → (names : Names) (draft : Draft) (period : List ℕ) (round : ℕ) → IsBehindAll names draft → may_follow draft.last End ≡ true
    → is_name period ≡ true → round ≤ most_rounds → draft.heading.period ≡ period → draft.heading.round ≡ round
    → Tells draft (records_in (end_row period round ∷ [])) (record draft { last = End })
end_tells written names draft period round at order form most same_period same_round =
    let next : Draft = record draft { last = End } in
    let row = fields_of (end_row period round) in
    let values : List Value = (end_row period round).values in
    let between = count_between 0 most_rounds round (omega arith) most in
    let own : same_name period draft.heading.period ≡ true = subst (λ (name : List ℕ). same_name period name ≡ true) (sym same_period) (same_self period) in
    let this : is_round row draft.heading.round ≡ true = rw (same_round, written.numbers.read (pos round), within_back (pos 0) (pos most_rounds) (pos round) between) (same_number round) in
    let sound : IsSoundRow draft End row values = record {
      told = told_behind draft End row (at.all_nodes, at.all_streams) (end_after draft.last period round order);
      read = row_back written.texts (end_row period round) ((refl, refl), (form, (between, tt)));
      beside = rw (own, this) refl;
    } in
    tells_more draft next row [] next at.known (row_sound draft End row values sound) (row_leaves draft End row values sound) (tells_none next)
