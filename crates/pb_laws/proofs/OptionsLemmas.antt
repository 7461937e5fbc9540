-- Studies with and without tests and eliminations have the same first stage.
use Rattle.std.proofs.Common.{◌≡◌, ◌≢◌, ◌∙◌, ◌+◌, ◌≤◌, ℕ, zero, suc, Bool, true, false, List, [], ◌∷◌, ◌++◌, length, map, take, Option, Some, None, slice_get, refl, sym, ap, ap₂, subst, arith}
use Rattle.std.specs.Prelude.{IfSome, filter, is_some, not}
use Rattle.std.proofs.lemmas.List.{append-nil}
use Rattle.std.proofs.lemmas.List.Elements.{filter-append}
use Rattle.pb_fixed.proofs.Lists.{some_same}
use Rattle.pb_rows.specs.declared.name.Names.{Names}
use Rattle.pb_graph.specs.ProcessGraph.{ProcessGraph, IsProcessGraph}
use Rattle.pb_study.specs.declared.results.Critical.{Critical}
use Rattle.pb_study.specs.declared.results.Options.{Options}
use Rattle.pb_study.specs.declared.results.Stage.{Stage}
use Rattle.pb_study.specs.declared.results.Stop.{Stop}
use Rattle.pb_study.specs.declared.results.Study.{Study}
use Rattle.pb_study.specs.declared.results.Taken.{Taken}
use Rattle.pb_study.specs.declared.results.Tests.{Tests}
use Rattle.pb_stage.specs.StageTests.{AreTestsOf}
use Rattle.pb_elim.specs.Elimination.{IsStop}
use Rattle.pb_elim.specs.Laws.{OneStudyLaw}
use Rattle.pb_elim.specs.Stage.{IsReconciliationOf, IsStageOf}
use Rattle.pb_elim.specs.Study.{AreRounds, IsStudyOf, without_taken}
use Rattle.pb_report.specs.Block.{block_rows, end_row, node_row, report_row, result_row, solved_row}
use Rattle.pb_report.specs.Row.{OutputRow}
use Rattle.pb_report.specs.Rows.{rows_with}
use Rattle.pb_report.specs.Study.{study_rows}
use Rattle.pb_report.specs.Tests.{tests_rows}
use Rattle.pb_laws.specs.Options.{FirstRoundLaw, OtherRowsLaw, UntestedLaw, is_of_a_test, other_rows, untested, without_elimination, without_tests}

-- ---- studies of one stage
abbrev alone : Stage → Study
alone stage = record { stages = stage ∷ []; taken = []; stop = None }

-- a stage, without an elimination, is a study
is_alone : (graph : ProcessGraph) (options : Options) (critical : Critical) (stage : Stage) → options.eliminate ≡ 0 → IsStageOf graph options critical stage → IsStudyOf graph options critical (alone stage)
is_alone graph options critical stage none is = record {
  rounds = record {
    each = each;
    between = refl;
    rounds = omega (arith, none);
    suspects = λ i one t at taken. cc taken;
  };
  stop = λ last at. none;
}
  where
    each : (i : ℕ) (one : Stage) → slice_get (stage ∷ []) i ≡ Some one → IsStageOf (without_taken graph (take i [])) options critical one
    each zero one at = subst (IsStageOf graph options critical) (some_same at) is
    each (suc i) one at = cc at

-- the first stage of a study
first_of : (graph : ProcessGraph) (options : Options) (critical : Critical) (study : Study) → IsStudyOf graph options critical study
    → (stage : Stage) × (take 1 study.stages ≡ stage ∷ []) × IsStageOf graph options critical stage
first_of graph options critical study is = by study.stages refl
  where
    by : (stages : List Stage) → study.stages ≡ stages → (stage : Stage) × (take 1 study.stages ≡ stage ∷ []) × IsStageOf graph options critical stage
    by [] same = let count = is.rounds.between in let none = ap (λ (s : List Stage). length s) same in absurd (omega (arith, count, none))
    by (stage ∷ stages) same = (stage, ap (take 1) same, is.rounds.each 0 stage (ap (λ (s : List Stage). slice_get s 0) same))

-- what is asked of a stage doesn't depend on the elimination
uneliminated : (graph : ProcessGraph) (options : Options) (critical : Critical) (stage : Stage) → IsStageOf graph options critical stage → IsStageOf graph (without_elimination options) critical stage
uneliminated graph options critical stage is = record {
  reconciled = record {
    graph_is = is.reconciled.graph_is;
    classes = is.reconciled.classes;
    priced = is.reconciled.priced;
    solution = is.reconciled.solution;
    numbers = is.reconciled.numbers;
    least = is.reconciled.least;
  };
  asked = is.asked;
  tests = by stage.tests is.tests;
}
  where
    by : (o : Option Tests) → IfSome o (AreTestsOf graph options critical stage) → IfSome o (AreTestsOf graph (without_elimination options) critical stage)
    by None are = tt
    by (Some tests) are = record { overall = are.overall; nodal = are.nodal; measure = are.measure }

-- a stage without its tests is the stage without tests
is_untested : (graph : ProcessGraph) (options : Options) (critical : Critical) (stage : Stage) → IsStageOf graph options critical stage → IsStageOf graph (without_tests options) critical (untested stage)
is_untested graph options critical stage is = record {
  reconciled = record {
    graph_is = is.reconciled.graph_is;
    classes = is.reconciled.classes;
    priced = is.reconciled.priced;
    solution = is.reconciled.solution;
    numbers = record {
      deviation = is.reconciled.numbers.deviation;
      bounded = is.reconciled.numbers.bounded;
      least_bounded = is.reconciled.numbers.least_bounded;
      freedom = is.reconciled.numbers.freedom;
      from_below = is.reconciled.numbers.from_below;
      from_above = is.reconciled.numbers.from_above;
    };
    least = is.reconciled.least;
  };
  asked = refl;
  tests = tt;
}

pub first_round : OneStudyLaw → FirstRoundLaw
first_round one graph options critical study other limits is is_other =
    let (stage, first, of) = first_of graph options critical study is in
    let only = one graph (without_elimination options) critical other (alone stage) limits is_other (is_alone graph (without_elimination options) critical stage refl (uneliminated graph options critical stage of)) in
    ap (λ (s : Study). s.stages) only ∙ sym first

-- the study without tests
untested_is : OneStudyLaw → (graph : ProcessGraph) (options : Options) (critical : Critical) (study other : Study) → IsProcessGraph graph
    → IsStudyOf graph options critical study → IsStudyOf graph (without_tests options) critical other
    → (stage : Stage) × (take 1 study.stages ≡ stage ∷ []) × (other ≡ alone (untested stage))
untested_is one graph options critical study other limits is is_other =
    let (stage, first, of) = first_of graph options critical study is in
    (stage, first, one graph (without_tests options) critical other (alone (untested stage)) limits is_other (is_alone graph (without_tests options) critical (untested stage) refl (is_untested graph options critical stage of)))

pub untested_stages : OneStudyLaw → UntestedLaw
untested_stages one graph options critical study other limits is is_other =
    let (stage, first, only) = untested_is one graph options critical study other limits is is_other in
    ap (λ (s : Study). s.stages) only ∙ sym (ap (map untested) first)

-- ---- rows
abbrev is_other : OutputRow → Bool
is_other row = not (is_of_a_test row.kind)

kept_with : {A B : Type 0} (row : ℕ → A → B → OutputRow) → ((i : ℕ) (x : A) (y : B) → is_other (row i x y) ≡ true) → (i : ℕ) (xs : List A) (ys : List B)
    → other_rows (rows_with row i xs ys) ≡ rows_with row i xs ys
kept_with row kept i [] ys = refl
kept_with row kept i (x ∷ xs) [] = refl
kept_with row kept i (x ∷ xs) (y ∷ ys) = rw (kept i x y) (ap (λ (rows : List OutputRow). row i x y ∷ rows) (kept_with row kept (i + 1) xs ys))

gone_with : {A : Type 0} (row : A → OutputRow) → ((x : A) → is_other (row x) ≡ false) → (xs : List A) → other_rows (map row xs) ≡ []
gone_with row gone [] = refl
gone_with row gone (x ∷ xs) = rw (gone x) (gone_with row gone xs)

tests_gone : (names : Names) (tests : Option Tests) → other_rows (tests_rows names tests) ≡ []
tests_gone names None = refl
tests_gone names (Some tests) =
    filter-append is_other (map _ tests.nodal) (map _ tests.measure)
    ∙ ap₂ (λ (a b : List OutputRow). a ++ b) (gone_with _ (λ x. refl) tests.nodal) (gone_with _ (λ x. refl) tests.measure)

other_block : (names : Names) (period : List ℕ) (options : Options) (round : ℕ) (stage : Stage)
    → other_rows (block_rows names period options round stage) ≡ block_rows names period options round (untested stage)
other_block names period options round stage =
    let nodes = rows_with (λ n name price. node_row name price) 0 names.nodes stage.prices in
    let streams = rows_with (result_row names) 0 stage.graph.streams stage.streams in
    let tests = tests_rows names stage.tests in
    let last = end_row period round ∷ [] in
    let of_tests : other_rows (tests ++ last) ≡ last = filter-append is_other tests last ∙ ap (λ (rows : List OutputRow). rows ++ last) (tests_gone names stage.tests) in
    let of_streams : other_rows (streams ++ (solved_row stage ∷ (tests ++ last))) ≡ streams ++ (solved_row stage ∷ last) =
    filter-append is_other streams (solved_row stage ∷ (tests ++ last))
    ∙ ap₂ (λ (a b : List OutputRow). a ++ (solved_row stage ∷ b)) (kept_with (result_row names) (λ i x y. refl) 0 stage.graph.streams stage.streams) of_tests in
    ap (λ (rows : List OutputRow). report_row period round stage.graph options ∷ rows)
    (filter-append is_other nodes (streams ++ (solved_row stage ∷ (tests ++ last)))
    ∙ ap₂ (λ (a b : List OutputRow). a ++ b) (kept_with (λ n name price. node_row name price) (λ i x y. refl) 0 names.nodes stage.prices) of_streams)

alone_rows : (names : Names) (period : List ℕ) (options : Options) (stage : Stage) → study_rows names period options (alone stage) ≡ block_rows names period options 0 stage
alone_rows names period options stage = append-nil (block_rows names period options 0 stage ++ []) ∙ append-nil (block_rows names period options 0 stage)

pub other_rows_same : OneStudyLaw → OtherRowsLaw
other_rows_same one graph options critical names period study other limits is is_other_study =
    let plain = without_elimination options in
    let (stage, first, of) = first_of graph plain critical study is in
    let only = one graph plain critical study (alone stage) limits is (is_alone graph plain critical stage refl of) in
    let only_other = one graph (without_tests options) critical other (alone (untested stage)) limits is_other_study
    (is_alone graph (without_tests options) critical (untested stage) refl (is_untested graph plain critical stage of)) in
    ap (λ (s : Study). other_rows (study_rows names period plain s)) only
    ∙ ap other_rows (alone_rows names period plain stage)
    ∙ other_block names period plain 0 stage
    ∙ sym (alone_rows names period (without_tests options) (untested stage))
    ∙ ap (study_rows names period (without_tests options)) (sym only_other)
