-- The rows of a block, written one part after the other; a stage at its place.
use Rattle.std.specs.Prelude.{All, OnOk}
use Rattle.std.proofs.Common.{◌≡◌, ℕ, List, [], ◌∷◌, ◌++◌, slice_get, Some, Result, Ok, Err, subst}
use Rattle.std.proofs.lemmas.List.Elements.{All-get_or}
use Rattle.std.proofs.lemmas.Option.{slice_get_within, get_or_from_slice_get}
use Rattle.pb_rows.specs.declared.name.Names.{Names}
use Rattle.pb_study.specs.declared.results.Options.{Options}
use Rattle.pb_study.specs.declared.results.Stage.{Stage}
use Rattle.pb_report.specs.Block.{block_rows, end_row, node_row, report_row, result_row, solved_row}
use Rattle.pb_report.specs.Output.{AddsRows, OutputText}
use Rattle.pb_report.specs.Row.{OutputRow}
use Rattle.pb_report.specs.Rows.{rows_with}
use Rattle.pb_report.specs.Tests.{tests_rows}
use Rattle.pb_report.proofs.OutputLemmas.{adds_row, two_rows}

-- what holds of each item holds of the item at a place
pub holds_at : {A : Type 0} (P : A → Type 0) (xs : List A) (i : ℕ) (x : A) → All P xs → slice_get xs i ≡ Some x → P x
holds_at P xs i x all at = subst P (get_or_from_slice_get xs i x x at) (All-get_or P xs i x (slice_get_within xs i x at) all)

-- the parts of a block, one after the other, are its rows
pub block_written : {V E : Type 0} (result : Result V E) (names : Names) (period : List ℕ) (options : Options) (round : ℕ) (stage : Stage) (a b c d e f g : OutputText)
    (first solved last : OutputRow) → first ≡ report_row period round stage.graph options → AddsRows a b (first ∷ []) → AddsRows b c (rows_with (λ n name price. node_row name price) 0 names.nodes stage.prices)
    → AddsRows c d (rows_with (result_row names) 0 stage.graph.streams stage.streams) → solved ≡ solved_row stage → AddsRows d e (solved ∷ []) → AddsRows e f (tests_rows names stage.tests)
    → last ≡ end_row period round → OnOk result (AddsRows f g (last ∷ [])) → OnOk result (AddsRows a g (block_rows names period options round stage))
block_written (Err error) names period options round stage a b c d e f g first solved last is one nodes streams is_solved two tests is_last three = tt
block_written (Ok value) names period options round stage a b c d e f g first solved last is one nodes streams is_solved two tests is_last three =
    let end = end_row period round in
    let opening = report_row period round stage.graph options in
    let behind_solved = tests_rows names stage.tests ++ end ∷ [] in
    let behind_streams = solved_row stage ∷ behind_solved in
    let behind_nodes = rows_with (result_row names) 0 stage.graph.streams stage.streams ++ behind_streams in
    two_rows a b g (opening ∷ []) (rows_with (λ n name price. node_row name price) 0 names.nodes stage.prices ++ behind_nodes) (adds_row a b first opening is one)
    (two_rows b c g (rows_with (λ n name price. node_row name price) 0 names.nodes stage.prices) behind_nodes nodes
    (two_rows c d g (rows_with (result_row names) 0 stage.graph.streams stage.streams) behind_streams streams
    (two_rows d e g (solved_row stage ∷ []) behind_solved (adds_row d e solved (solved_row stage) is_solved two)
    (two_rows e f g (tests_rows names stage.tests) (end ∷ []) tests (adds_row f g last end is_last three)))))
