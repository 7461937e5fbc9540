-- The rounds of a study.
use Rattle.std.specs.Prelude.{All}
use Rattle.std.proofs.Common.{◌≡◌, ◌∙◌, ℕ, ◌+◌, ◌<◌, List, ◌∷◌, ◌++◌, length, get_or, drop, slice_get, Some, [], refl, sym, ap, subst}
use Rattle.std.proofs.lemmas.Option.{slice_get_within, get_or_from_slice_get}
use Rattle.pb_fixed.proofs.Lists.{drop_next}
use Rattle.pb_rows.specs.declared.name.Names.{Names}
use Rattle.pb_study.specs.declared.results.Options.{Options}
use Rattle.pb_study.specs.declared.results.Stage.{Stage}
use Rattle.pb_study.specs.declared.results.Taken.{Taken}
use Rattle.pb_graph.specs.ProcessGraph.{ProcessGraph}
use Rattle.pb_study.specs.WellFormed.{HasShapeOf}
use Rattle.pb_report.specs.Block.{block_rows}
use Rattle.pb_report.specs.Names.{IsNamed}
use Rattle.pb_report.specs.Row.{OutputRow}
use Rattle.pb_report.specs.Output.{AddsRows, IsUnderWay, OutputText}
use Rattle.pb_report.specs.Study.{round_rows, stage_rows, taken_row}
use Rattle.pb_report.proofs.BlockLemmas.{holds_at}
use Rattle.pb_report.proofs.OutputLemmas.{more_rows, two_rows}

-- the first block is written
pub first_round : (names : Names) (period : List ℕ) (options : Options) (start now : OutputText) (taken : List Taken) (stages : List Stage) (stage : Stage)
    → slice_get stages 0 ≡ Some stage → AddsRows start now (block_rows names period options 0 stage)
    → IsUnderWay start now (stage_rows names period options taken stages) (round_rows names period options 1 taken (drop 1 stages))
first_round names period options start now taken [] stage at block = cc at
first_round names period options start now taken (first ∷ stages) stage at block =
    let same : first ≡ stage = cc at in
    let written : AddsRows start now (block_rows names period options 0 first) = subst (λ (s : Stage). AddsRows start now (block_rows names period options 0 s)) (sym same) block in
    more_rows start start now (stage_rows names period options taken (first ∷ stages)) (block_rows names period options 0 first) (round_rows names period options 1 taken stages)
    (record { form = refl; text = refl }) written

-- a stage at a place has the names of the study
pub named_at : (names : Names) (graph : ProcessGraph) (stages : List Stage) (i : ℕ) (stage : Stage) → IsNamed names graph → All (HasShapeOf graph) stages → slice_get stages i ≡ Some stage
    → IsNamed names stage.graph
named_at names graph stages i stage named shapes at =
    let shape = holds_at (HasShapeOf graph) stages i stage shapes at in
    record { nodes = named.nodes ∙ sym shape.nodes; streams = named.streams ∙ sym shape.streams }

-- the rounds from place i on
rounds_more : (names : Names) (period : List ℕ) (options : Options) (taken : List Taken) (stages : List Stage) (i : ℕ) (d : Taken) (stage : Stage)
    → i < length taken → slice_get stages (i + 1) ≡ Some stage
    → round_rows names period options (i + 1) (drop i taken) (drop (i + 1) stages)
    ≡ (taken_row names period (i + 1) (get_or taken i d) ∷ block_rows names period options (i + 1) stage)
    ++ round_rows names period options (i + 1 + 1) (drop (i + 1) taken) (drop (i + 1 + 1) stages)
rounds_more names period options taken stages i d stage lt at =
    let within : i + 1 < length stages = slice_get_within stages (i + 1) stage at in
    let is_stage : get_or stages (i + 1) stage ≡ stage = get_or_from_slice_get stages (i + 1) stage stage at in
    rw (drop_next taken i d lt, drop_next stages (i + 1) stage within, is_stage) refl

-- one more round is written
pub one_round : (names : Names) (period : List ℕ) (options : Options) (start old middle new : OutputText) (rows : List OutputRow) (items taken : List Taken) (stages : List Stage) (i : ℕ) (d : Taken) (stage : Stage) (written : OutputRow)
    → items ≡ taken → i < length taken → slice_get stages (i + 1) ≡ Some stage
    → IsUnderWay start old rows (round_rows names period options (i + 1) (drop i taken) (drop (i + 1) stages))
    → written ≡ taken_row names period (i + 1) (get_or items i d) → AddsRows old middle (written ∷ []) → AddsRows middle new (block_rows names period options (i + 1) stage)
    → IsUnderWay start new rows (round_rows names period options (i + 1 + 1) (drop (i + 1) taken) (drop (i + 1 + 1) stages))
one_round names period options start old middle new rows items taken stages i d stage written same lt at way is suspect block =
    more_rows start old new rows (taken_row names period (i + 1) (get_or taken i d) ∷ block_rows names period options (i + 1) stage)
    (round_rows names period options (i + 1 + 1) (drop (i + 1) taken) (drop (i + 1 + 1) stages))
    (rw (rounds_more names period options taken stages i d stage lt at) at way)
    (two_rows old middle new (taken_row names period (i + 1) (get_or taken i d) ∷ []) (block_rows names period options (i + 1) stage)
    (subst (λ (one : OutputRow). AddsRows old middle (one ∷ [])) (is ∙ ap (λ (zs : List Taken). taken_row names period (i + 1) (get_or zs i d)) same) suspect) block)
