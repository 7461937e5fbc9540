use Rattle.std.specs.Prelude.{map}
use Rattle.std.proofs.Common.{◌≡◌, ◌≢◌, ◌∙◌, ◌<◌, ℕ, List, length, All, IfErr, Option, Result, Ok, Err, sym, ap, subst, rules}
use Rattle.std.proofs.lemmas.List.{length-map}
use Rattle.pb_graph.specs.declared.records.Meas.{Meas}
use Rattle.pb_graph.specs.ProcessGraph.{IsProcessGraph, ProcessGraph}
use Rattle.pb_plan.specs.declared.graph.WindowAssembly.{WindowAssembly}
use Rattle.pb_plan.specs.declared.graph.WindowAssembly.TheVariants.{Over}
use Rattle.pb_plan.specs.Graph.{IsFirstOutside, IsFirstStreamOutside, graph_streams, window_graph}
use Rattle.pb_period.specs.PeriodGraph.{within_limits}
use Rattle.pb_period.specs.WindowGraph.{periods_at, stream_measured, window_measured}
use Rattle.pb_period.proofs.GraphLemmas.{finished}
use Rattle.pb_period.proofs.WindowLemmas.{IsLeast, as_many_streams, none_over_of, outside_over, outside_within, streams_least}
use Rattle.pb_period.proofs.window.assemble_window.Goals as goal

-- the first stream outside the limits, which is returned
first_told : (graph : ProcessGraph) (j : ℕ) (why : WindowAssembly) (r : Result ProcessGraph WindowAssembly) → r ≡ Err why → why ≡ Over j → IfErr r (IsFirstOutside graph) → IsFirstStreamOutside graph j
first_told graph j why r is why_is told =
    let same : r ≡ Err (Over j) = cc (is, why_is) in subst (λ (x : Result ProcessGraph WindowAssembly). IfErr x (IsFirstOutside graph)) same told

pub window_graph-requires-clause-each : goal.window_graph-requires-clause-each
window_graph-requires-clause-each c =
    let window = c.args.window.now in
    let periods = periods_at c.args.book.now c.args.places.now in
    ap (λ (l : List (Option Meas)). length l) (c.deref.ensures.value ∙ c.in_ok-measured.ensures.value) ∙ length-map window.streams (stream_measured c.args.book.now periods)

pub returns-in-Ok-clause-answer : goal.returns-in-Ok-clause-answer
returns-in-Ok-clause-answer c = λ _.
    let window = c.args.window.now in
    let whole = window_graph window (window_measured c.args.book.now (periods_at c.args.book.now c.args.places.now) window) in
    let limits : IsProcessGraph c.in-Ok.graph = search rules in
    let same : c.in-Ok.graph ≡ whole = c.in-Ok.ensures.ok ∙ ap (window_graph window) (c.deref.ensures.value ∙ c.in_ok-measured.ensures.value) in
    finished whole c.in-Ok.graph (ap (λ (g : ProcessGraph). g.nodes) same) (sym (ap (λ (g : ProcessGraph). g.streams) same)) (none_over_of c.in-Ok.graph limits)

pub returns-in-Err-Over-clause-answer : goal.returns-in-Err-Over-clause-answer
returns-in-Err-Over-clause-answer c = λ _.
    let window = c.args.window.now in
    let measured = c.deref.result.now in
    let graph = window_graph window measured in
    let outside = first_told graph c.in-Err-Over.j c.in-Err-Over.field-0 c.window_graph.result c.in-Err-Over.is c.in-Err-Over.field-0-is c.window_graph.ensures.over in
    let least = streams_least window.streams measured (subst (All IsLeast) (sym c.deref.ensures.value) c.in_ok-measured.ensures.least) in
    outside_over graph c.in-Err-Over.j least outside ∙ ap (λ (l : List (Option Meas)). within_limits (window_graph window l)) (c.deref.ensures.value ∙ c.in_ok-measured.ensures.value)

pub returns-in-Err-Over-clause-over : goal.returns-in-Err-Over-clause-over
returns-in-Err-Over-clause-over c =
    let window = c.args.window.now in
    let measured = c.deref.result.now in
    let rows = c.args.book.now in
    let graph = window_graph window measured in
    let outside = first_told graph c.in-Err-Over.j c.in-Err-Over.field-0 c.window_graph.result c.in-Err-Over.is c.in-Err-Over.field-0-is c.window_graph.ensures.over in
    let f = stream_measured rows (periods_at rows c.args.places.now) in
    let many : length (graph_streams window.streams measured) ≡ length window.streams =
    ap (λ (l : List (Option Meas)). length (graph_streams window.streams l)) (c.deref.ensures.value ∙ c.in_ok-measured.ensures.value) ∙ as_many_streams f window.streams in
    subst (λ (n : ℕ). c.in-Err-Over.j < n) many (outside_within graph c.in-Err-Over.j outside)
