use Rattle.std.specs.Prelude.{◌-◌, All, option_and_then, slice_index_or}
use Rattle.std.proofs.Common.{◌≡◌, ◌∙◌, ◌<◌, ℕ, List, length, slice_get, get_or, Option, Some, FitsSigned, sym, ap, subst, arith, rules}
use mir.Syntax.{w32}
use Rattle.std.proofs.lemmas.Int.{to_z-of_z}
use Rattle.pb_graph.specs.declared.records.Meas.{Meas}
use Rattle.pb_site.specs.declared.declared.Arc.{Arc}
use Rattle.pb_site.specs.Site.{arcs_of}
use Rattle.pb_book.specs.Rows.{declared_of, periods_of}
use Rattle.pb_period.specs.WindowGraph.{flow_measured, periods_at}
use Rattle.pb_period.proofs.WindowLemmas.{as_many_names, content_is, flow_is}
use Rattle.pb_period.proofs.window.stream_measured.Goals as goal

pub bounds-places-saturating_sub : goal.bounds-places-saturating_sub
bounds-places-saturating_sub c = omega (arith, as_many_names c.args.book.now c.args.places.now c.requires.places, c.requires.there.period, c.saturating_sub.ensures)

pub flow_measured-requires-clause-there : goal.flow_measured-requires-clause-there
flow_measured-requires-clause-there c =
    let lt : c.saturating_sub.result < length c.args.places.now =
    omega (arith, as_many_names c.args.book.now c.args.places.now c.requires.places, c.requires.there.period, c.saturating_sub.ensures) in
    c.requires.places c.saturating_sub.result 0 lt

pub returns-in-Flow-clause-value : goal.returns-in-Flow-clause-value
returns-in-Flow-clause-value c =
    let rows = c.args.book.now in
    let places = c.args.places.now in
    let stream = c.args.stream.now in
    let arc = c.arc-arc.result in
    let lt : stream.period - 1 < length places = omega (arith, as_many_names rows places c.requires.places, c.requires.there.period) in
    let at = rw c.site.ensures.value at c.arc-arc.ensures.value in
    let is = c.flow_measured.ensures.value ∙ ap (λ (i : ℕ). option_and_then (flow_measured rows arc) (slice_get (periods_of rows) (get_or places i 0))) c.saturating_sub.ensures in
    flow_is rows places stream arc c.flow_measured.result c.requires.places lt at c.in-Flow.is is

pub returns-in-Content-clause-value : goal.returns-in-Content-clause-value
returns-in-Content-clause-value c =
    let rows = c.args.book.now in
    let at = rw c.site.ensures.value at c.arc-arc.ensures.value in
    let fits : FitsSigned w32 c.in-Content.day = search rules in
    let is = simp to_z-of_z at c.content_measured.ensures.value in
    content_is rows (periods_at rows c.args.places.now) c.args.stream.now c.arc-arc.result c.in-Content.day c.content_measured.result at c.in-Content.is is
