use Rattle.std.specs.Prelude.{option_map}
use Rattle.std.proofs.Common.{◌≡◌, ◌∙◌, ℕ, List, None, Option, Some, slice_get, sym, ap}
use Rattle.pb_graph.specs.declared.records.Meas.{Meas}
use Rattle.pb_graph.specs.declared.records.Stream.{Stream}
use Rattle.pb_site.specs.declared.declared.Arc.{Arc}
use Rattle.pb_site.specs.declared.declared.Declared.{Declared}
use Rattle.pb_site.specs.Site.{arcs_of}
use Rattle.pb_facts.specs.declared.fact.Fact.{Fact}
use Rattle.pb_facts.specs.Facts.{live_facts}
use Rattle.pb_book.specs.Rows.{declared_of, facts_of}
use Rattle.pb_period.specs.declared.days.Days.{Days}
use Rattle.pb_period.specs.Measurement.{measured}
use Rattle.pb_period.specs.PeriodGraph.{stream_with}
use Rattle.pb_period.proofs.graph.measured_stream.Goals as goal

-- the stream of the arc at a place, with what is measured of it
stream_at : (declared : List Declared) (facts : List Fact) (days : Days) (j : ℕ) (arc : Arc) (meas : Option Meas) (stream : Stream) → slice_get (arcs_of declared) j ≡ Some arc
    → stream ≡ record { from = arc.from; to = arc.to; meas = meas } → meas ≡ measured declared facts days None arc
    → Some stream ≡ option_map (stream_with (measured declared facts days None)) (slice_get (arcs_of declared) j)
stream_at declared facts days j arc meas stream at is measured_is =
    ap (λ (s : Stream). Some s) (is ∙ ap (λ (m : Option Meas). let s : Stream = record { from = arc.from; to = arc.to; meas = m } in s) measured_is)
    ∙ sym (ap (option_map (stream_with (measured declared facts days None))) at)

pub returns-clause-value : goal.returns-clause-value
returns-clause-value c =
    let declared = declared_of c.args.book.now in
    let facts = live_facts (facts_of c.args.book.now) in
    let at = rw c.site.ensures.value at c.arc-arc.ensures.value in
    stream_at declared facts c.args.days c.args.j c.arc-arc.result c.measured.result c.stream_of.result at c.stream_of.ensures c.measured.ensures.value
