use Rattle.std.proofs.Common.{◌≡◌, ◌≤◌, ◌++◌, length, drop, false}
use Rattle.std.specs.Prelude.{filter, map, All}
use Rattle.pb_graph.specs.declared.records.Stream.{Stream}
use Rattle.pb_site.specs.declared.declared.Version.TheVariants.{Two}
use Rattle.pb_site.specs.OnDays.{is_arc_in_service, nodes_on}
use Rattle.pb_site.specs.Site.{arcs_of}
use Rattle.pb_book.specs.Rows.{declared_of, facts_of}
use Rattle.pb_facts.specs.Facts.{live_facts}
use Rattle.pb_period.specs.PeriodGraph.{graph_in, is_over, stream_among, measured_in}
use Rattle.pb_period.proofs.graph.served_graph.Given as goal

abbrev pub invariant-loop-j : goal.invariant-loop-j
invariant-loop-j l =
    let declared = declared_of l.book in
    let places = nodes_on Two declared l.days.first l.days.last in
    let left = filter (is_arc_in_service l.days.first l.days.last) (drop l.j (arcs_of declared)) in
    record {
      nodes : l.graph.nodes ≡ length places;
      counted : length l.graph.streams ≤ l.j;
      so_far : (graph_in Two l.book l.days).streams ≡ l.graph.streams ++ map (stream_among places (measured_in Two declared (live_facts (facts_of l.book)) l.days)) left;
      within : All (λ (stream : Stream). is_over stream ≡ false) l.graph.streams;
    }
