use Rattle.std.proofs.Common.{◌≡◌, ◌++◌, length, drop, false, None}
use Rattle.std.specs.Prelude.{map, All}
use Rattle.pb_graph.specs.declared.records.Stream.{Stream}
use Rattle.pb_site.specs.Site.{arcs_of, node_names}
use Rattle.pb_book.specs.Rows.{declared_of, facts_of}
use Rattle.pb_facts.specs.Facts.{live_facts}
use Rattle.pb_period.specs.Measurement.{measured}
use Rattle.pb_period.specs.PeriodGraph.{is_over, stream_with}
use Rattle.pb_period.proofs.graph.measured_graph.Given as goal

abbrev pub invariant-loop-j : goal.invariant-loop-j
invariant-loop-j l =
    let measure = measured (declared_of l.book) (live_facts (facts_of l.book)) l.days None in
    record {
      nodes : l.graph.nodes ≡ length (node_names (declared_of l.book));
      counted : length l.graph.streams ≡ l.j;
      so_far : map (stream_with measure) (arcs_of (declared_of l.book)) ≡ l.graph.streams ++ map (stream_with measure) (drop l.j (arcs_of (declared_of l.book)));
      within : All (λ (stream : Stream). is_over stream ≡ false) l.graph.streams;
    }
