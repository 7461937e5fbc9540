use Rattle.std.proofs.Common.{◌≡◌, ◌++◌, length, drop}
use Rattle.std.specs.Prelude.{map}
use Rattle.pb_site.specs.Site.{arcs_of, node_names}
use Rattle.pb_book.specs.Rows.{declared_of}
use Rattle.pb_period.specs.PeriodGraph.{base_of, stream_with}
use Rattle.pb_period.proofs.graph.design.Given as goal

abbrev pub invariant-loop-j : goal.invariant-loop-j
invariant-loop-j l =
    record {
      nodes : l.graph.nodes ≡ length (node_names (declared_of l.book));
      counted : length l.graph.streams ≡ l.j;
      so_far : map (stream_with base_of) (arcs_of (declared_of l.book)) ≡ l.graph.streams ++ map (stream_with base_of) (drop l.j (arcs_of (declared_of l.book)));
    }
