use Rattle.std.proofs.Common.{◌≡◌, ◌++◌, drop, map}
use Rattle.std.specs.Prelude.{All}
use Rattle.pb_period.specs.WindowGraph.{periods_at, stream_measured}
use Rattle.pb_period.proofs.WindowLemmas.{IsLeast}
use Rattle.pb_period.proofs.window.window_measured.Given as goal

-- the streams so far
abbrev pub invariant-loop-stream : goal.invariant-loop-stream
invariant-loop-stream l =
    record {
      so_far : map (stream_measured l.book (periods_at l.book l.places)) l.window.streams
          ≡ l.list.items ++ map (stream_measured l.book (periods_at l.book l.places)) (drop l.stream-index l.window.streams);
      least : All IsLeast l.list.items;
    }
