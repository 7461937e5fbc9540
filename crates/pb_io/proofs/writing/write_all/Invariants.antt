use Rattle.std.proofs.Common.{◌≡◌, ◌≤◌, ◌-◌, length, take}
use Rattle.pb_io.specs.Counts.{counted}
use Rattle.pb_io.specs.Sink.{Puts, StopsAtFault}
use Rattle.pb_io.proofs.writing.write_all.Given as goal

-- the bytes so far were put, at least one in each turn
abbrev pub invariant-loop-done : goal.invariant-loop-done
invariant-loop-done g l = record {
  within : l.done ≤ length l.bytes;
  puts : Puts (g.W.Sink.seen l.fn.sink) (g.W.Sink.seen l.sink) (take l.done l.bytes);
  turns : (g.W.Sink.seen l.sink).calls ≤ counted (g.W.Sink.seen l.fn.sink).calls l.done;
  idle : (g.W.Sink.seen l.sink).idle ≡ (g.W.Sink.seen l.fn.sink).idle;
  faults : (g.W.Sink.seen l.sink).faults ≡ (g.W.Sink.seen l.fn.sink).faults;
  stops : StopsAtFault (g.W.Sink.seen l.fn.sink) (g.W.Sink.seen l.sink);
}

abbrev pub decreases-loop-done : goal.decreases-loop-done
decreases-loop-done g l = length l.bytes - l.done
