use Rattle.std.proofs.Common.{◌≡◌, ◌+◌, length}
use Rattle.pb_io.specs.Sink.{PutsSuch, StopsAtFault}
use Rattle.pb_cli.proofs.FindingLemmas.{Found}
use Rattle.pb_cli.proofs.checks.judge_records.Given as goal

-- what was found so far is put, row by row
abbrev pub invariant-turns : goal.invariant-turns
invariant-turns g l = record {
  so_far : PutsSuch (Found l.fn.records.left l.records l.some_wrong) (g.W.Sink.seen l.fn.sink) (g.W.Sink.seen l.sink);
  faults : (g.W.Sink.seen l.sink).faults ≡ (g.W.Sink.seen l.fn.sink).faults;
  idle : (g.W.Sink.seen l.sink).idle ≡ (g.W.Sink.seen l.fn.sink).idle;
  stops : StopsAtFault (g.W.Sink.seen l.fn.sink) (g.W.Sink.seen l.sink);
  few : l.records.taken + length l.records.left ≡ length l.fn.records.left;
}

-- each block takes at least one record
abbrev pub decreases-turns : goal.decreases-turns
decreases-turns g l = length l.records.left
