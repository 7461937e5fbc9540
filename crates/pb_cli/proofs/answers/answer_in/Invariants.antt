use Rattle.std.proofs.Common.{◌≡◌, drop, length}
use Rattle.pb_io.specs.Sink.{PutsSuch, StopsAtFault}
use Rattle.pb_cli.proofs.TextLemmas.{Answered}
use Rattle.pb_cli.proofs.answers.answer_in.Given as goal

-- the records so far are answered, and the text of each is put
abbrev pub invariant-turns : goal.invariant-turns
invariant-turns g l = record {
  so_far : PutsSuch (Answered l.fn.session.state l.fn.records.left l.records.taken l.session.state l.some_refused) (g.W.Sink.seen l.fn.sink) (g.W.Sink.seen l.sink);
  left : drop l.records.taken l.fn.records.left ≡ l.records.left;
  faults : (g.W.Sink.seen l.sink).faults ≡ (g.W.Sink.seen l.fn.sink).faults;
  idle : (g.W.Sink.seen l.sink).idle ≡ (g.W.Sink.seen l.fn.sink).idle;
  stops : StopsAtFault (g.W.Sink.seen l.fn.sink) (g.W.Sink.seen l.sink);
}

-- each turn takes a record
abbrev pub decreases-turns : goal.decreases-turns
decreases-turns g l = length l.records.left
