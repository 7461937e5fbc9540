use Rattle.std.proofs.Common.{◌≡◌, length}
use Rattle.pb_book.specs.Edits.{edits_of}
use Rattle.pb_session.proofs.HistoryLemmas.{AreFound}
use Rattle.pb_session.proofs.history.history_of.Given as goal

-- what was found so far, and those of the remaining edits that touch the period, are its history
abbrev pub invariant-loop-e : goal.invariant-loop-e
invariant-loop-e l = record {
  so_far : AreFound l.book l.i l.edits l.e;
  end : l.e-end ≡ length (edits_of l.book);
}
