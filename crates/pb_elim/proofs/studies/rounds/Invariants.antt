use Rattle.std.proofs.Common.{◌≡◌, None, length}
use Rattle.pb_elim.specs.Rounds.{AreRoundsOf}
use Rattle.pb_elim.proofs.studies.rounds.Given as goal

-- the rounds so far, one stream a round
abbrev pub invariant-loop-count : goal.invariant-loop-count
invariant-loop-count l = record {
  so_far : AreRoundsOf l.graph l.options l.critical (record { stages = l.stages; taken = l.taken; stop = None });
  count : length l.taken ≡ l.count;
}
