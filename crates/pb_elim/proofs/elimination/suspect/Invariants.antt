use Rattle.std.proofs.Common.{◌≡◌, None, drop}
use Rattle.pb_elim.specs.Rounds.{worst_from}
use Rattle.pb_elim.proofs.elimination.suspect.Given as goal

abbrev pub invariant-loop-test : goal.invariant-loop-test
invariant-loop-test l = worst_from l.worst (drop l.test-index l.measures) ≡ worst_from None l.measures
