use Rattle.std.proofs.Common.{◌≡◌, drop}
use Rattle.std.specs.List.{list_any}
use Rattle.pb_elim.specs.Rounds.{is_suspect}
use Rattle.pb_elim.proofs.elimination.has_suspect.Given as goal

abbrev pub invariant-loop-test : goal.invariant-loop-test
invariant-loop-test l = list_any is_suspect (drop l.test-index l.measures) ≡ list_any is_suspect l.measures
