use Rattle.std.proofs.Common.{◌≡◌, ◌++◌, length}
use Rattle.std.specs.Vec.Iter.{into_iter_items, into_iter_len}
use Rattle.pb_elim.specs.Results.{AreResultsOf}
use Rattle.pb_elim.proofs.stages.stream_results.Given as goal

-- the streams so far have their results
abbrev pub invariant-loop-classified : goal.invariant-loop-classified
invariant-loop-classified l = record {
  whole : l.yielded ++ into_iter_items l.classified-iterator ≡ into_iter_items l.initial.classified-iterator;
  remaining : into_iter_len l.classified-iterator ≡ length (into_iter_items l.classified-iterator);
  so_far : AreResultsOf l.solver l.yielded l.results;
}
