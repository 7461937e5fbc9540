use Rattle.std.proofs.Common.{◌≡◌, length}
use Rattle.pb_classify.specs.Tables.{points_of}
use Rattle.pb_classify.specs.CutLists.{AreCutsBefore}
use Rattle.pb_classify.proofs.cuts.add_all.Given as goal

-- the lists have the members among the streams so far
abbrev pub invariant-loop-j : goal.invariant-loop-j
invariant-loop-j l = record {
  each : length l.lists ≡ (points_of l.points).nodes;
  so_far : AreCutsBefore (points_of l.points) l.graph.streams l.j l.lists;
}
