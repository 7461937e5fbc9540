use Rattle.std.proofs.Common.{length}
use Rattle.pb_graph.specs.Walk.{ends_of}
use Rattle.pb_graph.specs.Path.{is_open}
use Rattle.pb_graph.specs.Search.{place_of}
use Rattle.pb_graph.proofs.FoundLemmas.{Climbs}
use Rattle.pb_graph.proofs.search.Tree.climb.Given as goal

-- the steps so far lead here, from nodes that were found later
abbrev pub invariant-loop-at : goal.invariant-loop-at
invariant-loop-at l = Climbs (ends_of (is_open l.marks) l.streams) (length l.self.place) l.streams l.self l.from l.steps l.at

abbrev pub decreases-loop-at : goal.decreases-loop-at
decreases-loop-at l = place_of l.self l.at
