use Rattle.std.proofs.Common.{◌≡◌, ◌<◌, length, drop}
use Rattle.pb_graph.specs.Walk.{ends_of}
use Rattle.pb_graph.specs.Path.{is_open}
use Rattle.pb_graph.specs.Search.{IsTree, place_of, visited}
use Rattle.pb_graph.proofs.search.Tree.visit.Given as goal

-- the streams left are still to be followed from the tree so far
abbrev pub invariant-loop-stream_id : goal.invariant-loop-stream_id
invariant-loop-stream_id l = record {
  so_far : visited l.streams l.marks l.node (drop l.stream_id-index l.list) l.self ≡ visited l.streams l.marks l.node l.list l.fn.self;
  tree : IsTree (ends_of (is_open l.marks) l.streams) (length l.fn.self.place) l.self;
  found : 0 < place_of l.self l.node;
}
