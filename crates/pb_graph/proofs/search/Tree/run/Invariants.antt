use Rattle.std.proofs.Common.{◌≡◌, ◌-◌, ◌≤◌, length}
use Rattle.pb_graph.specs.Walk.{ends_of}
use Rattle.pb_graph.specs.Path.{is_open}
use Rattle.pb_graph.specs.Search.{IsTree, IsClosedTo}
use Rattle.pb_graph.proofs.search.Tree.run.Given as goal

-- the first nodes of the order are done
abbrev pub invariant-loop-done : goal.invariant-loop-done
invariant-loop-done l = record {
  tree : IsTree (ends_of (is_open l.marks) l.streams) (length l.fn.self.place) l.self;
  closed : IsClosedTo (ends_of (is_open l.marks) l.streams) l.self l.done;
  within : l.done ≤ l.self.found;
  root : l.self.root ≡ l.fn.self.root;
}

abbrev pub decreases-loop-done : goal.decreases-loop-done
decreases-loop-done l = length l.fn.self.place - l.done
