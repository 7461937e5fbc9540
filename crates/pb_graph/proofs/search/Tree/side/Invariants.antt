use Rattle.std.proofs.Common.{◌≡◌, not, ◌==◌, map, take}
use Rattle.pb_graph.proofs.search.Tree.side.Given as goal

-- the nodes so far
abbrev pub invariant-loop-p : goal.invariant-loop-p
invariant-loop-p l = l.side ≡ map (λ p. not (p == 0)) (take l.p-index l.self.place)
