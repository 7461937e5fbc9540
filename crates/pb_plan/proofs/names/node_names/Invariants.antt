use Rattle.std.proofs.Common.{◌≡◌, ◌∷◌, ◌++◌, codes, drop, map}
use Rattle.pb_plan.specs.Codes.{node_code}
use Rattle.pb_plan.proofs.names.node_names.Given as goal

abbrev pub invariant-loop-node : goal.invariant-loop-node
invariant-loop-node l = codes "env" ∷ map node_code l.nodes ≡ l.names ++ map node_code (drop l.node-index l.nodes)
