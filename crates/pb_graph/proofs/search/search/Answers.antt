use Rattle.std.proofs.Common.{◌≡◌, ℕ, length, sym, subst, arith}
use Rattle.pb_graph.specs.Walk.{ends_of}
use Rattle.pb_graph.specs.Path.{is_open}
use Rattle.pb_graph.specs.Search.{SearchTree, IsTree, begun}
use Rattle.pb_graph.proofs.SearchLemmas.{begun_tree}
use Rattle.pb_graph.proofs.search.search.Goals as goal

pub run-requires-clause-tree : goal.run-requires-clause-tree
run-requires-clause-tree c =
    let ends = ends_of (is_open c.args.marks.now) c.streams.result.now in
    let nodes = c.nodes.result in
    let first = begun_tree ends nodes c.args.root (omega (arith, c.requires.root, c.nodes.ensures.value)) in
    let is : c.in_ok-tree.tree ≡ begun nodes c.args.root = c.in_ok-tree.ensures in
    subst (λ (t : SearchTree). IsTree ends (length t.place) t) (sym is) (subst (λ (n : ℕ). IsTree ends n (begun nodes c.args.root)) (sym first.places) first)
