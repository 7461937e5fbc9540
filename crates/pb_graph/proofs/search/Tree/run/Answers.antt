use Rattle.std.proofs.Common.{◌≡◌, ◌∙◌, ℕ, ◌<◌, List, length, get_or, ap, sym, arith, rules}
use Rattle.pb_graph.specs.ProcessGraph.{IsStream}
use Rattle.pb_graph.specs.Walk.{ends_of}
use Rattle.pb_graph.specs.Path.{is_open}
use Rattle.pb_graph.specs.Neighbours.{touching}
use Rattle.pb_graph.specs.Search.{place_of, visited}
use Rattle.pb_graph.proofs.WalkLemmas.{some_same}
use Rattle.pb_fixed.proofs.Lists.{all_each}
use Rattle.pb_graph.proofs.SearchLemmas.{visits, touching_all, closed_more, listed_within, visited_root}
use Rattle.pb_graph.proofs.search.Tree.run.Goals as goal

-- the nodes of the order are nodes of the graph
pub at-requires : goal.at-requires
at-requires c =
    let t = c.loop-done.self in
    let lt : c.loop-done.done < t.found = search rules in
    let within = listed_within (ends_of (is_open c.args.marks.now) c.args.streams.now) (length c.args.self.now.place) c.loop-done.done t c.loop-done.invariant.tree lt in
    let is = c.node_at-node.ensures in
    omega (arith, within, is, c.requires.near.each)

pub visit-requires-clause-list : goal.visit-requires-clause-list
visit-requires-clause-list c =
    let t = c.loop-done.self in
    let lt : c.loop-done.done < t.found = search rules in
    let within = listed_within (ends_of (is_open c.args.marks.now) c.args.streams.now) (length c.args.self.now.place) c.loop-done.done t c.loop-done.invariant.tree lt in
    let is = c.node_at-node.ensures in
    c.as_slice.ensures ∙ some_same (sym c.at.ensures ∙ c.requires.near.lists c.node_at-node.result (omega (arith, within, is)))

pub loop-done-preserved : goal.loop-done-preserved
loop-done-preserved c =
    let ss = c.args.streams.now in
    let marks = c.args.marks.now in
    let nodes = length c.args.self.now.place in
    let t = c.loop-done.self in
    let done = c.loop-done.done in
    let node = c.node_at-node.result in
    let tree = c.loop-done.invariant.tree in
    let lt : done < t.found = search rules in
    let is : node ≡ get_or t.order done 0 = c.node_at-node.ensures in
    let within = listed_within (ends_of (is_open marks) ss) nodes done t tree lt in
    let list : c.as_slice.result.now ≡ touching node ss = c.as_slice.ensures ∙ some_same (sym c.at.ensures ∙ c.requires.near.lists node (omega (arith, within, is))) in
    let streams = all_each (IsStream nodes) ss c.requires.ends in
    let found : 0 < place_of t node = omega (arith, tree.listed done lt, ap (place_of t) is) in
    let u = visited ss marks node (touching node ss) t in
    let v = visits marks ss nodes node (touching node ss) t streams (touching_all node ss) tree found in
    let closed = closed_more marks ss nodes done node t u tree lt (sym is) v c.loop-done.invariant.closed in
    let done_is : c.visit.new.self ≡ u = c.visit.ensures ∙ ap (λ (js : List ℕ). visited ss marks node js t) list in
    rw done_is (record { tree = v.tree; closed = closed; within = omega (arith, lt, v.grows.more); root = visited_root ss marks node (touching node ss) t ∙ c.loop-done.invariant.root })
