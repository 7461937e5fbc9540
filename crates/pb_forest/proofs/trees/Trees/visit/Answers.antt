use Rattle.std.proofs.Common.{rules, ◌≡◌, ◌∙◌, ℕ, length, get_or, ap, subst}
use Rattle.pb_graph.specs.Neighbours.{touches}
use Rattle.pb_graph.specs.ProcessGraph.{some_stream}
use Rattle.pb_forest.specs.Trees.{node_at}
use Rattle.pb_forest.proofs.TreeLemmas.{AreVisited, visits_more, visits_all, list_touches}
use Rattle.pb_forest.proofs.trees.Trees.visit.Goals as goal

-- the streams of the list touch the node
pub follow-requires-clause-stream : goal.follow-requires-clause-stream
follow-requires-clause-stream c = (list_touches (node_at c.args.self.now c.args.place) c.args.graph.now.streams c.args.list.now c.loop-j.j-index c.requires.list c.loop-j-test.true).0

pub follow-requires-clause-touch : goal.follow-requires-clause-touch
follow-requires-clause-touch c =
    let ss = c.args.graph.now.streams in
    let j = get_or c.args.list.now c.loop-j.j-index 0 in
    let same = c.loop-j.invariant.extends.same c.args.place c.requires.place in
    ap (λ (n : ℕ). touches n (get_or ss j some_stream)) same ∙ (list_touches (node_at c.args.self.now c.args.place) ss c.args.list.now c.loop-j.j-index c.requires.list c.loop-j-test.true).1

pub loop-j-preserved : goal.loop-j-preserved
loop-j-preserved c =
    visits_more c.args.graph.now.nodes c.args.graph.now.streams c.args.held.now c.args.place c.args.list.now c.loop-j.j-index c.args.self.now c.loop-j.self c.follow.new.self c.requires.place
    c.loop-j.invariant c.in_ok-follow.ensures

pub returns : goal.returns
returns c =
    let i = c.loop-j.j-index in
    let at_end : i ≡ length c.args.list.now = search rules in
    visits_all c.args.graph.now.nodes c.args.graph.now.streams c.args.held.now c.args.place c.args.list.now c.args.self.now c.loop-j.self c.requires.place c.requires.list
    (subst (λ (n : ℕ). AreVisited c.args.graph.now.nodes c.args.graph.now.streams c.args.held.now c.args.place c.args.list.now n c.args.self.now c.loop-j.self) at_end c.loop-j.invariant)
