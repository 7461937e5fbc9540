use Rattle.std.proofs.Common.{rules, ◌≡◌, ℕ, List, length, get_or, ap, subst, arith}
use Rattle.pb_graph.specs.ProcessGraph.{some_stream}
use Rattle.pb_forest.proofs.ForestLaws.{list_touches}
use Rattle.pb_classify.specs.Tables.{node_at}
use Rattle.pb_classify.proofs.StackLemmas.{IsFollowing, following_none, following_more, following_all, touching_few}
use Rattle.pb_classify.proofs.walk.Walk.follow_all.Goals as goal

pub follow-requires-clause-shallow : goal.follow-requires-clause-shallow
follow-requires-clause-shallow c =
    let entries = c.requires.walking.entries in
    let shallow = entries.shallow c.args.i (omega (arith, c.requires.last)) in
    omega (arith, shallow, entries.room, c.requires.last, c.requires.limits.few_nodes)

pub follow-requires-clause-stream : goal.follow-requires-clause-stream
follow-requires-clause-stream c =
    (list_touches (node_at c.args.self.now c.args.i) c.args.graph.now.streams c.args.list.now c.loop-j.j-index c.requires.list c.loop-j-test.true).0

pub follow-requires-clause-touch : goal.follow-requires-clause-touch
follow-requires-clause-touch c =
    (list_touches (node_at c.args.self.now c.args.i) c.args.graph.now.streams c.args.list.now c.loop-j.j-index c.requires.list c.loop-j-test.true).1

-- no stream was followed yet
pub loop-j-init : goal.loop-j-init
loop-j-init c =
    following_none c.args.graph.now.nodes c.args.graph.now.streams c.args.forest.now.held c.args.self.now c.args.i c.args.list.now c.args.stack.now.items c.requires.walking c.requires.deepest

-- one more stream
pub loop-j-preserved : goal.loop-j-preserved
loop-j-preserved c =
    let ss = c.args.graph.now.streams in
    let w = c.args.self.now in
    let i = c.args.i in
    let list = c.args.list.now in
    let p = c.loop-j.j-index in
    let (there, touch) = list_touches (node_at w i) ss list p c.requires.list c.loop-j-test.true in
    following_more c.args.graph.now.nodes ss c.args.forest.now.held w i list (length c.args.stack.now.items) p c.loop-j.stack.items c.follow.new.stack.items
    c.requires.walking.entries c.requires.last (c.requires.limits.joins (get_or list p 0) some_stream there) there touch c.in_ok-follow.ensures c.loop-j.invariant

pub returns-clause-walking : goal.returns-clause-walking
returns-clause-walking c =
    let ss = c.args.graph.now.streams in
    let w = c.args.self.now in
    let start = length c.args.stack.now.items in
    let at_end : c.loop-j.j-index ≡ length c.args.list.now = search rules in
    following_all c.args.graph.now.nodes ss c.args.forest.now.held w c.args.i c.args.list.now start c.loop-j.stack.items c.requires.walking.entries c.requires.list
    (subst (λ (p : ℕ). IsFollowing c.args.graph.now.nodes ss c.args.forest.now.held w c.args.i c.args.list.now start p c.loop-j.stack.items) at_end c.loop-j.invariant)

pub returns-clause-few : goal.returns-clause-few
returns-clause-few c =
    let few = touching_few (node_at c.args.self.now c.args.i) c.args.graph.now.streams in
    let size = ap (λ (l : List ℕ). length l) c.requires.list in
    let at_end : c.loop-j.j-index ≡ length c.args.list.now = search rules in
    omega (arith, few, size, at_end, c.loop-j.invariant.few)
