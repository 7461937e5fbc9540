use Rattle.std.proofs.Common.{◌≡◌, ◌∙◌, ℕ, ◌+◌, false, List, length, get_or, drop, ap, sym, subst}
use Rattle.std.specs.List.{AllByRecursion}
use Rattle.std.proofs.lemmas.Option.{slice_get_within}
use Rattle.pb_graph.specs.ProcessGraph.{IsStream, some_stream}
use Rattle.pb_graph.specs.Search.{followed, visited}
use Rattle.pb_fixed.proofs.Lists.{drop_next, all_at, all_each}
use Rattle.pb_graph.proofs.SearchLemmas.{TouchesAt, touching_all, follow_more}
use Rattle.pb_graph.proofs.search.Tree.visit.Goals as goal

-- the streams of the list touch the node
pub follow-requires-clause-stream : goal.follow-requires-clause-stream
follow-requires-clause-stream c =
    let ss = c.args.streams.now in
    let each = subst (AllByRecursion (TouchesAt ss c.args.node)) (sym c.requires.list) (touching_all c.args.node ss) in
    let touch = all_at (TouchesAt ss c.args.node) c.args.list.now c.loop-stream_id.stream_id-index 0 each c.loop-stream_id-test.true in
    slice_get_within ss (get_or c.args.list.now c.loop-stream_id.stream_id-index 0) touch.0 touch.1

pub loop-stream_id-preserved : goal.loop-stream_id-preserved
loop-stream_id-preserved c =
    let ss = c.args.streams.now in
    let marks = c.args.marks.now in
    let node = c.args.node in
    let t = c.loop-stream_id.self in
    let i = c.loop-stream_id.stream_id-index in
    let j = get_or c.args.list.now i 0 in
    let each = subst (AllByRecursion (TouchesAt ss node)) (sym c.requires.list) (touching_all node ss) in
    let touch = all_at (TouchesAt ss node) c.args.list.now i 0 each c.loop-stream_id-test.true in
    let streams = all_each (IsStream (length c.args.self.now.place)) ss c.requires.ends in
    let more = follow_more marks ss (length c.args.self.now.place) node j t streams touch c.loop-stream_id.invariant.tree c.loop-stream_id.invariant.found in
    let next : visited ss marks node (drop i c.args.list.now) t ≡ visited ss marks node (drop (i + 1) c.args.list.now) (followed node j (get_or marks j false) (get_or ss j some_stream) t) =
    ap (λ (l : List ℕ). visited ss marks node l t) (drop_next c.args.list.now i 0 c.loop-stream_id-test.true) in
    rw c.follow.ensures (record { so_far = sym next ∙ c.loop-stream_id.invariant.so_far; tree = more.0; found = more.1 })
