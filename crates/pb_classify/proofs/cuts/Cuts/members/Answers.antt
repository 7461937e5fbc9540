use Rattle.std.proofs.Common.{◌∙◌, slice_get, sym, ap}
use Rattle.pb_graph.proofs.WalkLemmas.{some_same}
use Rattle.pb_classify.specs.Points.{NodePoints}
use Rattle.pb_classify.specs.Tables.{points_of}
use Rattle.pb_classify.proofs.SideLemmas.{stream_in, measured_tree}
use Rattle.pb_classify.proofs.cuts.Cuts.members.Goals as goal

-- the side of a measured stream is the tree of its `from` end
pub returns : goal.returns
returns c = λ side is.
    let g = c.args.graph.now in
    let points : NodePoints = points_of c.args.points.now in
    let s = c.stream.result in
    let there = stream_in g c.args.j s c.requires.points.limits c.stream.ensures in
    let tree = measured_tree g points c.args.j s side c.requires.points c.stream.ensures (c.requires.measured s c.stream.ensures) is in
    some_same (sym c.list.ensures ∙ ap (slice_get c.args.self.now) c.label.ensures.value ∙ c.requires.cuts.boundary s.from side there.from tree)
