use Rattle.pb_classify.proofs.PointLemmas.{kept, numbers_there, are_points}
use Rattle.pb_classify.proofs.points.Points.of.Goals as goal

pub invariant_of-result : goal.invariant_of-result
invariant_of-result c =
    kept c.args.graph.now.nodes c.args.graph.now.streams c.args.forest.now.held c.in_ok-walk.walk c.in_ok-labels.labels.items c.in_ok-spans.spans.items c.in_ok-walk.ensures
    c.in_ok-labels.ensures c.in_ok-spans.ensures.spans

pub returns : goal.returns
returns c =
    are_points c.args.graph.now c.args.forest.now.held c.in_ok-walk.walk c.in_ok-spans.spans.items c.in_ok-spans.ensures.limits c.requires.forest.marks c.in_ok-walk.ensures
    c.in_ok-spans.ensures.spans

pub labels-requires : goal.labels-requires
labels-requires c = λ n d lt. numbers_there c.args.graph.now.nodes c.args.graph.now.streams c.args.forest.now.held c.in_ok-walk.walk n d c.in_ok-walk.ensures lt
