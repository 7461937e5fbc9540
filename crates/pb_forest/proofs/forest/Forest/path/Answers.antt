use Rattle.std.proofs.Common.{◌∙◌, sym, subst}
use Rattle.pb_graph.specs.Walk.{Reaches}
use Rattle.pb_forest.specs.Forest.{SpanningForest, held_ends}
use Rattle.pb_forest.proofs.ClimbLemmas.{joined_level}
use Rattle.pb_forest.proofs.forest.Forest.path.Goals as goal

-- what held streams join is in one tree
pub returns-then-not-are_joined-clause-path : goal.returns-then-not-are_joined-clause-path
returns-then-not-are_joined-clause-path c = λ r.
    let g = c.self.inside.graph.now in
    let held = c.self.inside.held.items in
    let walk : Reaches (held_ends (record { graph = g; held = held })) c.args.from c.args.to =
    subst (λ (f : SpanningForest). Reaches (held_ends f) c.args.from c.args.to) (sym c.self.view_is) r in
    let same = joined_level g.nodes g.streams held c.self.inside.trees c.args.from c.args.to c.self.invariant.rooted walk in
    cc (sym (c.are_joined.ensures.1 same) ∙ c.if-not-are_joined.true)
