use Rattle.std.proofs.Common.{◌≡◌, ◌∙◌, List, ap, sym, subst}
use Rattle.pb_graph.specs.declared.records.Stream.{Stream}
use Rattle.pb_graph.specs.ProcessGraph.{ProcessGraph, IsProcessGraph, unmeasured_at}
use Rattle.pb_graph.proofs.UnmeasureLemmas.{unmeasured_graph}
use Rattle.pb_graph.proofs.graph.Graph.unmeasure.Goals as goal

-- the graph without one measurement is within the limits
pub invariant_of-result : goal.invariant_of-result
invariant_of-result c =
    let g : ProcessGraph = record { nodes = c.self.inside.nodes; streams = c.self.inside.streams.items } in
    let is : c.in_ok-unmeasured.field-0.items ≡ unmeasured_at c.args.stream_id g.streams = c.in_ok-unmeasured.ensures ∙ ap (unmeasured_at c.args.stream_id) c.deref.ensures.value in
    subst (λ (l : List Stream). IsProcessGraph (record { nodes = g.nodes; streams = l })) (sym is) (unmeasured_graph g c.args.stream_id c.self.invariant)
