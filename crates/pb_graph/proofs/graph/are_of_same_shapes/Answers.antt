use Rattle.std.proofs.Common.{◌∙◌, sym, None}
use Rattle.pb_graph.proofs.AlikeLemmas.{shape_at}
use Rattle.pb_graph.proofs.graph.are_of_same_shapes.Goals as goal

-- a stream of another shape is found
pub returns-then-not-are_of_one_shape : goal.returns-then-not-are_of_one_shape
returns-then-not-are_of_one_shape c =
    let differ = sym c.if-not-are_of_one_shape.true in (
      (λ t. cc t),
      (λ same. cc (differ ∙ c.are_of_one_shape.ensures.1
          (shape_at c.args.ones.now c.args.others.now c.loop-j.j (record { from = 0; to = 0; meas = None }) same))),
    )
