-- Lists of streams of the same shapes, place by place.
use Rattle.std.proofs.Common.{◌≡◌, ℕ, List, get_or, ap, sym, ◌∙◌}
use Rattle.std.proofs.Math.ListN.{get_or-map}
use Rattle.pb_graph.specs.declared.records.Stream.{Stream}
use Rattle.pb_graph.specs.Alike.{shape_of, shapes_of}

-- the streams at a place have the same shape
pub shape_at : (ones others : List Stream) (j : ℕ) (none : Stream) → shapes_of ones ≡ shapes_of others
    → shape_of (get_or ones j none) ≡ shape_of (get_or others j none)
shape_at ones others j none same =
    sym (get_or-map shape_of ones j none) ∙ ap (λ shapes. get_or shapes j (shape_of none)) same ∙ get_or-map shape_of others j none
