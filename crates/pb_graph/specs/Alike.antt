-- Statement. Graphs that differ only in values and variances.
use Rattle.std.specs.Prelude.{◌≡◌, ℕ, Bool, List, map}
use Rattle.pb_graph.specs.declared.records.Stream.{Stream}
use Rattle.pb_graph.specs.ProcessGraph.{ProcessGraph, is_measured}

-- a stream's ends, and whether it is measured: what its class depends on
pub record StreamShape : Type 0 where
  pub from : ℕ
  pub to : ℕ
  pub measured : Bool

-- the shape of a stream
abbrev pub shape_of : Stream → StreamShape
shape_of stream = record { from = stream.from; to = stream.to; measured = is_measured stream }

-- the shapes of streams, in order
abbrev pub shapes_of : List Stream → List StreamShape
shapes_of streams = map shape_of streams

-- Two graphs are alike if they have the same number of nodes and of streams, and the streams at each place have the same ends and are
-- both measured or both unmeasured.
pub record AreAlike (one other : ProcessGraph) : Type 0 where
  pub nodes : one.nodes ≡ other.nodes
  pub streams : shapes_of one.streams ≡ shapes_of other.streams
