-- Statement. A plant as a directed graph, and its limits.
use Rattle.std.specs.Prelude.{◌≢◌, ℕ, zero, suc, ◌<◌, ◌≤◌, pos, ◌≤ℤ◌, unsigned_abs, Bool, List, [], ◌∷◌, length, All, None, IfSome, is_some, ◌==◌, if◌then◌else◌}
use Rattle.pb_limits.specs.Limits.{most_nodes, most_streams, most_value, most_variance}
use Rattle.pb_graph.specs.declared.records.Meas.{Meas}
use Rattle.pb_graph.specs.declared.records.Stream.{Stream}

-- A plant as a directed graph: units and tanks are nodes, streams are arcs, and node 0 is the environment, which closes the
-- graph (Mah, Stanley and Downing 1976).
pub record ProcessGraph : Type 0 where
  pub nodes : ℕ
  pub streams : List Stream

-- a stream leads from one node to another
pub record IsStream (nodes : ℕ) (stream : Stream) : Type 0 where
  pub from : stream.from < nodes
  pub to : stream.to < nodes
  pub apart : stream.from ≢ stream.to

-- a measurement within the limits of its value, in grams either way, and of its variance, in squared grams
pub record IsMeasurement (meas : Meas) : Type 0 where
  pub value : unsigned_abs meas.value ≤ most_value
  pub least : pos 1 ≤ℤ meas.variance
  pub greatest : meas.variance ≤ℤ pos most_variance

-- the measurement of a stream, if it has one, is within the limits
abbrev pub IsWithinLimits : Stream → Type 0
IsWithinLimits stream = IfSome stream.meas IsMeasurement

-- the limits of a process graph
pub record IsProcessGraph (graph : ProcessGraph) : Type 0 where
  pub env : 1 ≤ graph.nodes
  pub few_nodes : graph.nodes ≤ most_nodes
  pub few_streams : length graph.streams ≤ most_streams
  pub joins : All (IsStream graph.nodes) graph.streams
  pub limits : All IsWithinLimits graph.streams

-- the graph with this stream appended is within the limits
pub record Fits (graph : ProcessGraph) (stream : Stream) : Type 0 where
  pub room : length graph.streams < most_streams
  pub joins : IsStream graph.nodes stream
  pub limits : IsWithinLimits stream

-- whether a stream has a measurement
abbrev pub is_measured : Stream → Bool
is_measured stream = is_some stream.meas

-- the streams, with the measurement of one of them removed
abbrev pub unmeasured_at : ℕ → List Stream → List Stream
unmeasured_at stream_id [] = []
unmeasured_at zero (stream ∷ streams) = record stream { meas = None } ∷ streams
unmeasured_at (suc stream_id) (stream ∷ streams) = stream ∷ unmeasured_at stream_id streams

-- the end of a stream that isn't this node
abbrev pub other_end : ℕ → Stream → ℕ
other_end node stream = if stream.to == node then stream.from else stream.to

-- a stream, for the places past the last
abbrev pub some_stream : Stream
some_stream = record { from = 0; to = 0; meas = None }
