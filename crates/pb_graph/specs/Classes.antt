-- Statement. The class of a stream, according to what the measured flows determine.
use Rattle.std.specs.Prelude.{◌≡◌, ◌≢◌, ℕ, ℤ, List, Some, None, slice_get, IsSome}
use Rattle.pb_fixed.specs.Sums.{item}
use Rattle.pb_graph.specs.declared.records.Stream.{Stream}
use Rattle.pb_graph.specs.declared.records.Class.{Class}
use Rattle.pb_graph.specs.declared.records.Class.TheVariants.{Observable, Unobservable, Redundant, Nonredundant}
use Rattle.pb_graph.specs.ProcessGraph.{ProcessGraph}
use Rattle.pb_graph.specs.Balance.{IsBalanced}

-- two flow vectors agree on every measured stream other than this one
abbrev pub AgreeBut : ProcessGraph → ℕ → List ℤ → List ℤ → Type 0
AgreeBut graph but xs ys =
    (k : ℕ) (stream : Stream) → slice_get graph.streams k ≡ Some stream → k ≢ but → IsSome stream.meas → item xs k ≡ item ys k

-- The balances and the other measured flows determine the flow of a stream: any two balanced vectors that agree on the other
-- measured streams agree on it.
abbrev pub IsDetermined : ProcessGraph → ℕ → Type 0
IsDetermined graph stream_id = (xs ys : List ℤ) → IsBalanced graph xs → IsBalanced graph ys → AgreeBut graph stream_id xs ys → item xs stream_id ≡ item ys stream_id

-- two balanced vectors that agree on the other measured streams, and not on this one
pub record TellsApart (graph : ProcessGraph) (stream_id : ℕ) (xs ys : List ℤ) : Type 0 where
  pub one : IsBalanced graph xs
  pub other : IsBalanced graph ys
  pub agree : AgreeBut graph stream_id xs ys
  pub differ : item xs stream_id ≢ item ys stream_id

-- the balances and the other measured flows leave the flow of a stream free
abbrev pub IsFree : ProcessGraph → ℕ → Type 0
IsFree graph stream_id = (xs : List ℤ) × (ys : List ℤ) × TellsApart graph stream_id xs ys

-- The class of a stream by its meaning (Narasimhan and Jordache, chapter 3): an unmeasured stream is observable if the measured
-- flows determine it, and a measured one is redundant if the other measured flows do.
abbrev pub IsClass : ProcessGraph → ℕ → Stream → Class → Type 0
IsClass graph stream_id stream Observable = (stream.meas ≡ None) × IsDetermined graph stream_id
IsClass graph stream_id stream Unobservable = (stream.meas ≡ None) × IsFree graph stream_id
IsClass graph stream_id stream Redundant = IsSome stream.meas × IsDetermined graph stream_id
IsClass graph stream_id stream Nonredundant = IsSome stream.meas × IsFree graph stream_id

-- the class of the stream at a place
abbrev pub IsClassOf : ProcessGraph → ℕ → Class → Type 0
IsClassOf graph stream_id class = (stream : Stream) × (slice_get graph.streams stream_id ≡ Some stream) × IsClass graph stream_id stream class
