-- Statement. The parts that streams make of the nodes of a graph, each named by its least node.
use Rattle.std.specs.Prelude.{◌≡◌, ◌≢◌, ℕ, ◌<◌, ◌≤◌, Bool, true, false, List, length, Some, slice_get, get_or}
use Rattle.pb_graph.specs.declared.records.Stream.{Stream}
use Rattle.pb_graph.specs.Walk.{ends_of, Reaches, IsStricter}

-- the label of a node
abbrev pub label_at : List ℕ → ℕ → ℕ
label_at labels node = get_or labels node 0

-- The label of each node is the least node that it reaches along streams that may be taken.
pub record IsLabelling (streams : List Stream) (nodes : ℕ) (may : ℕ → Stream → Bool) (labels : List ℕ) : Type 0 where
  pub each : length labels ≡ nodes
  pub reached : (n : ℕ) → n < nodes → Reaches (ends_of may streams) n (label_at labels n)
  pub least : (n m : ℕ) → n < nodes → Reaches (ends_of may streams) n m → label_at labels n ≤ m

-- no stream of the list may be taken
abbrev pub TakesNone : List Stream → (ℕ → Stream → Bool) → Type 0
TakesNone streams may = (k : ℕ) (stream : Stream) → slice_get streams k ≡ Some stream → may k stream ≡ false

-- this stream of the list may be taken, in addition to those that could be taken before
pub record IsOneMore (streams : List Stream) (may more : ℕ → Stream → Bool) (stream_id : ℕ) (stream : Stream) : Type 0 where
  pub there : slice_get streams stream_id ≡ Some stream
  pub here : more stream_id stream ≡ true
  pub before : IsStricter streams may more
  pub only : (k : ℕ) (s : Stream) → slice_get streams k ≡ Some s → k ≢ stream_id → more k s ≡ true → may k s ≡ true
