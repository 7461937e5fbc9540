-- Statement. What is proved of walks, of the nodes that they reach, of the parts that they make, of certificates, and of limits.
use Rattle.std.specs.Prelude.{◌≡◌, ◌↔◌, ℕ, ◌<◌, pos, Bool, true, List, Option, Some, slice_get}
use Rattle.pb_limits.specs.Limits.{most_price}
use Rattle.pb_graph.specs.declared.prices.TheConstants.{MOST_ADJUSTMENT, MOST_PRICE}
use Rattle.pb_graph.specs.declared.records.Stream.{Stream}
use Rattle.pb_graph.specs.declared.records.Step.{Step}
use Rattle.pb_graph.specs.declared.records.Classified.{Classified}
use Rattle.pb_graph.specs.ProcessGraph.{ProcessGraph, IsProcessGraph}
use Rattle.pb_graph.specs.Walk.{ends_of, Reaches, IsStricter, IsReach}
use Rattle.pb_graph.specs.Parts.{label_at, IsLabelling}
use Rattle.pb_graph.specs.Certificates.{IsCertified}
use Rattle.pb_graph.specs.Prices.{most_adjustment}
use Rattle.pb_graph.specs.WellFormed.{IsWitnessWithin}

-- reaching is reflexive, symmetric and transitive, and each stream that may be taken joins its ends
pub record IsEquivalence : Type 0 where
  pub itself : (streams : List Stream) (may : ℕ → Stream → Bool) (a : ℕ) → Reaches (ends_of may streams) a a
  pub back : (streams : List Stream) (may : ℕ → Stream → Bool) (a b : ℕ) → Reaches (ends_of may streams) a b → Reaches (ends_of may streams) b a
  pub further :
      (streams : List Stream) (may : ℕ → Stream → Bool) (a b c : ℕ)
      → Reaches (ends_of may streams) a b → Reaches (ends_of may streams) b c → Reaches (ends_of may streams) a c
  pub along_one :
      (streams : List Stream) (may : ℕ → Stream → Bool) (k : ℕ) (stream : Stream)
      → slice_get streams k ≡ Some stream → may k stream ≡ true → Reaches (ends_of may streams) stream.from stream.to

-- a walk along fewer streams is also a walk along more
abbrev pub MoreStreamsLaw : Type 0
MoreStreamsLaw =
    (streams : List Stream) (may more : ℕ → Stream → Bool) (a b : ℕ) → IsStricter streams may more → Reaches (ends_of may streams) a b → Reaches (ends_of more streams) a b

-- no step leads out of a set of nodes
abbrev pub IsClosed : (Step → Option (ℕ × ℕ)) → (ℕ → Bool) → Type 0
IsClosed ends inside = (step : Step) (a b : ℕ) → ends step ≡ Some (a, b) → inside a ≡ true → inside b ≡ true

-- no walk leads out of a set that no step leads out of
abbrev pub ClosedSetLaw : Type 0
ClosedSetLaw = (ends : Step → Option (ℕ × ℕ)) (inside : ℕ → Bool) (a b : ℕ) → IsClosed ends inside → Reaches ends a b → inside a ≡ true → inside b ≡ true

-- whatever streams may be taken, the set of nodes that a node reaches exists
abbrev pub SomeReachLaw : Type 0
SomeReachLaw =
    (graph : ProcessGraph) (may : ℕ → Stream → Bool) (node : ℕ) → IsProcessGraph graph → node < graph.nodes
    → (side : List Bool) × IsReach (ends_of may graph.streams) graph.nodes node side

-- there is only one such set
abbrev pub OneReachLaw : Type 0
OneReachLaw = (ends : Step → Option (ℕ × ℕ)) (nodes node : ℕ) (one other : List Bool) → IsReach ends nodes node one → IsReach ends nodes node other → one ≡ other

-- two nodes have the same label exactly when one reaches the other
abbrev pub LabelsLaw : Type 0
LabelsLaw =
    (streams : List Stream) (nodes : ℕ) (may : ℕ → Stream → Bool) (labels : List ℕ) (a b : ℕ) → IsLabelling streams nodes may labels → a < nodes → b < nodes
    → ((label_at labels a ≡ label_at labels b) ↔ Reaches (ends_of may streams) a b)

-- a certificate that shows a stream's class refers only to nodes and streams of the graph
abbrev pub CertificateFormLaw : Type 0
CertificateFormLaw =
    (graph : ProcessGraph) (stream_id : ℕ) (classified : Classified) → IsCertified graph stream_id classified → IsWitnessWithin graph classified.witness

-- the constants of the code equal the numbers in the definitions
abbrev pub PriceLimitsLaw : Type 0
PriceLimitsLaw = (MOST_PRICE ≡ pos most_price) × (MOST_ADJUSTMENT ≡ pos most_adjustment)
