-- Statement. What is proved of the spanning forest, law by law.
use Rattle.std.specs.Prelude.{◌≡◌, ◌<◌, ℕ, Bool, true, false, not, ◌&&◌, ◌==◌, List, Some, slice_get, get_or}
use Rattle.pb_graph.specs.declared.records.Stream.{Stream}
use Rattle.pb_graph.specs.declared.records.Step.{Step}
use Rattle.pb_graph.specs.ProcessGraph.{IsProcessGraph, ProcessGraph, is_measured}
use Rattle.pb_graph.specs.Walk.{ends_of, any_stream, unmeasured, Reaches}
use Rattle.pb_graph.specs.Path.{IsPath, is_open}
use Rattle.pb_forest.specs.Forest.{is_before, IsForest, degrees_of_freedom}

-- tests of which streams may be taken: held ones before a place; held ones without measurement; those that pass a test, except one
abbrev pub held_before : List Bool → Bool → ℕ → ℕ → Stream → Bool
held_before held measured j k stream = is_open held k stream && is_before measured j k stream

abbrev pub held_unmeasured : List Bool → ℕ → Stream → Bool
held_unmeasured held k stream = is_open held k stream && unmeasured k stream

abbrev pub except : ℕ → (ℕ → Stream → Bool) → ℕ → Stream → Bool
except j may k stream = may k stream && not (k == j)

-- The forest spans: if streams before a place join two nodes, the held ones among these streams do too; if any streams join two nodes,
-- held streams do too; and if unmeasured streams join two nodes, held unmeasured ones do too.
pub record Spans (streams : List Stream) (held : List Bool) : Type 0 where
  pub before : (measured : Bool) (j a b : ℕ) → Reaches (ends_of (is_before measured j) streams) a b → Reaches (ends_of (held_before held measured j) streams) a b
  pub whole : (a b : ℕ) → Reaches (ends_of any_stream streams) a b → Reaches (ends_of (is_open held) streams) a b
  pub bare : (a b : ℕ) → Reaches (ends_of unmeasured streams) a b → Reaches (ends_of (held_unmeasured held) streams) a b

abbrev pub SpansLaw : Type 0
SpansLaw = (streams : List Stream) (held : List Bool) → IsForest streams held → Spans streams held

-- A set of streams has no cycle: no stream has its ends joined by the others.
abbrev pub IsAcyclic : List Stream → (ℕ → Stream → Bool) → Type 0
IsAcyclic streams may = (j : ℕ) (stream : Stream) → slice_get streams j ≡ Some stream → may j stream ≡ true
    → Reaches (ends_of (except j may) streams) stream.from stream.to → ⊥

-- the forest has no cycle
abbrev pub AcyclicLaw : Type 0
AcyclicLaw = (streams : List Stream) (held : List Bool) → IsForest streams held → IsAcyclic streams (is_open held)

-- if a walk leads from one node to another, a path does too
abbrev pub SomePathLaw : Type 0
SomePathLaw = (streams : List Stream) (may : ℕ → Stream → Bool) (nodes a b : ℕ) → Reaches (ends_of may streams) a b
    → (path : List Step) × IsPath (ends_of may streams) nodes streams a path b

-- if there is no cycle, two paths from one node to another are the same
abbrev pub UniqueLaw : Type 0
UniqueLaw = (streams : List Stream) (may : ℕ → Stream → Bool) (nodes a b : ℕ) (p q : List Step) → IsAcyclic streams may
    → IsPath (ends_of may streams) nodes streams a p b → IsPath (ends_of may streams) nodes streams a q b → p ≡ q

-- a part of a set of streams
abbrev pub IsPart : List Stream → (ℕ → Stream → Bool) → (ℕ → Stream → Bool) → Type 0
IsPart streams some may = (k : ℕ) (stream : Stream) → slice_get streams k ≡ Some stream → some k stream ≡ true → may k stream ≡ true

-- if there is no cycle, a path takes only streams of any part that joins its ends
abbrev pub PartLaw : Type 0
PartLaw = (streams : List Stream) (may some : ℕ → Stream → Bool) (nodes a b : ℕ) (p : List Step) → IsAcyclic streams may → IsPart streams some may
    → IsPath (ends_of may streams) nodes streams a p b → Reaches (ends_of some streams) a b → IsPath (ends_of some streams) nodes streams a p b

-- the ends of an unmeasured stream outside the forest are joined by held unmeasured streams
abbrev pub ChordLaw : Type 0
ChordLaw = (streams : List Stream) (held : List Bool) (j : ℕ) (stream : Stream) → IsForest streams held → slice_get streams j ≡ Some stream
    → is_measured stream ≡ false → get_or held j false ≡ false → Reaches (ends_of (held_unmeasured held) streams) stream.from stream.to

-- each list of streams has a spanning forest
abbrev pub SomeForestLaw : Type 0
SomeForestLaw = (streams : List Stream) → (held : List Bool) × IsForest streams held

-- a list of streams has only one spanning forest
abbrev pub OneForestLaw : Type 0
OneForestLaw = (streams : List Stream) (held other : List Bool) → IsForest streams held → IsForest streams other → held ≡ other

-- there are fewer degrees of freedom than nodes
abbrev pub FewHeldLaw : Type 0
FewHeldLaw = (graph : ProcessGraph) (held : List Bool) → IsProcessGraph graph → IsForest graph.streams held
    → degrees_of_freedom graph.streams held < graph.nodes
