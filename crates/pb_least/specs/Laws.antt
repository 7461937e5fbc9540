-- Statement. Each process graph has a least vector, and least vectors differ only on unobservable streams.
use Rattle.std.specs.Prelude.{◌≡◌, ◌≢◌, ℕ, ◌*ℤ◌}
use Rattle.pb_fixed.specs.Sums.{item}
use Rattle.pb_graph.specs.declared.records.Class.{Class}
use Rattle.pb_graph.specs.declared.records.Class.TheVariants.{Unobservable}
use Rattle.pb_graph.specs.ProcessGraph.{ProcessGraph, IsProcessGraph}
use Rattle.pb_graph.specs.Classes.{IsClassOf}
use Rattle.pb_graph.specs.Squares.{Fractional, IsLeast}

-- each process graph has a least vector
abbrev pub SomeLeastLaw : Type 0
SomeLeastLaw = (graph : ProcessGraph) → IsProcessGraph graph → (x : Fractional) × IsLeast graph x

-- two vectors have the same flow of a stream, by cross products
abbrev pub HaveSameFlow : Fractional → Fractional → ℕ → Type 0
HaveSameFlow x y stream_id = item x.numerators stream_id *ℤ y.denominator ≡ item y.numerators stream_id *ℤ x.denominator

-- All least vectors of a graph have the same flow of each stream that isn't unobservable: of each measured one, and of each that the
-- measured ones determine.
abbrev pub OneLeastLaw : Type 0
OneLeastLaw = (graph : ProcessGraph) (x y : Fractional) (stream_id : ℕ) (class : Class)
    → IsProcessGraph graph → IsLeast graph x → IsLeast graph y → IsClassOf graph stream_id class → class ≢ Unobservable
    → HaveSameFlow x y stream_id

-- For an unobservable stream another least vector has another flow: some amount may circulate unseen.
abbrev pub OtherLeastLaw : Type 0
OtherLeastLaw = (graph : ProcessGraph) (x : Fractional) (stream_id : ℕ)
    → IsProcessGraph graph → IsLeast graph x → IsClassOf graph stream_id Unobservable
    → (y : Fractional) × IsLeast graph y × (HaveSameFlow x y stream_id → ⊥)
