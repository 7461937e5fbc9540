-- Statement. More meters leave what is determined determined, and after the advised metering every stream is.
use Rattle.std.specs.Prelude.{◌≡◌, ◌≢◌, ℕ, ℤ, pos, List, [], ◌∷◌, IsSome, slice_get, Some}
use Rattle.pb_graph.specs.declared.records.Stream.{Stream}
use Rattle.pb_graph.specs.declared.records.Class.{Class}
use Rattle.pb_graph.specs.declared.records.Class.TheVariants.{Observable, Unobservable, Redundant, Nonredundant}
use Rattle.pb_graph.specs.ProcessGraph.{ProcessGraph, IsProcessGraph}
use Rattle.pb_graph.specs.Classes.{IsClassOf}
use Rattle.pb_advise.specs.declared.advice.Advice.{Advice}
use Rattle.pb_advise.specs.Choice.{AreCosts, metered_graph}
use Rattle.pb_advise.specs.Advice.{IsAdvice, IsCheapest}

-- a stream between the same nodes that still has a meter, if it had one
pub record KeepsMeter (before after : Stream) : Type 0 where
  pub from : after.from ≡ before.from
  pub to : after.to ≡ before.to
  pub meter : IsSome before.meas → IsSome after.meas

-- streams, of which some may have got a meter; what the meters read doesn't matter
abbrev pub KeepMeters : List Stream → List Stream → Type 0
KeepMeters [] [] = Unit {0}
KeepMeters (before ∷ streams) (after ∷ others) = KeepsMeter before after × KeepMeters streams others
KeepMeters streams others = ⊥

-- the same plant, with a meter wherever there was one, and perhaps more
pub record AddsMeters (graph more : ProcessGraph) : Type 0 where
  pub nodes : more.nodes ≡ graph.nodes
  pub streams : KeepMeters graph.streams more.streams

-- the other measured flows determine a stream of this class
abbrev pub IsDeterminedClass : Class → Type 0
IsDeterminedClass Observable = Unit {0}
IsDeterminedClass Redundant = Unit {0}
IsDeterminedClass class = ⊥

-- More meters never make a determined stream free: it stays observable, or is redundant.
abbrev pub MoreMetersLaw : Type 0
MoreMetersLaw =
    (graph more : ProcessGraph) (j : ℕ) (class other : Class) → AddsMeters graph more → IsClassOf graph j class → IsDeterminedClass class
    → IsClassOf more j other → IsDeterminedClass other

-- Once the streams of a cheapest metering have meters, whatever these read, no stream is unobservable,
abbrev pub MeteredDesignLaw : Type 0
MeteredDesignLaw =
    (graph more : ProcessGraph) (costs : List ℤ) (advice : Advice) (j : ℕ) (class : Class)
    → (cheapest : IsCheapest graph costs advice) → AddsMeters (metered_graph graph cheapest.chosen) more → IsClassOf more j class → class ≢ Unobservable

-- and a further advice, at whatever costs, costs nothing.
abbrev pub MeteredAdviceLaw : Type 0
MeteredAdviceLaw =
    (graph more : ProcessGraph) (costs other : List ℤ) (advice further : Advice)
    → (cheapest : IsCheapest graph costs advice) → AddsMeters (metered_graph graph cheapest.chosen) more → IsProcessGraph more
    → AreCosts more other → IsAdvice more other further → further.total ≡ pos 0
