-- Statement. What the tests ask of a stage, and of each of its nodes and streams.
use Rattle.std.specs.Prelude.{◌≡◌, ◌⊎◌, ◌↔◌, ◌≤◌, ◌&&◌, ℕ, ℤ, pos, Option, Some, None, is_some, IsSome, slice_get}
use Rattle.pb_graph.specs.declared.records.Stream.{Stream}
use Rattle.pb_graph.specs.declared.records.Class.TheVariants.{Unobservable, Redundant, Nonredundant}
use Rattle.pb_study.specs.declared.results.StreamResult.{StreamResult}
use Rattle.pb_study.specs.declared.results.Solved.{Solved}
use Rattle.pb_study.specs.declared.results.Solved.TheVariants.{Converged, Unconverged}
use Rattle.pb_study.specs.declared.results.Tests.{Tests}
use Rattle.pb_study.specs.declared.results.Stage.{Stage}
use Rattle.pb_graph.specs.ProcessGraph.{ProcessGraph}
use Rattle.pb_graph.specs.Groups.{SameGroup, IsFreeGroup}
use Rattle.pb_gap.specs.declared.gap.Gap.{Gap}
use Rattle.pb_gap.specs.Gap.{MeetsGap, gap_of}
use Rattle.pb_gap.specs.Statistic.{low_of, high_of}
use Rattle.pb_stage.specs.Verdicts.{global_verdict}
use Rattle.pb_stage.specs.Printed.{printed_price, printed_flows, printed_gap, have_least}

-- ---- 1. class
-- A stream is redundant or nonredundant exactly when it is measured, has no bounds exactly when it is unobservable, and has least bounds
-- exactly when it has bounds and its stage has least bounds: this holds of the stream at a place and its result.
abbrev pub HasClassAt : Stage → ℕ → StreamResult → Type 0
HasClassAt stage j result =
    (stream : Stream) × (slice_get stage.graph.streams j ≡ Some stream)
    × (IsSome stream.meas ↔ ((result.classified.class ≡ Redundant) ⊎ (result.classified.class ≡ Nonredundant)))
    × ((result.bounds ≡ None) ↔ (result.classified.class ≡ Unobservable))
    × (is_some result.least ≡ (is_some result.bounds && have_least stage.streams))

-- ---- 4. price
-- the least node of the group of a node
pub record IsLeastOfGroup (graph : ProcessGraph) (node least : ℕ) : Type 0 where
  pub same : SameGroup graph.streams node least
  pub first : (other : ℕ) → SameGroup graph.streams node other → least ≤ other

-- a node has the price of the least node of its group, and price 0 if its group isn't free
pub record HasGroupPriceAt (stage : Stage) (node : ℕ) : Type 0 where
  pub shared : (least : ℕ) → IsLeastOfGroup stage.graph node least → printed_price stage node ≡ printed_price stage least
  pub fixed : (IsFreeGroup stage.graph node → ⊥) → printed_price stage node ≡ pos 0

-- ---- 7. gap
-- the gap of the printed flows and prices
abbrev pub found_gap : Stage → Gap
found_gap stage = gap_of (printed_price stage) stage.graph.streams (printed_flows stage)

-- ---- 8. state
-- if the gap is met: converged, in at most the sweeps that were allowed; if it isn't: unconverged, after all of them
abbrev pub IsStateAt : ℕ → ℕ → Gap → Solved → Type 0
IsStateAt gap sweeps printed (Converged k) = MeetsGap gap printed × (k ≤ sweeps)
IsStateAt gap sweeps printed (Unconverged k) = (MeetsGap gap printed → ⊥) × (k ≡ sweeps)

-- ---- 10. statistic
-- its ends by the printed flows and gap
abbrev pub found_low : Stage → ℤ
found_low stage = low_of stage.graph.streams (printed_flows stage) (printed_gap stage)

abbrev pub found_high : Stage → Option ℤ
found_high stage = high_of stage.graph.streams (printed_flows stage)

-- ---- 12. verdicts
-- the global verdict follows from the printed numbers
abbrev pub IsGlobalVerdict : Stage → Tests → Type 0
IsGlobalVerdict stage tests = tests.global.verdict ≡ global_verdict stage.low stage.high stage.dof tests.global.critical
