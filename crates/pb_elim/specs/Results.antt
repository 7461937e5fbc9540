-- Inside. What is printed for the streams of a solved graph.
use Rattle.std.specs.Prelude.{◌≡◌, ℕ, List, length, Some, slice_get, IfSome}
use Rattle.pb_graph.specs.declared.records.Classified.{Classified}
use Rattle.pb_study.specs.declared.results.StreamResult.{StreamResult}
use Rattle.pb_gap.specs.State.{State, price_in, gap_in}
use Rattle.pb_gap.specs.StreamBounds.{stream_bounds}
use Rattle.pb_gap.specs.LeastBounds.{stream_least_bounds}
use Rattle.pb_study.specs.WellFormed.{AreBoundsWithin}
use Rattle.pb_graph.specs.WellFormed.{IsFlow}

-- the result of stream j, which has a class with its certificate: the class, the flow, the bounds from the certificate, and the least
-- bounds
pub record IsResultOf (state : State) (j : ℕ) (c : Classified) (r : StreamResult) : Type 0 where
  pub classified : r.classified ≡ c
  pub flow : slice_get state.flows j ≡ Some r.flow
  pub bounds : r.bounds ≡ stream_bounds (price_in state) state.graph.streams (gap_in state) j c
  pub least :
      r.least ≡ stream_least_bounds (price_in state) state.graph.streams state.flows (gap_in state) j c
  pub narrow : IsFlow r.flow
  pub within : IfSome r.bounds AreBoundsWithin
  pub least_within : IfSome r.least AreBoundsWithin

-- one result for each stream, in order
pub record AreResultsOf (state : State) (classes : List Classified) (results : List StreamResult)
    : Type 0 where
  pub each : length results ≡ length classes
  pub right :
      (j : ℕ) (c : Classified) (r : StreamResult) → slice_get classes j ≡ Some c
      → slice_get results j ≡ Some r → IsResultOf state j c r
