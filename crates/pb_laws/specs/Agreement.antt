-- Statement. The ends that a certified stage prints are in order, and two certified stages of one graph agree within their ends.
use Rattle.std.specs.Prelude.{◌≡◌, ◌+◌, ◌^◌, ℕ, ℤ, pos, ◌-ℤ◌, ◌*ℤ◌, ◌≤ℤ◌, List, Option, IfSome, slice_get, Some}
use Rattle.pb_graph.specs.declared.records.Member.{Member}
use Rattle.pb_graph.specs.declared.records.Stream.{Stream}
use Rattle.pb_study.specs.declared.results.Bounds.{Bounds}
use Rattle.pb_study.specs.declared.results.StreamResult.{StreamResult}
use Rattle.pb_study.specs.declared.results.Stage.{Stage}
use Rattle.pb_gap.specs.Bounds.{variance_sum}
use Rattle.pb_gap.specs.declared.gap.Gap.{Gap}
use Rattle.pb_gap.specs.Gap.{gap_size}
use Rattle.pb_gap.specs.StreamBounds.{sum_for}
use Rattle.pb_stage.specs.Printed.{HasLeastBounds, printed_gap}
use Rattle.pb_stage.specs.Certified.{IsCertifiedStage}

-- the low end of the statistic of a certified stage is at most its high end, if it has one
abbrev pub StatisticOrderLaw : Type 0
StatisticOrderLaw = (stage : Stage) → IsCertifiedStage stage → IfSome stage.high (λ high. stage.low ≤ℤ high)

-- two certified stages of one graph, however different their prices and flows are
pub record AreOfOneGraph (one other : Stage) : Type 0 where
  pub first : IsCertifiedStage one
  pub second : IsCertifiedStage other
  pub graph : other.graph ≡ one.graph

-- their statistics meet: the low end of each is at most the high end of the other, if there is one
abbrev pub StatisticsMeetLaw : Type 0
StatisticsMeetLaw = (one other : Stage) → AreOfOneGraph one other → IfSome other.high (λ high. one.low ≤ℤ high)

-- each of two bounds begins where the other hasn't ended
pub record DoMeet (one other : Bounds) : Type 0 where
  pub from : one.lo ≤ℤ other.hi
  pub to : other.lo ≤ℤ one.hi

-- two bounds meet if both are there
abbrev pub MeetIfThere : Option Bounds → Option Bounds → Type 0
MeetIfThere one other = IfSome one (λ a. IfSome other (DoMeet a))

-- their results for a stream
pub record AreStreamsOf (one other : Stage) (j : ℕ) (r s : StreamResult) : Type 0 where
  pub first : slice_get one.streams j ≡ Some r
  pub second : slice_get other.streams j ≡ Some s

-- the bounds of each stream meet,
abbrev pub BoundsMeetLaw : Type 0
BoundsMeetLaw =
    (one other : Stage) (j : ℕ) (r s : StreamResult) → AreOfOneGraph one other → AreStreamsOf one other j r s → MeetIfThere r.bounds s.bounds

-- and so do its least bounds, if both stages have them
abbrev pub LeastBoundsMeetLaw : Type 0
LeastBoundsMeetLaw =
    (one other : Stage) (j : ℕ) (r s : StreamResult) → AreOfOneGraph one other → AreStreamsOf one other j r s
    → HasLeastBounds one → HasLeastBounds other → MeetIfThere r.least s.least

-- two sums of the flows of these measured streams are at most two gaps apart, one added to the other, in standard deviations of the sum
abbrev pub AreGapsApart : List Stream → List Member → Gap → Gap → ℤ → ℤ → Type 0
AreGapsApart streams members gap other a b =
    (((a -ℤ b) *ℤ (a -ℤ b)) *ℤ pos (2 ^ 40))
    ≤ℤ (variance_sum streams members *ℤ (pos (gap_size gap + gap_size other) *ℤ pos (gap_size gap + gap_size other)))

-- The flow of a measured stream is its own, and that of an observable stream is a sum of measured ones. The two stages print flows of it
-- that are at most the sum of their gaps apart, in standard deviations of that sum.
abbrev pub FlowsMeetLaw : Type 0
FlowsMeetLaw =
    (one other : Stage) (j : ℕ) (r s : StreamResult) → AreOfOneGraph one other → AreStreamsOf one other j r s
    → IfSome (sum_for j r.classified.class r.classified.witness)
    (λ members. AreGapsApart one.graph.streams members (printed_gap one) (printed_gap other) r.flow s.flow)
