-- The laws of the enclosure and of the statistic, at a state.
use Rattle.std.proofs.Common.{List}
use Rattle.std.specs.Prelude.{IfSome}
use Rattle.pb_graph.specs.declared.records.Member.{Member}
use Rattle.pb_graph.specs.Squares.{Fractional, IsBalancedFractional, IsNoWorse, AreSquaresAtLeast, AreSquaresAtMost, whole_flows}
use Rattle.pb_gap.specs.Bounds.{AreSigned, IsWithin, bounds_of}
use Rattle.pb_gap.specs.Statistic.{low_of, high_of}
use Rattle.pb_gap.specs.State.{State, IsState, gap_in, price_in}
use Rattle.pb_gap.specs.Laws.{IsDualPair}
use Rattle.pb_gap.proofs.Enclosure.{enclosure}
use Rattle.pb_gap.proofs.Statistic.{high, low}

dual_pair : (s : State) (x : Fractional) → IsState s → IsBalancedFractional s.graph x → IsDualPair s.graph (price_in s) x
dual_pair s x is balanced = record { limits = is.limits; fit = is.fit; balanced = balanced }

pub state_enclosed : (s : State) (x : Fractional) (members : List Member) → IsState s → IsBalancedFractional s.graph x → IsNoWorse s.graph x (whole_flows s.flows)
    → AreSigned s.graph members → IsWithin x members (bounds_of (price_in s) s.graph.streams (gap_in s) members)
state_enclosed s x members is balanced no_worse signed = enclosure s.graph (price_in s) s.flows x members (dual_pair s x is balanced) is.rounded.balanced no_worse signed

pub state_low : (s : State) (x : Fractional) → IsState s → IsBalancedFractional s.graph x
    → AreSquaresAtLeast s.graph x (low_of s.graph.streams s.flows (gap_in s))
state_low s x is balanced = low s.graph (price_in s) s.flows x (dual_pair s x is balanced) is.rounded.balanced

pub state_high : (s : State) → IsState s
    → IfSome (high_of s.graph.streams s.flows) (AreSquaresAtMost s.graph (whole_flows s.flows))
state_high s is = high s.graph s.flows is.limits
