use Rattle.std.proofs.Common.{◌≡◌, ℤ, List, length, drop}
use Rattle.pb_dual.specs.Border.{HaveFlows, AreSameElsewhere}
use Rattle.pb_dual.proofs.best.write_flows.Given as goal

-- the flows still to be written are at the streams left
abbrev pub invariant-loop-stream : goal.invariant-loop-stream
invariant-loop-stream l = record {
  each : length l.flows ≡ length l.fn.flows;
  left : (others : List ℤ) → length others ≡ length l.fn.flows → HaveFlows l.prices l.group l.border others → AreSameElsewhere l.border l.fn.flows others
      → AreSameElsewhere (drop l.stream-index l.border) l.flows others;
}
