use Rattle.std.proofs.Common.{◌≡◌, ◌*◌, ◌≤◌, unsigned_abs, take}
use Rattle.pb_dual.specs.DualValue.{most_dual_flow}
use Rattle.pb_dual.specs.Border.{border_flow}
use Rattle.pb_dual.proofs.best.net_flow.Given as goal

abbrev pub invariant-loop-stream : goal.invariant-loop-stream
invariant-loop-stream l = record {
  so_far : l.total ≡ border_flow l.flows (take l.stream-index l.border);
  small : unsigned_abs l.total ≤ l.stream-index * most_dual_flow;
}
