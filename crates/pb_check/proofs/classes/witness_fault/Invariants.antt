use Rattle.std.proofs.Common.{ℕ, ◌<◌, IfSome}
use Rattle.pb_graph.specs.Certificates.{IsCertified}
use Rattle.pb_graph.specs.Cycle.{IsCycle}
use Rattle.pb_check.proofs.classes.witness_fault.Given as goal
use Rattle.pb_check.specs.Places.{AtStream}

-- the classes so far are shown, and the cycle that was shown last is one
abbrev pub invariant-loop-j : goal.invariant-loop-j
invariant-loop-j l = record {
  each : (k : ℕ) → k < l.j → AtStream l.stage (λ j r. IsCertified l.stage.graph j r.classified) k;
  known : IfSome l.known (λ cycle. IsCycle l.stage.graph cycle.now);
}
