use Rattle.std.proofs.Common.{ℕ, ◌<◌}
use Rattle.std.specs.Prelude.{◌≡◌}
use Rattle.pb_stage.specs.Certified.{found_bounds}
use Rattle.pb_check.proofs.bounds.bounds_fault.Given as goal
use Rattle.pb_check.specs.Places.{AtStream}

-- the streams so far have their bounds
abbrev pub invariant-loop-j : goal.invariant-loop-j
invariant-loop-j l = (k : ℕ) → k < l.j → AtStream l.stage (λ j r. r.bounds ≡ found_bounds l.stage j r) k
