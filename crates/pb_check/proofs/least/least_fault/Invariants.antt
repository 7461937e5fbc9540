use Rattle.std.proofs.Common.{ℕ, ◌<◌}
use Rattle.std.specs.Prelude.{◌≡◌}
use Rattle.pb_stage.specs.Certified.{found_least}
use Rattle.pb_check.proofs.least.least_fault.Given as goal
use Rattle.pb_check.specs.Places.{AtStream}

-- the streams so far have their least bounds
abbrev pub invariant-loop-j : goal.invariant-loop-j
invariant-loop-j l = (k : ℕ) → k < l.j → AtStream l.stage (λ j r. r.least ≡ found_least l.stage j r) k
