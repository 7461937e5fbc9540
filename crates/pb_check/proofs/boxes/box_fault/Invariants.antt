use Rattle.std.proofs.Common.{ℕ, ◌<◌}
use Rattle.pb_check.specs.Places.{IsInBoxAt}
use Rattle.pb_check.proofs.boxes.box_fault.Given as goal

-- the measured flows so far are in the box
abbrev pub invariant-loop-place : goal.invariant-loop-place
invariant-loop-place l = (k : ℕ) → k < l.place → IsInBoxAt l.stage k
