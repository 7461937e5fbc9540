use Rattle.std.proofs.Common.{ℕ, ◌<◌}
use Rattle.pb_check.specs.Asked.{HasClassAt}
use Rattle.pb_check.specs.Places.{AtStream}
use Rattle.pb_check.proofs.classes.class_fault.Given as goal

-- the streams so far have their classes
abbrev pub invariant-loop-j : goal.invariant-loop-j
invariant-loop-j l = (k : ℕ) → k < l.j → AtStream l.stage (HasClassAt l.stage) k
