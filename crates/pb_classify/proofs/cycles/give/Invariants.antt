use Rattle.std.proofs.Common.{◌≡◌, ℕ, ◌<◌, None, length, get_or, take}
use Rattle.pb_classify.proofs.CycleLemmas.{after_steps}
use Rattle.pb_classify.proofs.cycles.give.Given as goal

-- each stream of the steps so far has a cycle, the new one if it had none
abbrev pub invariant-loop-step : goal.invariant-loop-step
invariant-loop-step l = (j : ℕ) → j < length l.cycles → get_or l.cycles j None ≡ after_steps l.steps (take l.step-index l.steps) j (get_or l.initial.cycles j None)
