use Rattle.std.proofs.Common.{◌≡◌, ℕ, ◌<◌, [], length, get_or, take}
use Rattle.pb_dual.specs.Border.{border_of}
use Rattle.pb_dual.proofs.border.add_all.Given as goal

-- each group has its border of the streams so far
abbrev pub invariant-loop-j : goal.invariant-loop-j
invariant-loop-j l = (k : ℕ) → k < length l.initial.borders → get_or l.borders k [] ≡ border_of l.group k (take l.j l.streams)
