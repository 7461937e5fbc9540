use Rattle.std.proofs.Common.{◌≡◌, take}
use Rattle.pb_shown.specs.Texts.{names_shown}
use Rattle.pb_shown.proofs.names.copy_names.Given as goal

-- the first names are written
abbrev pub invariant-loop-j : goal.invariant-loop-j
invariant-loop-j l = take l.j l.room ≡ names_shown (take l.j l.names)
