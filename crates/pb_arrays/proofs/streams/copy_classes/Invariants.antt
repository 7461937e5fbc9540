use Rattle.std.proofs.Common.{◌≡◌, take}
use Rattle.pb_arrays.specs.ShownStream.{class_numbers}
use Rattle.pb_arrays.proofs.streams.copy_classes.Given as goal

-- the numbers of the first classes are written
abbrev pub invariant-loop-j : goal.invariant-loop-j
invariant-loop-j l = take l.j l.room ≡ class_numbers (take l.j l.classes)
