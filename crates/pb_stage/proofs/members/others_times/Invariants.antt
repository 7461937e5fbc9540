use Rattle.std.proofs.Common.{◌≡◌, ◌++◌, drop}
use Rattle.pb_gap.specs.StreamBounds.{others_times}
use Rattle.pb_stage.proofs.members.others_times.Given as goal

abbrev pub invariant-loop-m : goal.invariant-loop-m
invariant-loop-m l = l.others ++ others_times l.stream l.z (drop l.m-index l.members) ≡ others_times l.stream l.z l.members
