use Rattle.std.proofs.Common.{◌≡◌, drop}
use Rattle.pb_gap.specs.StreamBounds.{sign_in}
use Rattle.pb_stage.proofs.members.sign_in.Given as goal

abbrev pub invariant-loop-m : goal.invariant-loop-m
invariant-loop-m l = sign_in l.stream (drop l.m-index l.members) ≡ sign_in l.stream l.members
