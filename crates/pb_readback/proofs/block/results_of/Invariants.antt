use Rattle.std.proofs.Common.{◌≡◌, map, take}
use Rattle.pb_blocks.specs.Results.{result_of}
use Rattle.pb_readback.proofs.block.results_of.Given as goal

abbrev pub invariant-loop-place : goal.invariant-loop-place
invariant-loop-place l = l.results ≡ map (result_of l.streams) (take l.place l.rows)
