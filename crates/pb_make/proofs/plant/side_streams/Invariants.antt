use Rattle.std.proofs.Common.{◌≡◌, ◌*◌}
use Rattle.std.specs.Prelude.{map}
use Rattle.std.specs.List.{range_with_len}
use Rattle.pb_make.specs.Draws.{state_after_draws}
use Rattle.pb_make.specs.Plant.{side_at}
use Rattle.pb_make.proofs.plant.side_streams.Given as goal

-- the side streams so far
abbrev pub invariant-loop-k : goal.invariant-loop-k
invariant-loop-k l = record {
  so_far : l.sides.items ≡ map (side_at l.fn.draws.state l.units) (range_with_len 0 l._k);
  state : l.draws.state ≡ state_after_draws l.fn.draws.state (3 * l._k);
}
