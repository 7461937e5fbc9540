use Rattle.pb_fixed.proofs.RootLaws.{root_floor_only}
use Rattle.pb_fixed.proofs.roots.root_floor.Goals as goal

pub returns-clause-value : goal.returns-clause-value
returns-clause-value c = root_floor_only c.args.n c.isqrt.result (record { below = c.isqrt.ensures.square_le; next = c.isqrt.ensures.next_square_gt })
