use Rattle.std.proofs.Common.{rules}
use Rattle.pb_fixed.specs.Roots.{IsRootCeiling}
use Rattle.std.proofs.Common.{◌+◌}
use Rattle.pb_fixed.proofs.RootLaws.{root_ceil_only}
use Rattle.pb_fixed.proofs.roots.root_ceil.Goals as goal

pub returns-then-from-n-clause-value : goal.returns-then-from-n-clause-value
returns-then-from-n-clause-value c =
    let h : IsRootCeiling c.args.n c.root_floor-floor.result = search rules in
    root_ceil_only c.args.n c.root_floor-floor.result h

pub returns-else-from-n-clause-value : goal.returns-else-from-n-clause-value
returns-else-from-n-clause-value c =
    let h : IsRootCeiling c.args.n (c.root_floor-floor.result + 1) = search rules in
    root_ceil_only c.args.n (c.root_floor-floor.result + 1) h
