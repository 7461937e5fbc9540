use Rattle.std.proofs.Common.{◌≡◌, ◌+ℤ◌, ◌-ℤ◌, pos, neg_ℤ, set, FitsSigned, arith}
use mir.Syntax.{w128}
use Rattle.std.proofs.lemmas.Int.{ints}
use Rattle.std.proofs.Math.Facts.{to_z-of_z}
use Rattle.pb_fixed.specs.Sums.{item}
use Rattle.pb_check.proofs.NetLemmas.{bring_both}
use Rattle.pb_check.proofs.balance.bring.Goals as goal

pub returns-clause-value : goal.returns-clause-value
returns-clause-value c =
    let stream = c.args.stream.now in
    let flow = c.args.flow in
    let fits : FitsSigned w128 flow = c.ranges.flow in
    let fits_back : FitsSigned w128 (pos 0 -ℤ flow) = omega (arith, ints, c.requires.flow) in
    let once : c.add.new.nets ≡ set c.args.nets.now stream.to (item c.args.nets.now stream.to +ℤ flow) = simp to_z-of_z at c.add.ensures in
    let twice : c.add-2.new.nets ≡ set c.add.new.nets stream.from (item c.add.new.nets stream.from +ℤ (pos 0 -ℤ flow)) = simp to_z-of_z at c.add-2.ensures in
    let turn : pos 0 -ℤ flow ≡ neg_ℤ flow = omega (arith, ints) in
    bring_both stream flow (pos 0 -ℤ flow) c.args.nets.now c.add.new.nets c.add-2.new.nets c.requires.ends turn once twice
