use Rattle.std.proofs.Common.{◌≡◌, pos, ◌+◌, ◌*◌, ◌^◌, ◌<◌, ◌≤◌, ◌-ℤ◌, ◌<ℤ◌, unsigned_abs, arith}
use Rattle.std.proofs.lemmas.Int.{ints}
use Rattle.pb_fixed.proofs.BlockLaws.{exponent_fits, exponent_least, exponent_low}
use Rattle.pb_fixed.proofs.blocks.exponent.Goals as goal

pub overflow_sub-result : goal.overflow_sub-result
overflow_sub-result c =
    let n = unsigned_abs (c.args.item -ℤ pos 1) in
    let above : pos (2 ^ 57) <ℤ c.args.item = omega (arith, ints, c.if-item.false) in
    let is : c.args.item ≡ pos (n + 1) = omega (arith, ints, above) in
    let next : n < 2 * 2 ^ c.ilog2.result = omega (arith, ints, above, c.ilog2.ensures.next_power_gt) in
    let low = exponent_low c.args.item n c.ilog2.result is above next in
    omega (arith, low)

pub returns-else-item-clause-fits : goal.returns-else-item-clause-fits
returns-else-item-clause-fits c =
    let n = unsigned_abs (c.args.item -ℤ pos 1) in
    let above : pos (2 ^ 57) <ℤ c.args.item = omega (arith, ints, c.if-item.false) in
    let is : c.args.item ≡ pos (n + 1) = omega (arith, ints, above) in
    let next : n < 2 * 2 ^ c.ilog2.result = omega (arith, ints, above, c.ilog2.ensures.next_power_gt) in
    exponent_fits c.args.item n c.ilog2.result is above next

pub returns-else-item-clause-least : goal.returns-else-item-clause-least
returns-else-item-clause-least c k fits =
    let n = unsigned_abs (c.args.item -ℤ pos 1) in
    let above : pos (2 ^ 57) <ℤ c.args.item = omega (arith, ints, c.if-item.false) in
    let is : c.args.item ≡ pos (n + 1) = omega (arith, ints, above) in
    let low : 2 ^ c.ilog2.result ≤ n = omega (arith, ints, above, c.ilog2.ensures.power_le) in
    exponent_least c.args.item n c.ilog2.result k is low fits

pub returns-else-item-clause-width : goal.returns-else-item-clause-width
returns-else-item-clause-width c = returns-else-item-clause-least c 32 c.requires.1
