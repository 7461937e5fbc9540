use Rattle.std.proofs.Common.{◌≡◌, ◌∙◌, ◌+◌, ℤ, pos, ◌-ℤ◌, false, FitsSigned, to_z, get_or, drop, ap, sym, rules, arith}
use mir.Syntax.{w128}
use Rattle.std.specs.Int.{int_max}
use Rattle.std.proofs.lemmas.Int.{ints}
use Rattle.std.proofs.Math.Facts.{to_z-of_z}
use Rattle.pb_dual.specs.declared.border.BorderStream.{BorderStream}
use Rattle.pb_dual.specs.Border.{border_low}
use Rattle.pb_dual.proofs.BorderLemmas.{low_more}
use Rattle.pb_dual.proofs.best.lowest.Goals as goal

abbrev some_border_stream : BorderStream
some_border_stream = record { stream = 0; other = 0; enters = false; value = pos 0; variance = pos 0; room = pos 0 }

-- one more stream is considered
pub loop-stream-preserved : goal.loop-stream-preserved
loop-stream-preserved c =
    let border = c.args.border.now in
    let prices = c.args.prices.now in
    let i = c.loop-stream.stream-index in
    let stream = get_or border i some_border_stream in
    let price = get_or prices stream.other (pos 0) in
    let limits = c.requires.border.each i some_border_stream c.loop-stream-test.true in
    let small = c.requires.small stream.other (pos 0) limits.group in
    let lo = to_z w128 c.loop-stream.lo-bits in
    let fits_price : FitsSigned w128 price = omega (arith, ints, small) in
    let fits_room : FitsSigned w128 stream.room = omega (arith, ints, limits.space) in
    let is : c.raised-lo.result ≡ int_max lo (price -ℤ stream.room) = simp to_z-of_z at c.raised-lo.ensures in
    let fits : FitsSigned w128 c.raised-lo.result = search rules in
    simp to_z-of_z (ap (λ (x : ℤ). border_low prices x (drop (i + 1) border)) is ∙ sym (low_more prices lo border i some_border_stream c.loop-stream-test.true) ∙ c.loop-stream.invariant)
