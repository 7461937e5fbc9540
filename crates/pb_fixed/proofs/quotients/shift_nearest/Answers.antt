use Rattle.std.proofs.Common.{◌≡◌, ◌∙◌, ℤ, pos, ◌-◌, ◌*◌, ◌^◌, ◌%◌, ◌≤◌, ◌+ℤ◌, unsigned_abs, subst, sym, to_z, FitsSigned, arith}
use mir.Syntax.{w128}
use Rattle.std.specs.Int.{int_shr}
use Rattle.std.proofs.lemmas.Int.{ints, to_z-of_z}
use Rattle.std.proofs.lemmas.Nat.{pow_pos}
use Rattle.pb_fixed.specs.Quotients.{IsNearest, nearest_div}
use Rattle.pb_fixed.proofs.BlockLaws.{pow_mono}
use Rattle.pb_fixed.proofs.QuotientLaws.{nearest_is, nearest_power, nearest_size, shift_floor}
use Rattle.pb_fixed.proofs.quotients.shift_nearest.Goals as goal

pub overflow_add-result : goal.overflow_add-result
overflow_add-result c =
    let fits_n : FitsSigned w128 c.args.n = c.ranges.n in
    let small = pow_mono (c.args.bits - 1) 124 (omega (arith, c.requires.bits)) in
    let half : to_z w128 ((1 * 2 ^ (c.args.bits - 1)) % 2 ^ 128) ≡ pos (2 ^ (c.args.bits - 1)) = omega (arith, ints, small) in
    rw half (simp to_z-of_z (omega (arith, ints, small, c.requires.dividend)))

pub returns-clause-value : goal.returns-clause-value
returns-clause-value c =
    let n = c.args.n in
    let k = c.args.bits - 1 in
    let fits_n : FitsSigned w128 n = c.ranges.n in
    let small = pow_mono k 124 (omega (arith, c.requires.bits)) in
    let half : to_z w128 ((1 * 2 ^ k) % 2 ^ 128) ≡ pos (2 ^ k) = omega (arith, ints, small) in
    let fits_sum : FitsSigned w128 (n +ℤ pos (2 ^ k)) = omega (arith, ints, small, c.requires.dividend) in
    let power = pow_pos c.args.bits in
    let size = nearest_size n (pos (2 ^ c.args.bits)) (omega (arith, ints, power)) in
    let fits_quotient : FitsSigned w128 (nearest_div n (pos (2 ^ c.args.bits))) = omega (arith, ints, size, c.requires.dividend) in
    let is : int_shr (n +ℤ pos (2 ^ k)) c.args.bits ≡ nearest_div n (pos (2 ^ c.args.bits)) = shift_floor (n +ℤ pos (2 ^ k)) c.args.bits ∙ sym (nearest_power n c.args.bits c.requires.some) in
    rw half (simp (to_z-of_z, is))

pub returns-clause-nearest : goal.returns-clause-nearest
returns-clause-nearest c = subst (λ (q : ℤ). IsNearest c.args.n (pos (2 ^ c.args.bits)) q) (sym (returns-clause-value c)) (nearest_is c.args.n (pos (2 ^ c.args.bits)) (let power = pow_pos c.args.bits in omega (arith, ints, power)))

pub returns-clause-size : goal.returns-clause-size
returns-clause-size c = subst (λ (q : ℤ). unsigned_abs q ≤ unsigned_abs c.args.n) (sym (returns-clause-value c)) (nearest_size c.args.n (pos (2 ^ c.args.bits)) (let power = pow_pos c.args.bits in omega (arith, ints, power)))
