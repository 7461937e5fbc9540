use Rattle.std.proofs.Common.{◌≡◌, ◌+ℤ◌, ℤ, pos, get_or, set, FitsSigned, ap, refl, subst, sym, arith}
use mir.Syntax.{w128}
use Rattle.std.proofs.lemmas.Int.{ints}
use Rattle.std.proofs.lemmas.List.{get_or-set_other}
use Rattle.std.proofs.Math.Facts.{to_z-of_z}
use Rattle.pb_graph.proofs.VarianceLemmas.{crossing_at}
use Rattle.pb_graph.proofs.variance.add_crossing.Goals as goal

pub returns-then-from-to : goal.returns-then-from-to
returns-then-from-to c =
    let totals = c.args.totals.now in
    let v = c.args.variance in
    let from = get_or totals c.args.from (pos 0) in
    let to = get_or totals c.args.to (pos 0) in
    let begin = from +ℤ v in
    let apart = c.if-from-to.true in
    let small_from = c.requires.room c.args.from (pos 0) c.requires.from in
    let small_to = c.requires.room c.args.to (pos 0) c.requires.to in
    let small = c.requires.variance in
    let fits_from : FitsSigned w128 from = omega (arith, ints, small_from) in
    let fits_to : FitsSigned w128 to = omega (arith, ints, small_to) in
    let fits_v : FitsSigned w128 v = c.ranges.variance in
    let fits_begin : FitsSigned w128 begin = omega (arith, ints, small_from, small) in
    let left : get_or (set totals c.args.from begin) c.args.to (pos 0) ≡ to = get_or-set_other totals c.args.from c.args.to begin (pos 0) (λ e. apart (sym e)) in
    let fits_left : FitsSigned w128 (get_or (set totals c.args.from begin) c.args.to (pos 0)) = subst (λ (z : ℤ). FitsSigned w128 z) (sym left) fits_to in
    let fits_sum : FitsSigned w128 (to +ℤ v) = omega (arith, ints, small_to, small) in
    let fits_end : FitsSigned w128 (get_or (set totals c.args.from begin) c.args.to (pos 0) +ℤ v) = subst (λ (z : ℤ). FitsSigned w128 (z +ℤ v)) (sym left) fits_sum in
    simp to_z-of_z (λ k lt. crossing_at totals c.args.from c.args.to k v begin (get_or (set totals c.args.from begin) c.args.to (pos 0) +ℤ v) apart c.requires.from c.requires.to refl (ap (λ (z : ℤ). z +ℤ v) left))
