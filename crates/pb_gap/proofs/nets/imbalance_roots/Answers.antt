use Rattle.std.proofs.Common.{◌≡◌, ◌∙◌, ◌++◌, ℤ, pos, List, [], ◌∷◌, FitsSigned, get_or, ap, sym, subst, rules}
use mir.Syntax.{w128}
use Rattle.std.proofs.Math.Facts.{to_z-of_z}
use Rattle.pb_fixed.specs.Sums.{item}
use Rattle.pb_gap.specs.Nets.{imbalance_root}
use Rattle.pb_gap.specs.Iterate.{IsSmallRoot}
use Rattle.pb_gap.proofs.NetLemmas.{pushed}
use Rattle.pb_gap.proofs.nets.imbalance_roots.Goals as goal

pub loop-k-preserved : goal.loop-k-preserved
loop-k-preserved c =
    let k = c.loop-k.k in
    let inv = c.loop-k.invariant in
    let variances = c.args.groups.now.variance in
    let roots = c.loop-k.roots.items in
    let r : ℤ = c.imbalance_root.result in
    let fits_v : FitsSigned w128 c.variance.result = record { sfits = c.variance.type_inv } in
    let fits_r : FitsSigned w128 r = record { sfits = c.imbalance_root.type_inv } in
    let value : r ≡ imbalance_root c.variance.result = simp to_z-of_z at c.imbalance_root.ensures.value in
    let own : r ≡ imbalance_root (get_or variances k (pos 0)) = value ∙ ap imbalance_root c.variance.ensures.value in
    let is : c.push.new.self.items ≡ roots ++ r ∷ [] = search rules in
    record {
      each = search rules;
      are = λ j lt. subst (λ (xs : List ℤ). item xs j ≡ imbalance_root (get_or variances j (pos 0))) (sym is) (pushed (λ j x. x ≡ imbalance_root (get_or variances j (pos 0))) roots r k inv.each own inv.are j lt);
      small = λ j lt. subst (λ (xs : List ℤ). IsSmallRoot (item xs j)) (sym is) (pushed (λ j x. IsSmallRoot x) roots r k inv.each c.imbalance_root.ensures.small inv.small j lt);
    }
