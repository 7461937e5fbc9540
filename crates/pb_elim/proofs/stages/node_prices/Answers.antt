use Rattle.std.proofs.Common.{◌≡◌, ◌∙◌, ◌≤◌, ℤ, pos, List, [], ◌∷◌, ◌++◌, All, length, FitsSigned, sym, ap, subst, inl, inr, arith, rules}
use Rattle.std.specs.Int.{w128}
use Rattle.std.proofs.lemmas.Bool.{cases_lt}
use Rattle.std.proofs.lemmas.Int.{to_z-of_z}
use Rattle.std.proofs.lemmas.List.{length_push}
use Rattle.std.proofs.lemmas.List.Elements.{All-push}
use Rattle.std.proofs.Math.ListN.{get_or-eq_default}
use Rattle.pb_fixed.specs.Sums.{item}
use Rattle.pb_graph.specs.WellFormed.{IsPrice}
use Rattle.pb_gap.specs.State.{price_in}
use Rattle.pb_elim.proofs.StageLemmas.{price_more}
use Rattle.pb_elim.proofs.stages.node_prices.Goals as goal

-- one more node has its price
pub loop-node-preserved : goal.loop-node-preserved
loop-node-preserved c =
    let fits : FitsSigned w128 c.price.result = search rules in
    let price = price_in c.args.solver.now in
    let so_far = c.loop-node.invariant in
    let before = c.loop-node.prices in
    let put : c.push.new.self ≡ before ++ c.price.result ∷ [] = simp to_z-of_z at c.in_ok-push.ensures.ok in
    let more = price_more price before c.price.result c.loop-node.node so_far.each so_far.value c.price.ensures.value in
    let each = All-push IsPrice before c.price.result so_far.within c.price.ensures.within in
    record {
      each = omega (arith, ap length put, length_push before c.price.result, so_far.each);
      value = λ n lt. ap (λ (xs : List ℤ). item xs n) put ∙ more n lt;
      within = subst (λ (xs : List ℤ). All IsPrice xs) (sym put) each;
      outside = λ some n past. c.price.ensures.outside n (omega (arith, past, c.requires.nodes));
    }

-- each node has its price, and past the last one there is 0
pub returns-clause-value : goal.returns-clause-value
returns-clause-value c = λ n.
    let so_far = c.loop-node.invariant in
    let all : c.args.nodes ≤ c.loop-node.node = c.loop-node-test.false in
    elim (cases_lt n c.loop-node.node) [
      | inl before ↦ so_far.value n before
      | inr past ↦
          get_or-eq_default c.loop-node.prices (pos 0) (omega (arith, past, so_far.each))
          ∙ sym (so_far.outside (omega (arith, all, c.requires.some)) n (omega (arith, past, all)))
    ]
