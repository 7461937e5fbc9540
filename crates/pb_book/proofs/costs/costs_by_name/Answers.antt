use Rattle.std.specs.Prelude.{IfSome}
use Rattle.std.specs.HashMap.{get}
use Rattle.std.proofs.Common.{ℤ, Option, FitsSigned, arith, subst, sym}
use mir.Syntax.{w64}
use Rattle.std.proofs.lemmas.Int.{ints, to_z-of_z}
use Rattle.pb_rows.specs.Name.{same_name}
use Rattle.pb_kinds.specs.Costs.{IsMeterCost}
use Rattle.pb_book.proofs.CostLemmas.{one_named, one_within}
use Rattle.pb_book.proofs.costs.costs_by_name.Goals as goal

pub loop-i-preserved : goal.loop-i-preserved
loop-i-preserved c =
    let one = c.at-one.result in
    let within = c.at-one.ensures.within in
    let fits : FitsSigned w64 one.cost = omega (arith, ints, within.0, within.1) in
    let updates = rw (to_z-of_z w64 one.cost fits) at c.in_ok-insert.ensures.updates.0 in
    record {
      value = λ name. one_named c.args.named.now c.loop-i.i one name (get same_name c.loop-i.costs name) (get same_name c.insert.new.self name) c.at-one.ensures.value (c.loop-i.invariant.value name) (updates name);
      within = λ name. subst (λ (said : Option ℤ). IfSome said IsMeterCost) (sym (updates name))
          (one_within (same_name one.stream name) one.cost (get same_name c.loop-i.costs name) within (c.loop-i.invariant.within name));
    }
