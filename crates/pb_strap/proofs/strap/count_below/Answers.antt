use Rattle.std.specs.Prelude.{int_lt}
use Rattle.std.proofs.Common.{rules, of_calls, arith}
use Rattle.std.proofs.lemmas.Int.{ints}
use Rattle.std.proofs.lemmas.Fn.{always_returns_same}
use Rattle.pb_strap.proofs.TableLemmas.{is_partitioned}
use Rattle.pb_strap.proofs.strap.count_below.Goals as goal

pub returns-clause-below : goal.returns-clause-below
returns-clause-below c k d lt =
    let point = c.partition_point.ensures.partitioned (λ p. int_lt p.mm c.args.mm) (always_returns_same _ _ _ (λ a r f h. search (rules, of_calls))) (is_partitioned c.args.points.now c.args.mm c.requires) in
    let h = point.0 k d (omega arith) lt in
    omega (arith, ints, h)

pub returns-clause-rest : goal.returns-clause-rest
returns-clause-rest c k d from lt =
    let point = c.partition_point.ensures.partitioned (λ p. int_lt p.mm c.args.mm) (always_returns_same _ _ _ (λ a r f h. search (rules, of_calls))) (is_partitioned c.args.points.now c.args.mm c.requires) in
    let h = point.1 k d from lt in
    omega (arith, ints, h)
