use Rattle.std.proofs.Common.{◌≡◌, ◌∙◌, ℕ, ap, arith, take}
use Rattle.pb_rows.proofs.RowLemmas.{lent}
use Rattle.pb_rows.specs.Records.{without_trailing_empty}
use Rattle.pb_rows.proofs.row.Row.lend.Goals as goal

pub returns-clause-fields : goal.returns-clause-fields
returns-clause-fields c =
    let i : c.loop-i.i ≡ c.fewer-count.result = omega (arith, c.loop-i-test.false, c.loop-i.auto.i-end) in
    rw i at c.loop-i.invariant.so_far
    ∙ ap (λ (n : ℕ). take n c.args.self.now) c.fewer-count.ensures
    ∙ lent c.filled.result _ c.args.self.now (without_trailing_empty c.args.self.now) c.filled.ensures.within c.filled.ensures.filled
