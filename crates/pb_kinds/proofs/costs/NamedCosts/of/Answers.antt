use Rattle.std.proofs.Common.{◌∙◌, ◌/◌, ℕ, length, drop, ap, arith}
use Rattle.pb_rows.specs.Records.{without_trailing_empty}
use Rattle.pb_kinds.specs.There.{pairs_read}
use Rattle.pb_kinds.proofs.CostLemmas.{advise_read, after_word}
use Rattle.pb_kinds.proofs.costs.NamedCosts.of.Goals as goal

pub skip-pairs-requires : goal.skip-pairs-requires
skip-pairs-requires c =
    let some = (advise_read c.requires.version c.args.row.now c.requires.asks).0 in
    omega (arith, some, ap length c.filled.ensures)

pub invariant_of-result : goal.invariant_of-result
invariant_of-result c =
    let tail = (advise_read c.requires.version c.args.row.now c.requires.asks).1 in
    record {
      values = tail.0;
      read = ap pairs_read (c.skip-pairs.ensures ∙ ap (drop 1) c.filled.ensures) ∙ after_word (without_trailing_empty c.args.row.now) ∙ tail.1;
      half = ap (λ (n : ℕ). n / 2) c.len-len.ensures;
      few = omega (arith, c.len-len.ensures, c.len-len.type_inv);
    }
