use Rattle.std.proofs.Common.{◌≡◌, ◌∙◌, true, get_or, arith, ap₂, sym}
use Rattle.std.specs.Prelude.{◌&&◌}
use Rattle.std.specs.Char.{is_ascii_digit}
use Rattle.std.proofs.lemmas.List.Folds.{list_all_more}
use Rattle.pb_rows.proofs.NumberLemmas.{few_digits, more_digits}
use Rattle.pb_rows.proofs.number.plain_number.Goals as goal

pub overflow_mul-value : goal.overflow_mul-value
overflow_mul-value c =
    let few = few_digits c.args.field.now c.loop-byte.byte-index c.loop-byte-test.true c.requires c.loop-byte.invariant.digits in
    let value = c.loop-byte.invariant.value in
    omega (arith, few, value)

pub overflow_add-value : goal.overflow_add-value
overflow_add-value c =
    let few = few_digits c.args.field.now c.loop-byte.byte-index c.loop-byte-test.true c.requires c.loop-byte.invariant.digits in
    let value = c.loop-byte.invariant.value in
    let byte = c.type_inv.field c.loop-byte.byte-index in
    omega (arith, few, value, byte, c.from.ensures)

pub loop-byte-preserved : goal.loop-byte-preserved
loop-byte-preserved c =
    let digit : is_ascii_digit (get_or c.args.field.now c.loop-byte.byte-index 0) ≡ true = sym c.is_ascii_digit.ensures.value ∙ c.if-not-is_ascii_digit.false in
    let more = more_digits c.args.field.now c.loop-byte.byte-index c.loop-byte-test.true digit in
    record {
      digits = list_all_more is_ascii_digit c.args.field.now c.loop-byte.byte-index 0 c.loop-byte-test.true ∙ ap₂ ◌&&◌ c.loop-byte.invariant.digits digit;
      value = omega (arith, c.from.ensures, c.loop-byte.invariant.value, more);
    }
