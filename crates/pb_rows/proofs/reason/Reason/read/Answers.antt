use Rattle.std.proofs.Common.{◌≡◌, true, rules}
use Rattle.pb_rows.proofs.NameLemmas.{reason_fits, padded_copy}
use Rattle.pb_rows.specs.Reason.{is_reason, most_reason}
use Rattle.pb_rows.proofs.reason.Reason.read.Goals as goal

pub invariant_of-result : goal.invariant_of-result
invariant_of-result c =
    let named : is_reason c.args.field.now ≡ true = search rules in
    padded_copy is_reason most_reason c.copy_from_slice.new.self c.args.field.now c.copy_from_slice.ensures.after named (reason_fits c.args.field.now named)
