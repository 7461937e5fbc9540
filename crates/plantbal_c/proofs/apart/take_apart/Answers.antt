use Rattle.std.proofs.Common.{◌+◌, ◌<◌, ℕ, arith, drop, length, refl, subst, sym}
use Rattle.std.specs.Prelude.{slice_index_or}
use Rattle.plantbal_c.specs.Fields.{ends_of_record, fields_between, last_end, records_between}
use Rattle.plantbal_c.proofs.BlockLemmas.{takes_more}
use Rattle.plantbal_c.proofs.RecordLemmas.{AreLeft, next_left, one_taken}
use Rattle.plantbal_c.proofs.apart.take_apart.Goals as goal

-- one more record is taken
pub turns-preserved : goal.turns-preserved
turns-preserved c =
    let (one, end) = rw c.in-Ok-Some.field-0-is at c.in-Ok-Some.ensures.ok in
    let bytes = c.args.text.now in
    let ends = c.args.ends.now in
    let counts = c.args.counts.now in
    let i = c.turns.count in
    let from = c.turns.from in
    let first = c.turns.first in
    let next = slice_index_or counts i 0 in
    let here : i < length counts = omega (arith, c.turns-test.true, c.min-room.ensures) in
    let room : i < length c.turns.codes = omega (arith, c.turns-test.true, c.min-room.ensures, c.turns.auto.codes) in
    let last = last_end from (ends_of_record ends first next) in
    let row = fields_between bytes from (ends_of_record ends first next) in
    let rest = records_between bytes ends last next (drop (i + 1) counts) in
    let left = next_left bytes ends counts i from first next here refl c.turns.invariant.left in
    record {
      so_far = takes_more c.args.session.now c.turns.session c.take_between.new.session (records_between bytes ends 0 0 counts) i c.turns.codes row rest
          c.in-Ok-Some.answered.code left room c.turns.invariant.so_far one;
      left = subst (λ (e : ℕ). AreLeft bytes ends counts (i + 1) e next) (sym end) (one_taken bytes ends counts i from first next here refl c.turns.invariant.left);
      within = omega (arith, c.turns-test.true);
    }
