use Rattle.std.proofs.Common.{List, ℕ, length, ap, arith, refl}
use Rattle.std.proofs.lemmas.Result.{err_from_is_err_and}
use Rattle.pb_readback.specs.Drafts.{draft_of}
use Rattle.pb_readback.proofs.PartLemmas.{still_parts}
use Rattle.pb_readback.proofs.ReadingLemmas.{begins_known, begins_under_way, broke_at, broke_before, broke_ended, read_none, read_one, read_whole, same_heading, still_way}
use Rattle.pb_readback.proofs.ResultLemmas.{begins_kept, kept_whole, still_kept}
use Rattle.pb_readback.proofs.reading.block_of.Goals as goal

pub loop-records-init : goal.loop-records-init
loop-records-init c =
    rw (c.new-draft.ensures, c.new-results.ensures)
    (record {
      read = read_none (draft_of c.args.heading) c.args.records.now.left (begins_known c.args.heading);
      way = begins_under_way c.args.heading c.requires.heading;
      parts = refl;
      counted = refl;
      kept = begins_kept c.args.heading;
      same = refl;
    })

pub returns-in_err-next_row-clause-err : goal.returns-in_err-next_row-clause-err
returns-in_err-next_row-clause-err c =
    let inv = c.loop-records.invariant in
    let going = c.loop-records-test.true in
    let p = err_from_is_err_and c.from_residual.result c.from_residual.ensures.1 in
    rw (p.1, p.2)
    (broke_ended (draft_of c.args.heading) c.loop-records.draft c.args.records.now c.loop-records.records c.next_row.new.records _ inv.read (c.is_ended.ensures.going going) inv.counted
    c.in_err-next_row.ensures.err)

pub returns-in_err-add_row-clause-err : goal.returns-in_err-add_row-clause-err
returns-in_err-add_row-clause-err c =
    let inv = c.loop-records.invariant in
    let going = c.loop-records-test.true in
    let taken = c.in_ok-next_row.ensures.ok in
    let long = ap (λ (rows : List (List (List ℕ))). length rows) taken.0 in
    let one = taken.1 in
    let count = inv.counted in
    let number = c.taken.ensures in
    let p = err_from_is_err_and c.from_residual-in_err-add_row.result c.from_residual-in_err-add_row.ensures.1 in
    rw (p.1, p.2)
    (broke_at (draft_of c.args.heading) c.loop-records.draft c.args.records.now c.loop-records.records c.next_row.new.records c.next_row.new.row c.taken.result _ inv.read
    (c.is_ended.ensures.going going) taken.0 number (omega (arith, long, one, count)) c.in_err-add_row.ensures.err)

pub look_up-requires-clause-way : goal.look_up-requires-clause-way
look_up-requires-clause-way c =
    still_way c.loop-records.draft c.add_row.new.draft c.next_row.new.row c.loop-records.invariant.way c.in_ok-add_row.ensures.fine c.in_ok-add_row.ensures.told

pub look_up-requires-clause-kept : goal.look_up-requires-clause-kept
look_up-requires-clause-kept c = λ other.
    still_kept c.loop-records.draft c.add_row.new.draft c.next_row.new.row c.loop-records.results c.loop-records.invariant.kept c.in_ok-add_row.ensures.told other

pub block-requires : goal.block-requires
block-requires c =
    kept_whole c.args.heading c.loop-records.draft c.args.records.now.left c.loop-records.records.left c.loop-records.results c.loop-records.invariant.read c.loop-records.invariant.way
    (c.is_ended.ensures.ended c.loop-records-test.false) c.loop-records.invariant.kept

pub returns-in_err-look_up-clause-err : goal.returns-in_err-look_up-clause-err
returns-in_err-look_up-clause-err c =
    let inv = c.loop-records.invariant in
    let taken = c.in_ok-next_row.ensures.ok in
    let long = ap (λ (rows : List (List (List ℕ))). length rows) taken.0 in
    let one = taken.1 in
    let count = inv.counted in
    let opened = c.taken-opened.ensures in
    let p = err_from_is_err_and c.from_residual-in_err-look_up.result c.from_residual-in_err-look_up.ensures.1 in
    rw (p.1, p.2)
    (broke_before (draft_of c.args.heading) c.loop-records.draft c.add_row.new.draft c.args.records.now c.loop-records.records c.next_row.new.records c.next_row.new.row _ inv.read taken.0
    c.in_ok-add_row.ensures.fine c.in_ok-add_row.ensures.told (omega (arith, long, one, count)) (rw opened at c.in_err-look_up.ensures.err))

pub loop-records-preserved : goal.loop-records-preserved
loop-records-preserved c =
    let inv = c.loop-records.invariant in
    let taken = c.in_ok-next_row.ensures.ok in
    let long = ap (λ (rows : List (List (List ℕ))). length rows) taken.0 in
    let one = taken.1 in
    let count = inv.counted in
    record {
      read = read_one (draft_of c.args.heading) c.loop-records.draft c.add_row.new.draft c.args.records.now.left c.loop-records.records.left c.next_row.new.records.left c.next_row.new.row inv.read
          taken.0 c.in_ok-add_row.ensures.fine c.in_ok-add_row.ensures.told c.in_ok-look_up.ensures.ok;
      way = still_way c.loop-records.draft c.add_row.new.draft c.next_row.new.row inv.way c.in_ok-add_row.ensures.fine c.in_ok-add_row.ensures.told;
      parts = still_parts c.loop-records.draft c.add_row.new.draft c.next_row.new.row inv.parts c.in_ok-add_row.ensures.fine c.in_ok-add_row.ensures.told;
      counted = omega (arith, long, one, count);
      kept = c.in_ok-look_up.ensures.kept;
      same = same_heading c.loop-records.draft c.add_row.new.draft c.next_row.new.row c.args.heading inv.same c.in_ok-add_row.ensures.told;
    }

pub next_row-requires : goal.next_row-requires
next_row-requires c =
    let count = c.loop-records.invariant.counted in
    let few = c.requires.few in
    record { few = omega (arith, count, few) }

pub overflow_cast-taken : goal.overflow_cast-taken
overflow_cast-taken c =
    let count = c.loop-records.invariant.counted in
    let few = c.requires.few in
    let one = c.in_ok-next_row.ensures.ok.1 in
    let number = c.taken.ensures in
    omega (arith, count, few, one, number)

pub add_row-requires : goal.add_row-requires
add_row-requires c = record { way = c.loop-records.invariant.way; parts = c.loop-records.invariant.parts }

pub returns-clause-ok : goal.returns-clause-ok
returns-clause-ok c =
    read_whole (draft_of c.args.heading) c.loop-records.draft c.args.records.now.left c.loop-records.records.left c.in_ok-block.field-0 c.loop-records.invariant.read
    (c.is_ended.ensures.ended c.loop-records-test.false) c.in_ok-block.ensures

pub returns-clause-counted : goal.returns-clause-counted
returns-clause-counted c = c.loop-records.invariant.counted
