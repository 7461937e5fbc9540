use Rattle.std.proofs.Common.{◌∙◌, ◌<◌, arith, length, refl, sym}
use Rattle.std.proofs.lemmas.List.{length-set}
use Rattle.plantbal_c.proofs.BlockLemmas.{all_taken, is_at, none_left, one_left, room_taken, takes_more, takes_none, takes_still}
use Rattle.plantbal_c.proofs.blocks.take_block.Goals as goal

pub turns-init : goal.turns-init
turns-init c = record {
  so_far = takes_none c.args.session.now c.args.records.now.left c.args.codes.now;
  left = refl;
  room = omega arith;
}

-- one more record is taken
pub turns-preserved : goal.turns-preserved
turns-preserved c =
    let rows = c.args.records.now.left in
    let i = c.turns.count in
    let (row, first, one) = rw c.in-Ok-Some.field-0-is at c.in-Ok-Some.ensures.ok in
    let left = c.turns.invariant.left ∙ first in
    record {
      so_far = takes_more c.args.session.now c.turns.session c.take_next.new.session rows i c.turns.codes row c.take_next.new.records.left c.in-Ok-Some.code left c.turns-test.true c.turns.invariant.so_far one;
      left = (is_at rows i row c.take_next.new.records.left left).behind;
      room = omega (arith, c.turns-test.true, length-set c.turns.codes i c.in-Ok-Some.code);
    }

-- none is left
pub returns-in-Ok-None-clause-takes : goal.returns-in-Ok-None-clause-takes
returns-in-Ok-None-clause-takes c =
    let (none, same) = rw c.in-Ok-None.field-0-is at c.in-Ok-None.ensures.ok in
    takes_still c.args.session.now c.turns.session c.take_next.new.session c.args.records.now.left c.turns.count c.turns.codes same c.turns.invariant.so_far

pub returns-in-Ok-None-clause-whole : goal.returns-in-Ok-None-clause-whole
returns-in-Ok-None-clause-whole c =
    let (none, same) = rw c.in-Ok-None.field-0-is at c.in-Ok-None.ensures.ok in
    let rows = c.args.records.now.left in
    λ _. all_taken c.turns.count _ _ c.turns.invariant.so_far.within (none_left rows c.turns.count (c.turns.invariant.left ∙ none)) (omega (arith, c.turns.invariant.room, c.turns.auto.codes))

-- the next one isn't taken
pub returns-in-Err-TooMany-clause-takes : goal.returns-in-Err-TooMany-clause-takes
returns-in-Err-TooMany-clause-takes c =
    takes_still c.args.session.now c.turns.session c.take_next.new.session c.args.records.now.left c.turns.count c.turns.codes c.in-Err-TooMany.ensures.err c.turns.invariant.so_far

pub returns-in-Err-NoMemory-clause-takes : goal.returns-in-Err-NoMemory-clause-takes
returns-in-Err-NoMemory-clause-takes c =
    takes_still c.args.session.now c.turns.session c.take_next.new.session c.args.records.now.left c.turns.count c.turns.codes c.in-Err-NoMemory.ensures.err c.turns.invariant.so_far

-- there is no room for another code
pub returns-clause-takes : goal.returns-clause-takes
returns-clause-takes c = c.turns.invariant.so_far

pub returns-clause-whole : goal.returns-clause-whole
returns-clause-whole c =
    λ _. room_taken c.turns.count _ _ c.turns.invariant.so_far.within (omega (arith, c.turns-test.false, c.turns.auto.codes)) (omega (arith, c.turns.invariant.room, c.turns.auto.codes))

-- one is left, and there is room for its code
pub returns-in-Err-TooMany-clause-fewer : goal.returns-in-Err-TooMany-clause-fewer
returns-in-Err-TooMany-clause-fewer c =
    let left : c.turns.count < length c.args.records.now.left =
    one_left c.args.records.now.left c.turns.count (λ none. c.in-Err-TooMany.ensures.left c.in-Err-TooMany.field-0-is (sym c.turns.invariant.left ∙ none)) in
    λ _. omega (arith, left, c.turns-test.true, c.turns.auto.codes)
