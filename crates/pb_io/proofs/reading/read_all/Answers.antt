-- The bytes taken before a refusal are the bytes that were read so far, and the bytes of the last turn.
use Rattle.std.proofs.Common.{◌++◌, take, arith, length-append}
use Rattle.std.proofs.lemmas.List.{length-take, length-take-le}
use Rattle.pb_io.proofs.TakingLemmas.{one_turn_more}
use Rattle.pb_io.proofs.reading.read_all.Goals as goal

pub returns-then-count-limit-clause-too_large : goal.returns-then-count-limit-clause-too_large
returns-then-count-limit-clause-too_large g c = λ _.
    let last = take c.in_ok-count.count c.take.new.buf in (
      c.turns.all.items ++ last,
      one_turn_more _ _ _ _ _ c.turns.invariant.takes c.turns.invariant.turns c.turns.invariant.idle c.in_ok-count.ensures.bytes c.in_ok-count.ensures.called (omega (arith, c.in_ok-count.ensures.idle)),
      omega (arith, c.in_ok-count.ensures.within, length-append c.turns.all.items last, length-take-le _ _ c.in_ok-count.ensures.within, c.take.auto.buf, length-take c.min-room.result c.turns.chunk),
    )

pub returns-in_err-extend_from_slice-clause-not_too_large : goal.returns-in_err-extend_from_slice-clause-not_too_large
returns-in_err-extend_from_slice-clause-not_too_large g c = λ _.
    let last = take c.in_ok-count.count c.take.new.buf in (
      c.turns.all.items ++ last,
      one_turn_more _ _ _ _ _ c.turns.invariant.takes c.turns.invariant.turns c.turns.invariant.idle c.in_ok-count.ensures.bytes c.in_ok-count.ensures.called (omega (arith, c.in_ok-count.ensures.idle)),
      omega (arith, c.in_ok-count.ensures.within, length-append c.turns.all.items last, length-take-le _ _ c.in_ok-count.ensures.within),
    )
