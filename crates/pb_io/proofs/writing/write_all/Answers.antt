use Rattle.std.proofs.Common.{◌≡◌, ◌∙◌, ◌-◌, arith, take, drop, length, length-drop}
use Rattle.std.proofs.lemmas.List.{take_all}
use Rattle.pb_io.proofs.PieceLemmas.{front_more}
use Rattle.pb_io.proofs.writing.write_all.Goals as goal

-- the piece that was put is all that comes after the bytes that were put before
pub loop-done-preserved : goal.loop-done-preserved
loop-done-preserved g c =
    let rest = drop c.loop-done.done c.args.bytes.now in
    let piece : take (length c.args.bytes.now - c.loop-done.done) rest ≡ rest = take_all _ _ (omega (arith, length-drop c.loop-done.done c.args.bytes.now)) in
    let put = rw piece at c.in_ok-done.ensures.bytes in
    record {
      within = omega (arith, rw piece at c.in_ok-done.ensures.within, length-drop c.loop-done.done c.args.bytes.now);
      puts = front_more _ _ _ c.loop-done.done c.in_ok-done.field-0 c.args.bytes.now c.loop-done.invariant.puts put;
      turns = omega (arith, c.loop-done.invariant.turns, c.in_ok-done.ensures.called, rw piece at c.in_ok-done.ensures.some, length-drop c.loop-done.done c.args.bytes.now);
      idle = omega (arith, c.loop-done.invariant.idle, c.in_ok-done.ensures.idle, rw piece at c.in_ok-done.ensures.some, length-drop c.loop-done.done c.args.bytes.now);
      faults = c.in_ok-done.ensures.no_fault ∙ c.loop-done.invariant.faults;
      stops = λ none. omega (arith, c.loop-done.invariant.stops none, c.loop-done.invariant.faults, c.in_ok-done.ensures.after_fault);
    }
