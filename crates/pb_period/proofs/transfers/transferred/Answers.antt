use Rattle.std.proofs.Common.{◌∙◌, ◌≤◌, FitsSigned, length, sym, ap, arith}
use mir.Syntax.{w32}
use Rattle.std.proofs.lemmas.Int.{ints, to_z-of_z}
use Rattle.pb_period.specs.Facts.{total_of}
use Rattle.pb_period.proofs.TransferLemmas.{all_transferred, place_more, to_the_end}
use Rattle.pb_period.proofs.transfers.transferred.Goals as goal

pub loop-place-preserved : goal.loop-place-preserved
loop-place-preserved c = record {
  so_far = rw c.with_live-total.ensures.value
      (sym (place_more c.args.days c.args.stream.now c.args.facts.now c.transfers_within-places.result.now c.loop-place.place-index 0 c.loop-place.total c.loop-place-test.true)
      ∙ c.loop-place.invariant.so_far);
  within = c.with_live-total.ensures.within c.loop-place.place-index c.loop-place.invariant.within;
}

pub returns-clause-value : goal.returns-clause-value
returns-clause-value c =
    let first : FitsSigned w32 c.args.days.first = omega (arith, ints, c.requires.begins.0, c.requires.begins.1) in
    let last : FitsSigned w32 c.args.days.last = omega (arith, ints, c.requires.ends.0, c.requires.ends.1) in
    let holds = simp to_z-of_z at c.transfers_within-places.ensures.transfers in
    let places = c.transfers_within-places.result.now in
    let past : length places ≤ c.loop-place.place-index = omega (arith, c.loop-place-test.false) in
    sym (to_the_end c.args.days c.args.stream.now c.args.facts.now places c.loop-place.place-index c.loop-place.total past)
    ∙ c.loop-place.invariant.so_far
    ∙ ap total_of (all_transferred c.args.days c.args.stream.now c.args.facts.now places holds)
