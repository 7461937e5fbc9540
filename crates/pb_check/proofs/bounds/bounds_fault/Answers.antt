use Rattle.std.proofs.Common.{◌≡◌, ◌∙◌, is_some, sym, ap, arith}
use Rattle.pb_stage.specs.Certified.{found_bounds}
use Rattle.pb_check.specs.Places.{DifferAt}
use Rattle.pb_check.proofs.FirstLemmas.{place_more}
use Rattle.pb_check.proofs.RowLemmas.{none_there, some_there}
use Rattle.pb_check.proofs.StateLemmas.{all_bounds, bounds_fail, bounds_here, result_bounded, result_signs}
use Rattle.pb_check.proofs.bounds.bounds_fault.Goals as goal
use Rattle.pb_check.specs.Places.{AtStream}

pub found_bounds-requires-clause-signs : goal.found_bounds-requires-clause-signs
found_bounds-requires-clause-signs c = result_signs c.args.stage.now c.loop-j.j c.at-printed.result.now c.requires.formed c.at-printed.ensures

pub found_bounds-requires-clause-certified : goal.found_bounds-requires-clause-certified
found_bounds-requires-clause-certified c = c.requires.shown c.loop-j.j c.at-printed.result.now c.at-printed.ensures

pub bounds_difference-requires : goal.bounds_difference-requires
bounds_difference-requires c =
    result_bounded c.args.stage.now c.loop-j.j c.at-printed.result.now c.requires.classes c.requires.shown c.at-printed.ensures ∙ sym (ap is_some c.in_ok-found.ensures)

-- the first stream that has other bounds
pub returns-in-Some : goal.returns-in-Some
returns-in-Some c =
    let r = c.at-printed.result.now in
    bounds_fail c.args.stage.now c.loop-j.j r c.in_ok-found.found c.in-Some.fault c.at-printed.ensures c.in_ok-found.ensures c.loop-j.invariant
    (some_there c.bounds_difference.result c.in-Some.fault (r.bounds ≡ c.in_ok-found.found) (DifferAt c.loop-j.j r.bounds c.in_ok-found.found) c.in-Some.is c.bounds_difference.ensures)

-- one more stream
pub loop-j-preserved : goal.loop-j-preserved
loop-j-preserved c =
    let stage = c.args.stage.now in
    let r = c.at-printed.result.now in
    let same = none_there c.bounds_difference.result (r.bounds ≡ c.in_ok-found.found) (DifferAt c.loop-j.j r.bounds c.in_ok-found.found) c.in_default.not-Some c.bounds_difference.ensures in
    place_more (AtStream stage (λ j r. r.bounds ≡ found_bounds stage j r)) c.loop-j.j c.loop-j.invariant (bounds_here stage c.loop-j.j r c.in_ok-found.found c.at-printed.ensures c.in_ok-found.ensures same)

pub returns : goal.returns
returns c = all_bounds c.args.stage.now c.loop-j.j (omega (arith, c.loop-j-test.false, c.len-j-end.ensures.value, c.requires.formed.each_stream)) c.loop-j.invariant
