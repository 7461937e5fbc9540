use Rattle.std.proofs.Common.{◌≡◌, ◌∙◌, is_some, sym, ap, arith}
use Rattle.pb_stage.specs.Certified.{found_least}
use Rattle.pb_check.specs.Places.{DifferAt}
use Rattle.pb_check.proofs.FirstLemmas.{place_more}
use Rattle.pb_check.proofs.RowLemmas.{none_there, some_there}
use Rattle.pb_check.proofs.StateLemmas.{all_least, have_by, least_fail, least_here, none_by, result_least_bounded, result_signs}
use Rattle.pb_check.proofs.least.least_fault.Goals as goal
use Rattle.pb_check.specs.Places.{AtStream}

-- no stream has least bounds
pub returns-then-not-have_least : goal.returns-then-not-have_least
returns-then-not-have_least c = none_by c.args.stage.now c.as_slice.result.now c.have_least.result c.as_slice.ensures c.have_least.ensures c.if-not-have_least.true

pub found_least-requires-clause-signs : goal.found_least-requires-clause-signs
found_least-requires-clause-signs c = result_signs c.args.stage.now c.loop-j.j c.at-printed.result.now c.requires.formed c.at-printed.ensures

pub found_least-requires-clause-certified : goal.found_least-requires-clause-certified
found_least-requires-clause-certified c = c.requires.shown c.loop-j.j c.at-printed.result.now c.at-printed.ensures

pub bounds_difference-requires : goal.bounds_difference-requires
bounds_difference-requires c =
    let stage = c.args.stage.now in
    let have = have_by stage c.as_slice.result.now c.have_least.result c.as_slice.ensures c.have_least.ensures c.if-not-have_least.false in
    result_least_bounded stage c.loop-j.j c.at-printed.result.now have c.requires.classes c.requires.shown c.at-printed.ensures ∙ sym (ap is_some c.in_ok-found.ensures)

-- the first stream that has other least bounds
pub returns-in-Some : goal.returns-in-Some
returns-in-Some c =
    let stage = c.args.stage.now in
    let r = c.at-printed.result.now in
    let have = have_by stage c.as_slice.result.now c.have_least.result c.as_slice.ensures c.have_least.ensures c.if-not-have_least.false in
    least_fail stage c.loop-j.j r c.in_ok-found.found c.in-Some.fault have c.at-printed.ensures c.in_ok-found.ensures c.loop-j.invariant
    (some_there c.bounds_difference.result c.in-Some.fault (r.least ≡ c.in_ok-found.found) (DifferAt c.loop-j.j r.least c.in_ok-found.found) c.in-Some.is c.bounds_difference.ensures)

-- one more stream
pub loop-j-preserved : goal.loop-j-preserved
loop-j-preserved c =
    let stage = c.args.stage.now in
    let r = c.at-printed.result.now in
    let same = none_there c.bounds_difference.result (r.least ≡ c.in_ok-found.found) (DifferAt c.loop-j.j r.least c.in_ok-found.found) c.in_default.not-Some c.bounds_difference.ensures in
    place_more (AtStream stage (λ j r. r.least ≡ found_least stage j r)) c.loop-j.j c.loop-j.invariant (least_here stage c.loop-j.j r c.in_ok-found.found c.at-printed.ensures c.in_ok-found.ensures same)

pub returns : goal.returns
returns c = all_least c.args.stage.now c.loop-j.j (omega (arith, c.loop-j-test.false, c.len-j-end.ensures.value, c.requires.formed.each_stream)) c.loop-j.invariant
