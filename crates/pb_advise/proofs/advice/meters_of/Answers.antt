use Rattle.std.proofs.Common.{rules, ◌<◌, length, arith}
use Rattle.pb_advise.proofs.PrecedesLemmas.{chosen_tied}
use Rattle.pb_advise.proofs.MeterLemmas.{no_meters, meters_more, meters_stay}
use Rattle.pb_advise.proofs.advice.meters_of.Goals.{in-Some+in_ok-push, in_default}
use Rattle.pb_advise.proofs.advice.meters_of.Goals as goal

pub loop-j-init : goal.loop-j-init
loop-j-init c = rw c.new.ensures (no_meters c.args.graph.now c.args.costs.now c.args.chosen.now)

pub cycle_of-requires-clause-joined : goal.cycle_of-requires-clause-joined
cycle_of-requires-clause-joined c = λ j s at on. chosen_tied c.args.graph.now c.args.costs.now c.args.chosen.now j s c.requires.advised at on

pub loop-j-preserved : goal.loop-j-preserved
loop-j-preserved c =
    let g = c.args.graph.now in
    let costs = c.args.costs.now in
    let chosen = c.args.chosen.now in
    let j = c.loop-j.j in
    let size = c.requires.advised.choice.each in
    let lt : j < length chosen = let a = c.loop-j-test.true in let b = c.len-j-end.ensures.value in omega (arith, a, b, size) in
    elim c.match-branch-2.branch [
      | in-Some+in_ok-push w ↦
          let cycle = rw w.in-Some.is at c.in_ok-steps.ensures in
          rw w.advice-is (meters_more g costs chosen j c.loop-j.advice _ w.in-Some.steps _ _ lt size c.requires.costs cycle.0 cycle.1 w.in_ok-push.ensures.ok (search rules) (search rules) c.loop-j.invariant)
      | in_default w ↦
          let out = rw w.in_default.is at c.in_ok-steps.ensures in
          rw w.advice-is (meters_stay g costs chosen j c.loop-j.advice lt out c.loop-j.invariant)
    ]
