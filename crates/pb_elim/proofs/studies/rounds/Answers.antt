use Rattle.std.proofs.Common.{◌≡◌, ◌∙◌, ℕ, ◌<◌, List, [], ◌∷◌, ◌++◌, Some, length, slice_get, sym, ap, subst, arith}
use Rattle.std.specs.Prelude.{IsSomeAnd}
use Rattle.std.proofs.lemmas.List.{length_push}
use Rattle.pb_study.specs.declared.results.Stage.{Stage}
use Rattle.pb_study.specs.declared.results.Taken.{Taken}
use Rattle.pb_graph.proofs.WalkLemmas.{some_same}
use Rattle.pb_elim.specs.Rounds.{IsTakenAfter, AreRoundsOf, IsDone}
use Rattle.pb_elim.proofs.FormedLemmas.{formed_at, more, taken_within, unfinished}
use Rattle.pb_elim.proofs.NextLemmas.{done_next, taken_next}
use Rattle.pb_elim.proofs.RoundLemmas.{has_tests, spent_done}
use Rattle.pb_elim.proofs.studies.rounds.Goals as goal

-- a stage that is taken from is one of the graph
pub stage_without-requires-clause-stream : goal.stage_without-requires-clause-stream
stage_without-requires-clause-stream c =
    let at = c.loop-count in
    let options = c.args.options.now in
    let critical = c.args.critical.now in
    let last = c.at-last.result.now in
    let suspect = taken_next options critical at.count last.tests c.in-Some.suspect (sym c.next_at.ensures ∙ c.in-Some.is) in
    let formed = formed_at at.stages at.count last at.invariant.so_far.formed.stages c.at-last.ensures in
    (taken_within last.graph options critical at.count last.tests c.in-Some.suspect formed.tests suspect).stream

-- one more round
pub loop-count-preserved : goal.loop-count-preserved
loop-count-preserved c =
    let at = c.loop-count in
    let g = c.args.graph.now in
    let options = c.args.options.now in
    let critical = c.args.critical.now in
    let last = c.at-last.result.now in
    let t = c.in-Some.suspect in
    let next = c.in_ok-next.next in
    let count : length at.taken ≡ at.count = at.invariant.count in
    let there : slice_get at.stages (length at.taken) ≡ Some last = subst (λ (k : ℕ). slice_get at.stages k ≡ Some last) (sym count) c.at-last.ensures in
    let left : length at.taken < options.eliminate = omega (arith, count, c.loop-count-test.true) in
    let taken = taken_next options critical at.count last.tests t (sym c.next_at.ensures ∙ c.in-Some.is) in
    let suspect : IsSomeAnd last.tests (IsTakenAfter options critical (length at.taken) t) = subst (λ (k : ℕ). IsSomeAnd last.tests (IsTakenAfter options critical k t)) (sym count) taken in
    let whole = more g options critical at.stages at.taken last next t at.invariant.so_far there left suspect c.in_ok-next.ensures.stage c.in_ok-next.ensures.formed in
    record {
      so_far =
          subst (λ (xs : List Stage). AreRoundsOf g options critical (unfinished xs c.push-in-loop-count-2.new.self)) (sym c.in_ok-push-2.ensures.ok)
          (subst (λ (ts : List Taken). AreRoundsOf g options critical (unfinished (at.stages ++ next ∷ []) ts)) (sym c.in_ok-push-3.ensures.ok) whole);
      count = omega (arith, ap length c.in_ok-push-3.ensures.ok, length_push at.taken t, count);
    }

-- if no stream is taken, the rule says to stop
pub returns-in_default : goal.returns-in_default
returns-in_default c =
    let at = c.loop-count in
    let options = c.args.options.now in
    let critical = c.args.critical.now in
    let here = c.at-last.result.now in
    let count : length at.taken ≡ at.count = at.invariant.count in
    let is = at.invariant.so_far.rounds.each at.count here c.at-last.ensures in
    let done : IsDone options critical at.count here.tests =
    done_next options critical at.count here.tests (λ asked. has_tests _ options critical here c.requires.limits asked is) (sym c.next_at.ensures ∙ c.in_default.is) in
    record {
      so_far = at.invariant.so_far;
      done = λ last there.
          let same : here ≡ last = some_same (sym c.at-last.ensures ∙ ap (slice_get at.stages) (sym count) ∙ there) in
          subst (λ (k : ℕ). IsDone options critical k last.tests) (sym count) (subst (λ (s : Stage). IsDone options critical at.count s.tests) same done);
    }

-- and so it does after as many rounds as are asked for
pub returns : goal.returns
returns c =
    let at = c.loop-count in
    let options = c.args.options.now in
    let critical = c.args.critical.now in
    let so_far = at.invariant.so_far in
    record {
      so_far = so_far;
      done = λ last there.
          spent_done _ options critical (length at.taken) last c.requires.limits (so_far.rounds.each (length at.taken) last there)
          (omega (arith, at.invariant.count, c.loop-count-test.false, so_far.rounds.rounds));
    }
