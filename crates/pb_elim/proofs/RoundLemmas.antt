-- The rounds of a study: one stage, and one more.
use Rattle.std.proofs.Common.{◌≡◌, ◌≢◌, ◌∙◌, ℕ, zero, suc, ◌<◌, Bool, List, [], ◌∷◌, ◌++◌, length, take, Some, slice_get, refl, sym, ap, subst, arith}
use Rattle.std.specs.Prelude.{is_some, IsSome, IsSomeAnd, if◌then◌else◌}
use Rattle.std.proofs.lemmas.Bool.{eq-eqb}
use Rattle.std.proofs.lemmas.List.{length_push, take_all, take-append-le}
use Rattle.std.proofs.lemmas.Option.{slice_get_within}
use Rattle.pb_study.specs.declared.results.Verdict.{Verdict}
use Rattle.pb_study.specs.declared.results.Verdict.TheVariants.{Reject, Accept, Undecided, NoCritical, NoTest}
use Rattle.pb_study.specs.declared.results.Stop.TheVariants.{Spent}
use Rattle.pb_study.specs.declared.results.MeasureTest.{MeasureTest}
use Rattle.pb_study.specs.declared.results.Stage.{Stage}
use Rattle.pb_study.specs.declared.results.Taken.{Taken}
use Rattle.pb_study.specs.declared.results.Options.{Options}
use Rattle.pb_study.specs.declared.results.Critical.{Critical}
use Rattle.pb_graph.specs.ProcessGraph.{ProcessGraph, unmeasured_at}
use Rattle.pb_graph.proofs.WalkLemmas.{some_same}
use Rattle.pb_study.specs.Options.{AreOptions}
use Rattle.pb_elim.specs.Stage.{IsStageOf}
use Rattle.pb_elim.specs.Elimination.{stop_after, stop_by, stop_of_measures}
use Rattle.pb_elim.specs.Study.{AreRounds, without_taken}
use Rattle.pb_elim.specs.Rounds.{IsTakenAfter, IsDone}
use Rattle.pb_elim.proofs.ListLemmas.{each_push, get_push, some_and, the_some}
use Rattle.pb_elim.proofs.TakenLemmas.{without_push}

-- a list with a single stage
only_at : (P : ℕ → Stage → Type 0) (stage : Stage) (i : ℕ) (s : Stage) → P 0 stage → slice_get (stage ∷ []) i ≡ Some s → P i s
only_at P stage zero s here at = subst (P 0) (some_same at) here
only_at P stage (suc i) s here at = absurd cc

pub one_round : (g : ProcessGraph) (options : Options) (critical : Critical) (stage : Stage) → IsStageOf g options critical stage → AreRounds g options critical (stage ∷ []) []
one_round g options critical stage is = record {
  each = λ i s at. only_at (λ k s. IsStageOf (without_taken g (take k [])) options critical s) stage i s is at;
  between = refl;
  rounds = omega arith;
  suspects = λ i s t at there. cc there;
}

-- the graph of the stage at hand
pub last_graph : (g : ProcessGraph) (options : Options) (critical : Critical) (stages : List Stage) (taken : List Taken) (last : Stage) → AreRounds g options critical stages taken
    → slice_get stages (length taken) ≡ Some last → last.graph ≡ without_taken g taken
last_graph g options critical stages taken last are at =
    (are.each (length taken) last at).reconciled.graph_is ∙ ap (without_taken g) (take_all (length taken) taken (omega arith))

-- one more stream is taken, and the stage without it
pub more_rounds : (g : ProcessGraph) (options : Options) (critical : Critical) (stages : List Stage) (taken : List Taken) (last next : Stage) (t : Taken)
    → AreRounds g options critical stages taken → slice_get stages (length taken) ≡ Some last → length taken < options.eliminate
    → IsSomeAnd last.tests (IsTakenAfter options critical (length taken) t)
    → IsStageOf (record last.graph { streams = unmeasured_at t.stream last.graph.streams }) options critical next
    → AreRounds g options critical (stages ++ next ∷ []) (taken ++ t ∷ [])
more_rounds g options critical stages taken last next t are at left suspect is =
    let more = taken ++ t ∷ [] in
    let graph_is : record last.graph { streams = unmeasured_at t.stream last.graph.streams } ≡ without_taken g more =
    ap (λ (h : ProcessGraph). record h { streams = unmeasured_at t.stream h.streams }) (last_graph g options critical stages taken last are at) ∙ sym (without_push g taken t) in
    let whole : take (length stages) more ≡ more = take_all (length stages) more (omega (arith, length_push taken t, are.between)) in
    record {
      each = each_push (λ i stage. IsStageOf (without_taken g (take i more)) options critical stage) stages next
          (λ i stage here.
          let same : take i more ≡ take i taken = take-append-le i taken (t ∷ []) (omega (arith, slice_get_within stages i stage here, are.between)) in
          subst (λ (ts : List Taken). IsStageOf (without_taken g ts) options critical stage) (sym same) (are.each i stage here))
          (subst (λ (h : ProcessGraph). IsStageOf h options critical next) (graph_is ∙ ap (without_taken g) (sym whole)) is);
      between = omega (arith, length_push stages next, length_push taken t, are.between);
      rounds = omega (arith, length_push taken t, left);
      suspects = λ i stage u here there.
          each_push (λ i u. (stage : Stage) → slice_get (stages ++ next ∷ []) i ≡ Some stage → IsSomeAnd stage.tests (IsTakenAfter options critical i u)) taken t
          (λ i u there stage here. are.suspects i stage u (sym (get_push stages next i (omega (arith, slice_get_within taken i u there, are.between))) ∙ here) there)
          (λ stage here.
          let same : last ≡ stage = some_same (sym at ∙ sym (get_push stages next (length taken) (omega (arith, are.between))) ∙ here) in
          subst (λ (s : Stage). IsSomeAnd s.tests (IsTakenAfter options critical (length taken) t)) same suspect)
          i u there stage here;
    }

-- ---- the end of the rounds
spent : (v : Verdict) (options : Options) (critical : Critical) (count : ℕ) (measures : List MeasureTest) → count ≡ options.eliminate → IsSome (stop_by v options critical count measures)
spent Accept options critical count measures same = refl
spent Undecided options critical count measures same = refl
spent NoCritical options critical count measures same = refl
spent NoTest options critical count measures same = refl
spent Reject options critical count measures same =
    ap (λ (b : Bool). is_some (if b then Some Spent else stop_of_measures critical.measure measures)) (eq-eqb count options.eliminate same)

-- if elimination is asked for, a stage has tests
pub has_tests : (g : ProcessGraph) (options : Options) (critical : Critical) (stage : Stage) → AreOptions options → options.eliminate ≢ 0 → IsStageOf g options critical stage → IsSome stage.tests
has_tests g options critical stage limits asked is = is.asked ∙ limits.rounds_by_tests asked

-- after as many rounds as are asked for, the rule gives a reason to stop
pub spent_done : (g : ProcessGraph) (options : Options) (critical : Critical) (count : ℕ) (stage : Stage) → AreOptions options → IsStageOf g options critical stage → count ≡ options.eliminate
    → IsDone options critical count stage.tests
spent_done g options critical count stage limits is same asked =
    let (tests, there) = the_some stage.tests (has_tests g options critical stage limits asked is) in
    some_and stage.tests tests (λ tests. IsSome (stop_after options critical count tests)) there (spent tests.global.verdict options critical count tests.measure same)
