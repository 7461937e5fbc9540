-- The rounds of a study are well formed.
use Rattle.std.proofs.Common.{◌≡◌, ◌∙◌, ℕ, ◌<◌, List, [], ◌∷◌, ◌++◌, length, All, Option, Some, None, slice_get, refl, sym, ap, subst, arith}
use Rattle.std.specs.Prelude.{IfSome, IsSomeAnd}
use Rattle.std.proofs.lemmas.List.{length_push}
use Rattle.std.proofs.lemmas.List.Elements.{All-nil, All-cons, All-push}
use Rattle.std.proofs.lemmas.Option.{get_or_from_slice_get, slice_get_within}
use Rattle.pb_study.specs.declared.results.Tests.{Tests}
use Rattle.pb_study.specs.declared.results.Stage.{Stage}
use Rattle.pb_study.specs.declared.results.Taken.{Taken}
use Rattle.pb_study.specs.declared.results.Stop.{Stop}
use Rattle.pb_study.specs.declared.results.Study.{Study}
use Rattle.pb_study.specs.declared.results.Options.{Options}
use Rattle.pb_study.specs.declared.results.Critical.{Critical}
use Rattle.pb_graph.specs.ProcessGraph.{ProcessGraph, IsProcessGraph, unmeasured_at}
use Rattle.pb_graph.proofs.WalkLemmas.{some_same}
use Rattle.pb_study.specs.WellFormed.{AreTestsWithin, HasShapeOf, IsMeasureWithin, IsTakenWithin, IsWellFormed, IsWide}
use Rattle.pb_elim.specs.Stage.{IsStageOf}
use Rattle.pb_elim.specs.Elimination.{IsStop}
use Rattle.pb_elim.specs.Study.{IsStudyOf}
use Rattle.pb_elim.specs.Rounds.{IsTakenAfter, AreAllRoundsOf, AreRoundsOf, stop_at}
use Rattle.pb_elim.proofs.NextLemmas.{stop_is}
use Rattle.pb_elim.proofs.RoundLemmas.{last_graph, more_rounds, one_round}
use Rattle.pb_elim.proofs.TakenLemmas.{length-unmeasured, without_nodes, without_streams}

-- stages and the streams taken between them, with no reason to stop recorded yet
abbrev pub unfinished : List Stage → List Taken → Study
unfinished stages taken = record { stages = stages; taken = taken; stop = None }

pub begun : (g : ProcessGraph) (options : Options) (critical : Critical) (stage : Stage) → IsProcessGraph g → IsStageOf g options critical stage → IsWellFormed stage
    → AreRoundsOf g options critical (unfinished (stage ∷ []) [])
begun g options critical stage limits is formed =
    let graph_is = is.reconciled.graph_is in
    let shape : HasShapeOf g stage = record { nodes = ap (λ (h : ProcessGraph). h.nodes) graph_is; streams = ap (λ (h : ProcessGraph). length h.streams) graph_is } in
    record {
      limits = limits;
      rounds = one_round g options critical stage is;
      formed = record {
        stages = All-cons IsWellFormed stage [] formed (All-nil IsWellFormed);
        shapes = All-cons (HasShapeOf g) stage [] shape (All-nil (HasShapeOf g));
        between = refl;
        each_taken = All-nil (IsTakenWithin g);
      };
    }

-- a stream that is taken is a stream of the graph
pub taken_within : (g : ProcessGraph) (options : Options) (critical : Critical) (count : ℕ) (o : Option Tests) (t : Taken) → IfSome o (AreTestsWithin g)
    → IsSomeAnd o (IsTakenAfter options critical count t) → IsTakenWithin g t
taken_within g options critical count None t within is = absurd is
taken_within g options critical count (Some tests) t within is =
    let s = is.1 in
    let test = s.test in
    let test_within : IsMeasureWithin g test =
    subst (IsMeasureWithin g) (get_or_from_slice_get tests.measure s.place test test s.there) (within.measure s.place test (slice_get_within tests.measure s.place test s.there)) in
    record {
      stream = omega (arith, test_within.stream, ap (λ (u : Taken). u.stream) s.is);
      low = subst IsWide (sym (ap (λ (u : Taken). u.low) s.is)) test_within.low;
    }

-- what a stage of the rounds at a place is
pub formed_at : (stages : List Stage) (k : ℕ) (stage : Stage) → All IsWellFormed stages → slice_get stages k ≡ Some stage → IsWellFormed stage
formed_at stages k stage all at = subst IsWellFormed (get_or_from_slice_get stages k stage stage at) (all k stage (slice_get_within stages k stage at))

pub more : (g : ProcessGraph) (options : Options) (critical : Critical) (stages : List Stage) (taken : List Taken) (last next : Stage) (t : Taken)
    → AreRoundsOf g options critical (unfinished stages taken) → slice_get stages (length taken) ≡ Some last → length taken < options.eliminate
    → IsSomeAnd last.tests (IsTakenAfter options critical (length taken) t)
    → IsStageOf (record last.graph { streams = unmeasured_at t.stream last.graph.streams }) options critical next → IsWellFormed next
    → AreRoundsOf g options critical (unfinished (stages ++ next ∷ []) (taken ++ t ∷ []))
more g options critical stages taken last next t so_far at left suspect is formed =
    let last_is = last_graph g options critical stages taken last so_far.rounds at in
    let nodes : last.graph.nodes ≡ g.nodes = ap (λ (h : ProcessGraph). h.nodes) last_is ∙ without_nodes g taken in
    let streams : length last.graph.streams ≡ length g.streams = ap (λ (h : ProcessGraph). length h.streams) last_is ∙ without_streams g taken in
    let shape : HasShapeOf g next = record {
      nodes = ap (λ (h : ProcessGraph). h.nodes) is.reconciled.graph_is ∙ nodes;
      streams = ap (λ (h : ProcessGraph). length h.streams) is.reconciled.graph_is ∙ length-unmeasured t.stream last.graph.streams ∙ streams;
    } in
    let within = taken_within last.graph options critical (length taken) last.tests t (formed_at stages (length taken) last so_far.formed.stages at).tests suspect in
    let here : IsTakenWithin g t = record { stream = omega (arith, within.stream, streams); low = within.low } in
    record {
      limits = so_far.limits;
      rounds = more_rounds g options critical stages taken last next t so_far.rounds at left suspect is;
      formed = record {
        stages = All-push IsWellFormed stages next so_far.formed.stages formed;
        shapes = All-push (HasShapeOf g) stages next so_far.formed.shapes shape;
        between = omega (arith, length_push stages next, length_push taken t, so_far.formed.between);
        each_taken = All-push (IsTakenWithin g) taken t so_far.formed.each_taken here;
      };
    }

-- all rounds with the reason to stop are the study
pub study_of_all : (g : ProcessGraph) (options : Options) (critical : Critical) (study : Study) (here : Stage) (count : ℕ) (stop : Option Stop) → AreAllRoundsOf g options critical study
    → count ≡ length study.taken → slice_get study.stages count ≡ Some here → stop ≡ stop_at options critical count here.tests
    → IsStudyOf g options critical (record { stages = study.stages; taken = study.taken; stop = stop })
study_of_all g options critical study here count stop all count_is at stop_is_at =
    let there : slice_get study.stages (length study.taken) ≡ Some here = ap (slice_get study.stages) (sym count_is) ∙ at in
    let same : stop ≡ stop_at options critical (length study.taken) here.tests = stop_is_at ∙ ap (λ (k : ℕ). stop_at options critical k here.tests) count_is in
    let is : IsStop options critical (length study.taken) here stop =
    subst (IsStop options critical (length study.taken) here) (sym same) (stop_is options critical (length study.taken) here (all.done here there)) in
    record {
      rounds = all.so_far.rounds;
      stop = λ last last_at. subst (λ (s : Stage). IsStop options critical (length study.taken) s stop) (some_same (sym there ∙ last_at)) is;
    }
