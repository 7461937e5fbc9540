-- A process graph has a study.
use Rattle.std.proofs.Common.{◌≡◌, ◌≢◌, ◌∙◌, ◌+◌, ◌<◌, ◌≤◌, ℕ, zero, suc, ℤ, pos, Bool, true, false, List, [], ◌∷◌, ◌++◌, length, map, Option, Some, None, slice_get, refl, sym, ap, subst, inl, inr, arith}
use Rattle.std.specs.Prelude.{IsSomeAnd}
use Rattle.std.proofs.lemmas.Bool.{cases_eq, cases_lt}
use Rattle.std.proofs.lemmas.List.{get_or_past, length_push}
use Rattle.pb_fixed.specs.Sums.{item}
use Rattle.pb_graph.specs.declared.records.Stream.{Stream}
use Rattle.pb_graph.specs.declared.records.Classified.{Classified}
use Rattle.pb_study.specs.declared.results.Solved.{Solved}
use Rattle.pb_study.specs.declared.results.StreamResult.{StreamResult}
use Rattle.pb_study.specs.declared.results.Tests.{Tests}
use Rattle.pb_study.specs.declared.results.Stage.{Stage}
use Rattle.pb_study.specs.declared.results.Taken.{Taken}
use Rattle.pb_study.specs.declared.results.Stop.{Stop}
use Rattle.pb_study.specs.declared.results.Study.{Study}
use Rattle.pb_study.specs.declared.results.Options.{Options}
use Rattle.pb_study.specs.declared.results.Critical.{Critical}
use Rattle.pb_graph.specs.ProcessGraph.{ProcessGraph, IsProcessGraph, unmeasured_at}
use Rattle.pb_graph.proofs.WalkLemmas.{some_same}
use Rattle.pb_forest.specs.Forest.{degrees_of_freedom}
use Rattle.pb_classify.specs.Laws.{SomeClassificationLaw}
use Rattle.pb_classify.specs.Classification.{IsClassification}
use Rattle.pb_gap.specs.declared.gap.Gap.{Gap}
use Rattle.pb_gap.specs.Gap.{gap_of}
use Rattle.pb_gap.specs.StreamBounds.{stream_bounds}
use Rattle.pb_gap.specs.LeastBounds.{stream_least_bounds}
use Rattle.pb_gap.specs.Statistic.{low_of, high_of}
use Rattle.pb_gap.specs.Solution.{IsSolution, OutsideLaw, SomeSolutionLaw}
use Rattle.pb_stage.specs.Verdicts.{global_test_of}
use Rattle.pb_stage.specs.Laws.{SomeNodalTestsLaw, SomeMeasureTestsLaw}
use Rattle.pb_study.specs.Options.{AreOptions}
use Rattle.pb_stage.specs.Printed.{printed_price, printed_flows, printed_classes}
use Rattle.pb_stage.specs.StageTests.{AreTestsOf, redundant_streams}
use Rattle.pb_elim.specs.Reconciled.{IsReconciled}
use Rattle.pb_elim.specs.Stage.{IsStageOf}
use Rattle.pb_elim.specs.Elimination.{IsStop, stop_after}
use Rattle.pb_elim.specs.Rounds.{IsTakenAfter}
use Rattle.pb_elim.specs.Study.{AreRounds, IsStudyOf}
use Rattle.pb_elim.specs.Laws.{SomeStudyLaw}
use Rattle.pb_elim.proofs.ListLemmas.{get_last, some_and, the_some}
use Rattle.pb_elim.proofs.NextLemmas.{decided, reason_of}
use Rattle.pb_elim.proofs.RoundLemmas.{has_tests, last_graph, more_rounds, one_round, spent_done}
use Rattle.pb_elim.proofs.SolutionLemmas.{state_of}
use Rattle.pb_elim.proofs.StageLemmas.{stage_tested}
use Rattle.pb_elim.proofs.TakenLemmas.{unmeasured_limits, without_limits}

-- ---- the price of each node
abbrev firsts : (ℕ → ℤ) → ℕ → List ℤ
firsts price zero = []
firsts price (suc n) = price 0 ∷ firsts (λ k. price (suc k)) n

length-firsts : (price : ℕ → ℤ) (n : ℕ) → length (firsts price n) ≡ n
length-firsts price zero = refl
length-firsts price (suc n) = ap suc (length-firsts (λ k. price (suc k)) n)

item_first : (price : ℕ → ℤ) (n k : ℕ) → k < n → item (firsts price n) k ≡ price k
item_first price zero k lt = absurd (omega (arith, lt))
item_first price (suc n) zero lt = refl
item_first price (suc n) (suc k) lt = item_first (λ k. price (suc k)) n k (omega (arith, lt))

item_each : (price : ℕ → ℤ) (n : ℕ) → ((k : ℕ) → n ≤ k → price k ≡ pos 0) → (k : ℕ) → item (firsts price n) k ≡ price k
item_each price n none k = elim (cases_lt k n) [
  | inl less ↦ item_first price n k less
  | inr past ↦ get_or_past (firsts price n) k (pos 0) (omega (arith, length-firsts price n, past)) ∙ sym (none k past)
]

-- ---- the result of each stream
-- all flows are given, as well as those of the streams at hand
abbrev results_of : (ℕ → ℤ) → List Stream → List ℤ → Gap → ℕ → List Classified → List ℤ → List StreamResult
results_of price ss all gap j [] flows = []
results_of price ss all gap j (c ∷ cs) [] = []
results_of price ss all gap j (c ∷ cs) (y ∷ flows) =
    record { classified = c; flow = y; bounds = stream_bounds price ss gap j c; least = stream_least_bounds price ss all gap j c } ∷ results_of price ss all gap (suc j) cs flows

classes_same : (price : ℕ → ℤ) (ss : List Stream) (all : List ℤ) (gap : Gap) (j : ℕ) (cs : List Classified) (flows : List ℤ) → length flows ≡ length cs
    → map (λ (r : StreamResult). r.classified) (results_of price ss all gap j cs flows) ≡ cs
classes_same price ss all gap j [] flows each = refl
classes_same price ss all gap j (c ∷ cs) [] each = absurd (omega (arith, each))
classes_same price ss all gap j (c ∷ cs) (y ∷ flows) each = ap (λ (rest : List Classified). c ∷ rest) (classes_same price ss all gap (suc j) cs flows (omega (arith, each)))

flows_same : (price : ℕ → ℤ) (ss : List Stream) (all : List ℤ) (gap : Gap) (j : ℕ) (cs : List Classified) (flows : List ℤ) → length flows ≡ length cs
    → map (λ (r : StreamResult). r.flow) (results_of price ss all gap j cs flows) ≡ flows
flows_same price ss all gap j [] [] each = refl
flows_same price ss all gap j [] (y ∷ flows) each = absurd (omega (arith, each))
flows_same price ss all gap j (c ∷ cs) [] each = absurd (omega (arith, each))
flows_same price ss all gap j (c ∷ cs) (y ∷ flows) each = ap (λ (rest : List ℤ). y ∷ rest) (flows_same price ss all gap (suc j) cs flows (omega (arith, each)))

-- a stream's bounds and least bounds are those given by its certificate
record IsEnclosedBy (price : ℕ → ℤ) (ss : List Stream) (all : List ℤ) (gap : Gap) (j : ℕ) (r : StreamResult) : Type 0 where
  bounds : r.bounds ≡ stream_bounds price ss gap j r.classified
  least : r.least ≡ stream_least_bounds price ss all gap j r.classified

enclosed_at : (price : ℕ → ℤ) (ss : List Stream) (all : List ℤ) (gap : Gap) (j : ℕ) (cs : List Classified) (flows : List ℤ) (i k : ℕ) (r : StreamResult) → i ≡ j + k
    → slice_get (results_of price ss all gap j cs flows) k ≡ Some r → IsEnclosedBy price ss all gap i r
enclosed_at price ss all gap j [] flows i k r e at = absurd cc
enclosed_at price ss all gap j (c ∷ cs) [] i k r e at = absurd cc
enclosed_at price ss all gap j (c ∷ cs) (y ∷ flows) i zero r e at =
    let is : j ≡ i = omega (arith, e) in
    subst (λ (r : StreamResult). IsEnclosedBy price ss all gap i r) (some_same at)
    (record { bounds = ap (λ (n : ℕ). stream_bounds price ss gap n c) is; least = ap (λ (n : ℕ). stream_least_bounds price ss all gap n c) is })
enclosed_at price ss all gap j (c ∷ cs) (y ∷ flows) i (suc k) r e at = enclosed_at price ss all gap (suc j) cs flows i k r (omega (arith, e)) at

-- what the laws below give
pub record Laws : Type 0 where
  pub classification : SomeClassificationLaw
  pub solution : SomeSolutionLaw
  pub outside : OutsideLaw
  pub nodal : SomeNodalTestsLaw
  pub measure : SomeMeasureTestsLaw

-- ---- the stage
abbrev stage_by : ProcessGraph → List Classified → Solved → (ℕ → ℤ) → List ℤ → ℕ → Stage
stage_by g classes solved price flows dof = record {
  graph = g;
  streams = results_of price g.streams flows (gap_of price g.streams flows) 0 classes flows;
  prices = firsts price g.nodes;
  solved = solved;
  g = (gap_of price g.streams flows).g;
  h = (gap_of price g.streams flows).h;
  dof = dof;
  low = low_of g.streams flows (gap_of price g.streams flows);
  high = high_of g.streams flows;
  tests = None;
}

some_reconciliation : Laws → (g : ProcessGraph) (options : Options) → IsProcessGraph g → (stage : Stage) × IsReconciled g options stage
some_reconciliation laws g options limits =
    let ss = g.streams in
    let (classes, classified) = laws.classification g limits in
    let (solved, price, flows, solution) = laws.solution g options.gap options.sweeps limits in
    let (k, state) = state_of g options.gap options.sweeps solved price flows solution in
    let none : (n : ℕ) → g.nodes ≤ n → price n ≡ pos 0 = λ n past. laws.outside g k price flows n limits state past in
    let held = state.rounded.held in
    let gap = gap_of price ss flows in
    let stage = stage_by g classes solved price flows (degrees_of_freedom ss held) in
    let each : length flows ≡ length classes = state.rounded.balanced.each ∙ sym classified.each in
    let same_price : price ≡ printed_price stage = λ i n. sym (item_each price g.nodes none n) i in
    let same_flows : flows ≡ printed_flows stage = sym (flows_same price ss flows gap 0 classes flows each) in
    let same_classes : classes ≡ printed_classes stage = sym (classes_same price ss flows gap 0 classes flows each) in (
      stage,
      record {
        graph_is = refl;
        classes = subst (IsClassification g) same_classes classified;
        priced = length-firsts price g.nodes;
        solution =
            subst (λ (f : ℕ → ℤ). IsSolution g options.gap options.sweeps solved f (printed_flows stage)) same_price
            (subst (IsSolution g options.gap options.sweeps solved price) same_flows solution);
        gap = λ i. gap_of (same_price i) ss (same_flows i);
        bounds = λ j r at. (enclosed_at price ss flows gap 0 classes flows j j r (omega arith) at).bounds ∙ (λ i. stream_bounds (same_price i) ss gap j r.classified);
        least = λ j r at.
            (enclosed_at price ss flows gap 0 classes flows j j r (omega arith) at).least ∙ (λ i. stream_least_bounds (same_price i) ss (same_flows i) gap j r.classified);
        freedom = record { held = held; forest = state.rounded.forest; count = refl };
        low = λ i. low_of ss (same_flows i) gap;
        high = λ i. high_of ss (same_flows i);
      },
    )

-- ---- the tests of a stage
some_tests : Laws → (g : ProcessGraph) (options : Options) (critical : Critical) (stage : Stage) → IsProcessGraph g → (tests : Tests) × AreTestsOf g options critical stage tests
some_tests laws g options critical stage limits =
    let (nodal, are_nodal) = laws.nodal g critical.nodal limits in
    let (measure, are_measure) = laws.measure g options.gap options.sweeps stage.low stage.high critical.measure (redundant_streams stage.streams) limits in (
      record { global = global_test_of critical.global stage.low stage.high stage.dof; nodal = nodal; measure = measure },
      record { overall = refl; nodal = are_nodal; measure = are_measure },
    )

tested : Laws → (g : ProcessGraph) (options : Options) (critical : Critical) (stage : Stage) (asked : Bool) → asked ≡ options.tests → IsProcessGraph g → IsReconciled g options stage
    → (stage : Stage) × IsStageOf g options critical stage
tested laws g options critical stage false asked limits is = (record stage { tests = None }, stage_tested g options critical stage None is asked tt)
tested laws g options critical stage true asked limits is =
    let (tests, are) = some_tests laws g options critical stage limits in
    (record stage { tests = Some tests }, stage_tested g options critical stage (Some tests) is asked are)

some_stage : Laws → (g : ProcessGraph) (options : Options) (critical : Critical) → IsProcessGraph g → (stage : Stage) × IsStageOf g options critical stage
some_stage laws g options critical limits =
    let (stage, is) = some_reconciliation laws g options limits in
    tested laws g options critical stage options.tests refl limits is

-- ---- the rounds
-- stages and the streams taken between them, with options within their limits
record IsBegun (g : ProcessGraph) (options : Options) (critical : Critical) (stages : List Stage) (taken : List Taken) (last : Stage) : Type 0 where
  limits : IsProcessGraph g
  within : AreOptions options
  rounds : AreRounds g options critical stages taken
  at : slice_get stages (length taken) ≡ Some last

-- a study that ends here
ended : (g : ProcessGraph) (options : Options) (critical : Critical) (stages : List Stage) (taken : List Taken) (last : Stage) (stop : Option Stop) → IsBegun g options critical stages taken last
    → IsStop options critical (length taken) last stop → (study : Study) × IsStudyOf g options critical study
ended g options critical stages taken last stop begun is = (
  record { stages = stages; taken = taken; stop = stop },
  record {
    rounds = begun.rounds;
    stop = λ s at. subst (λ (s : Stage). IsStop options critical (length taken) s stop) (some_same (sym begun.at ∙ at)) is;
  },
)

-- one more stream is taken
begun_more : Laws → (g : ProcessGraph) (options : Options) (critical : Critical) (stages : List Stage) (taken : List Taken) (last : Stage) (t : Taken) → IsBegun g options critical stages taken last
    → length taken < options.eliminate → IsSomeAnd last.tests (IsTakenAfter options critical (length taken) t)
    → (next : Stage) × IsBegun g options critical (stages ++ next ∷ []) (taken ++ t ∷ []) next
begun_more laws g options critical stages taken last t begun left suspect =
    let without = record last.graph { streams = unmeasured_at t.stream last.graph.streams } in
    let graph_is = last_graph g options critical stages taken last begun.rounds begun.at in
    let limits : IsProcessGraph without = unmeasured_limits last.graph t.stream (subst IsProcessGraph (sym graph_is) (without_limits g taken begun.limits)) in
    let (next, is) = some_stage laws without options critical limits in (
      next,
      record {
        limits = begun.limits;
        within = begun.within;
        rounds = more_rounds g options critical stages taken last next t begun.rounds begun.at left suspect is;
        at =
            let end : length stages ≡ length (taken ++ t ∷ []) = omega (arith, length_push taken t, begun.rounds.between) in
            subst (λ (k : ℕ). slice_get (stages ++ next ∷ []) k ≡ Some next) end (get_last stages next);
      },
    )

some_study_from : Laws → (left : ℕ) (g : ProcessGraph) (options : Options) (critical : Critical) (stages : List Stage) (taken : List Taken) (last : Stage)
    → IsBegun g options critical stages taken last → left + length taken ≡ options.eliminate → options.eliminate ≢ 0 → (study : Study) × IsStudyOf g options critical study
some_study_from laws zero g options critical stages taken last begun count asked =
    let done = spent_done _ options critical (length taken) last begun.within (begun.rounds.each (length taken) last begun.at) (omega (arith, count)) asked in
    let (reason, names) = reason_of options critical (length taken) last.tests done in
    ended g options critical stages taken last (Some reason) begun (asked, names)
some_study_from laws (suc left) g options critical stages taken last begun count asked =
    let is = begun.rounds.each (length taken) last begun.at in
    let (tests, there) = the_some last.tests (has_tests _ options critical last begun.within asked is) in
    elim (decided options critical (length taken) tests) [
      | inl (reason, names) ↦
          ended g options critical stages taken last (Some reason) begun
          (asked, some_and last.tests tests (λ tests. stop_after options critical (length taken) tests ≡ Some reason) there names)
      | inr (t, suspect) ↦
          let (next, more) = begun_more laws g options critical stages taken last t begun (omega (arith, count)) (some_and last.tests tests (IsTakenAfter options critical (length taken) t) there suspect) in
          some_study_from laws left g options critical (stages ++ next ∷ []) (taken ++ t ∷ []) next more (omega (arith, count, length_push taken t)) asked
    ]

pub some_study_by : Laws → SomeStudyLaw
some_study_by laws g options critical limits within =
    let (stage, is) = some_stage laws g options critical limits in
    let begun : IsBegun g options critical (stage ∷ []) [] stage =
    record { limits = limits; within = within; rounds = one_round g options critical stage is; at = refl } in
    elim (cases_eq options.eliminate 0) [
      | inl none ↦ ended g options critical (stage ∷ []) [] stage None begun none
      | inr asked ↦ some_study_from laws options.eliminate g options critical (stage ∷ []) [] stage begun (omega arith) asked
    ]
