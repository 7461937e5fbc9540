-- What a stage is collected from.
use Rattle.std.proofs.Common.{◌≡◌, ◌∙◌, ℕ, suc, ◌+◌, ◌<◌, ◌≤◌, ◌^◌, ℤ, pos, Bool, true, false, ◌==◌, List, [], ◌∷◌, ◌++◌, length, All, Option, Some, None, slice_get, get_or, map, refl, sym, ap, subst, inl, inr, arith}
use Rattle.std.specs.Prelude.{is_some, IfSome, if◌then◌else◌}
use Rattle.std.specs.List.{AllByRecursion}
use Rattle.std.proofs.lemmas.List.Elements.{All-from_recursion, recursion_from_All}
use Rattle.std.proofs.lemmas.Bool.{cases_eq, cases_lt}
use Rattle.std.proofs.lemmas.List.{get_or_append_left, get_or_push, length-map, length_push}
use Rattle.std.proofs.lemmas.Option.{get_or_from_slice_get, slice_get_within, slice_get-get_or}
use Rattle.pb_fixed.specs.Sums.{item}
use Rattle.pb_limits.specs.Limits.{most_sweeps}
use Rattle.pb_limits.specs.Ranges.{IsCriticalValue}
use Rattle.pb_forest.proofs.ForestLaws.{few_held_law}
use Rattle.pb_graph.specs.declared.records.Classified.{Classified}
use Rattle.pb_graph.specs.declared.records.Witness.{Witness}
use Rattle.pb_graph.specs.declared.records.Witness.TheVariants.{Cut, Cycle}
use Rattle.pb_study.specs.declared.results.Solved.{Solved}
use Rattle.pb_study.specs.declared.results.Solved.TheVariants.{Converged, Unconverged}
use Rattle.pb_study.specs.declared.results.StreamResult.{StreamResult}
use Rattle.pb_study.specs.declared.results.Tests.{Tests}
use Rattle.pb_study.specs.declared.results.Stage.{Stage}
use Rattle.pb_study.specs.declared.results.Options.{Options}
use Rattle.pb_study.specs.declared.results.Critical.{Critical}
use Rattle.pb_study.specs.declared.results.CriticalRow.{CriticalRow}
use Rattle.pb_graph.specs.ProcessGraph.{ProcessGraph}
use Rattle.pb_graph.specs.Certificates.{IsCertified}
use Rattle.pb_graph.proofs.WalkLemmas.{some_same}
use Rattle.pb_forest.specs.Forest.{IsForest, degrees_of_freedom}
use Rattle.pb_classify.specs.Classification.{IsClassification}
use Rattle.pb_gap.specs.Gap.{gap_of}
use Rattle.pb_gap.specs.StreamBounds.{stream_bounds}
use Rattle.pb_gap.specs.LeastBounds.{stream_least_bounds}
use Rattle.pb_gap.specs.Statistic.{low_of, high_of}
use Rattle.pb_gap.specs.State.{State, IsState, price_in, gap_in}
use Rattle.pb_gap.specs.Solution.{IsSolution, IsSolvedStatistic}
use Rattle.pb_stage.specs.Verdicts.{critical_for}
use Rattle.pb_study.specs.Options.{AreOptions}
use Rattle.pb_study.specs.Criticals.{AreCritical, IsCriticalRow}
use Rattle.pb_stage.specs.Printed.{printed_price, printed_flows, printed_classes, printed_gap}
use Rattle.pb_stage.specs.StageTests.{AreTestsOf, is_redundant, redundant_from, redundant_streams}
use Rattle.pb_elim.specs.Reconciled.{IsReconciled}
use Rattle.pb_elim.specs.Stage.{IsStageOf}
use Rattle.pb_study.specs.WellFormed.{sweeps_of, IsWide, IsResultWithin, AreTestsWithin, IsWellFormed}
use Rattle.pb_graph.specs.WellFormed.{IsPrice, IsWitnessWithin}
use Rattle.pb_stage.specs.Signs.{AreWitnessSigns}
use Rattle.pb_elim.specs.Results.{IsResultOf, AreResultsOf}
use Rattle.pb_elim.proofs.ListLemmas.{from_map, same_items, some_at}
use Rattle.pb_graph.proofs.CertificateLemmas.{witness_within}
use Rattle.pb_elim.proofs.ReconciledLemmas.{whole_of}

-- members within the graph have signs
signs_of : (g : ProcessGraph) (w : Witness) → IsWitnessWithin g w → AreWitnessSigns w
signs_of g (Cut side members) (each, within) = λ k d lt. (within k d lt).sign
signs_of g (Cycle steps) within = tt

pub witness_signs : (g : ProcessGraph) (j : ℕ) (c : Classified) → IsCertified g j c → AreWitnessSigns c.witness
witness_signs g j c shown = signs_of g c.witness (witness_within g j c shown)

-- one more result
pub results_more : (s : State) (classes : List Classified) (results : List StreamResult) (c : Classified) (r : StreamResult) → AreResultsOf s classes results → IsResultOf s (length results) c r
    → AreResultsOf s (classes ++ c ∷ []) (results ++ r ∷ [])
results_more s classes results c r are is = record {
  each = omega (arith, are.each, length_push classes c, length_push results r);
  right = λ k d q there at. elim (cases_lt k (length results)) [
    | inl less ↦ are.right k d q
        (slice_get-get_or classes k d (omega (arith, less, are.each)) ∙ ap Some (sym (get_or_append_left classes (c ∷ []) d k (omega (arith, less, are.each))) ∙ get_or_from_slice_get (classes ++ c ∷ []) k d d there))
        (slice_get-get_or results k q less ∙ ap Some (sym (get_or_append_left results (r ∷ []) q k less) ∙ get_or_from_slice_get (results ++ r ∷ []) k q q at))
    | inr more ↦
        let end : length results ≡ k = omega (arith, more, slice_get_within (results ++ r ∷ []) k q at, length_push results r) in
        let d_is : c ≡ d = sym (get_or_push classes c d k (omega (arith, end, are.each))) ∙ get_or_from_slice_get (classes ++ c ∷ []) k d d there in
        let q_is : r ≡ q = sym (get_or_push results r q k end) ∙ get_or_from_slice_get (results ++ r ∷ []) k q q at in
        subst (λ (i : ℕ). IsResultOf s i d q) end (subst (λ (d : Classified). IsResultOf s (length results) d q) d_is (subst (IsResultOf s (length results) c) q_is is))
  ];
}

-- the item after a list
pub at_end : (xs : List Classified) (c : Classified) (rest : List Classified) → slice_get (xs ++ c ∷ rest) (length xs) ≡ Some c
at_end [] c rest = refl
at_end (x ∷ xs) c rest = at_end xs c rest

-- one more node has its price
pub price_more : (price : ℕ → ℤ) (before : List ℤ) (p : ℤ) (n : ℕ) → length before ≡ n → ((k : ℕ) → k < n → item before k ≡ price k) → p ≡ price n
    → (k : ℕ) → k < n + 1 → item (before ++ p ∷ []) k ≡ price k
price_more price before p n each so_far is k lt = elim (cases_eq k n) [
  | inl same ↦ get_or_push before p (pos 0) k (omega (arith, each, same)) ∙ is ∙ ap price (sym same)
  | inr other ↦
      let less : k < n = omega (arith, lt, other) in
      get_or_append_left before (p ∷ []) (pos 0) k (omega (arith, less, each)) ∙ so_far k less
]

-- a state, the class of each stream, and what was made from them
pub record AreParts (options : Options) (s : State) (classes : List Classified) (stage : Stage) : Type 0 where
  pub state : IsState s
  pub graph : stage.graph ≡ s.graph
  pub classified : IsClassification s.graph classes
  pub results : AreResultsOf s classes stage.streams
  pub each : length stage.prices ≡ s.graph.nodes
  pub price : (n : ℕ) → item stage.prices n ≡ price_in s n
  pub solution : IsSolution s.graph options.gap options.sweeps stage.solved (price_in s) s.flows
  pub g : stage.g ≡ (gap_in s).g
  pub h : stage.h ≡ (gap_in s).h
  pub dof : (held : List Bool) → IsForest s.graph.streams held → stage.dof ≡ degrees_of_freedom s.graph.streams held
  pub low : stage.low ≡ low_of s.graph.streams s.flows (gap_in s)
  pub high : stage.high ≡ high_of s.graph.streams s.flows

classes_same : (s : State) (classes : List Classified) (results : List StreamResult) → AreResultsOf s classes results → map (λ (r : StreamResult). r.classified) results ≡ classes
classes_same s classes results are =
    let classified : StreamResult → Classified = λ r. r.classified in
    same_items (map classified results) classes (length-map results classified ∙ are.each) (λ k x y at there.
    let (r, here, is) = from_map classified results k x at in
    sym is ∙ (are.right k y r there here).classified)

flows_same : (s : State) (classes : List Classified) (results : List StreamResult) → AreResultsOf s classes results → length s.flows ≡ length classes
    → map (λ (r : StreamResult). r.flow) results ≡ s.flows
flows_same s classes results are each =
    let flow : StreamResult → ℤ = λ r. r.flow in
    same_items (map flow results) s.flows (length-map results flow ∙ are.each ∙ sym each) (λ k x y at there.
    let (r, here, is) = from_map flow results k x at in
    let within : k < length classes = omega (arith, slice_get_within s.flows k y there, each) in
    let (c, classed) = some_at classes k within in
    sym is ∙ some_same (sym (are.right k c r classed here).flow ∙ there))

pub stage_is : (options : Options) (s : State) (classes : List Classified) (stage : Stage) → AreParts options s classes stage → IsReconciled s.graph options stage
stage_is options s classes stage parts =
    let ss = s.graph.streams in
    let each : length s.flows ≡ length classes = parts.state.rounded.balanced.each ∙ sym parts.classified.each in
    let price : printed_price stage ≡ price_in s = λ i n. parts.price n i in
    let flows : printed_flows stage ≡ s.flows = flows_same s classes stage.streams parts.results each in
    let same_classes : printed_classes stage ≡ classes = classes_same s classes stage.streams parts.results in
    let gap : printed_gap stage ≡ gap_in s = λ i. record { g = parts.g i; h = parts.h i } in
    record {
      graph_is = parts.graph;
      classes = subst (IsClassification s.graph) (sym same_classes) parts.classified;
      priced = parts.each;
      solution =
          subst (λ (p : ℕ → ℤ). IsSolution s.graph options.gap options.sweeps stage.solved p (printed_flows stage)) (sym price)
          (subst (IsSolution s.graph options.gap options.sweeps stage.solved (price_in s)) (sym flows) parts.solution);
      gap = gap ∙ (λ i. gap_of (sym price i) ss (sym flows i));
      bounds = λ j r at.
          let within : j < length classes = omega (arith, slice_get_within stage.streams j r at, parts.results.each) in
          let (c, there) = some_at classes j within in
          let is = parts.results.right j c r there at in
          is.bounds ∙ (λ i. stream_bounds (sym price i) ss (sym gap i) j (sym is.classified i));
      least = λ j r at.
          let within : j < length classes = omega (arith, slice_get_within stage.streams j r at, parts.results.each) in
          let (c, there) = some_at classes j within in
          let is = parts.results.right j c r there at in
          is.least ∙ (λ i. stream_least_bounds (sym price i) ss (sym flows i) (sym gap i) j (sym is.classified i));
      freedom = record { held = parts.state.rounded.held; forest = parts.state.rounded.forest; count = parts.dof parts.state.rounded.held parts.state.rounded.forest };
      low = parts.low ∙ (λ i. low_of ss (sym flows i) (sym gap i));
      high = parts.high ∙ (λ i. high_of ss (sym flows i));
    }

-- the ranges of the numbers
pub record AreNarrow (stage : Stage) : Type 0 where
  pub prices : All IsPrice stage.prices
  pub g : stage.g ≤ 2 ^ 63
  pub h : stage.h ≤ 32
  pub low : IsWide stage.low
  pub high : IfSome stage.high IsWide
  pub untested : stage.tests ≡ None

pub sweeps_within : (g : ProcessGraph) (gap sweeps : ℕ) (solved : Solved) (price : ℕ → ℤ) (flows : List ℤ) → IsSolution g gap sweeps solved price flows → sweeps ≤ most_sweeps → sweeps_of solved ≤ most_sweeps
sweeps_within g gap sweeps (Converged k) price flows is most = omega (arith, is.within, most)
sweeps_within g gap sweeps (Unconverged k) price flows is most = omega (arith, is.done, most)

results_within : (s : State) (classes : List Classified) (results : List StreamResult) → IsClassification s.graph classes → AreResultsOf s classes results → All (IsResultWithin s.graph) results
results_within s classes results classified are k d lt =
    let at = slice_get-get_or results k d lt in
    let (c, there) = some_at classes k (omega (arith, lt, are.each)) in
    let r = get_or results k d in
    let is = are.right k c r there at in
    record {
      witness = witness_within s.graph k r.classified (subst (IsCertified s.graph k) (sym is.classified) (classified.right k c there).certified);
      flow = is.narrow;
      bounds = is.within;
      least = is.least_within;
    }

pub stage_formed : (options : Options) (s : State) (classes : List Classified) (stage : Stage) → AreOptions options → AreParts options s classes stage → AreNarrow stage → IsWellFormed stage
stage_formed options s classes stage limits parts narrow = record {
  each_price = parts.each ∙ ap (λ (g : ProcessGraph). g.nodes) (sym parts.graph);
  each_stream = parts.results.each ∙ parts.classified.each ∙ ap (λ (g : ProcessGraph). length g.streams) (sym parts.graph);
  results = subst (λ (g : ProcessGraph). All (IsResultWithin g) stage.streams) (sym parts.graph) (results_within s classes stage.streams parts.classified parts.results);
  prices = narrow.prices;
  sweeps = sweeps_within s.graph options.gap options.sweeps stage.solved (price_in s) s.flows parts.solution limits.greatest_sweeps;
  g = narrow.g;
  h = narrow.h;
  dof = omega (arith, parts.dof parts.state.rounded.held parts.state.rounded.forest, few_held_law s.graph parts.state.rounded.held parts.state.limits parts.state.rounded.forest, parts.state.limits.few_nodes);
  low = narrow.low;
  high = narrow.high;
  tests = subst (λ (o : Option Tests). IfSome o (AreTestsWithin stage.graph)) (sym narrow.untested) tt;
}

-- the reconciliation of a graph with other tests
pub retested : (g : ProcessGraph) (options : Options) (stage : Stage) (tests : Option Tests) → IsReconciled g options stage → IsReconciled g options (record stage { tests = tests })
retested g options stage tests is = record {
  graph_is = is.graph_is;
  classes = is.classes;
  priced = is.priced;
  solution = is.solution;
  gap = is.gap;
  bounds = is.bounds;
  least = is.least;
  freedom = is.freedom;
  low = is.low;
  high = is.high;
}

-- its statistic is the statistic of the solved graph
abbrev pub solved_statistic : (g : ProcessGraph) (options : Options) (stage : Stage) → IsReconciled g options stage → IsSolvedStatistic g options.gap options.sweeps stage.low stage.high
solved_statistic g options stage is = record {
  solved = stage.solved;
  price = printed_price stage;
  flows = printed_flows stage;
  solution = is.solution;
  is_low = is.low ∙ ap (low_of g.streams (printed_flows stage)) is.gap;
  is_high = is.high;
}

-- tests depend on the stage apart from its tests
same_tests : (g : ProcessGraph) (options : Options) (critical : Critical) (stage : Stage) (o tests : Option Tests) → IfSome tests (AreTestsOf g options critical stage)
    → IfSome tests (AreTestsOf g options critical (record stage { tests = o }))
same_tests g options critical stage o None are = tt
same_tests g options critical stage o (Some tests) are = record { overall = are.overall; nodal = are.nodal; measure = are.measure }

-- with the tests that are asked for it is a stage
pub stage_tested : (g : ProcessGraph) (options : Options) (critical : Critical) (stage : Stage) (tests : Option Tests) → IsReconciled g options stage → is_some tests ≡ options.tests
    → IfSome tests (AreTestsOf g options critical stage) → IsStageOf g options critical (record stage { tests = tests })
stage_tested g options critical stage tests is asked are =
    record { reconciled = whole_of g options (record stage { tests = tests }) (retested g options stage tests is); asked = asked; tests = same_tests g options critical stage tests tests are }

pub tested_formed : (g : ProcessGraph) (stage : Stage) (tests : Option Tests) → stage.graph ≡ g → IsWellFormed stage → IfSome tests (AreTestsWithin g) → IsWellFormed (record stage { tests = tests })
tested_formed g stage tests graph_is formed within = record {
  each_price = formed.each_price;
  each_stream = formed.each_stream;
  results = formed.results;
  prices = formed.prices;
  sweeps = formed.sweeps;
  g = formed.g;
  h = formed.h;
  dof = formed.dof;
  low = formed.low;
  high = formed.high;
  tests = subst (λ (h : ProcessGraph). IfSome tests (AreTestsWithin h)) (sym graph_is) within;
}

-- ---- redundant streams
redundant_below : (b : Bool) (n j : ℕ) (streams : List ℕ) → j < n → AllByRecursion (λ (k : ℕ). k < n) streams → AllByRecursion (λ (k : ℕ). k < n) (if b then j ∷ streams else streams)
redundant_below true n j streams less all = (less, all)
redundant_below false n j streams less all = all

redundant_all : (n j : ℕ) (results : List StreamResult) → length results + j ≤ n → AllByRecursion (λ (k : ℕ). k < n) (redundant_from j results)
redundant_all n j [] few = tt
redundant_all n j (r ∷ results) few =
    redundant_below (is_redundant r.classified.class) n j (redundant_from (suc j) results) (omega (arith, few)) (redundant_all n (suc j) results (omega (arith, few)))

pub redundant_within : (results : List StreamResult) (n : ℕ) → length results ≡ n → All (λ (k : ℕ). k < n) (redundant_streams results)
redundant_within results n each = All-from_recursion (λ (k : ℕ). k < n) (redundant_streams results) (redundant_all n 0 results (omega (arith, each)))

-- ---- the critical value of the global test
value_within : (dof : ℕ) (rows : List CriticalRow) → AllByRecursion IsCriticalRow rows → IfSome (critical_for dof rows) IsCriticalValue
value_within dof [] all = tt
value_within dof (row ∷ rows) (here, all) = this_or (row.dof == dof) row.value (critical_for dof rows) here (value_within dof rows all)
  where
    this_or : (b : Bool) (value : ℤ) (o : Option ℤ) → IsCriticalValue value → IfSome o IsCriticalValue → IfSome (if b then Some value else o) IsCriticalValue
    this_or true value o here rest = here
    this_or false value o here rest = rest

none_or : (b : Bool) (o : Option ℤ) → IfSome o IsCriticalValue → IfSome (if b then None else o) IsCriticalValue
none_or true o is = tt
none_or false o is = is

pub global_within : (critical : Critical) (dof : ℕ) (o : Option ℤ) → AreCritical critical → o ≡ (if dof == 0 then None else critical_for dof critical.global) → IfSome o IsCriticalValue
global_within critical dof o limits is =
    subst (λ (o : Option ℤ). IfSome o IsCriticalValue) (sym is)
    (none_or (dof == 0) (critical_for dof critical.global) (value_within dof critical.global (recursion_from_All IsCriticalRow critical.global limits.rows)))
