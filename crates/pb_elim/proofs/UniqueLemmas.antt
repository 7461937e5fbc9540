-- A graph has at most one study.
use Rattle.std.proofs.Common.{◌≡◌, ◌≢◌, ◌∙◌, ℕ, zero, suc, ◌+◌, ◌≤◌, ℤ, pos, List, length, take, Option, Some, None, slice_get, map, refl, sym, ap, ap₂, subst, inl, inr, arith}
use Rattle.std.specs.Prelude.{is_some, IfSome, IsSomeAnd}
use Rattle.std.proofs.lemmas.Bool.{cases_lt}
use Rattle.std.proofs.lemmas.List.{ext_get_or, length-map, take_all, take_more_same}
use Rattle.std.proofs.lemmas.Option.{get_or_from_slice_get, slice_get_within}
use Rattle.pb_graph.specs.declared.records.Stream.{Stream}
use Rattle.pb_graph.specs.declared.records.Classified.{Classified}
use Rattle.pb_study.specs.declared.results.StreamResult.{StreamResult}
use Rattle.pb_study.specs.declared.results.Tests.{Tests}
use Rattle.pb_study.specs.declared.results.Stage.{Stage}
use Rattle.pb_study.specs.declared.results.Taken.{Taken}
use Rattle.pb_study.specs.declared.results.Stop.{Stop}
use Rattle.pb_study.specs.declared.results.Study.{Study}
use Rattle.pb_study.specs.declared.results.Options.{Options}
use Rattle.pb_study.specs.declared.results.Critical.{Critical}
use Rattle.pb_graph.specs.ProcessGraph.{ProcessGraph, IsProcessGraph}
use Rattle.pb_graph.proofs.WalkLemmas.{some_same}
use Rattle.pb_forest.specs.Forest.{degrees_of_freedom}
use Rattle.pb_forest.specs.Laws.{OneForestLaw}
use Rattle.pb_classify.specs.Laws.{OneClassificationLaw}
use Rattle.pb_gap.specs.declared.gap.Gap.{Gap}
use Rattle.pb_gap.specs.Gap.{gap_of}
use Rattle.pb_gap.specs.StreamBounds.{stream_bounds}
use Rattle.pb_gap.specs.LeastBounds.{stream_least_bounds}
use Rattle.pb_gap.specs.Statistic.{low_of, high_of}
use Rattle.pb_gap.specs.Solution.{OneSolutionLaw}
use Rattle.pb_stage.specs.Verdicts.{global_test_of}
use Rattle.pb_stage.specs.Drop.{AreMeasureTests}
use Rattle.pb_stage.specs.Laws.{OneMeasureTestsLaw, OneNodalTestsLaw}
use Rattle.pb_stage.specs.Printed.{printed_price, printed_flows, printed_classes, printed_gap}
use Rattle.pb_stage.specs.StageTests.{AreTestsOf, redundant_streams}
use Rattle.pb_stage.specs.Freedom.{HasFreedom}
use Rattle.pb_elim.specs.Reconciled.{IsReconciled}
use Rattle.pb_elim.specs.Stage.{IsStageOf}
use Rattle.pb_elim.specs.Elimination.{IsStop, stop_after}
use Rattle.pb_elim.specs.Rounds.{IsTakenAfter}
use Rattle.pb_elim.specs.Study.{IsStudyOf, without_taken}
use Rattle.pb_elim.specs.Laws.{OneStudyLaw}
use Rattle.pb_elim.proofs.ListLemmas.{at_map, same_items, some_at}
use Rattle.pb_elim.proofs.SuspectLemmas.{one_suspect}
use Rattle.pb_elim.proofs.TakenLemmas.{without_limits}
use Rattle.pb_elim.proofs.ReconciledLemmas.{parts_of}

-- what the laws below give
pub record Laws : Type 0 where
  pub forest : OneForestLaw
  pub classification : OneClassificationLaw
  pub solution : OneSolutionLaw
  pub nodal : OneNodalTestsLaw
  pub measure : OneMeasureTestsLaw

one_freedom : Laws → (ss : List Stream) (dof other : ℕ) → HasFreedom ss dof → HasFreedom ss other → dof ≡ other
one_freedom laws ss dof other x y = x.count ∙ ap (degrees_of_freedom ss) (laws.forest ss x.held y.held x.forest y.forest) ∙ sym y.count

-- the image of the item at one place of equal images
one_image : {A B : Type 0} (f : A → B) (xs ys : List A) (k : ℕ) (x y : A) → map f xs ≡ map f ys → slice_get xs k ≡ Some x → slice_get ys k ≡ Some y → f x ≡ f y
one_image {A} {B} f xs ys k x y same at there = some_same (sym (at_map f xs k x at) ∙ ap (λ (zs : List B). slice_get zs k) same ∙ at_map f ys k y there)

-- what two stages of a graph have in common
record IsSame (one other : Stage) : Type 0 where
  solved : one.solved ≡ other.solved
  price : printed_price one ≡ printed_price other
  flows : printed_flows one ≡ printed_flows other
  classes : printed_classes one ≡ printed_classes other
  gap : printed_gap one ≡ printed_gap other

same : Laws → (g : ProcessGraph) (options : Options) (one other : Stage) → IsProcessGraph g → IsReconciled g options one → IsReconciled g options other → IsSame one other
same laws g options one other limits x y =
    let s = laws.solution g options.gap options.sweeps one.solved other.solved (printed_price one) (printed_price other) (printed_flows one) (printed_flows other) limits x.solution y.solution in
    record {
      solved = s.0;
      price = s.1.price;
      flows = s.1.flows;
      classes = laws.classification g (printed_classes one) (printed_classes other) x.classes y.classes;
      gap = x.gap ∙ ap₂ (λ (price : ℕ → ℤ) (flows : List ℤ). gap_of price g.streams flows) s.1.price s.1.flows ∙ sym y.gap;
    }

one_result : (g : ProcessGraph) (options : Options) (one other : Stage) → IsReconciled g options one → IsReconciled g options other → IsSame one other → (k : ℕ) (r q : StreamResult)
    → slice_get one.streams k ≡ Some r → slice_get other.streams k ≡ Some q → r ≡ q
one_result g options one other x y s k r q at there =
    let class : r.classified ≡ q.classified = one_image (λ (r : StreamResult). r.classified) one.streams other.streams k r q s.classes at there in
    let flow : r.flow ≡ q.flow = one_image (λ (r : StreamResult). r.flow) one.streams other.streams k r q s.flows at there in
    let here : stream_bounds (printed_price one) g.streams (printed_gap one) k r.classified ≡ stream_bounds (printed_price other) g.streams (printed_gap other) k q.classified =
    λ i. stream_bounds (s.price i) g.streams (s.gap i) k (class i) in
    let bounds : r.bounds ≡ q.bounds = x.bounds k r at ∙ here ∙ sym (y.bounds k q there) in
    let least_here : stream_least_bounds (printed_price one) g.streams (printed_flows one) (printed_gap one) k r.classified
    ≡ stream_least_bounds (printed_price other) g.streams (printed_flows other) (printed_gap other) k q.classified =
    λ i. stream_least_bounds (s.price i) g.streams (s.flows i) (s.gap i) k (class i) in
    let least : r.least ≡ q.least = x.least k r at ∙ least_here ∙ sym (y.least k q there) in
    λ i. record { classified = class i; flow = flow i; bounds = bounds i; least = least i }

-- ---- tests
-- two stages without their tests
record IsSameBut (one other : Stage) : Type 0 where
  graph : one.graph ≡ other.graph
  streams : one.streams ≡ other.streams
  prices : one.prices ≡ other.prices
  solved : one.solved ≡ other.solved
  gap : printed_gap one ≡ printed_gap other
  dof : one.dof ≡ other.dof
  low : one.low ≡ other.low
  high : one.high ≡ other.high

same_tests : Laws → (g : ProcessGraph) (options : Options) (critical : Critical) (one other : Stage) (tests others : Tests) → IsProcessGraph g → IsSameBut one other
    → AreTestsOf g options critical one tests → AreTestsOf g options critical other others → tests ≡ others
same_tests laws g options critical one other tests others limits s x y =
    let overall : tests.global ≡ others.global = x.overall ∙ (λ i. global_test_of critical.global (s.low i) (s.high i) (s.dof i)) ∙ sym y.overall in
    let nodal = laws.nodal g critical.nodal tests.nodal others.nodal x.nodal y.nodal in
    let again : AreMeasureTests g options.gap options.sweeps other.low other.high critical.measure (redundant_streams other.streams) tests.measure =
    subst (λ (streams : List ℕ). AreMeasureTests g options.gap options.sweeps other.low other.high critical.measure streams tests.measure) (ap redundant_streams s.streams)
    (subst (λ (high : Option ℤ). AreMeasureTests g options.gap options.sweeps other.low high critical.measure (redundant_streams one.streams) tests.measure) s.high
    (subst (λ (low : ℤ). AreMeasureTests g options.gap options.sweeps low one.high critical.measure (redundant_streams one.streams) tests.measure) s.low x.measure)) in
    let measure = laws.measure g options.gap options.sweeps other.low other.high critical.measure (redundant_streams other.streams) tests.measure others.measure limits again y.measure in
    λ i. record { global = overall i; nodal = nodal i; measure = measure i }

same_if : Laws → (g : ProcessGraph) (options : Options) (critical : Critical) (one other : Stage) (o p : Option Tests) → IsProcessGraph g → IsSameBut one other → is_some o ≡ is_some p
    → IfSome o (AreTestsOf g options critical one) → IfSome p (AreTestsOf g options critical other) → o ≡ p
same_if laws g options critical one other None None limits s both x y = refl
same_if laws g options critical one other None (Some tests) limits s both x y = cc both
same_if laws g options critical one other (Some tests) None limits s both x y = cc both
same_if laws g options critical one other (Some tests) (Some others) limits s both x y = ap Some (same_tests laws g options critical one other tests others limits s x y)

-- ---- stages
same_but : Laws → (g : ProcessGraph) (options : Options) (one other : Stage) → IsProcessGraph g → IsReconciled g options one → IsReconciled g options other → IsSameBut one other
same_but laws g options one other limits x y =
    let s = same laws g options one other limits x y in
    let classified : StreamResult → Classified = λ r. r.classified in
    let each : length one.streams ≡ length other.streams =
    sym (length-map one.streams classified) ∙ ap length s.classes ∙ length-map other.streams classified in
    record {
      graph = x.graph_is ∙ sym y.graph_is;
      streams = same_items one.streams other.streams each (one_result g options one other x y s);
      prices = ext_get_or (pos 0) one.prices other.prices (x.priced ∙ sym y.priced) (λ i lt. ap (λ (f : ℕ → ℤ). f i) s.price);
      solved = s.solved;
      gap = s.gap;
      dof = one_freedom laws g.streams one.dof other.dof x.freedom y.freedom;
      low = x.low ∙ ap₂ (λ (flows : List ℤ) (gap : Gap). low_of g.streams flows gap) s.flows s.gap ∙ sym y.low;
      high = x.high ∙ ap (high_of g.streams) s.flows ∙ sym y.high;
    }

same_stage : Laws → (g : ProcessGraph) (options : Options) (critical : Critical) (one other : Stage) → IsProcessGraph g → IsStageOf g options critical one → IsStageOf g options critical other
    → one ≡ other
same_stage laws g options critical one other limits x y =
    let s = same_but laws g options one other limits (parts_of g options one x.reconciled) (parts_of g options other y.reconciled) in
    let tests = same_if laws g options critical one other one.tests other.tests limits s (x.asked ∙ sym y.asked) x.tests y.tests in
    λ i. record {
      graph = s.graph i;
      streams = s.streams i;
      prices = s.prices i;
      solved = s.solved i;
      g = (s.gap i).g;
      h = (s.gap i).h;
      dof = s.dof i;
      low = s.low i;
      high = s.high i;
      tests = tests i;
    }

-- ---- rounds
-- the stages at a place after the same streams
same_at : Laws → (g : ProcessGraph) (options : Options) (critical : Critical) (one other : Study) (n : ℕ) (x y : Stage) → IsProcessGraph g → IsStudyOf g options critical one
    → IsStudyOf g options critical other → take n one.taken ≡ take n other.taken → slice_get one.stages n ≡ Some x → slice_get other.stages n ≡ Some y → x ≡ y
same_at laws g options critical one other n x y limits a b front at there =
    let x_is : IsStageOf (without_taken g (take n other.taken)) options critical x =
    subst (λ (ts : List Taken). IsStageOf (without_taken g ts) options critical x) front (a.rounds.each n x at) in
    same_stage laws (without_taken g (take n other.taken)) options critical x y (without_limits g (take n other.taken) limits) x_is (b.rounds.each n y there)

-- from the same tests the same suspect is taken
same_taken : (options : Options) (critical : Critical) (n : ℕ) (o : Option Tests) (t u : Taken) → IsSomeAnd o (IsTakenAfter options critical n t) → IsSomeAnd o (IsTakenAfter options critical n u)
    → t ≡ u
same_taken options critical n None t u a b = absurd a
same_taken options critical n (Some tests) t u a b = one_suspect tests.measure t u a.1 b.1

-- the first streams taken are the same
same_front : Laws → (g : ProcessGraph) (options : Options) (critical : Critical) (one other : Study) (n : ℕ) → IsProcessGraph g → IsStudyOf g options critical one → IsStudyOf g options critical other
    → n ≤ length one.taken → n ≤ length other.taken → take n one.taken ≡ take n other.taken
same_front laws g options critical one other zero limits a b few too = refl
same_front laws g options critical one other (suc n) limits a b few too =
    let front = same_front laws g options critical one other n limits a b (omega (arith, few)) (omega (arith, too)) in
    let (x, at) = some_at one.stages n (omega (arith, few, a.rounds.between)) in
    let (y, there) = some_at other.stages n (omega (arith, too, b.rounds.between)) in
    let (t, first) = some_at one.taken n (omega (arith, few)) in
    let (u, second) = some_at other.taken n (omega (arith, too)) in
    let stage = same_at laws g options critical one other n x y limits a b front at there in
    let suspect = subst (λ (s : Stage). IsSomeAnd s.tests (IsTakenAfter options critical n t)) stage (a.rounds.suspects n x t at first) in
    let item = same_taken options critical n y.tests t u suspect (b.rounds.suspects n y u there second) in
    let next : suc n ≡ n + 1 = omega arith in
    subst (λ (k : ℕ). take k one.taken ≡ take k other.taken) (sym next)
    (take_more_same one.taken other.taken n t (omega (arith, few)) (omega (arith, too)) front (get_or_from_slice_get one.taken n t t first ∙ item ∙ sym (get_or_from_slice_get other.taken n u t second)))

-- tests that give a reason to stop take none
apart : (options : Options) (critical : Critical) (n : ℕ) (o : Option Tests) (reason : Stop) (t : Taken) → IsSomeAnd o (λ tests. stop_after options critical n tests ≡ Some reason)
    → IsSomeAnd o (IsTakenAfter options critical n t) → ⊥
apart options critical n None reason t stops goes = absurd stops
apart options critical n (Some tests) reason t stops goes = cc (sym stops ∙ goes.0)

-- a study that stops takes no more
goes_or_stops : (options : Options) (critical : Critical) (n : ℕ) (stage : Stage) (stop : Option Stop) (t : Taken) → options.eliminate ≢ 0 → IsStop options critical n stage stop
    → IsSomeAnd stage.tests (IsTakenAfter options critical n t) → ⊥
goes_or_stops options critical n stage None t asked stops goes = asked stops
goes_or_stops options critical n stage (Some reason) t asked (also, stops) goes = apart options critical n stage.tests reason t stops goes

-- so neither takes more than the other
no_more : Laws → (g : ProcessGraph) (options : Options) (critical : Critical) (one other : Study) → IsProcessGraph g → IsStudyOf g options critical one → IsStudyOf g options critical other
    → length other.taken ≤ length one.taken
no_more laws g options critical one other limits a b = elim (cases_lt (length one.taken) (length other.taken)) [
  | inl more ↦
      let n = length one.taken in
      let front = same_front laws g options critical one other n limits a b (omega arith) (omega (arith, more)) in
      let (x, at) = some_at one.stages n (omega (arith, a.rounds.between)) in
      let (y, there) = some_at other.stages n (omega (arith, more, b.rounds.between)) in
      let (u, second) = some_at other.taken n more in
      let stage = same_at laws g options critical one other n x y limits a b front at there in
      let goes = subst (λ (s : Stage). IsSomeAnd s.tests (IsTakenAfter options critical n u)) (sym stage) (b.rounds.suspects n y u there second) in
      let asked : options.eliminate ≢ 0 = λ none. absurd (omega (arith, none, more, b.rounds.rounds)) in
      absurd (goes_or_stops options critical n x one.stop u asked (a.stop x at) goes)
  | inr few ↦ few
]

same_reason : (options : Options) (critical : Critical) (n : ℕ) (o : Option Tests) (one other : Stop) → IsSomeAnd o (λ tests. stop_after options critical n tests ≡ Some one)
    → IsSomeAnd o (λ tests. stop_after options critical n tests ≡ Some other) → Some one ≡ Some other
same_reason options critical n None one other a b = absurd a
same_reason options critical n (Some tests) one other a b = sym a ∙ b

same_stop : (options : Options) (critical : Critical) (n : ℕ) (stage : Stage) (one other : Option Stop) → IsStop options critical n stage one → IsStop options critical n stage other → one ≡ other
same_stop options critical n stage None None a b = refl
same_stop options critical n stage None (Some other) a (asked, b) = absurd (asked a)
same_stop options critical n stage (Some one) None (asked, a) b = absurd (asked b)
same_stop options critical n stage (Some one) (Some other) (asked, a) (also, b) = same_reason options critical n stage.tests one other a b

pub one_study_by : Laws → OneStudyLaw
one_study_by laws g options critical one other limits a b =
    let less = no_more laws g options critical other one limits b a in
    let few = no_more laws g options critical one other limits a b in
    let n = length one.taken in
    let count : n ≡ length other.taken = omega (arith, less, few) in
    let fronts : (k : ℕ) → k ≤ n → take k one.taken ≡ take k other.taken =
    λ k within. same_front laws g options critical one other k limits a b within (omega (arith, within, count)) in
    let taken : one.taken ≡ other.taken =
    sym (take_all n one.taken (omega arith)) ∙ fronts n (omega arith) ∙ take_all n other.taken (omega (arith, count)) in
    let each : length one.stages ≡ length other.stages = omega (arith, a.rounds.between, b.rounds.between, count) in
    let stages : one.stages ≡ other.stages =
    same_items one.stages other.stages each (λ k x y at there.
    same_at laws g options critical one other k x y limits a b (fronts k (omega (arith, slice_get_within one.stages k x at, a.rounds.between))) at there) in
    let (x, at) = some_at one.stages n (omega (arith, a.rounds.between)) in
    let there : slice_get other.stages (length other.taken) ≡ Some x = sym (λ i. slice_get (stages i) (count i)) ∙ at in
    let stops : IsStop options critical n x other.stop = subst (λ (k : ℕ). IsStop options critical k x other.stop) (sym count) (b.stop x there) in
    let stop = same_stop options critical n x one.stop other.stop (a.stop x at) stops in
    λ i. record { stages = stages i; taken = taken i; stop = stop i }
