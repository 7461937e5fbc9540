-- A stage that is right passes, and so does one that is shown and solved.
use Rattle.std.proofs.Common.{◌≡◌, ◌∙◌, ◌&&◌, ℕ, ℤ, Bool, List, Option, Some, None, is_some, slice_get, refl, sym, ap, subst, inl, inr, arith}
use Rattle.std.specs.Prelude.{IfSome}
use Rattle.std.proofs.lemmas.Bool.{cases_Bool}
use Rattle.std.proofs.Math.Bool.{and-false, and-true}
use Rattle.pb_graph.specs.declared.records.Stream.{Stream}
use Rattle.pb_graph.specs.declared.records.Class.{Class}
use Rattle.pb_graph.specs.declared.records.Class.TheVariants.{Observable, Unobservable, Redundant, Nonredundant}
use Rattle.pb_graph.specs.declared.records.Witness.{Witness}
use Rattle.pb_graph.specs.declared.records.Witness.TheVariants.{Cut, Cycle}
use Rattle.pb_study.specs.declared.results.Solved.{Solved}
use Rattle.pb_study.specs.declared.results.Solved.TheVariants.{Converged, Unconverged}
use Rattle.pb_study.specs.declared.results.StreamResult.{StreamResult}
use Rattle.pb_study.specs.declared.results.Tests.{Tests}
use Rattle.pb_study.specs.declared.results.Stage.{Stage}
use Rattle.pb_graph.specs.ProcessGraph.{ProcessGraph, IsProcessGraph, is_measured}
use Rattle.pb_graph.specs.Certificates.{Shows}
use Rattle.pb_gap.specs.declared.gap.Gap.{Gap}
use Rattle.pb_gap.specs.Gap.{MeetsGap, deviations_of, gap_of}
use Rattle.pb_gap.specs.StreamBounds.{stream_bounds}
use Rattle.pb_gap.specs.LeastBounds.{stream_least_bounds}
use Rattle.pb_gap.specs.Solution.{IsSolution, OneStateLaw}
use Rattle.pb_gap.specs.Laws.{AreGaps}
use Rattle.pb_stage.specs.Printed.{have_least, printed_flows, printed_gap, printed_price, EachStream, HasLeastBounds}
use Rattle.pb_stage.specs.Certified.{AreShownTests, IsShownStage, found_least}
use Rattle.pb_check.specs.declared.faults.Test.TheVariants.{Balance, Price, Box, Freedom, State, Statistic, Nodal, Least}
use Rattle.pb_check.specs.declared.faults.Test.{Test}
use Rattle.pb_check.specs.Asked.{HasClassAt, IsStateAt, found_gap}
use Rattle.pb_check.specs.Places.{AreNodalRows, AreVerdicts, is_bounded, is_of_measured}
use Rattle.pb_check.specs.Verdict.{IsPassed}
use Rattle.pb_check.specs.Laws.{IsRight, RightLaw, SoundLaw}
use Rattle.pb_check.proofs.ClassLemmas.{class_of, of_bits}
use Rattle.pb_check.proofs.FirstLemmas.{each_fails}
use Rattle.pb_check.proofs.GroupLemmas.{nodes_by_prices}

-- ---- classes
-- a class that is shown is that of the stream
class_measured : (g : ProcessGraph) (j : ℕ) (s : Stream) (class : Class) (w : Witness) → Shows g j s class w → is_of_measured class ≡ is_measured s
class_measured g j s Observable (Cut side members) shows = sym (ap is_some shows.0)
class_measured g j s Redundant (Cut side members) shows = sym shows.0
class_measured g j s Unobservable (Cycle steps) shows = sym (ap is_some shows.0)
class_measured g j s Nonredundant (Cycle steps) shows = sym shows.0
class_measured g j s Observable (Cycle steps) shows = absurd shows
class_measured g j s Redundant (Cycle steps) shows = absurd shows
class_measured g j s Unobservable (Cut side members) shows = absurd shows
class_measured g j s Nonredundant (Cut side members) shows = absurd shows

-- and the rule gives it bounds unless it is unobservable
pub class_bounded : (g : ProcessGraph) (j : ℕ) (s : Stream) (class : Class) (w : Witness) (price : ℕ → ℤ) (ss : List Stream) (gap : Gap) → Shows g j s class w
    → is_some (stream_bounds price ss gap j (record { class = class; witness = w })) ≡ is_bounded class
class_bounded g j s Observable (Cut side members) price ss gap shows = refl
class_bounded g j s Redundant w price ss gap shows = refl
class_bounded g j s Unobservable w price ss gap shows = refl
class_bounded g j s Nonredundant w price ss gap shows = refl
class_bounded g j s Observable (Cycle steps) price ss gap shows = absurd shows

-- and least bounds with them
pub class_least_bounded : (g : ProcessGraph) (j : ℕ) (s : Stream) (class : Class) (w : Witness) (price : ℕ → ℤ) (ss : List Stream) (flows : List ℤ) (gap : Gap) → Shows g j s class w
    → is_some (stream_least_bounds price ss flows gap j (record { class = class; witness = w })) ≡ is_bounded class
class_least_bounded g j s Observable (Cut side members) price ss flows gap shows = refl
class_least_bounded g j s Redundant w price ss flows gap shows = refl
class_least_bounded g j s Unobservable w price ss flows gap shows = refl
class_least_bounded g j s Nonredundant w price ss flows gap shows = refl
class_least_bounded g j s Observable (Cycle steps) price ss flows gap shows = absurd shows

-- if some stream has least bounds, a stream with bounds has them; if none has, none has
least_beside : (stage : Stage) (j : ℕ) (s : Stream) (r : StreamResult) → (HasLeastBounds stage → EachStream stage (λ j r. r.least ≡ found_least stage j r)) → slice_get stage.streams j ≡ Some r
    → Shows stage.graph j s r.classified.class r.classified.witness → is_some r.bounds ≡ is_bounded r.classified.class
    → is_some r.least ≡ (is_some r.bounds && have_least stage.streams)
least_beside stage j s r numbers there shows bounded = elim (cases_Bool (have_least stage.streams)) [
  | inl have ↦
      let rule = class_least_bounded stage.graph j s r.classified.class r.classified.witness (printed_price stage) stage.graph.streams (printed_flows stage) (printed_gap stage) shows in
      ap is_some (numbers have j r there) ∙ rule ∙ sym bounded ∙ sym (and-true (is_some r.bounds)) ∙ ap (λ (b : Bool). is_some r.bounds && b) (sym have)
  | inr none ↦
      each_fails (λ (r : StreamResult). is_some r.least) stage.streams j r none there ∙ sym (and-false (is_some r.bounds)) ∙ ap (λ (b : Bool). is_some r.bounds && b) (sym none)
]

has_class : (stage : Stage) (j : ℕ) (r : StreamResult) → IsShownStage stage → slice_get stage.streams j ≡ Some r → HasClassAt stage j r
has_class stage j r shown there =
    let (s, at, shows) = shown.shown j r there in
    let c = r.classified in
    let bounded = ap is_some (shown.numbers.bounded j r there) ∙ class_bounded stage.graph j s c.class c.witness (printed_price stage) stage.graph.streams (printed_gap stage) shows in
    class_of stage j s r at
    (of_bits (have_least stage.streams) s r
    (record {
      measured = class_measured stage.graph j s c.class c.witness shows;
      bounded = bounded;
      least_bounded = least_beside stage j s r shown.numbers.least_bounded there shows bounded;
    }))

-- ---- the state
state_at : OneStateLaw → (g : ProcessGraph) (gap sweeps : ℕ) (solved : Solved) (price : ℕ → ℤ) (flows : List ℤ) (printed : Gap) → IsProcessGraph g → printed ≡ gap_of price g.streams flows
    → IsSolution g gap sweeps solved price flows → IsStateAt gap sweeps printed solved
state_at one g gap sweeps (Converged k) price flows printed limits same is = (subst (MeetsGap gap) (sym same) is.here.met, is.within)
state_at one g gap sweeps (Unconverged k) price flows printed limits same is =
    let miss = is.none k (omega arith) in
    let alike = one g k price miss.price flows miss.flows limits is.here miss.state in
    let there : printed ≡ gap_of miss.price g.streams miss.flows = same ∙ (λ i. gap_of (alike.price i) g.streams (alike.flows i)) in
    ((λ met. miss.missed (subst (MeetsGap gap) there met)), is.done)

-- ---- tests
rows_if : (stage : Stage) (o : Option Tests) → IfSome o (AreShownTests stage) → IfSome o (AreNodalRows stage)
rows_if stage None shown = tt
rows_if stage (Some tests) shown = shown.groups

verdicts_if : (stage : Stage) (o : Option Tests) → IfSome o (AreShownTests stage) → IfSome o (AreVerdicts stage)
verdicts_if stage None shown = tt
verdicts_if stage (Some tests) shown = (shown.overall, shown.nodal, shown.measure)

-- ---- all tests
pub shown_right : AreGaps → (stage : Stage) (gap sweeps : ℕ) → IsRight stage gap sweeps → IsPassed stage gap sweeps
shown_right gaps stage gap sweeps right = passes
  where
    shown : IsShownStage stage
    shown = right.shown

    passes : IsPassed stage gap sweeps
    passes Test.Class = λ j r there. has_class stage j r shown there
    passes Test.Witness = shown.shown
    passes Balance = shown.balanced
    passes Price = nodes_by_prices stage (record { shared = shown.fit.shared; fixed = shown.fit.fixed })
    passes Box = shown.fit.box
    passes Freedom = shown.numbers.freedom
    passes Test.Gap = gaps.only (deviations_of (printed_price stage) stage.graph.streams (printed_flows stage)) (printed_gap stage) shown.numbers.deviation
    passes State = right.state
    passes Test.Bounds = shown.numbers.bounded
    passes Statistic = (shown.numbers.from_below, shown.numbers.from_above)
    passes Nodal = rows_if stage stage.tests shown.tests
    passes Test.Verdict = verdicts_if stage stage.tests shown.tests
    passes Least = shown.numbers.least_bounded

pub solved_right : AreGaps → OneStateLaw → (stage : Stage) (gap sweeps : ℕ) → IsShownStage stage
    → IsSolution stage.graph gap sweeps stage.solved (printed_price stage) (printed_flows stage) → IsPassed stage gap sweeps
solved_right gaps one stage gap sweeps shown solution =
    let same : printed_gap stage ≡ found_gap stage = gaps.only (deviations_of (printed_price stage) stage.graph.streams (printed_flows stage)) (printed_gap stage) shown.numbers.deviation in
    shown_right gaps stage gap sweeps (record {
      shown = shown;
      state = state_at one stage.graph gap sweeps stage.solved (printed_price stage) (printed_flows stage) (printed_gap stage) shown.limits same solution;
    })

-- a stage that passes is right
pub right_by : AreGaps → SoundLaw → RightLaw
right_by gaps sound stage gap sweeps limits formed = (
  (λ passed. record { shown = (sound stage gap sweeps limits formed passed).certified.shown; state = passed State }),
  (λ right. shown_right gaps stage gap sweeps right),
)
