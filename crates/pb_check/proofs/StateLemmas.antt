-- What the pair of a stage says of its gap, its bounds and its measured flows.
use Rattle.std.proofs.Common.{◌≡◌, ◌∙◌, ◌↔◌, ◌&&◌, Bool, true, false, ℕ, zero, suc, ◌<◌, ◌≤◌, ℤ, List, [], ◌∷◌, length, map, Option, Some, is_some, slice_get, get_or, All, refl, sym, ap, ap₂, subst, arith}
use Rattle.std.proofs.Math.Bool.{and-true}
use Rattle.std.proofs.lemmas.List.{length-map}
use Rattle.std.proofs.lemmas.Option.{slice_get-get_or, slice_get_within}
use Rattle.pb_fixed.proofs.Lists.{all_each, some_same}
use Rattle.pb_graph.specs.declared.records.Witness.{Witness}
use Rattle.pb_graph.specs.declared.records.Witness.TheVariants.{Cut, Cycle}
use Rattle.pb_graph.specs.Certificates.{IsCertified}
use Rattle.pb_study.specs.declared.results.Bounds.{Bounds}
use Rattle.pb_study.specs.declared.results.StreamResult.{StreamResult}
use Rattle.pb_study.specs.declared.results.Stage.{Stage}
use Rattle.pb_graph.specs.ProcessGraph.{ProcessGraph, IsProcessGraph}
use Rattle.pb_graph.specs.WellFormed.{IsFlow, IsWitnessWithin}
use Rattle.pb_study.specs.WellFormed.{IsResultWithin, IsWellFormed}
use Rattle.pb_gap.specs.declared.gap.Gap.{Gap}
use Rattle.pb_gap.specs.Gap.{MeetsGap, gap_of, standard_deviations_of}
use Rattle.pb_gap.specs.FlowPair.{AreMeasured, PairedFlows}
use Rattle.pb_gap.specs.StreamBounds.{stream_bounds}
use Rattle.pb_gap.specs.LeastBounds.{stream_least_bounds}
use Rattle.pb_stage.specs.Printed.{have_least, printed_flows, printed_gap, printed_price, HasLeastBounds, EachStream}
use Rattle.pb_stage.specs.Signs.{AreWitnessSigns}
use Rattle.pb_stage.specs.Certified.{found_bounds, found_least}
use Rattle.pb_check.specs.declared.faults.Fault.{Fault}
use Rattle.pb_check.specs.Asked.{found_gap, HasClassAt}
use Rattle.pb_check.specs.Faults.{IsBoundsFault}
use Rattle.pb_check.specs.Places.{AtStream, DifferAt, is_bounded}
use Rattle.pb_check.specs.Pairs.{IsPairOf}
use Rattle.pb_check.proofs.ClassLemmas.{bits_of}
use Rattle.pb_check.proofs.PlaceLemmas.{fails_here, some_and}
use Rattle.pb_check.proofs.OwnLemmas.{class_bounded, class_least_bounded}

-- ---- the gap
pub found_is : (stage : Stage) (pair : PairedFlows) → IsPairOf stage pair → gap_of (printed_price stage) pair.graph.streams pair.flows ≡ found_gap stage
found_is stage pair is = λ i. gap_of (printed_price stage) (is.graph i).streams (is.flows i)

pub met_printed : (stage : Stage) (pair : PairedFlows) (gap : ℕ) (P : Type 0) → IsPairOf stage pair → (printed_gap stage ≡ found_gap stage) → (P ↔ MeetsGap gap (gap_of (printed_price stage) pair.graph.streams pair.flows))
    → P ↔ MeetsGap gap (printed_gap stage)
met_printed stage pair gap P is gap_is met = subst (λ (g : Gap). P ↔ MeetsGap gap g) (found_is stage pair is ∙ sym gap_is) met

-- ---- bounds
signs_within : (g : ProcessGraph) (w : Witness) → IsWitnessWithin g w → AreWitnessSigns w
signs_within g (Cut side members) (each, within) = λ k d lt. (within k d lt).sign
signs_within g (Cycle steps) within = tt

pub result_signs : (stage : Stage) (j : ℕ) (r : StreamResult) → IsWellFormed stage → slice_get stage.streams j ≡ Some r → AreWitnessSigns r.classified.witness
result_signs stage j r formed at = signs_within stage.graph r.classified.witness (all_each (IsResultWithin stage.graph) stage.streams formed.results j r at).witness

-- a stream has bounds exactly when the rule gives it some
pub result_bounded : (stage : Stage) (j : ℕ) (r : StreamResult) → EachStream stage (HasClassAt stage) → EachStream stage (λ j r. IsCertified stage.graph j r.classified) → slice_get stage.streams j ≡ Some r
    → is_some r.bounds ≡ is_some (stream_bounds (printed_price stage) stage.graph.streams (printed_gap stage) j r.classified)
result_bounded stage j r classes shown at =
    let (s, there, shows) = shown j r at in
    let (t, here, measured, bounded, least_bounded) = classes j r at in
    (bits_of (have_least stage.streams) t r (measured, bounded, least_bounded)).bounded ∙ sym (class_bounded stage.graph j s r.classified.class r.classified.witness (printed_price stage) stage.graph.streams (printed_gap stage) shows)

-- and, if the stage has any, least bounds exactly when the rule gives it some
pub result_least_bounded : (stage : Stage) (j : ℕ) (r : StreamResult) → HasLeastBounds stage → EachStream stage (HasClassAt stage) → EachStream stage (λ j r. IsCertified stage.graph j r.classified) → slice_get stage.streams j ≡ Some r
    → is_some r.least ≡ is_some (stream_least_bounds (printed_price stage) stage.graph.streams (printed_flows stage) (printed_gap stage) j r.classified)
result_least_bounded stage j r have classes shown at =
    let (s, there, shows) = shown j r at in
    let (t, here, measured, bounded, least_bounded) = classes j r at in
    let bits = bits_of (have_least stage.streams) t r (measured, bounded, least_bounded) in
    bits.least_bounded ∙ ap₂ (λ (a b : Bool). a && b) bits.bounded have ∙ and-true (is_bounded r.classified.class)
    ∙ sym (class_least_bounded stage.graph j s r.classified.class r.classified.witness (printed_price stage) stage.graph.streams (printed_flows stage) (printed_gap stage) shows)

-- ---- flows
from_map : (xs : List StreamResult) (k : ℕ) (y : ℤ) → slice_get (map (λ (r : StreamResult). r.flow) xs) k ≡ Some y → (x : StreamResult) × (slice_get xs k ≡ Some x) × (x.flow ≡ y)
from_map [] k y at = cc at
from_map (x ∷ xs) zero y at = (x, refl, some_same at)
from_map (x ∷ xs) (suc k) y at = from_map xs k y at

flow_at : (g : ProcessGraph) (rs : List StreamResult) → All (IsResultWithin g) rs → All IsFlow (map (λ (r : StreamResult). r.flow) rs)
flow_at g rs within = λ k d lt.
    let flow : StreamResult → ℤ = λ r. r.flow in
    let (r, at, is) = from_map rs k (get_or (map flow rs) k d) (slice_get-get_or (map flow rs) k d lt) in
    subst IsFlow is (all_each (IsResultWithin g) rs within k r at).flow

pub measured : (stage : Stage) (roots flows : List ℤ) → IsProcessGraph stage.graph → IsWellFormed stage → roots ≡ standard_deviations_of stage.graph.streams
    → flows ≡ printed_flows stage → AreMeasured stage.graph.streams roots flows
measured stage roots flows limits formed rooted printed = record {
  few = limits.few_streams;
  limits = limits.limits;
  roots = rooted;
  each = ap length printed ∙ length-map stage.streams (λ (r : StreamResult). r.flow) ∙ formed.each_stream;
  small = subst (All IsFlow) (sym printed) (flow_at stage.graph stage.streams formed.results);
}

-- ---- the streams of a stage, one by one
-- the first stream that has other bounds than the rule gives
ends_fail : (stage : Stage) (stated : StreamResult → Option Bounds) (rule : ℕ → StreamResult → Option Bounds) (j : ℕ) (r : StreamResult) (found : Option Bounds) (fault : Fault)
    → slice_get stage.streams j ≡ Some r → found ≡ rule j r → ((k : ℕ) → k < j → AtStream stage (λ j r. stated r ≡ rule j r) k) → DifferAt j (stated r) found fault
    → IsBoundsFault stage stated rule fault
ends_fail stage stated rule j r found fault at found_is before differ =
    fails_here (λ j r. stated r ≡ rule j r) stage.streams _ j r at before
    (λ same. differ.differ (some_same (sym differ.stated_is ∙ same ∙ sym found_is ∙ differ.found_is)))
    (some_and (stated r) _ differ.here differ.stated_is (some_and (rule j r) _ differ.there (sym found_is ∙ differ.found_is) differ.is))

pub bounds_fail : (stage : Stage) (j : ℕ) (r : StreamResult) (found : Option Bounds) (fault : Fault) → slice_get stage.streams j ≡ Some r
    → found ≡ stream_bounds (printed_price stage) stage.graph.streams (printed_gap stage) j r.classified → ((k : ℕ) → k < j → AtStream stage (λ j r. r.bounds ≡ found_bounds stage j r) k) → DifferAt j r.bounds found fault
    → IsBoundsFault stage (λ r. r.bounds) (found_bounds stage) fault
bounds_fail stage j r found fault at found_is before differ = ends_fail stage (λ r. r.bounds) (found_bounds stage) j r found fault at found_is before differ

-- the stream at a place has the bounds that the rule gives
pub bounds_here : (stage : Stage) (j : ℕ) (r : StreamResult) (found : Option Bounds) → slice_get stage.streams j ≡ Some r
    → found ≡ stream_bounds (printed_price stage) stage.graph.streams (printed_gap stage) j r.classified → r.bounds ≡ found → AtStream stage (λ j r. r.bounds ≡ found_bounds stage j r) j
bounds_here stage j r found at found_is same q there =
    subst (λ (r : StreamResult). r.bounds ≡ stream_bounds (printed_price stage) stage.graph.streams (printed_gap stage) j r.classified) (some_same (sym at ∙ there)) (same ∙ found_is)

pub all_bounds : (stage : Stage) (n : ℕ) → length stage.streams ≤ n → ((k : ℕ) → k < n → AtStream stage (λ j r. r.bounds ≡ found_bounds stage j r) k) → EachStream stage (λ j r. r.bounds ≡ found_bounds stage j r)
all_bounds stage n end each j r at = each j (omega (arith, slice_get_within stage.streams j r at, end)) r at

-- the first stream that has other least bounds than the rule gives
pub least_fail : (stage : Stage) (j : ℕ) (r : StreamResult) (found : Option Bounds) (fault : Fault) → HasLeastBounds stage → slice_get stage.streams j ≡ Some r
    → found ≡ stream_least_bounds (printed_price stage) stage.graph.streams (printed_flows stage) (printed_gap stage) j r.classified
    → ((k : ℕ) → k < j → AtStream stage (λ j r. r.least ≡ found_least stage j r) k) → DifferAt j r.least found fault
    → HasLeastBounds stage × IsBoundsFault stage (λ r. r.least) (found_least stage) fault
least_fail stage j r found fault have at found_is before differ = (have, ends_fail stage (λ r. r.least) (found_least stage) j r found fault at found_is before differ)

-- the stream at a place has the least bounds that the rule gives
pub least_here : (stage : Stage) (j : ℕ) (r : StreamResult) (found : Option Bounds) → slice_get stage.streams j ≡ Some r
    → found ≡ stream_least_bounds (printed_price stage) stage.graph.streams (printed_flows stage) (printed_gap stage) j r.classified → r.least ≡ found → AtStream stage (λ j r. r.least ≡ found_least stage j r) j
least_here stage j r found at found_is same q there =
    subst (λ (r : StreamResult). r.least ≡ stream_least_bounds (printed_price stage) stage.graph.streams (printed_flows stage) (printed_gap stage) j r.classified)
    (some_same (sym at ∙ there)) (same ∙ found_is)

pub all_least : (stage : Stage) (n : ℕ) → length stage.streams ≤ n → ((k : ℕ) → k < n → AtStream stage (λ j r. r.least ≡ found_least stage j r) k) → (HasLeastBounds stage → EachStream stage (λ j r. r.least ≡ found_least stage j r))
all_least stage n end each have j r at = each j (omega (arith, slice_get_within stage.streams j r at, end)) r at

-- whether the stage has least bounds, by what its results say
pub have_by : (stage : Stage) (results : List StreamResult) (b : Bool) → results ≡ stage.streams → b ≡ have_least results → b ≡ true → HasLeastBounds stage
have_by stage results b same is yes_ = sym (is ∙ ap have_least same) ∙ yes_

pub none_by : (stage : Stage) (results : List StreamResult) (b : Bool) → results ≡ stage.streams → b ≡ have_least results → b ≡ false → (HasLeastBounds stage → EachStream stage (λ j r. r.least ≡ found_least stage j r))
none_by stage results b same is no_ have = absurd (let here : b ≡ have_least stage.streams = is ∙ ap have_least same in cc (here, no_, have))
