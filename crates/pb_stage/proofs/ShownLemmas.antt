-- A shown stage is certified.
use Rattle.std.proofs.Common.{◌≡◌, ◌∙◌, ◌==◌, ℕ, ℤ, Bool, true, false, List, Option, Some, None, refl, sym, ap, subst, arith}
use Rattle.std.specs.Prelude.{IfSome, MatchOption, option_map, if◌then◌else◌}
use Rattle.std.proofs.lemmas.Int.{ints}
use Rattle.pb_graph.specs.declared.records.Stream.{Stream}
use Rattle.pb_graph.specs.declared.records.Member.{Member}
use Rattle.pb_graph.specs.declared.records.Class.{Class}
use Rattle.pb_graph.specs.declared.records.Class.TheVariants.{Observable, Unobservable, Redundant, Nonredundant}
use Rattle.pb_graph.specs.declared.records.Witness.{Witness}
use Rattle.pb_graph.specs.declared.records.Witness.TheVariants.{Cut, Cycle}
use Rattle.pb_study.specs.declared.results.Bounds.{Bounds}
use Rattle.pb_study.specs.declared.results.Verdict.{Verdict}
use Rattle.pb_study.specs.declared.results.Verdict.TheVariants.{Reject, Accept, Undecided, NoCritical, NoTest}
use Rattle.pb_study.specs.declared.results.Tests.{Tests}
use Rattle.pb_study.specs.declared.results.Stage.{Stage}
use Rattle.pb_graph.specs.ProcessGraph.{ProcessGraph, IsProcessGraph}
use Rattle.pb_graph.specs.Certificates.{Shows}
use Rattle.pb_graph.specs.Squares.{Fractional, IsBalancedFractional, AreSquaresAtLeast, AreSquaresAtMost, whole_flows}
use Rattle.pb_graph.specs.BalanceLaws.{CertificateLaw}
use Rattle.pb_gap.specs.declared.gap.Gap.{Gap}
use Rattle.pb_gap.specs.Gap.{deviations_of, gap_of}
use Rattle.pb_gap.specs.Bounds.{bounds_of}
use Rattle.pb_gap.specs.StreamBounds.{IsStreamWithin, sum_for, stream_bounds}
use Rattle.pb_gap.specs.LeastBounds.{least_bounds_of, stream_least_bounds}
use Rattle.pb_gap.specs.Statistic.{low_of}
use Rattle.pb_gap.specs.Laws.{IsDualPair, AreGaps, StreamLaw, LowLaw, HighLaw}
use Rattle.pb_gap.specs.Least.{AreWithinGap, DistanceLaw}
use Rattle.pb_gap.specs.LeastBoundsLaws.{LeastStreamLaw}
use Rattle.pb_stage.specs.Verdicts.{global_verdict}
use Rattle.pb_stage.specs.Decided.{AreEnds}
use Rattle.pb_stage.specs.Laws.{GlobalAcceptLaw, GlobalRejectLaw, ShownLaw}
use Rattle.pb_stage.specs.Certified.{AreShownTests, IsGlobalRight, IsUndecided, IsVerdictRight}
use Rattle.pb_stage.specs.Printed.{printed_price, printed_flows, printed_gap}

-- only an unobservable stream has no sum, and so no bounds and no least bounds
no_sum : (g : ProcessGraph) (j : ℕ) (s : Stream) (class : Class) (w : Witness) → Shows g j s class w → sum_for j class w ≡ None → class ≡ Unobservable
no_sum g j s Unobservable w shows none = refl
no_sum g j s Redundant w shows none = cc none
no_sum g j s Nonredundant w shows none = cc none
no_sum g j s Observable (Cut side members) shows none = cc none
no_sum g j s Observable (Cycle steps) shows none = absurd shows

none_in : {A B : Type 0} (f : A → B) (o : Option A) → option_map f o ≡ None → o ≡ None
none_in f None none = refl
none_in f (Some x) none = cc none

unbounded : {B : Type 0} (of : List Member → B) (g : ProcessGraph) (j : ℕ) (s : Stream) (class : Class) (w : Witness) → Shows g j s class w → option_map of (sum_for j class w) ≡ None
    → class ≡ Unobservable
unbounded of g j s class w shows none = no_sum g j s class w shows (none_in of (sum_for j class w) none)

enclosed_by : (x : Fractional) (j : ℕ) (class : Class) (bounds : Option Bounds) → IfSome bounds (IsStreamWithin x j) → (bounds ≡ None → class ≡ Unobservable)
    → MatchOption bounds (class ≡ Unobservable) (IsStreamWithin x j)
enclosed_by x j class None within unobservable = unobservable refl
enclosed_by x j class (Some b) within unobservable = within

high_by : (g : ProcessGraph) (x : Fractional) (one other : Option ℤ) → one ≡ other → IfSome other (AreSquaresAtMost g x) → IfSome one (AreSquaresAtMost g x)
high_by g x one other same most = subst (λ (o : Option ℤ). IfSome o (AreSquaresAtMost g x)) (sym same) most

-- ---- the global test
-- what the laws of tests give
pub record Decides : Type 0 where
  pub rejects : GlobalRejectLaw
  pub accepts : GlobalAcceptLaw

verdict_right : Decides → (stage : Stage) (critical : ℤ) (v : Verdict) → IsProcessGraph stage.graph → AreEnds stage.graph (printed_flows stage) stage.low stage.high
    → global_verdict stage.low stage.high stage.dof (Some critical) ≡ v → IsVerdictRight stage critical v
verdict_right laws stage critical Reject limits ends is =
    λ x even. laws.rejects stage.graph (printed_flows stage) stage.low stage.high stage.dof critical x limits ends is even
verdict_right laws stage critical Accept limits ends is = laws.accepts stage.graph (printed_flows stage) stage.low stage.high stage.dof critical limits ends is
verdict_right laws stage critical Undecided limits ends is = tt
verdict_right laws stage critical NoCritical limits ends is = tt
verdict_right laws stage critical NoTest limits ends is = tt

no_verdict : (b : Bool) → IsUndecided (if b then NoTest else NoCritical)
no_verdict true = tt
no_verdict false = tt

global_right : Decides → (stage : Stage) (critical : Option ℤ) (v : Verdict) → IsProcessGraph stage.graph → AreEnds stage.graph (printed_flows stage) stage.low stage.high
    → v ≡ global_verdict stage.low stage.high stage.dof critical → MatchOption critical (IsUndecided v) (λ value. IsVerdictRight stage value v)
global_right laws stage None v limits ends is = subst IsUndecided (sym is) (no_verdict (stage.dof == 0))
global_right laws stage (Some critical) v limits ends is = verdict_right laws stage critical v limits ends (sym is)

decided_if : Decides → (stage : Stage) (o : Option Tests) → IsProcessGraph stage.graph → AreEnds stage.graph (printed_flows stage) stage.low stage.high → IfSome o (AreShownTests stage)
    → IfSome o (λ tests. IsGlobalRight stage tests.global)
decided_if laws stage None limits ends shown = tt
decided_if laws stage (Some tests) limits ends shown = global_right laws stage tests.global.critical tests.global.verdict limits ends shown.overall

-- what the laws below give
pub record Laws : Type 0 where
  pub certificate : CertificateLaw
  pub gaps : AreGaps
  pub stream : StreamLaw
  pub least_stream : LeastStreamLaw
  pub distance : DistanceLaw
  pub low : LowLaw
  pub high : HighLaw
  pub decides : Decides

pub shown_by : Laws → ShownLaw
shown_by laws stage is =
    let g = stage.graph in
    let price = printed_price stage in
    let flows = printed_flows stage in
    let numbers = is.numbers in
    let gap : printed_gap stage ≡ gap_of price g.streams flows = laws.gaps.only (deviations_of price g.streams flows) (printed_gap stage) numbers.deviation in
    let pair : (x : Fractional) → IsBalancedFractional g x → IsDualPair g price x = λ x even. record { limits = is.limits; fit = is.fit; balanced = even } in
    let least : (x : Fractional) → IsBalancedFractional g x → AreSquaresAtLeast g x stage.low =
    λ x even. subst (AreSquaresAtLeast g x) (sym (numbers.from_below ∙ ap (low_of g.streams flows) gap)) (laws.low g price flows x (pair x even) is.balanced) in
    let whole : IsBalancedFractional g (whole_flows flows) = record { positive = omega (arith, ints); balanced = is.balanced } in
    let most = high_by g (whole_flows flows) stage.high _ numbers.from_above (laws.high g flows is.limits) in
    record {
      shown = is;
      classes = λ j r at. laws.certificate g j r.classified is.limits (is.shown j r at);
      enclosed = λ x good j r at.
          let (s, here, shows) = is.shown j r at in
          let within = laws.stream g price flows x j r.classified (pair x good.balanced) is.balanced good.no_worse (is.shown j r at) in
          let same : r.bounds ≡ stream_bounds price g.streams (gap_of price g.streams flows) j r.classified =
          numbers.bounded j r at ∙ ap (λ (gap : Gap). stream_bounds price g.streams gap j r.classified) gap in
          enclosed_by x j r.classified.class r.bounds (subst (λ (o : Option Bounds). IfSome o (IsStreamWithin x j)) (sym same) within)
          (λ none. unbounded (bounds_of price g.streams (gap_of price g.streams flows)) g j s r.classified.class r.classified.witness shows (sym same ∙ none));
      hypercircle = λ has x least j r at.
          let (s, here, shows) = is.shown j r at in
          let within = laws.least_stream g price flows x j r.classified (pair (whole_flows flows) whole) least (is.shown j r at) in
          let same : r.least ≡ stream_least_bounds price g.streams flows (gap_of price g.streams flows) j r.classified =
          numbers.least_bounded has j r at ∙ ap (λ (gap : Gap). stream_least_bounds price g.streams flows gap j r.classified) gap in
          enclosed_by x j r.classified.class r.least (subst (λ (o : Option Bounds). IfSome o (IsStreamWithin x j)) (sym same) within)
          (λ none. unbounded (least_bounds_of price g.streams flows (gap_of price g.streams flows)) g j s r.classified.class r.classified.witness shows (sym same ∙ none));
      near = λ x least.
          subst (λ (gap : Gap). AreWithinGap g gap (whole_flows flows) x) (sym gap) (laws.distance g price flows x (pair (whole_flows flows) whole) least);
      least = least;
      most = most;
      decided = decided_if laws.decides stage stage.tests is.limits (record { least = least; most = most }) is.tests;
    }
