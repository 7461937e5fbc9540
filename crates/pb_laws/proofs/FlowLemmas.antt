-- Each printed flow is within its bounds, and so within its least bounds.
use Rattle.std.proofs.Common.{◌≡◌, ◌∙◌, ℕ, zero, suc, ℤ, pos, ◌+ℤ◌, ◌-ℤ◌, ◌≤ℤ◌, Bool, true, false, List, [], ◌∷◌, Option, Some, None, slice_get, refl, sym, ap, subst, arith}
use Rattle.std.specs.Prelude.{is_some, ◌||◌, IfSome, MatchOption}
use Rattle.std.specs.Option.{option_map}
use Rattle.std.proofs.lemmas.Int.{ints}
use Rattle.std.proofs.lemmas.Option.{get_or_from_slice_get, slice_get-map}
use Rattle.pb_fixed.specs.Sums.{item}
use Rattle.pb_fixed.proofs.Lists.{some_same}
use Rattle.pb_fixed.specs.Quotients.{ceil_div, floor_div}
use Rattle.pb_fixed.proofs.QuotientLaws.{ceiling_is, floor_is}
use Rattle.pb_graph.specs.declared.records.Classified.{Classified}
use Rattle.pb_graph.specs.declared.records.Member.{Member}
use Rattle.pb_study.specs.declared.results.Bounds.{Bounds}
use Rattle.pb_study.specs.declared.results.Stage.{Stage}
use Rattle.pb_study.specs.declared.results.StreamResult.{StreamResult}
use Rattle.pb_graph.specs.Squares.{whole_flows}
use Rattle.pb_graph.specs.PricedSums.{signed_sum}
use Rattle.pb_dual.specs.DualValue.{scale}
use Rattle.pb_gap.specs.Bounds.{bounds_of, dual_flow_sum, half_width_in}
use Rattle.pb_gap.specs.Laws.{StreamSumLaw, SumsTo}
use Rattle.pb_gap.specs.LeastBounds.{least_bounds_of}
use Rattle.pb_gap.specs.StreamBounds.{IsStreamWithin, sum_for}
use Rattle.pb_stage.specs.Printed.{have_least, printed_flows, printed_gap, printed_price, HasLeastBounds}
use Rattle.pb_stage.specs.Certified.{IsAsGood, IsCertifiedStage}
use Rattle.pb_laws.specs.Flows.{IsFlowWithin, OwnBoundsLaw, OwnLeastBoundsLaw}

-- ---- bounds
pub flow_at : (stage : Stage) (j : ℕ) (r : StreamResult) → slice_get stage.streams j ≡ Some r → item (printed_flows stage) j ≡ r.flow
flow_at stage j r at =
    let flow : StreamResult → ℤ = λ s. s.flow in
    get_or_from_slice_get (printed_flows stage) j r.flow (pos 0) (slice_get-map flow stage.streams j ∙ ap (option_map flow) at)

-- what is within bounds as a fraction over 1 is so in whole grams
whole_within : (flows : List ℤ) (j : ℕ) (flow : ℤ) (P : Type 0) (bounds : Option Bounds) → item flows j ≡ flow → MatchOption bounds P (IsStreamWithin (whole_flows flows) j)
    → IfSome bounds (IsFlowWithin flow)
whole_within flows j flow P None is within = tt
whole_within flows j flow P (Some bounds) is within =
    let from = within.from in
    let to = within.to in
    record { from = omega (arith, ints, is, from); to = omega (arith, ints, is, to) }

-- the printed flows are no worse than themselves
as_good : (stage : Stage) → IsCertifiedStage stage → IsAsGood stage (whole_flows (printed_flows stage))
as_good stage certified = record {
  balanced = record { positive = omega (arith, ints); balanced = certified.shown.balanced };
  no_worse = omega (arith, ints);
}

pub own_bounds : OwnBoundsLaw
own_bounds stage certified j r at =
    whole_within (printed_flows stage) j r.flow _ r.bounds (flow_at stage j r at)
    (certified.enclosed (whole_flows (printed_flows stage)) (as_good stage certified) j r at)

-- ---- least bounds
-- A number within some bounds is within the midpoints between itself and these bounds.
middle_from : (flow sum low width : ℤ) → sum ≡ flow → (low -ℤ width) ≤ℤ flow → (floor_div (sum +ℤ low) (pos 2) -ℤ ceil_div width (pos 2)) ≤ℤ flow
middle_from flow sum low width same from =
    let below = (floor_is (sum +ℤ low) (pos 2) (omega (arith, ints))).below in
    let above = (ceiling_is width (pos 2) (omega (arith, ints))).above in
    omega (arith, ints, same, from, below, above)

middle_to : (flow sum high width : ℤ) → sum ≡ flow → flow ≤ℤ (high +ℤ width) → flow ≤ℤ (ceil_div (sum +ℤ high) (pos 2) +ℤ ceil_div width (pos 2))
middle_to flow sum high width same to =
    let middle = (ceiling_is (sum +ℤ high) (pos 2) (omega (arith, ints))).above in
    let above = (ceiling_is width (pos 2) (omega (arith, ints))).above in
    omega (arith, ints, same, to, middle, above)

-- a stage has least bounds if a stream has
pub has_least : (results : List StreamResult) (j : ℕ) (r : StreamResult) → slice_get results j ≡ Some r → is_some r.least ≡ true → have_least results ≡ true
has_least [] j r at is = cc at
has_least (q ∷ results) zero r at is = rw (some_same at, is) refl
has_least (q ∷ results) (suc j) r at is = or_true (is_some q.least) (have_least results) (has_least results j r at is)
  where
    or_true : (a b : Bool) → b ≡ true → (a || b) ≡ true
    or_true true b e = refl
    or_true false b e = e

pub own_least : StreamSumLaw → OwnLeastBoundsLaw
own_least sums stage certified j r at = by r.least refl
  where
    price : ℕ → ℤ
    price = printed_price stage

    flows : List ℤ
    flows = printed_flows stage

    c : Classified
    c = r.classified

    from_sum : (o : Option (List Member)) (bounds : Bounds) → sum_for j c.class c.witness ≡ o
        → option_map (least_bounds_of price stage.graph.streams flows (printed_gap stage)) o ≡ Some bounds → IsFlowWithin r.flow bounds
    from_sum None bounds is found = cc found
    from_sum (Some members) bounds is found =
        let wide : Bounds = bounds_of price stage.graph.streams (printed_gap stage) members in
        let has : r.bounds ≡ Some wide = certified.shown.numbers.bounded j r at ∙ ap (option_map (bounds_of price stage.graph.streams (printed_gap stage))) is in
        let within : IsFlowWithin r.flow wide = subst (λ (o : Option Bounds). IfSome o (IsFlowWithin r.flow)) has (own_bounds stage certified j r at) in
        let sums_to : SumsTo stage.graph j members =
        subst (λ (o : Option (List Member)). IfSome o (SumsTo stage.graph j)) is (sums stage.graph j c certified.shown.limits (certified.shown.shown j r at)) in
        let same : signed_sum members flows ≡ r.flow = sums_to.sum flows certified.shown.balanced ∙ flow_at stage j r at in
        subst (IsFlowWithin r.flow) (some_same found) (record {
          from = middle_from r.flow (signed_sum members flows) (floor_div (dual_flow_sum price stage.graph.streams members) scale)
              (half_width_in stage.graph.streams (printed_gap stage) members) same within.from;
          to = middle_to r.flow (signed_sum members flows) (ceil_div (dual_flow_sum price stage.graph.streams members) scale)
              (half_width_in stage.graph.streams (printed_gap stage) members) same within.to;
        })

    by : (o : Option Bounds) → r.least ≡ o → IfSome o (IsFlowWithin r.flow)
    by None is = tt
    by (Some bounds) is =
        let has : HasLeastBounds stage = has_least stage.streams j r at (ap is_some is) in
        from_sum (sum_for j c.class c.witness) bounds refl (sym (certified.shown.numbers.least_bounded has j r at) ∙ is)
