-- Least bounds are within bounds.
use Rattle.std.proofs.Common.{◌≡◌, ◌∙◌, ◌^◌, ◌*◌, ℕ, zero, suc, ℤ, pos, neg_ℤ, ◌+ℤ◌, ◌-ℤ◌, ◌*ℤ◌, ◌≤ℤ◌, ◌<ℤ◌, List, [], ◌∷◌, length, Option, Some, None, slice_get, ◌⊎◌, refl, sym, ap, subst, inl, inr, arith}
use Rattle.std.specs.Prelude.{IfSome, is_some}
use Rattle.std.specs.List.{AllByRecursion}
use Rattle.std.specs.Option.{option_map, option_map_or}
use Rattle.std.proofs.lemmas.Int.{by_lt_z, ints}
use Rattle.pb_fixed.specs.Sums.{item}
use Rattle.pb_fixed.specs.Quotients.{ceil_div, floor_div}
use Rattle.pb_fixed.specs.Roots.{scaled_root_of}
use Rattle.pb_fixed.proofs.Lists.{all_each, some_same}
use Rattle.pb_fixed.proofs.Order.{le_by_eq, le_trans, mul_cancel, mul_mono, mul_mono_left, mul_positive, mul_strict, root_strict, square_pos}
use Rattle.pb_fixed.proofs.QuotientLaws.{ceiling_is, floor_is}
use Rattle.pb_fixed.proofs.Ring.{var, lit, plus, times, less, minus, square, ring}
use Rattle.pb_fixed.proofs.RootLaws.{scaled_root_is}
use Rattle.pb_graph.specs.declared.records.Classified.{Classified}
use Rattle.pb_graph.specs.declared.records.Meas.{Meas}
use Rattle.pb_graph.specs.declared.records.Member.{Member}
use Rattle.pb_graph.specs.declared.records.Stream.{Stream}
use Rattle.pb_graph.specs.PricedSums.{signed_sum}
use Rattle.pb_graph.specs.ProcessGraph.{IsProcessGraph, IsWithinLimits, ProcessGraph}
use Rattle.pb_graph.specs.Squares.{by_stream, squares_unit, variance_product, weighted_squares, whole_flows}
use Rattle.pb_graph.specs.Variance.{variance_of}
use Rattle.pb_study.specs.declared.results.Bounds.{Bounds}
use Rattle.pb_study.specs.declared.results.Stage.{Stage}
use Rattle.pb_study.specs.declared.results.StreamResult.{StreamResult}
use Rattle.pb_dual.specs.DualValue.{dual_flow, dual_value, scale}
use Rattle.pb_gap.proofs.GapLaws.{gaps, have_weights}
use Rattle.pb_gap.specs.Bounds.{AreSigned, IsSigned, bounds_of, dual_flow_sum, half_width_in, variance_sum}
use Rattle.pb_gap.specs.declared.gap.Gap.{Gap}
use Rattle.pb_gap.specs.Gap.{deviations_of, gap_of, gap_size}
use Rattle.pb_gap.specs.Laws.{GapLaw, IdentityLaw, IsDualPair, SignedSchwarzLaw, StreamSumLaw, SumsTo, gap_square}
use Rattle.pb_gap.specs.LeastBounds.{least_bounds_of}
use Rattle.pb_gap.specs.Residuals.{residual_of, residual_squares, residuals_of}
use Rattle.pb_gap.specs.StreamBounds.{sum_for}
use Rattle.pb_stage.specs.Printed.{HasLeastBounds, printed_flows, printed_gap, printed_price}
use Rattle.pb_stage.specs.Certified.{IsCertifiedStage}
use Rattle.pb_laws.specs.Flows.{LieWithin, NestedBoundsLaw}
use Rattle.pb_laws.proofs.FlowLemmas.{has_least}

-- ---- the residual of a signed sum
length_by : (f : Stream → ℤ → ℤ) (ss : List Stream) (ys : List ℤ) → length ys ≡ length ss → length (by_stream f ss ys) ≡ length ss
length_by f [] ys each = refl
length_by f (s ∷ ss) [] each = absurd (omega (arith, each))
length_by f (s ∷ ss) (y ∷ ys) each = ap suc (length_by f ss ys (omega (arith, each)))

item_by : (f : Stream → ℤ → ℤ) (ss : List Stream) (ys : List ℤ) (j : ℕ) (s : Stream) → length ys ≡ length ss → slice_get ss j ≡ Some s → item (by_stream f ss ys) j ≡ f s (item ys j)
item_by f [] ys j s each at = cc at
item_by f (t ∷ ss) [] j s each at = absurd (omega (arith, each))
item_by f (t ∷ ss) (y ∷ ys) zero s each at = ap (λ (s : Stream). f s y) (some_same at)
item_by f (t ∷ ss) (y ∷ ys) (suc j) s each at = item_by f ss ys j s (omega (arith, each)) at

abbrev dual_flow_in : (ℕ → ℤ) → Option Stream → ℤ
dual_flow_in price o = option_map_or (dual_flow price) o (pos 0)

signed_residual : (g : ProcessGraph) (price : ℕ → ℤ) (flows : List ℤ) (ms : List Member) → length flows ≡ length g.streams → AllByRecursion (IsSigned g) ms
    → signed_sum ms (residuals_of price g.streams (whole_flows flows)) ≡ (signed_sum ms flows *ℤ scale) -ℤ dual_flow_sum price g.streams ms
signed_residual g price flows [] each is = omega (arith, ints)
signed_residual g price flows (m ∷ ms) each is =
    let y = item flows m.stream in
    let u = dual_flow_in price (slice_get g.streams m.stream) in
    let one : item (residuals_of price g.streams (whole_flows flows)) m.stream ≡ (y *ℤ scale) -ℤ (pos 1 *ℤ u) =
    item_by (residual_of (pos 1) price) g.streams flows m.stream is.0.stream each is.0.is
    ∙ ap (λ (v : ℤ). (y *ℤ scale) -ℤ (pos 1 *ℤ v)) (sym (ap (dual_flow_in price) is.0.is)) in
    ap (λ (e : ℤ). (m.sign *ℤ e) +ℤ signed_sum ms (residuals_of price g.streams (whole_flows flows))) one
    ∙ ap (λ (z : ℤ). (m.sign *ℤ ((y *ℤ scale) -ℤ (pos 1 *ℤ u))) +ℤ z) (signed_residual g price flows ms each is.1)
    ∙ ring (m.sign ∷ y ∷ u ∷ signed_sum ms flows ∷ dual_flow_sum price g.streams ms ∷ [])
    (plus (times (var 0) (less (times (var 1) (lit scale)) (times (lit (pos 1)) (var 2)))) (less (times (var 3) (lit scale)) (var 4)))
    (less (times (plus (times (var 0) (var 1)) (var 3)) (lit scale)) (plus (times (var 0) (var 2)) (var 4))) refl

-- ---- the variance of a signed sum
one_variance : (g : ProcessGraph) (m : Member) → IsProcessGraph g → IsSigned g m → pos 0 ≤ℤ option_map_or (λ (s : Stream). variance_of s.meas) (slice_get g.streams m.stream) (pos 0)
one_variance g m limits is =
    let within : IsWithinLimits is.stream = all_each IsWithinLimits g.streams limits.limits m.stream is.stream is.is in
    let least = (subst (λ (o : Option Meas). IfSome o _) is.measured within).least in
    subst (λ (z : ℤ). pos 0 ≤ℤ z) (sym (ap (λ (o : Option Stream). option_map_or (λ (s : Stream). variance_of s.meas) o (pos 0)) is.is ∙ ap variance_of is.measured)) (omega (arith, ints, least))

pub variances : (g : ProcessGraph) (ms : List Member) → IsProcessGraph g → AllByRecursion (IsSigned g) ms → pos 0 ≤ℤ variance_sum g.streams ms
variances g [] limits is = omega (arith, ints)
variances g (m ∷ ms) limits is = let one = one_variance g m limits is.0 in let rest = variances g ms limits is.1 in omega (arith, ints, one, rest)

-- ---- the residual is strictly less than the half width, or both are 0
abbrev IsNear : ℤ → ℤ → Type 0
IsNear e w = ((e <ℤ (w *ℤ scale)) × (neg_ℤ e <ℤ (w *ℤ scale))) ⊎ ((e ≡ pos 0) × (w ≡ pos 0))

-- what identity and excess leave of the residuals
residuals_most : (k w u dual r gg : ℤ) → k *ℤ w ≡ (u *ℤ dual) +ℤ r → (k *ℤ w) ≤ℤ (u *ℤ (dual +ℤ gg)) → r ≤ℤ (u *ℤ gg)
residuals_most k w u dual r gg identity excess =
    let split : u *ℤ (dual +ℤ gg) ≡ (u *ℤ dual) +ℤ (u *ℤ gg) = ring (u ∷ dual ∷ gg ∷ []) (times (var 0) (plus (var 1) (var 2))) (plus (times (var 0) (var 1)) (times (var 0) (var 2))) refl in
    omega (arith, ints, identity, excess, split)

-- the square of the residual
square_most : (l v e r gg : ℤ) → pos 1 ≤ℤ l → pos 0 ≤ℤ v → (l *ℤ (e *ℤ e)) ≤ℤ (v *ℤ r) → r ≤ℤ (((pos 1 *ℤ pos 1) *ℤ l) *ℤ gg) → (e *ℤ e) ≤ℤ (v *ℤ gg)
square_most l v e r gg l_pos v_pos schwarz most =
    let scaled = mul_mono_left r (((pos 1 *ℤ pos 1) *ℤ l) *ℤ gg) v most v_pos in
    mul_cancel (e *ℤ e) (v *ℤ gg) l
    (le_by_eq _ _ _ _ (ring (e ∷ l ∷ []) (times (square (var 0)) (var 1)) (times (var 1) (square (var 0))) refl)
    (ring (v ∷ gg ∷ l ∷ []) (times (times (var 0) (var 1)) (var 2)) (times (var 0) (times (times (square (lit (pos 1))) (var 2)) (var 1))) refl) (le_trans _ _ _ schwarz scaled))
    (omega (arith, ints, l_pos))

zero_square : (e : ℤ) → (e *ℤ e) ≤ℤ pos 0 → e ≡ pos 0
zero_square e most =
    let up = root_strict e (pos 1) (omega (arith, ints)) (omega (arith, ints, most)) in
    let same : neg_ℤ e *ℤ neg_ℤ e ≡ e *ℤ e = ring (e ∷ []) (square (minus (var 0))) (square (var 0)) refl in
    let down = root_strict (neg_ℤ e) (pos 1) (omega (arith, ints)) (omega (arith, ints, most, same)) in
    omega (arith, ints, up, down)

-- with a gap above 0
below_width : (e v root gap w : ℤ) → pos 0 ≤ℤ root → pos 0 <ℤ gap → (e *ℤ e) ≤ℤ (v *ℤ (pos (2 ^ 72) *ℤ (gap *ℤ gap))) → (v *ℤ pos (2 ^ 40)) <ℤ ((root +ℤ pos 1) *ℤ (root +ℤ pos 1))
    → ((root +ℤ pos 1) *ℤ gap) ≤ℤ (w *ℤ pos (2 ^ 40)) → e <ℤ (w *ℤ scale)
below_width e v root gap w root_pos gap_pos most next wide =
    let squares = mul_positive gap gap gap_pos gap_pos in
    let scaled = mul_mono (e *ℤ e) (v *ℤ (pos (2 ^ 72) *ℤ (gap *ℤ gap))) (pos (2 ^ 40)) most (omega (arith, ints)) in
    let above = mul_strict (v *ℤ pos (2 ^ 40)) ((root +ℤ pos 1) *ℤ (root +ℤ pos 1)) (pos (2 ^ 72) *ℤ (gap *ℤ gap)) next (omega (arith, ints, squares)) in
    let left : (e *ℤ pos (2 ^ 20)) *ℤ (e *ℤ pos (2 ^ 20)) ≡ (e *ℤ e) *ℤ pos (2 ^ 40) =
    ring (e ∷ []) (square (times (var 0) (lit (pos (2 ^ 20))))) (times (square (var 0)) (lit (pos (2 ^ 40)))) refl in
    let middle : (v *ℤ (pos (2 ^ 72) *ℤ (gap *ℤ gap))) *ℤ pos (2 ^ 40) ≡ (v *ℤ pos (2 ^ 40)) *ℤ (pos (2 ^ 72) *ℤ (gap *ℤ gap)) =
    ring (v ∷ gap ∷ []) (times (times (var 0) (times (lit (pos (2 ^ 72))) (square (var 1)))) (lit (pos (2 ^ 40)))) (times (times (var 0) (lit (pos (2 ^ 40)))) (times (lit (pos (2 ^ 72))) (square (var 1)))) refl in
    let right : ((root +ℤ pos 1) *ℤ (root +ℤ pos 1)) *ℤ (pos (2 ^ 72) *ℤ (gap *ℤ gap)) ≡ (((root +ℤ pos 1) *ℤ gap) *ℤ pos (2 ^ 36)) *ℤ (((root +ℤ pos 1) *ℤ gap) *ℤ pos (2 ^ 36)) =
    ring (root ∷ gap ∷ []) (times (square (plus (var 0) (lit (pos 1)))) (times (lit (pos (2 ^ 72))) (square (var 1)))) (square (times (times (plus (var 0) (lit (pos 1))) (var 1)) (lit (pos (2 ^ 36))))) refl in
    let width = mul_positive (root +ℤ pos 1) gap (omega (arith, ints, root_pos)) gap_pos in
    let strict : (e *ℤ pos (2 ^ 20)) <ℤ (((root +ℤ pos 1) *ℤ gap) *ℤ pos (2 ^ 36)) =
    root_strict (e *ℤ pos (2 ^ 20)) (((root +ℤ pos 1) *ℤ gap) *ℤ pos (2 ^ 36)) (omega (arith, ints, width)) (glue _ _ _ _ _ _ left scaled middle above right) in
    last e ((root +ℤ pos 1) *ℤ gap) w strict wide
  where
    glue : (a b c d f h : ℤ) → a ≡ b → b ≤ℤ c → c ≡ d → d <ℤ f → f ≡ h → a <ℤ h
    glue a b c d f h one two three four five = omega (arith, ints, one, two, three, four, five)

    last : (e x w : ℤ) → (e *ℤ pos (2 ^ 20)) <ℤ (x *ℤ pos (2 ^ 36)) → x ≤ℤ (w *ℤ pos (2 ^ 40)) → e <ℤ (w *ℤ scale)
    last e x w one two = omega (arith, ints, one, two)

near_by : (e v root gap w : ℤ) → pos 0 ≤ℤ root → pos 0 ≤ℤ gap → (e *ℤ e) ≤ℤ (v *ℤ (pos (2 ^ 72) *ℤ (gap *ℤ gap))) → (v *ℤ pos (2 ^ 40)) <ℤ ((root +ℤ pos 1) *ℤ (root +ℤ pos 1))
    → w ≡ ceil_div ((root +ℤ pos 1) *ℤ gap) (pos (2 ^ 40)) → IsNear e w
near_by e v root gap w root_pos gap_pos most next width =
    let up = ceiling_is ((root +ℤ pos 1) *ℤ gap) (pos (2 ^ 40)) (omega (arith, ints)) in
    let wide : ((root +ℤ pos 1) *ℤ gap) ≤ℤ (w *ℤ pos (2 ^ 40)) = subst (λ (z : ℤ). ((root +ℤ pos 1) *ℤ gap) ≤ℤ (z *ℤ pos (2 ^ 40))) (sym width) up.above in
    let narrow : (w *ℤ pos (2 ^ 40)) <ℤ (((root +ℤ pos 1) *ℤ gap) +ℤ pos (2 ^ 40)) = subst (λ (z : ℤ). (z *ℤ pos (2 ^ 40)) <ℤ (((root +ℤ pos 1) *ℤ gap) +ℤ pos (2 ^ 40))) (sym width) up.last in
    by_lt_z (pos 0) gap
    (λ some.
    let turned : neg_ℤ e *ℤ neg_ℤ e ≡ e *ℤ e = ring (e ∷ []) (square (minus (var 0))) (square (var 0)) refl in
    inl (
      below_width e v root gap w root_pos some most next wide,
      below_width (neg_ℤ e) v root gap w root_pos some (subst (λ (z : ℤ). z ≤ℤ (v *ℤ (pos (2 ^ 72) *ℤ (gap *ℤ gap)))) (sym turned) most) next wide,
    ))
    (λ none.
    let zero_gap : gap ≡ pos 0 = omega (arith, ints, none, gap_pos) in
    let no_square : v *ℤ (pos (2 ^ 72) *ℤ (gap *ℤ gap)) ≡ pos 0 =
    ap (λ (z : ℤ). v *ℤ (pos (2 ^ 72) *ℤ (z *ℤ z))) zero_gap ∙ ring (v ∷ []) (times (var 0) (times (lit (pos (2 ^ 72))) (square (lit (pos 0))))) (lit (pos 0)) refl in
    let no_width : (root +ℤ pos 1) *ℤ gap ≡ pos 0 = ap (λ (z : ℤ). (root +ℤ pos 1) *ℤ z) zero_gap ∙ ring (root ∷ []) (times (plus (var 0) (lit (pos 1))) (lit (pos 0))) (lit (pos 0)) refl in
    inr (zero_square e (omega (arith, ints, most, no_square)), omega (arith, ints, wide, narrow, no_width)))

near : IdentityLaw → GapLaw → SignedSchwarzLaw → (g : ProcessGraph) (price : ℕ → ℤ) (flows : List ℤ) (ms : List Member) → IsDualPair g price (whole_flows flows) → AreSigned g ms
    → IsNear ((signed_sum ms flows *ℤ scale) -ℤ dual_flow_sum price g.streams ms) (half_width_in g.streams (gap_of price g.streams flows) ms)
near identity excess schwarz g price flows [] pair signed = inr (omega (arith, ints), refl)
near identity excess schwarz g price flows (m ∷ ms) pair signed =
    let members = m ∷ ms in
    let gap = gap_of price g.streams flows in
    let l = variance_product g.streams in
    let residuals = residuals_of price g.streams (whole_flows flows) in
    let each = pair.balanced.balanced.each in
    let v_pos = variances g members pair.limits signed.each in
    let root = scaled_root_is (variance_sum g.streams members) v_pos in
    let most = residuals_most (scale *ℤ scale) (weighted_squares g (whole_flows flows)) (squares_unit g (whole_flows flows)) (dual_value price g.streams) (residual_squares price g (whole_flows flows)) (gap_square gap)
    (identity g price (whole_flows flows) pair) (excess g price flows pair) in
    let own = schwarz g residuals members pair.limits (length_by (residual_of (pos 1) price) g.streams flows each) signed in
    let squares = square_most l (variance_sum g.streams members) (signed_sum members residuals) (residual_squares price g (whole_flows flows)) (gap_square gap) (have_weights g pair.limits).positive v_pos own most in
    subst (λ (e : ℤ). IsNear e (half_width_in g.streams gap members)) (signed_residual g price flows members each signed.each)
    (near_by (signed_sum members residuals) (variance_sum g.streams members) (scaled_root_of (variance_sum g.streams members)) (pos (gap_size gap)) (half_width_in g.streams gap members)
    root.nonneg (omega (arith, ints)) squares root.next refl)

-- ---- the bounds
nested_by : (s d w fd cd b t top : ℤ) → IsNear ((s *ℤ scale) -ℤ d) w → (fd *ℤ scale) ≤ℤ d → d <ℤ ((fd *ℤ scale) +ℤ scale) → d ≤ℤ (cd *ℤ scale) → (cd *ℤ scale) <ℤ (d +ℤ scale)
    → (s +ℤ fd) <ℤ ((b *ℤ pos 2) +ℤ pos 2) → (t *ℤ pos 2) <ℤ (w +ℤ pos 2) → (top *ℤ pos 2) <ℤ ((s +ℤ cd) +ℤ pos 2)
    → ((fd -ℤ w) ≤ℤ (b -ℤ t)) × ((top +ℤ t) ≤ℤ (cd +ℤ w))
nested_by s d w fd cd b t top (inl strict) down next up last middle half high =
    let (from, to) = strict in (omega (arith, ints, from, to, down, up, middle, half), omega (arith, ints, from, to, down, up, half, high))
nested_by s d w fd cd b t top (inr same) down next up last middle half high =
    let (even, none) = same in (omega (arith, ints, even, none, down, next, middle, half), omega (arith, ints, even, none, up, last, half, high))

members_nested : IdentityLaw → GapLaw → SignedSchwarzLaw → (g : ProcessGraph) (price : ℕ → ℤ) (flows : List ℤ) (ms : List Member) → IsDualPair g price (whole_flows flows) → AreSigned g ms
    → LieWithin (least_bounds_of price g.streams flows (gap_of price g.streams flows) ms) (bounds_of price g.streams (gap_of price g.streams flows) ms)
members_nested identity excess schwarz g price flows ms pair signed =
    let s = signed_sum ms flows in
    let d = dual_flow_sum price g.streams ms in
    let w = half_width_in g.streams (gap_of price g.streams flows) ms in
    let down = floor_is d scale (omega (arith, ints)) in
    let up = ceiling_is d scale (omega (arith, ints)) in
    let fd = floor_div d scale in
    let cd = ceil_div d scale in
    let middle = floor_is (s +ℤ fd) (pos 2) (omega (arith, ints)) in
    let high = ceiling_is (s +ℤ cd) (pos 2) (omega (arith, ints)) in
    let half = ceiling_is w (pos 2) (omega (arith, ints)) in
    let both = nested_by s d w fd cd (floor_div (s +ℤ fd) (pos 2)) (ceil_div w (pos 2)) (ceil_div (s +ℤ cd) (pos 2)) (near identity excess schwarz g price flows ms pair signed)
    down.below down.next up.above up.last middle.next half.last high.last in
    record { from = both.0; to = both.1 }

pub nested : IdentityLaw → GapLaw → SignedSchwarzLaw → StreamSumLaw → NestedBoundsLaw
nested identity excess schwarz sums stage certified j r at = by r.least refl
  where
    price : ℕ → ℤ
    price = printed_price stage

    flows : List ℤ
    flows = printed_flows stage

    pair : IsDualPair stage.graph price (whole_flows flows)
    pair = record {
      limits = certified.shown.limits;
      fit = certified.shown.fit;
      balanced = record { positive = omega (arith, ints); balanced = certified.shown.balanced };
    }

    gap_is : printed_gap stage ≡ gap_of price stage.graph.streams flows
    gap_is = gaps.only (deviations_of price stage.graph.streams flows) (printed_gap stage) certified.shown.numbers.deviation

    from_sum : (o : Option (List Member)) (least : Bounds) → sum_for j r.classified.class r.classified.witness ≡ o
        → option_map (least_bounds_of price stage.graph.streams flows (printed_gap stage)) o ≡ Some least → IfSome r.bounds (LieWithin least)
    from_sum None least is found = cc found
    from_sum (Some members) least is found =
        let has : r.bounds ≡ Some (bounds_of price stage.graph.streams (printed_gap stage) members) =
        certified.shown.numbers.bounded j r at ∙ ap (option_map (bounds_of price stage.graph.streams (printed_gap stage))) is in
        let sums_to : SumsTo stage.graph j members =
        subst (λ (o : Option (List Member)). IfSome o (SumsTo stage.graph j)) is (sums stage.graph j r.classified certified.shown.limits (certified.shown.shown j r at)) in
        let within : LieWithin (least_bounds_of price stage.graph.streams flows (printed_gap stage) members) (bounds_of price stage.graph.streams (printed_gap stage) members) =
        subst (λ (gap : Gap). LieWithin (least_bounds_of price stage.graph.streams flows gap members) (bounds_of price stage.graph.streams gap members)) (sym gap_is)
        (members_nested identity excess schwarz stage.graph price flows members pair sums_to.signed) in
        subst (λ (o : Option Bounds). IfSome o (LieWithin least)) (sym has)
        (subst (λ (b : Bounds). LieWithin b (bounds_of price stage.graph.streams (printed_gap stage) members)) (some_same found) within)

    by : (o : Option Bounds) → r.least ≡ o → IfSome o (λ least. IfSome r.bounds (LieWithin least))
    by None is = tt
    by (Some least) is =
        let has : HasLeastBounds stage = has_least stage.streams j r at (ap is_some is) in
        from_sum (sum_for j r.classified.class r.classified.witness) least refl (sym (certified.shown.numbers.least_bounded has j r at) ∙ is)
