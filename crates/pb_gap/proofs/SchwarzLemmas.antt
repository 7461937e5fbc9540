-- The inequality of Cauchy and Schwarz over a signed list of measured streams, for any errors.
use Rattle.std.proofs.Common.{◌≡◌, ◌∙◌, ℕ, zero, suc, ℤ, pos, ◌+ℤ◌, ◌-ℤ◌, ◌*ℤ◌, ◌≤ℤ◌, ◌<ℤ◌, List, [], ◌∷◌, length, Option, Some, slice_get, inl, inr, refl, sym, subst, ap, arith}
use Rattle.std.specs.Int.{int_div_euclid}
use Rattle.std.specs.List.{AllByRecursion}
use Rattle.std.proofs.lemmas.Int.{ints}
use Rattle.pb_fixed.specs.Sums.{sum_over, total, item}
use Rattle.pb_fixed.specs.IntegerLaws.{IsWeighed}
use Rattle.pb_fixed.proofs.Lists.{All-from_recursion, AllByRecursion-map}
use Rattle.pb_fixed.proofs.Order.{le_by_eq, le_trans, mul_mono_left}
use Rattle.pb_fixed.proofs.PartialSums.{partial_sum}
use Rattle.pb_fixed.proofs.Ring.{var, lit, plus, times, less, square, ring}
use Rattle.pb_fixed.proofs.Schwarz.{schwarz}
use Rattle.pb_fixed.proofs.Sums.{sum_over-nonneg, sum_over-same}
use Rattle.pb_graph.specs.declared.records.Meas.{Meas}
use Rattle.pb_graph.specs.declared.records.Stream.{Stream}
use Rattle.pb_graph.specs.declared.records.Member.{Member}
use Rattle.pb_graph.specs.ProcessGraph.{ProcessGraph, IsProcessGraph}
use Rattle.pb_graph.specs.Squares.{Fractional, variance_product, weighted_product, weighted_sum_of_squares}
use Rattle.pb_graph.proofs.WalkLemmas.{some_same}
use Rattle.pb_graph.specs.PricedSums.{signed_sum}
use Rattle.pb_graph.specs.Variance.{variance_of}
use Rattle.pb_graph.proofs.GroupLaws.{all_at}
use Rattle.pb_dual.specs.DualValue.{scale}
use Rattle.pb_gap.specs.Residuals.{residual_of, residuals_of}
use Rattle.pb_gap.specs.Bounds.{IsSigned, AreSigned, dual_flow_sum, variance_sum}
use Rattle.pb_gap.specs.Laws.{SignedSchwarzLaw}
use Rattle.pb_gap.proofs.Weights.{HasWeight, MayWeigh, product_of, weights_of}
use Rattle.pb_gap.proofs.InnerProductLemmas.{by_stream_at, square_nonneg}
use Rattle.pb_gap.proofs.Found.{dual_flow_in, variance_in}

-- the weighted squares of errors, as a list
abbrev parts : ℤ → List Stream → List ℤ → List ℤ
parts l [] es = []
parts l (s ∷ ss) [] = []
parts l (s ∷ ss) (e ∷ es) = weighted_product l s.meas e e ∷ parts l ss es

parts_total : (l : ℤ) (ss : List Stream) (es : List ℤ) → total (parts l ss es) ≡ weighted_sum_of_squares l ss es
parts_total l [] es = refl
parts_total l (s ∷ ss) [] = refl
parts_total l (s ∷ ss) (e ∷ es) = ap (λ (x : ℤ). weighted_product l s.meas e e +ℤ x) (parts_total l ss es)

parts_nonneg : (l : ℤ) (ss : List Stream) (es : List ℤ) → AllByRecursion (λ s. MayWeigh l s.meas) ss → AllByRecursion (λ x. pos 0 ≤ℤ x) (parts l ss es)
parts_nonneg l [] es h = tt
parts_nonneg l (s ∷ ss) [] h = tt
parts_nonneg l (s ∷ ss) (e ∷ es) h = (square_nonneg l s.meas e h.0, parts_nonneg l ss es h.1)

parts_at : (l : ℤ) (ss : List Stream) (es : List ℤ) (j : ℕ) (s : Stream) → length es ≡ length ss → slice_get ss j ≡ Some s
    → item (parts l ss es) j ≡ weighted_product l s.meas (item es j) (item es j)
parts_at l [] es j s each at = absurd cc
parts_at l (t ∷ ss) [] j s each at = absurd (omega arith)
parts_at l (t ∷ ss) (e ∷ es) zero s each at = ap (λ (s : Stream). weighted_product l s.meas e e) (some_same at)
parts_at l (t ∷ ss) (e ∷ es) (suc j) s each at = parts_at l ss es j s (omega arith) at

-- the weight of a member, and its variance
abbrev weight_in : ℤ → Option Stream → ℤ
weight_in l o = int_div_euclid l (variance_in o)

abbrev variance_at : List Stream → Member → ℤ
variance_at ss m = variance_in (slice_get ss m.stream)

abbrev weight_at : ℤ → List Stream → Member → ℤ
weight_at l ss m = weight_in l (slice_get ss m.stream)

-- a member has a weight
weight_of : (l : ℤ) (g : ProcessGraph) (m : Member) → AllByRecursion (λ s. MayWeigh l s.meas) g.streams → IsSigned g m → HasWeight l (variance_at g.streams m)
weight_of l g m h is =
    let at_stream = all_at (λ (s : Stream). MayWeigh l s.meas) g.streams m.stream is.stream (All-from_recursion (λ (s : Stream). MayWeigh l s.meas) g.streams h) is.is in
    let own : HasWeight l is.meas.variance = subst (MayWeigh l) is.measured at_stream in
    subst (HasWeight l) (sym (ap variance_in is.is ∙ ap variance_of is.measured)) own

weighed : (l : ℤ) (g : ProcessGraph) (m : Member) → AllByRecursion (λ s. MayWeigh l s.meas) g.streams → IsSigned g m → IsWeighed (variance_at g.streams) (weight_at l g.streams) l m
weighed l g m h is =
    let w = weight_of l g m h is in
    let v = w.variance in
    record { positive = omega (arith, ints, v); weight_is = w.weight }

sign_square : (g : ProcessGraph) (m : Member) → IsSigned g m → m.sign *ℤ m.sign ≡ pos 1
sign_square g m is = elim is.sign [ inl e ↦ ap (λ (z : ℤ). z *ℤ z) e | inr e ↦ ap (λ (z : ℤ). z *ℤ z) e ]

-- a sign goes out of a square
sign_out : (s e w : ℤ) → s *ℤ s ≡ pos 1 → w *ℤ ((s *ℤ e) *ℤ (s *ℤ e)) ≡ w *ℤ (e *ℤ e)
sign_out s e w h =
    ring (s ∷ e ∷ w ∷ []) (times (var 2) (square (times (var 0) (var 1)))) (times (square (var 0)) (times (var 2) (square (var 1)))) refl
    ∙ ap (λ (x : ℤ). x *ℤ (w *ℤ (e *ℤ e))) h
    ∙ ring (e ∷ w ∷ []) (times (lit (pos 1)) (times (var 1) (square (var 0)))) (times (var 1) (square (var 0))) refl

square_is : (l : ℤ) (o : Option Meas) (m : Meas) (e : ℤ) → o ≡ Some m → int_div_euclid l (variance_of o) *ℤ (e *ℤ e) ≡ weighted_product l o e e
square_is l o m e is = subst (λ (o : Option Meas). int_div_euclid l (variance_of o) *ℤ (e *ℤ e) ≡ weighted_product l o e e) (sym is) refl

-- a member's weighted square is the weighted square of its stream
member_square : (l : ℤ) (g : ProcessGraph) (es : List ℤ) (m : Member) → length es ≡ length g.streams → IsSigned g m
    → weight_at l g.streams m *ℤ ((m.sign *ℤ item es m.stream) *ℤ (m.sign *ℤ item es m.stream)) ≡ item (parts l g.streams es) m.stream
member_square l g es m each is =
    let e = item es m.stream in
    sign_out m.sign e (weight_at l g.streams m) (sign_square g m is)
    ∙ ap (λ (o : Option Stream). weight_in l o *ℤ (e *ℤ e)) is.is
    ∙ square_is l is.stream.meas is.meas e is.measured
    ∙ sym (parts_at l g.streams es m.stream is.stream each is.is)

all_weighed : (l : ℤ) (g : ProcessGraph) (ms : List Member) → AllByRecursion (λ s. MayWeigh l s.meas) g.streams → AllByRecursion (IsSigned g) ms
    → AllByRecursion (IsWeighed (variance_at g.streams) (weight_at l g.streams) l) ms
all_weighed l g ms h is =
    AllByRecursion-map (IsSigned g) (IsWeighed (variance_at g.streams) (weight_at l g.streams) l) ms (λ m one. weighed l g m h one) is

not_below : (x : ℤ) → pos 0 <ℤ x → pos 0 ≤ℤ x
not_below x h = omega (arith, ints, h)

pub variances_nonneg : (g : ProcessGraph) (ms : List Member) → IsProcessGraph g → AreSigned g ms → pos 0 ≤ℤ variance_sum g.streams ms
variances_nonneg g ms limits is =
    let l = variance_product g.streams in
    sum_over-nonneg (variance_at g.streams) ms
    (AllByRecursion-map (IsWeighed (variance_at g.streams) (weight_at l g.streams) l) (λ m. pos 0 ≤ℤ variance_at g.streams m) ms (λ m one. not_below (variance_at g.streams m) one.positive)
    (all_weighed l g ms (weights_of g limits) is.each))

pub error_schwarz : SignedSchwarzLaw
error_schwarz g es ms limits each is =
    let l = variance_product g.streams in
    let ss = g.streams in
    let f = λ (m : Member). m.sign *ℤ item es m.stream in
    let l_pos = product_of g limits in
    let weigh = weights_of g limits in
    let variances = variance_sum ss ms in
    let all = weighted_sum_of_squares l ss es in
    let some = sum_over (λ (m : Member). weight_at l ss m *ℤ (f m *ℤ f m)) ms in
    let own = schwarz f (variance_at ss) (weight_at l ss) l ms (omega (arith, ints, l_pos)) (all_weighed l g ms weigh is.each) in
    let same : some ≡ sum_over (λ (m : Member). item (parts l ss es) m.stream) ms =
    sum_over-same (λ (m : Member). weight_at l ss m *ℤ (f m *ℤ f m)) (λ (m : Member). item (parts l ss es) m.stream) ms
    (AllByRecursion-map (IsSigned g) (λ m. weight_at l ss m *ℤ (f m *ℤ f m) ≡ item (parts l ss es) m.stream) ms (λ m one. member_square l g es m each one) is.each) in
    let part : some ≤ℤ all =
    le_by_eq _ _ _ _ same (sym (parts_total l ss es)) (partial_sum (λ (m : Member). m.stream) (parts l ss es) ms (parts_nonneg l ss es weigh) is.distinct) in
    le_trans _ _ _ own (mul_mono_left some all variances part (variances_nonneg g ms limits is))

-- ---- the residual of a signed sum
one_residual : (g : ProcessGraph) (price : ℕ → ℤ) (x : Fractional) (m : Member) → length x.numerators ≡ length g.streams → IsSigned g m
    → item (residuals_of price g.streams x) m.stream ≡ (item x.numerators m.stream *ℤ scale) -ℤ (x.denominator *ℤ dual_flow_in price (slice_get g.streams m.stream))
one_residual g price x m each is =
    by_stream_at (residual_of x.denominator price) g.streams x.numerators m.stream is.stream each is.is
    ∙ ap (λ (u : ℤ). (item x.numerators m.stream *ℤ scale) -ℤ (x.denominator *ℤ u)) (sym (ap (dual_flow_in price) is.is))

pub sum_residual : (g : ProcessGraph) (price : ℕ → ℤ) (x : Fractional) (ms : List Member) → length x.numerators ≡ length g.streams → AllByRecursion (IsSigned g) ms
    → signed_sum ms (residuals_of price g.streams x) ≡ (signed_sum ms x.numerators *ℤ scale) -ℤ (x.denominator *ℤ dual_flow_sum price g.streams ms)
sum_residual g price x [] each is = ring (x.denominator ∷ []) (lit (pos 0)) (less (times (lit (pos 0)) (lit scale)) (times (var 0) (lit (pos 0)))) refl
sum_residual g price x (m ∷ ms) each is =
    let q = x.denominator in
    let y = item x.numerators m.stream in
    let u = dual_flow_in price (slice_get g.streams m.stream) in
    let rest = signed_sum ms x.numerators in
    let flows = dual_flow_sum price g.streams ms in
    ap (λ (e : ℤ). (m.sign *ℤ e) +ℤ signed_sum ms (residuals_of price g.streams x)) (one_residual g price x m each is.0)
    ∙ ap (λ (z : ℤ). (m.sign *ℤ ((y *ℤ scale) -ℤ (q *ℤ u))) +ℤ z) (sum_residual g price x ms each is.1)
    ∙ ring (m.sign ∷ y ∷ q ∷ u ∷ rest ∷ flows ∷ [])
    (plus (times (var 0) (less (times (var 1) (lit scale)) (times (var 2) (var 3)))) (less (times (var 4) (lit scale)) (times (var 2) (var 5))))
    (less (times (plus (times (var 0) (var 1)) (var 4)) (lit scale)) (times (var 2) (plus (times (var 0) (var 3)) (var 5)))) refl
