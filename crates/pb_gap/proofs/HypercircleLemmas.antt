-- Least vectors lie on the sphere about the middle of balanced flows and dual flows.
use Rattle.std.proofs.Common.{◌≡◌, ◌∙◌, ◌^◌, ℕ, zero, suc, ℤ, pos, neg_ℤ, ◌+ℤ◌, ◌-ℤ◌, ◌*ℤ◌, ◌≤ℤ◌, ◌<ℤ◌, List, [], ◌∷◌, length, Option, Some, None, slice_get, refl, sym, subst, ap, arith}
use Rattle.std.specs.Prelude.{IfSome, option_map}
use Rattle.std.specs.Int.{int_div_euclid}
use Rattle.std.specs.List.{AllByRecursion}
use Rattle.std.proofs.lemmas.Int.{ints}
use Rattle.pb_fixed.specs.Sums.{item}
use Rattle.pb_fixed.proofs.Order.{le_by_eq, le_of_eq, mul_mono_left, square_pos}
use Rattle.pb_fixed.proofs.Ring.{var, lit, plus, times, minus, less, square, ring}
use Rattle.pb_fixed.proofs.RingLaws.{mul_zero}
use Rattle.pb_fixed.specs.Quotients.{floor_div, ceil_div}
use Rattle.pb_fixed.specs.Roots.{scaled_root_of}
use Rattle.pb_fixed.proofs.QuotientLaws.{ceiling_is, floor_is}
use Rattle.pb_fixed.proofs.RootLaws.{scaled_root_is}
use Rattle.pb_graph.specs.declared.records.Meas.{Meas}
use Rattle.pb_graph.specs.declared.records.Stream.{Stream}
use Rattle.pb_graph.specs.declared.records.Member.{Member}
use Rattle.pb_graph.specs.ProcessGraph.{ProcessGraph}
use Rattle.pb_graph.specs.Squares.{Fractional, IsBalancedFractional, IsLeast, variance_product, weighted_product, weighted_sum_of_squares, by_stream, weighted_squares, whole_flows}
use Rattle.pb_graph.specs.PricedSums.{signed_sum}
use Rattle.pb_dual.specs.DualValue.{scale, dual_flow, dual_value}
use Rattle.pb_gap.specs.Residuals.{residual_squares, residual_of}
use Rattle.pb_gap.specs.Gap.{gap_of, gap_size}
use Rattle.pb_gap.specs.Bounds.{AreSigned, IsSigned, IsWithin, dual_flow_sum, variance_sum, half_width_in}
use Rattle.pb_gap.specs.StreamBounds.{IsStreamWithin, sum_for}
use Rattle.pb_gap.specs.Laws.{IsDualPair, SumsTo, gap_square}
use Rattle.pb_gap.specs.Least.{combination, difference_of, squared_distance}
use Rattle.pb_gap.specs.State.{State, IsState, gap_in, price_in}
use Rattle.pb_gap.specs.LeastBounds.{twice_middle, middle_of, least_bounds_of}
use Rattle.pb_gap.specs.LeastBoundsLaws.{HypercircleLaw, LeastBoundsLaw, LeastStreamLaw}
use Rattle.pb_gap.proofs.Weights.{product_of, weigh_all}
use Rattle.pb_gap.proofs.Identity.{identity}
use Rattle.pb_gap.proofs.InnerProductLemmas.{by_stream_at, by_stream_length}
use Rattle.pb_gap.proofs.SchwarzLemmas.{error_schwarz, variances_nonneg}
use Rattle.pb_gap.proofs.Rounding.{HasHalfWidth, from_above, from_below}
use Rattle.pb_gap.proofs.Enclosure.{within_gap}
use Rattle.pb_gap.proofs.LeastLemmas.{excess}
use Rattle.pb_gap.proofs.StreamSums.{stream_sum}
use Rattle.pb_gap.proofs.Found.{dual_flow_in}

-- ---- the parallelogram law: the middle of a vector and the dual flows, their difference, and the residuals of both
-- two equations between sums of squares, combined
add_four : (k m n a b c d e f g h : ℤ) → a +ℤ (k *ℤ b) ≡ (m *ℤ c) +ℤ (n *ℤ d) → e +ℤ (k *ℤ f) ≡ (m *ℤ g) +ℤ (n *ℤ h)
    → (a +ℤ e) +ℤ (k *ℤ (b +ℤ f)) ≡ (m *ℤ (c +ℤ g)) +ℤ (n *ℤ (d +ℤ h))
add_four k m n a b c d e f g h one two =
    let left : (a +ℤ e) +ℤ (k *ℤ (b +ℤ f)) ≡ (a +ℤ (k *ℤ b)) +ℤ (e +ℤ (k *ℤ f)) =
    ring (k ∷ a ∷ b ∷ e ∷ f ∷ []) (plus (plus (var 1) (var 3)) (times (var 0) (plus (var 2) (var 4)))) (plus (plus (var 1) (times (var 0) (var 2))) (plus (var 3) (times (var 0) (var 4)))) refl in
    let right : ((m *ℤ c) +ℤ (n *ℤ d)) +ℤ ((m *ℤ g) +ℤ (n *ℤ h)) ≡ (m *ℤ (c +ℤ g)) +ℤ (n *ℤ (d +ℤ h)) =
    ring (m ∷ n ∷ c ∷ d ∷ g ∷ h ∷ []) (plus (plus (times (var 0) (var 2)) (times (var 1) (var 3))) (plus (times (var 0) (var 4)) (times (var 1) (var 5))))
    (plus (times (var 0) (plus (var 2) (var 4))) (times (var 1) (plus (var 3) (var 5)))) refl in
    left ∙ (λ i. one i +ℤ two i) ∙ right

none_of_four : (k m n : ℤ) → pos 0 +ℤ (k *ℤ pos 0) ≡ (m *ℤ pos 0) +ℤ (n *ℤ pos 0)
none_of_four k m n =
    let none = lit (pos 0) in
    ring (k ∷ m ∷ n ∷ []) (plus none (times (var 0) none)) (plus (times (var 1) none) (times (var 2) none)) refl

-- the square of a number of a stream
abbrev square_of : ℤ → Option Meas → ℤ → ℤ
square_of l o e = weighted_product l o e e

-- one stream with the dual flow u: y/q is its flow in the vector, p the whole flow
one_middle : (l q u y p : ℤ) (o : Option Meas)
    → square_of l o (((pos 2 *ℤ scale) *ℤ y) +ℤ (neg_ℤ q *ℤ ((p *ℤ scale) +ℤ u))) +ℤ ((q *ℤ q) *ℤ square_of l o ((p *ℤ scale) -ℤ (pos 1 *ℤ u)))
    ≡ (pos 2 *ℤ square_of l o ((y *ℤ scale) -ℤ (q *ℤ u))) +ℤ ((pos 2 *ℤ (scale *ℤ scale)) *ℤ square_of l o ((q *ℤ p) +ℤ (neg_ℤ (pos 1) *ℤ y)))
one_middle l q u y p None = none_of_four (q *ℤ q) (pos 2) (pos 2 *ℤ (scale *ℤ scale))
one_middle l q u y p (Some m) =
    let Q = var 0 in
    let U = var 1 in
    let Y = var 2 in
    let P = var 3 in
    let W = var 4 in
    let S = lit scale in
    let two = lit (pos 2) in
    let middle = plus (times (times two S) Y) (times (minus Q) (plus (times P S) U)) in
    let residual = less (times P S) (times (lit (pos 1)) U) in
    let other = less (times Y S) (times Q U) in
    let apart = plus (times Q P) (times (minus (lit (pos 1))) Y) in
    ring (q ∷ u ∷ y ∷ p ∷ int_div_euclid l m.variance ∷ []) (plus (times W (square middle)) (times (square Q) (times W (square residual))))
    (plus (times two (times W (square other))) (times (times two (times S S)) (times W (square apart)))) refl

all_middle : (l q : ℤ) (price : ℕ → ℤ) (ss : List Stream) (ps ys : List ℤ) → length ps ≡ length ss → length ys ≡ length ss
    → weighted_sum_of_squares l ss (combination (pos 2 *ℤ scale) (neg_ℤ q) ys (by_stream (twice_middle price) ss ps))
    +ℤ ((q *ℤ q) *ℤ weighted_sum_of_squares l ss (by_stream (residual_of (pos 1) price) ss ps))
    ≡ (pos 2 *ℤ weighted_sum_of_squares l ss (by_stream (residual_of q price) ss ys))
    +ℤ ((pos 2 *ℤ (scale *ℤ scale)) *ℤ weighted_sum_of_squares l ss (combination q (neg_ℤ (pos 1)) ps ys))
all_middle l q price [] ps ys h k = none_of_four (q *ℤ q) (pos 2) (pos 2 *ℤ (scale *ℤ scale))
all_middle l q price (s ∷ ss) [] ys h k = absurd (omega (arith, h))
all_middle l q price (s ∷ ss) (p ∷ ps) [] h k = absurd (omega (arith, k))
all_middle l q price (s ∷ ss) (p ∷ ps) (y ∷ ys) h k =
    let u = dual_flow price s in
    add_four (q *ℤ q) (pos 2) (pos 2 *ℤ (scale *ℤ scale))
    (square_of l s.meas (((pos 2 *ℤ scale) *ℤ y) +ℤ (neg_ℤ q *ℤ ((p *ℤ scale) +ℤ u)))) (square_of l s.meas ((p *ℤ scale) -ℤ (pos 1 *ℤ u)))
    (square_of l s.meas ((y *ℤ scale) -ℤ (q *ℤ u))) (square_of l s.meas ((q *ℤ p) +ℤ (neg_ℤ (pos 1) *ℤ y)))
    (weighted_sum_of_squares l ss (combination (pos 2 *ℤ scale) (neg_ℤ q) ys (by_stream (twice_middle price) ss ps)))
    (weighted_sum_of_squares l ss (by_stream (residual_of (pos 1) price) ss ps))
    (weighted_sum_of_squares l ss (by_stream (residual_of q price) ss ys))
    (weighted_sum_of_squares l ss (combination q (neg_ℤ (pos 1)) ps ys))
    (one_middle l q u y p s.meas) (all_middle l q price ss ps ys (omega (arith, h)) (omega (arith, k)))

-- ---- the hypercircle
-- w is the squares of the flows with the residuals r, x those of the least vector with the residuals s, d those of the difference, v
-- the dual value, e those of the distance from the middle
on_sphere : (k l q w x v r s d e : ℤ) → k *ℤ w ≡ (((pos 1 *ℤ pos 1) *ℤ l) *ℤ v) +ℤ r → k *ℤ x ≡ (((q *ℤ q) *ℤ l) *ℤ v) +ℤ s
    → (q *ℤ q) *ℤ w ≡ ((pos 1 *ℤ pos 1) *ℤ x) +ℤ d → e +ℤ ((q *ℤ q) *ℤ r) ≡ (pos 2 *ℤ s) +ℤ ((pos 2 *ℤ k) *ℤ d) → e ≡ (q *ℤ q) *ℤ r
on_sphere k l q w x v r s d e own least apart middle =
    let one : k *ℤ ((q *ℤ q) *ℤ w) ≡ (((q *ℤ q) *ℤ l) *ℤ v) +ℤ ((q *ℤ q) *ℤ r) =
    ring (k ∷ q ∷ w ∷ []) (times (var 0) (times (square (var 1)) (var 2))) (times (square (var 1)) (times (var 0) (var 2))) refl
    ∙ ap (λ (z : ℤ). (q *ℤ q) *ℤ z) own
    ∙ ring (q ∷ l ∷ v ∷ r ∷ []) (times (square (var 0)) (plus (times (times (square (lit (pos 1))) (var 1)) (var 2)) (var 3)))
    (plus (times (times (square (var 0)) (var 1)) (var 2)) (times (square (var 0)) (var 3))) refl in
    let two : k *ℤ ((q *ℤ q) *ℤ w) ≡ (k *ℤ x) +ℤ (k *ℤ d) =
    ap (λ (z : ℤ). k *ℤ z) apart ∙ ring (k ∷ x ∷ d ∷ []) (times (var 0) (plus (times (square (lit (pos 1))) (var 1)) (var 2))) (plus (times (var 0) (var 1)) (times (var 0) (var 2))) refl in
    let double : (pos 2 *ℤ k) *ℤ d ≡ pos 2 *ℤ (k *ℤ d) = ring (k ∷ d ∷ []) (times (times (lit (pos 2)) (var 0)) (var 1)) (times (lit (pos 2)) (times (var 0) (var 1))) refl in
    rest (k *ℤ ((q *ℤ q) *ℤ w)) (((q *ℤ q) *ℤ l) *ℤ v) ((q *ℤ q) *ℤ r) (k *ℤ x) (k *ℤ d) s e ((pos 2 *ℤ k) *ℤ d) one two least double middle
  where
    rest : (a b r x d s e f : ℤ) → a ≡ b +ℤ r → a ≡ x +ℤ d → x ≡ b +ℤ s → f ≡ pos 2 *ℤ d → e +ℤ r ≡ (pos 2 *ℤ s) +ℤ f → e ≡ r
    rest a b r x d s e f one two least double middle = omega (arith, ints, one, two, least, double, middle)

pub hypercircle : HypercircleLaw
hypercircle g price ps x h least =
    let l = variance_product g.streams in
    let q = x.denominator in
    let pair : IsDualPair g price x = record { limits = h.limits; fit = h.fit; balanced = least.0 } in
    on_sphere (scale *ℤ scale) l q (weighted_squares g (whole_flows ps)) (weighted_squares g x) (dual_value price g.streams)
    (residual_squares price g (whole_flows ps)) (residual_squares price g x) (squared_distance g (whole_flows ps) x) (squared_distance g x (middle_of price g.streams ps))
    (identity g price (whole_flows ps) h) (identity g price x pair) (excess g (whole_flows ps) x h.limits h.balanced least)
    (all_middle l q price g.streams ps x.numerators h.balanced.balanced.each least.0.balanced.each)

-- ---- the distance of a signed sum from its middle
combined_item : (a b : ℤ) (xs ys : List ℤ) (j : ℕ) → length xs ≡ length ys → item (combination a b xs ys) j ≡ (a *ℤ item xs j) +ℤ (b *ℤ item ys j)
combined_item a b [] [] j h = ring (a ∷ b ∷ []) (lit (pos 0)) (plus (times (var 0) (lit (pos 0))) (times (var 1) (lit (pos 0)))) refl
combined_item a b [] (y ∷ ys) j h = absurd (omega (arith, h))
combined_item a b (x ∷ xs) [] j h = absurd (omega (arith, h))
combined_item a b (x ∷ xs) (y ∷ ys) zero h = refl
combined_item a b (x ∷ xs) (y ∷ ys) (suc j) h = combined_item a b xs ys j (omega (arith, h))

combined_length : (a b : ℤ) (xs ys : List ℤ) → length xs ≡ length ys → length (combination a b xs ys) ≡ length ys
combined_length a b [] ys h = h
combined_length a b (x ∷ xs) [] h = absurd (omega (arith, h))
combined_length a b (x ∷ xs) (y ∷ ys) h = ap suc (combined_length a b xs ys (omega (arith, h)))

-- the middle of a member's flow and its dual flow
member_middle : (g : ProcessGraph) (price : ℕ → ℤ) (ps : List ℤ) (m : Member) → length ps ≡ length g.streams → IsSigned g m
    → item (by_stream (twice_middle price) g.streams ps) m.stream ≡ (item ps m.stream *ℤ scale) +ℤ dual_flow_in price (slice_get g.streams m.stream)
member_middle g price ps m each is =
    by_stream_at (twice_middle price) g.streams ps m.stream is.stream each is.is
    ∙ ap (λ (u : ℤ). (item ps m.stream *ℤ scale) +ℤ u) (sym (ap (dual_flow_in price) is.is))

sum_middle : (g : ProcessGraph) (price : ℕ → ℤ) (ps : List ℤ) (x : Fractional) (ms : List Member) → length ps ≡ length g.streams → length x.numerators ≡ length g.streams
    → AllByRecursion (IsSigned g) ms → signed_sum ms (difference_of x (middle_of price g.streams ps)).numerators
    ≡ ((pos 2 *ℤ signed_sum ms x.numerators) *ℤ scale) -ℤ (x.denominator *ℤ ((signed_sum ms ps *ℤ scale) +ℤ dual_flow_sum price g.streams ms))
sum_middle g price ps x [] of_flows of_x is =
    let none = lit (pos 0) in
    ring (x.denominator ∷ []) none (less (times (times (lit (pos 2)) none) (lit scale)) (times (var 0) (plus (times none (lit scale)) none))) refl
sum_middle g price ps x (m ∷ ms) of_flows of_x is =
    let q = x.denominator in
    let y = item x.numerators m.stream in
    let p = item ps m.stream in
    let u = dual_flow_in price (slice_get g.streams m.stream) in
    let middles = by_stream (twice_middle price) g.streams ps in
    let one = combined_item (pos 2 *ℤ scale) (neg_ℤ q) x.numerators middles m.stream (of_x ∙ sym (by_stream_length (twice_middle price) g.streams ps of_flows)) in
    let here = one ∙ ap (λ (z : ℤ). ((pos 2 *ℤ scale) *ℤ y) +ℤ (neg_ℤ q *ℤ z)) (member_middle g price ps m of_flows is.0) in
    let S = lit scale in
    (λ i. (m.sign *ℤ here i) +ℤ sum_middle g price ps x ms of_flows of_x is.1 i)
    ∙ ring (m.sign ∷ y ∷ q ∷ p ∷ u ∷ signed_sum ms x.numerators ∷ signed_sum ms ps ∷ dual_flow_sum price g.streams ms ∷ [])
    (plus (times (var 0) (plus (times (times (lit (pos 2)) S) (var 1)) (times (minus (var 2)) (plus (times (var 3) S) (var 4)))))
    (less (times (times (lit (pos 2)) (var 5)) S) (times (var 2) (plus (times (var 6) S) (var 7)))))
    (less (times (times (lit (pos 2)) (plus (times (var 0) (var 1)) (var 5))) S)
    (times (var 2) (plus (times (plus (times (var 0) (var 3)) (var 6)) S) (plus (times (var 0) (var 4)) (var 7))))) refl

-- its half width
middle_width : (g : ProcessGraph) (price : ℕ → ℤ) (ps : List ℤ) (x : Fractional) (m : Member) (ms : List Member) → IsDualPair g price (whole_flows ps) → IsLeast g x → AreSigned g (m ∷ ms)
    → HasHalfWidth (variance_product g.streams) x.denominator
    (((pos 2 *ℤ signed_sum (m ∷ ms) x.numerators) *ℤ scale) -ℤ (x.denominator *ℤ ((signed_sum (m ∷ ms) ps *ℤ scale) +ℤ dual_flow_sum price g.streams (m ∷ ms))))
    (variance_sum g.streams (m ∷ ms)) (squared_distance g x (middle_of price g.streams ps)) (pos (gap_size (gap_of price g.streams ps))) (scaled_root_of (variance_sum g.streams (m ∷ ms)))
    (half_width_in g.streams (gap_of price g.streams ps) (m ∷ ms))
middle_width g price ps x m ms h least is =
    let l = variance_product g.streams in
    let q = x.denominator in
    let gap = gap_of price g.streams ps in
    let s = variance_sum g.streams (m ∷ ms) in
    let l_pos = product_of g h.limits in
    let s_nonneg = variances_nonneg g (m ∷ ms) h.limits is in
    let root = scaled_root_is s s_nonneg in
    let of_flows = h.balanced.balanced.each in
    let of_x = least.0.balanced.each in
    let errors = (difference_of x (middle_of price g.streams ps)).numerators in
    let middles = by_stream_length (twice_middle price) g.streams ps of_flows in
    let each : length errors ≡ length g.streams = combined_length (pos 2 *ℤ scale) (neg_ℤ q) x.numerators (by_stream (twice_middle price) g.streams ps) (of_x ∙ sym middles) ∙ middles in
    let within = mul_mono_left (residual_squares price g (whole_flows ps)) (l *ℤ gap_square gap) (q *ℤ q) (within_gap g price ps l_pos (weigh_all g price h.limits h.fit)) (square_pos q) in
    let half = ceiling_is ((scaled_root_of s +ℤ pos 1) *ℤ pos (gap_size gap)) (pos (2 ^ 40)) (omega (arith, ints)) in
    record {
      l_pos = l_pos;
      q_pos = least.0.positive;
      s_nonneg = s_nonneg;
      g_nonneg = omega (arith, ints);
      root_nonneg = root.nonneg;
      schwarz =
          subst (λ (z : ℤ). (l *ℤ (z *ℤ z)) ≤ℤ (s *ℤ squared_distance g x (middle_of price g.streams ps))) (sum_middle g price ps x (m ∷ ms) of_flows of_x is.each)
          (error_schwarz g errors (m ∷ ms) h.limits each is);
      squares = le_by_eq _ _ _ _ (hypercircle g price ps x h least) refl within;
      root_above = strict_le _ _ root.next;
      half_above = half.above;
    }
  where
    strict_le : (a b : ℤ) → a <ℤ b → a ≤ℤ b
    strict_le a b h = omega (arith, ints, h)

-- ---- half of it
-- twice y over q is at most high and the half width
half_above : (q y high half c w : ℤ) → pos 1 ≤ℤ q → (pos 2 *ℤ y) ≤ℤ (q *ℤ (high +ℤ half)) → high ≤ℤ (c *ℤ pos 2) → half ≤ℤ (w *ℤ pos 2) → y ≤ℤ (q *ℤ (c +ℤ w))
half_above q y high half c w q_pos twice up wide =
    let most = mul_mono_left (high +ℤ half) ((c *ℤ pos 2) +ℤ (w *ℤ pos 2)) q (omega (arith, ints, up, wide)) (omega (arith, ints, q_pos)) in
    let out : q *ℤ ((c *ℤ pos 2) +ℤ (w *ℤ pos 2)) ≡ pos 2 *ℤ (q *ℤ (c +ℤ w)) =
    ring (q ∷ c ∷ w ∷ []) (times (var 0) (plus (times (var 1) (lit (pos 2))) (times (var 2) (lit (pos 2))))) (times (lit (pos 2)) (times (var 0) (plus (var 1) (var 2)))) refl in
    rest y (q *ℤ (high +ℤ half)) (q *ℤ ((c *ℤ pos 2) +ℤ (w *ℤ pos 2))) (q *ℤ (c +ℤ w)) twice most out
  where
    rest : (y a b c : ℤ) → (pos 2 *ℤ y) ≤ℤ a → a ≤ℤ b → b ≡ pos 2 *ℤ c → y ≤ℤ c
    rest y a b c h k e = omega (arith, ints, h, k, e)

half_below : (q y low half c w : ℤ) → pos 1 ≤ℤ q → (q *ℤ (low -ℤ half)) ≤ℤ (pos 2 *ℤ y) → (c *ℤ pos 2) ≤ℤ low → half ≤ℤ (w *ℤ pos 2) → (q *ℤ (c -ℤ w)) ≤ℤ y
half_below q y low half c w q_pos twice down wide =
    let most = mul_mono_left ((c *ℤ pos 2) -ℤ (w *ℤ pos 2)) (low -ℤ half) q (omega (arith, ints, down, wide)) (omega (arith, ints, q_pos)) in
    let out : q *ℤ ((c *ℤ pos 2) -ℤ (w *ℤ pos 2)) ≡ pos 2 *ℤ (q *ℤ (c -ℤ w)) =
    ring (q ∷ c ∷ w ∷ []) (times (var 0) (less (times (var 1) (lit (pos 2))) (times (var 2) (lit (pos 2))))) (times (lit (pos 2)) (times (var 0) (less (var 1) (var 2)))) refl in
    rest y (q *ℤ (low -ℤ half)) (q *ℤ ((c *ℤ pos 2) -ℤ (w *ℤ pos 2))) (q *ℤ (c -ℤ w)) twice most out
  where
    rest : (y a b c : ℤ) → a ≤ℤ (pos 2 *ℤ y) → b ≤ℤ a → b ≡ pos 2 *ℤ c → c ≤ℤ y
    rest y a b c h k e = omega (arith, ints, h, k, e)

-- ---- least bounds
pub least_within : LeastBoundsLaw
least_within g price ps x [] h least is = record { from = le_of_eq _ _ (mul_zero x.denominator); to = le_of_eq _ _ (sym (mul_zero x.denominator)) }
least_within g price ps x (m ∷ ms) h least is =
    let members = m ∷ ms in
    let l = variance_product g.streams in
    let q = x.denominator in
    let y = signed_sum members x.numerators in
    let f = signed_sum members ps in
    let t = dual_flow_sum price g.streams members in
    let s = variance_sum g.streams members in
    let b = squared_distance g x (middle_of price g.streams ps) in
    let gg = pos (gap_size (gap_of price g.streams ps)) in
    let half = half_width_in g.streams (gap_of price g.streams ps) members in
    let has = middle_width g price ps x m ms h least is in
    let down = floor_is t scale (omega (arith, ints)) in
    let up = ceiling_is t scale (omega (arith, ints)) in
    let low = f +ℤ floor_div t scale in
    let high = f +ℤ ceil_div t scale in
    let wide = ceiling_is half (pos 2) (omega (arith, ints)) in
    let bottom = floor_is low (pos 2) (omega (arith, ints)) in
    let top = ceiling_is high (pos 2) (omega (arith, ints)) in
    let from = from_below l q s b gg (scaled_root_of s) half (pos 2 *ℤ y) ((f *ℤ scale) +ℤ t) low has (add_low f t (floor_div t scale) down.below) in
    let to = from_above l q s b gg (scaled_root_of s) half (pos 2 *ℤ y) ((f *ℤ scale) +ℤ t) high has (add_high f t (ceil_div t scale) up.above) in
    record {
      from = half_below q y low half (floor_div low (pos 2)) (ceil_div half (pos 2)) least.0.positive from bottom.below wide.above;
      to = half_above q y high half (ceil_div high (pos 2)) (ceil_div half (pos 2)) least.0.positive to top.above wide.above;
    }
  where
    add_low : (f t c : ℤ) → (c *ℤ scale) ≤ℤ t → ((f +ℤ c) *ℤ scale) ≤ℤ ((f *ℤ scale) +ℤ t)
    add_low f t c h = omega (arith, ints, h)

    add_high : (f t c : ℤ) → t ≤ℤ (c *ℤ scale) → ((f *ℤ scale) +ℤ t) ≤ℤ ((f +ℤ c) *ℤ scale)
    add_high f t c h = omega (arith, ints, h)

within : (g : ProcessGraph) (price : ℕ → ℤ) (ps : List ℤ) (x : Fractional) (j : ℕ) (o : Option (List Member)) → IsDualPair g price (whole_flows ps) → IsLeast g x
    → IfSome o (SumsTo g j) → IfSome (option_map (least_bounds_of price g.streams ps (gap_of price g.streams ps)) o) (IsStreamWithin x j)
within g price ps x j None h least sums = tt
within g price ps x j (Some members) h least sums =
    let is = least_within g price ps x members h least sums.signed in
    let bounds = least_bounds_of price g.streams ps (gap_of price g.streams ps) members in
    let q = x.denominator in
    let e = sums.sum x.numerators least.0.balanced in
    record { from = subst (λ (z : ℤ). (q *ℤ bounds.lo) ≤ℤ z) e is.from; to = subst (λ (z : ℤ). z ≤ℤ (q *ℤ bounds.hi)) e is.to }

pub stream_least : LeastStreamLaw
stream_least g price ps x j c h least shown = within g price ps x j (sum_for j c.class c.witness) h least (stream_sum g j c h.limits shown)

-- at a state
pub state_least : (s : State) (x : Fractional) (members : List Member) → IsState s → IsLeast s.graph x → AreSigned s.graph members
    → IsWithin x members (least_bounds_of (price_in s) s.graph.streams s.flows (gap_in s) members)
state_least s x members is least signed =
    let balanced : IsBalancedFractional s.graph (whole_flows s.flows) = record { positive = omega (arith, ints); balanced = is.rounded.balanced } in
    least_within s.graph (price_in s) s.flows x members (record { limits = is.limits; fit = is.fit; balanced = balanced }) least signed
