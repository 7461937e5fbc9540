-- The net dual flow of a group, compared with the residuals of balanced flows at its border.
use Rattle.std.proofs.Common.{◌≡◌, ◌∙◌, ◌==◌, ◌^◌, ◌*◌, ◌/◌, ℕ, ◌+◌, ◌<◌, ◌≤◌, ℤ, pos, negsuc, neg_ℤ, ◌+ℤ◌, ◌-ℤ◌, ◌*ℤ◌, ◌≤ℤ◌, ◌<ℤ◌, unsigned_abs, Bool, true, false, not, List, [], ◌∷◌, ◌++◌, length, Option, Some, None, inl, inr, refl, sym, subst, ap, ap₂, arith}
use Rattle.std.specs.Prelude.{if◌then◌else◌, is_some}
use Rattle.std.specs.Int.{int_div_euclid}
use Rattle.std.specs.List.{AllByRecursion}
use Rattle.std.proofs.lemmas.Int.{ints}
use Rattle.std.proofs.lemmas.Option.{slice_get-get_or}
use Rattle.std.proofs.Math.ListN.{get_or-append}
use Rattle.std.proofs.Math.Seq.{get_or-append_seam}
use Rattle.std.proofs.lemmas.Bool.{cases_lt}
use Rattle.pb_fixed.specs.Sums.{item, sum_over}
use Rattle.pb_fixed.specs.IntegerLaws.{IsWeighed}
use Rattle.pb_fixed.proofs.Lists.{AllByRecursion-from_all}
use Rattle.pb_fixed.proofs.Order.{le_by_eq, le_trans, mul_cancel, mul_mono, mul_mono_left, mul_nonneg, root_mono, square_pos}
use Rattle.pb_fixed.proofs.Ring.{var, lit, plus, times, minus, less, square, ring}
use Rattle.pb_fixed.proofs.RingLaws.{mul_comm, zero_add}
use Rattle.pb_fixed.proofs.Schwarz.{schwarz}
use Rattle.pb_fixed.specs.Roots.{scaled_root_of}
use Rattle.pb_fixed.proofs.RootLaws.{scaled_root_is}
use Rattle.pb_graph.specs.declared.records.Meas.{Meas}
use Rattle.pb_graph.specs.declared.records.Stream.{Stream}
use Rattle.pb_graph.specs.ProcessGraph.{ProcessGraph, IsProcessGraph, is_measured}
use Rattle.pb_graph.specs.Groups.{AreGroups, entering, group_at, has_one_end}
use Rattle.pb_graph.specs.Squares.{by_stream, variance_product, weighted_product, weighted_sum_of_squares}
use Rattle.pb_graph.specs.Balance.{IsBalanced}
use Rattle.pb_graph.specs.Prices.{PricesFit}
use Rattle.pb_graph.specs.PricedSums.{priced_streams}
use Rattle.pb_graph.proofs.BalanceLaws.{balanced_sum}
use Rattle.pb_graph.specs.Variance.{variance_of, crossing_variance, group_variance, most_group_variance}
use Rattle.pb_graph.proofs.GroupLaws.{crossing_measured}
use Rattle.pb_dual.specs.DualValue.{scale, dual_flow}
use Rattle.pb_dual.specs.Moves.{group_flow}
use Rattle.pb_gap.specs.Residuals.{residual_of}
use Rattle.pb_gap.specs.Gap.{MeetsGap, gap_of, gap_size}
use Rattle.pb_gap.specs.Nets.{NetLaw, imbalance_root, most_net}
use Rattle.pb_gap.specs.Iterate.{IsSmallRoot}
use Rattle.pb_gap.proofs.Weights.{MayWeigh, product_of, weigh_all, weights_of}
use Rattle.pb_gap.proofs.InnerProductLemmas.{by_stream_length, square_nonneg}
use Rattle.pb_gap.proofs.Enclosure.{within_gap}

-- the variance and the signed error of a stream at the border of a group, by which of its ends are in the group
abbrev part : Option Meas → Bool → Bool → ℤ → List (ℤ × ℤ)
part None b a e = []
part (Some m) b a e = if (if a then not b else b) then (m.variance, entering b a e) ∷ [] else []

abbrev parts : List ℕ → ℕ → List Stream → List ℤ → List (ℤ × ℤ)
parts group k [] es = []
parts group k (s ∷ ss) [] = []
parts group k (s ∷ ss) (e ∷ es) = part s.meas (group_at group s.from == k) (group_at group s.to == k) e ++ parts group k ss es

-- the net error of a group
abbrev net_error : List ℕ → ℕ → List Stream → List ℤ → ℤ
net_error group k [] es = pos 0
net_error group k (s ∷ ss) [] = pos 0
net_error group k (s ∷ ss) (e ∷ es) = entering (group_at group s.from == k) (group_at group s.to == k) e +ℤ net_error group k ss es

-- a stream with exactly one end in the group is measured
abbrev Crosses : List ℕ → ℕ → Stream → Type 0
Crosses group k s = has_one_end group k s ≡ true → is_measured s ≡ true

error_one : (o : Option Meas) (b a : Bool) (e : ℤ) (rest : List (ℤ × ℤ)) → ((if a then not b else b) ≡ true → is_some o ≡ true)
    → sum_over (λ x. x.1) (part o b a e ++ rest) ≡ entering b a e +ℤ sum_over (λ x. x.1) rest
error_one None true true e rest h = sym (zero_add (sum_over (λ x. x.1) rest))
error_one None true false e rest h = cc (h refl)
error_one None false true e rest h = cc (h refl)
error_one None false false e rest h = sym (zero_add (sum_over (λ x. x.1) rest))
error_one (Some m) true true e rest h = sym (zero_add (sum_over (λ x. x.1) rest))
error_one (Some m) true false e rest h = refl
error_one (Some m) false true e rest h = refl
error_one (Some m) false false e rest h = sym (zero_add (sum_over (λ x. x.1) rest))

errors : (group : List ℕ) (k : ℕ) (ss : List Stream) (es : List ℤ) → AllByRecursion (Crosses group k) ss → sum_over (λ x. x.1) (parts group k ss es) ≡ net_error group k ss es
errors group k [] es h = refl
errors group k (s ∷ ss) [] h = refl
errors group k (s ∷ ss) (e ∷ es) h =
    let b = group_at group s.from == k in
    let a = group_at group s.to == k in
    error_one s.meas b a e (parts group k ss es) h.0 ∙ ap (λ (x : ℤ). entering b a e +ℤ x) (errors group k ss es h.1)

variance_one : (o : Option Meas) (b a : Bool) (e : ℤ) (rest : List (ℤ × ℤ))
    → sum_over (λ x. x.0) (part o b a e ++ rest) ≡ (if (if a then not b else b) then variance_of o else pos 0) +ℤ sum_over (λ x. x.0) rest
variance_one None true true e rest = sym (zero_add (sum_over (λ x. x.0) rest))
variance_one None true false e rest = sym (zero_add (sum_over (λ x. x.0) rest))
variance_one None false true e rest = sym (zero_add (sum_over (λ x. x.0) rest))
variance_one None false false e rest = sym (zero_add (sum_over (λ x. x.0) rest))
variance_one (Some m) true true e rest = sym (zero_add (sum_over (λ x. x.0) rest))
variance_one (Some m) true false e rest = refl
variance_one (Some m) false true e rest = refl
variance_one (Some m) false false e rest = sym (zero_add (sum_over (λ x. x.0) rest))

variances : (group : List ℕ) (k : ℕ) (ss : List Stream) (es : List ℤ) → length es ≡ length ss → sum_over (λ x. x.0) (parts group k ss es) ≡ group_variance group k ss
variances group k [] es each = refl
variances group k (s ∷ ss) [] each = absurd (omega (arith, each))
variances group k (s ∷ ss) (e ∷ es) each =
    variance_one s.meas (group_at group s.from == k) (group_at group s.to == k) e (parts group k ss es)
    ∙ ap (λ (x : ℤ). crossing_variance group k s +ℤ x) (variances group k ss es (omega (arith, each)))

-- the weighted square of a part
abbrev weighted : ℤ → ℤ × ℤ → ℤ
weighted l x = int_div_euclid l x.0 *ℤ (x.1 *ℤ x.1)

turned : (w e : ℤ) → w *ℤ (neg_ℤ e *ℤ neg_ℤ e) ≡ w *ℤ (e *ℤ e)
turned w e = ring (w ∷ e ∷ []) (times (var 0) (square (minus (var 1)))) (times (var 0) (square (var 1))) refl

less_more : (r w p : ℤ) → r ≤ℤ w → pos 0 ≤ℤ p → r ≤ℤ (p +ℤ w)
less_more r w p h k = omega (arith, ints, h, k)

turned_more : (x p r w : ℤ) → x ≡ p → r ≤ℤ w → (x +ℤ r) ≤ℤ (p +ℤ w)
turned_more x p r w e h = omega (arith, ints, e, h)

square_one : (l : ℤ) (o : Option Meas) (b a : Bool) (e w : ℤ) (rest : List (ℤ × ℤ)) → MayWeigh l o → sum_over (weighted l) rest ≤ℤ w
    → sum_over (weighted l) (part o b a e ++ rest) ≤ℤ (weighted_product l o e e +ℤ w)
square_one l None true true e w rest m h = less_more (sum_over (weighted l) rest) w (pos 0) h (omega (arith, ints))
square_one l None true false e w rest m h = less_more (sum_over (weighted l) rest) w (pos 0) h (omega (arith, ints))
square_one l None false true e w rest m h = less_more (sum_over (weighted l) rest) w (pos 0) h (omega (arith, ints))
square_one l None false false e w rest m h = less_more (sum_over (weighted l) rest) w (pos 0) h (omega (arith, ints))
square_one l (Some n) true true e w rest m h = less_more _ _ _ h (square_nonneg l (Some n) e m)
square_one l (Some n) true false e w rest m h = turned_more _ _ _ _ (turned (int_div_euclid l n.variance) e) h
square_one l (Some n) false true e w rest m h = turned_more _ _ _ _ refl h
square_one l (Some n) false false e w rest m h = less_more _ _ _ h (square_nonneg l (Some n) e m)

squares : (l : ℤ) (group : List ℕ) (k : ℕ) (ss : List Stream) (es : List ℤ) → AllByRecursion (λ s. MayWeigh l s.meas) ss
    → sum_over (weighted l) (parts group k ss es) ≤ℤ weighted_sum_of_squares l ss es
squares l group k [] es h = omega (arith, ints)
squares l group k (s ∷ ss) [] h = omega (arith, ints)
squares l group k (s ∷ ss) (e ∷ es) h =
    square_one l s.meas (group_at group s.from == k) (group_at group s.to == k) e (weighted_sum_of_squares l ss es) (parts group k ss es) h.0 (squares l group k ss es h.1)

abbrev Weighed : ℤ → List (ℤ × ℤ) → Type 0
Weighed l xs = AllByRecursion (IsWeighed (λ (x : ℤ × ℤ). x.0) (λ x. int_div_euclid l x.0) l) xs

positive : (v : ℤ) → pos 1 ≤ℤ v → pos 0 <ℤ v
positive v h = omega (arith, ints, h)

weighed_one : (l : ℤ) (o : Option Meas) (b a : Bool) (e : ℤ) (rest : List (ℤ × ℤ)) → MayWeigh l o → Weighed l rest → Weighed l (part o b a e ++ rest)
weighed_one l None true true e rest m r = r
weighed_one l None true false e rest m r = r
weighed_one l None false true e rest m r = r
weighed_one l None false false e rest m r = r
weighed_one l (Some n) true true e rest m r = r
weighed_one l (Some n) true false e rest m r = (record { positive = positive n.variance m.variance; weight_is = m.weight }, r)
weighed_one l (Some n) false true e rest m r = (record { positive = positive n.variance m.variance; weight_is = m.weight }, r)
weighed_one l (Some n) false false e rest m r = r

weighed : (l : ℤ) (group : List ℕ) (k : ℕ) (ss : List Stream) (es : List ℤ) → AllByRecursion (λ s. MayWeigh l s.meas) ss → Weighed l (parts group k ss es)
weighed l group k [] es h = tt
weighed l group k (s ∷ ss) [] h = tt
weighed l group k (s ∷ ss) (e ∷ es) h =
    weighed_one l s.meas (group_at group s.from == k) (group_at group s.to == k) e (parts group k ss es) h.0 (weighed l group k ss es h.1)

-- 1 at the nodes of the group, and 0 at the others: the sum of balanced flows that enter less those that leave is 0
abbrev unit : Bool → ℤ
unit b = if b then pos 1 else pos 0

abbrev side : List ℕ → ℕ → ℕ → ℤ
side group k n = unit (group_at group n == k)

entering_one : (b a : Bool) (y u : ℤ) → entering b a ((y *ℤ scale) -ℤ (pos 1 *ℤ u)) ≡ (scale *ℤ ((unit a -ℤ unit b) *ℤ y)) -ℤ entering b a u
entering_one true true y u = ring (y ∷ u ∷ []) (lit (pos 0)) (less (times (lit scale) (times (less (lit (pos 1)) (lit (pos 1))) (var 0))) (lit (pos 0))) refl
entering_one true false y u =
    ring (y ∷ u ∷ []) (minus (less (times (var 0) (lit scale)) (times (lit (pos 1)) (var 1)))) (less (times (lit scale) (times (less (lit (pos 0)) (lit (pos 1))) (var 0))) (minus (var 1))) refl
entering_one false true y u =
    ring (y ∷ u ∷ []) (less (times (var 0) (lit scale)) (times (lit (pos 1)) (var 1))) (less (times (lit scale) (times (less (lit (pos 1)) (lit (pos 0))) (var 0))) (var 1)) refl
entering_one false false y u = ring (y ∷ u ∷ []) (lit (pos 0)) (less (times (lit scale) (times (less (lit (pos 0)) (lit (pos 0))) (var 0))) (lit (pos 0))) refl

joined : (x u y v : ℤ) → ((scale *ℤ x) -ℤ u) +ℤ ((scale *ℤ y) -ℤ v) ≡ (scale *ℤ (x +ℤ y)) -ℤ (u +ℤ v)
joined x u y v =
    ring (x ∷ u ∷ y ∷ v ∷ []) (plus (less (times (lit scale) (var 0)) (var 1)) (less (times (lit scale) (var 2)) (var 3))) (less (times (lit scale) (plus (var 0) (var 2))) (plus (var 1) (var 3))) refl

error_is : (group : List ℕ) (price : ℕ → ℤ) (k : ℕ) (ss : List Stream) (ps : List ℤ) → length ps ≡ length ss
    → net_error group k ss (by_stream (residual_of (pos 1) price) ss ps) ≡ (scale *ℤ priced_streams (side group k) ss ps) -ℤ group_flow group price k ss
error_is group price k [] ps each = refl
error_is group price k (s ∷ ss) [] each = absurd (omega (arith, each))
error_is group price k (s ∷ ss) (p ∷ ps) each =
    let b = group_at group s.from == k in
    let a = group_at group s.to == k in
    ap₂ (λ (x y : ℤ). x +ℤ y) (entering_one b a p (dual_flow price s)) (error_is group price k ss ps (omega (arith, each)))
    ∙ joined ((unit a -ℤ unit b) *ℤ p) (entering b a (dual_flow price s)) (priced_streams (side group k) ss ps) (group_flow group price k ss)

-- the square of the net dual flow, by the inequality of Cauchy and Schwarz
none_left : (x n : ℤ) → x ≡ pos 0 → (scale *ℤ x) -ℤ n ≡ neg_ℤ n
none_left x n e = subst (λ (y : ℤ). (scale *ℤ y) -ℤ n ≡ neg_ℤ n) (sym e) (ring (n ∷ []) (less (times (lit scale) (lit (pos 0))) (var 0)) (minus (var 0)) refl)

variance_nonneg : (xs : List (ℤ × ℤ)) (l : ℤ) → Weighed l xs → pos 0 ≤ℤ sum_over (λ x. x.0) xs
variance_nonneg [] l h = omega (arith, ints)
variance_nonneg (x ∷ xs) l h = let rest = variance_nonneg xs l h.1 in both x.0 (sum_over (λ x. x.0) xs) h.0.positive rest
  where
    both : (v r : ℤ) → pos 0 <ℤ v → pos 0 ≤ℤ r → pos 0 ≤ℤ (v +ℤ r)
    both v r h k = omega (arith, ints, h, k)

-- what is known of a net dual flow n: l is the product of the variances, v the variance of the group, and g the size of the gap
pub record IsNet (n l v g : ℤ) : Type 0 where
  pub l_pos : pos 1 ≤ℤ l
  pub v_nonneg : pos 0 ≤ℤ v
  pub square : (l *ℤ (n *ℤ n)) ≤ℤ (v *ℤ (l *ℤ (pos (2 ^ 72) *ℤ (g *ℤ g))))

net_is : (g : ProcessGraph) (group : List ℕ) (price : ℕ → ℤ) (ps : List ℤ) (k : ℕ) → IsProcessGraph g → AreGroups g group → PricesFit g price → IsBalanced g ps
    → IsNet (group_flow group price k g.streams) (variance_product g.streams) (group_variance group k g.streams) (pos (gap_size (gap_of price g.streams ps)))
net_is g group price ps k is groups fit even =
    let ss = g.streams in
    let l = variance_product ss in
    let n = group_flow group price k ss in
    let es = by_stream (residual_of (pos 1) price) ss ps in
    let xs = parts group k ss es in
    let each : length es ≡ length ss = by_stream_length (residual_of (pos 1) price) ss ps even.each in
    let crosses = AllByRecursion-from_all (Crosses group k) ss (λ j d lt one. crossing_measured g group k j _ groups (is.joins j d lt) (slice_get-get_or ss j d lt) one) in
    let weights = weights_of g is in
    let all = weighed l group k ss es weights in
    let l_pos = product_of g is in
    let error : sum_over (λ x. x.1) xs ≡ neg_ℤ n =
    errors group k ss es crosses ∙ error_is group price k ss ps even.each ∙ none_left (priced_streams (side group k) ss ps) n (balanced_sum g (side group k) ps is even) in
    let variance : sum_over (λ x. x.0) xs ≡ group_variance group k ss = variances group k ss es each in
    let v_nonneg : pos 0 ≤ℤ group_variance group k ss = subst (λ (v : ℤ). pos 0 ≤ℤ v) variance (variance_nonneg xs l all) in
    let raw = schwarz (λ (x : ℤ × ℤ). x.1) (λ (x : ℤ × ℤ). x.0) (λ (x : ℤ × ℤ). int_div_euclid l x.0) l xs (omega (arith, ints, l_pos)) all in
    let named : (l *ℤ (neg_ℤ n *ℤ neg_ℤ n)) ≤ℤ (group_variance group k ss *ℤ sum_over (weighted l) xs) =
    subst (λ (v : ℤ). (l *ℤ (neg_ℤ n *ℤ neg_ℤ n)) ≤ℤ (v *ℤ sum_over (weighted l) xs)) variance
    (subst (λ (e : ℤ). (l *ℤ (e *ℤ e)) ≤ℤ (sum_over (λ x. x.0) xs *ℤ sum_over (weighted l) xs)) error raw) in
    let within = within_gap g price ps l_pos (weigh_all g price is fit) in
    record {
      l_pos = l_pos;
      v_nonneg = v_nonneg;
      square = le_by_eq _ _ _ _ (sym (turned l n)) refl (
          le_trans _ _ _ named (mul_mono_left _ _ (group_variance group k ss) (le_trans _ _ _ (squares l group k ss es weights) within) v_nonneg));
    }

-- the root of a net dual flow
net_root : (n l v g r : ℤ) → IsNet n l v g → pos 0 ≤ℤ g → pos 0 ≤ℤ r → (v *ℤ pos (2 ^ 40)) <ℤ ((r +ℤ pos 1) *ℤ (r +ℤ pos 1)) → pos (unsigned_abs n) ≤ℤ (((r +ℤ pos 1) *ℤ pos (2 ^ 16)) *ℤ g)
net_root n l v g r is g_pos r_pos next =
    let z = r +ℤ pos 1 in
    let a = pos (unsigned_abs n) in
    let squares : (n *ℤ n) ≤ℤ (v *ℤ (pos (2 ^ 72) *ℤ (g *ℤ g))) =
    mul_cancel (n *ℤ n) (v *ℤ (pos (2 ^ 72) *ℤ (g *ℤ g))) l
    (le_by_eq _ _ _ _ (mul_comm (n *ℤ n) l) (ring (v ∷ l ∷ g ∷ []) (times (times (var 0) (times (lit (pos (2 ^ 72))) (square (var 2)))) (var 1)) (times (var 0) (times (var 1) (times (lit (pos (2 ^ 72))) (square (var 2))))) refl) is.square) (positive l is.l_pos) in
    let scaled = mul_mono (n *ℤ n) (v *ℤ (pos (2 ^ 72) *ℤ (g *ℤ g))) (pos (2 ^ 40)) squares (omega (arith, ints)) in
    let bounded = mul_mono (v *ℤ pos (2 ^ 40)) (z *ℤ z) (pos (2 ^ 72) *ℤ (g *ℤ g)) (omega (arith, ints, next)) (mul_nonneg (pos (2 ^ 72)) (g *ℤ g) (omega (arith, ints)) (square_pos g)) in
    let whole : ((a *ℤ pos (2 ^ 20)) *ℤ (a *ℤ pos (2 ^ 20))) ≤ℤ ((((z *ℤ pos (2 ^ 16)) *ℤ g) *ℤ pos (2 ^ 20)) *ℤ (((z *ℤ pos (2 ^ 16)) *ℤ g) *ℤ pos (2 ^ 20))) =
    le_by_eq _ _ _ _ (ring (a ∷ []) (square (times (var 0) (lit (pos (2 ^ 20))))) (times (square (var 0)) (lit (pos (2 ^ 40)))) refl ∙ ap (λ (x : ℤ). x *ℤ pos (2 ^ 40)) (size_square n))
    (ring (z ∷ g ∷ []) (square (times (times (times (var 0) (lit (pos (2 ^ 16)))) (var 1)) (lit (pos (2 ^ 20))))) (times (square (var 0)) (times (lit (pos (2 ^ 72))) (square (var 1)))) refl)
    (le_trans _ _ _ scaled (le_by_eq _ _ _ _ (ring (v ∷ g ∷ []) (times (times (var 0) (times (lit (pos (2 ^ 72))) (square (var 1)))) (lit (pos (2 ^ 40)))) (times (times (var 0) (lit (pos (2 ^ 40)))) (times (lit (pos (2 ^ 72))) (square (var 1)))) refl) refl bounded)) in
    let right : pos 0 ≤ℤ ((z *ℤ pos (2 ^ 16)) *ℤ g) = mul_nonneg (z *ℤ pos (2 ^ 16)) g (omega (arith, ints, r_pos)) g_pos in
    let root = root_mono (a *ℤ pos (2 ^ 20)) (((z *ℤ pos (2 ^ 16)) *ℤ g) *ℤ pos (2 ^ 20)) (omega (arith, ints, right)) whole in
    mul_cancel a ((z *ℤ pos (2 ^ 16)) *ℤ g) (pos (2 ^ 20)) root (omega (arith, ints))
  where
    size_square : (n : ℤ) → pos (unsigned_abs n) *ℤ pos (unsigned_abs n) ≡ n *ℤ n
    size_square (pos n) = refl
    size_square (negsuc n) = refl

pub net : NetLaw
net g group price ps k thousandths is groups fit even met =
    let n = group_flow group price k g.streams in
    let v = group_variance group k g.streams in
    let size = gap_size (gap_of price g.streams ps) in
    let known = net_is g group price ps k is groups fit even in
    let root = scaled_root_is v known.v_nonneg in
    let z = imbalance_root v in
    let bound = net_root n (variance_product g.streams) v (pos size) (scaled_root_of v) known (omega (arith, ints)) root.nonneg root.next in
    let most : pos size ≤ℤ pos (thousandths * 2 ^ 20 / 1000) = within size (thousandths * 2 ^ 20) met in
    let more = mul_mono (pos size) (pos (thousandths * 2 ^ 20 / 1000)) (z *ℤ pos (2 ^ 16)) most (scaled_nonneg (scaled_root_of v) root.nonneg) in
    le_trans _ _ _ bound (le_by_eq _ _ _ _ (mul_comm (z *ℤ pos (2 ^ 16)) (pos size))
    (ring (z ∷ pos (thousandths * 2 ^ 20 / 1000) ∷ []) (times (times (var 1) (var 0)) (lit (pos (2 ^ 16)))) (times (var 1) (times (var 0) (lit (pos (2 ^ 16))))) refl) more)
  where
    within : (size n : ℕ) → size * 1000 ≤ n → pos size ≤ℤ pos (n / 1000)
    within size n met = omega (arith, ints, met)

    scaled_nonneg : (r : ℤ) → pos 0 ≤ℤ r → pos 0 ≤ℤ ((r +ℤ pos 1) *ℤ pos (2 ^ 16))
    scaled_nonneg r h = omega (arith, ints, h)

-- a net beyond what is allowed
pub beyond : (g : ProcessGraph) (group : List ℕ) (price : ℕ → ℤ) (ps : List ℤ) (k thousandths : ℕ) (n most root allowed : ℤ) → IsProcessGraph g → AreGroups g group → PricesFit g price → IsBalanced g ps
    → n ≡ group_flow group price k g.streams → most ≡ pos (thousandths * 2 ^ 20 / 1000) → root ≡ imbalance_root (group_variance group k g.streams) → allowed ≡ (most *ℤ root) *ℤ pos (2 ^ 16)
    → allowed <ℤ pos (unsigned_abs n) → MeetsGap thousandths (gap_of price g.streams ps) → ⊥
beyond g group price ps k thousandths n most root allowed is groups fit even n_is most_is root_is allowed_is far met =
    let bound = net g group price ps k thousandths is groups fit even met in
    let same : allowed ≡ most_net thousandths (group_variance group k g.streams) = allowed_is ∙ ap₂ (λ (x y : ℤ). (x *ℤ y) *ℤ pos (2 ^ 16)) most_is root_is in
    let size : pos (unsigned_abs n) ≡ pos (unsigned_abs (group_flow group price k g.streams)) = ap (λ (x : ℤ). pos (unsigned_abs x)) n_is in
    clash allowed (pos (unsigned_abs n)) (most_net thousandths (group_variance group k g.streams)) (pos (unsigned_abs (group_flow group price k g.streams))) same size far bound
  where
    clash : (a n b m : ℤ) → a ≡ b → n ≡ m → a <ℤ n → m ≤ℤ b → ⊥
    clash a n b m e f h k = omega (arith, ints, e, f, h, k)

-- what is allowed is within 128 bits
pub allowed_from : (m r : ℤ) → pos 0 ≤ℤ m → IsSmallRoot r → pos 0 ≤ℤ (m *ℤ r)
allowed_from m r h k = mul_nonneg m r h k.from

pub allowed_to : (m r : ℤ) → m <ℤ pos (2 ^ 43) → IsSmallRoot r → (m *ℤ r) ≤ℤ pos (2 ^ 106)
allowed_to m r h k = let up = mul_mono m (pos (2 ^ 43)) r (omega (arith, ints, h)) k.from in omega (arith, ints, up, k.to)

-- the root of a group's variance, and one more
pub small_root : (r : ℤ) → pos 0 ≤ℤ r → r <ℤ pos (2 ^ 63) → IsSmallRoot (r +ℤ pos 1)
small_root r from to = record { from = omega (arith, ints, from); to = omega (arith, ints, to) }

pub few_variances : (v : ℤ) → v ≤ℤ pos most_group_variance → v <ℤ pos (2 ^ 86)
few_variances v h = omega (arith, ints, h)

-- one more number
pub pushed : (P : ℕ → ℤ → Type 0) (xs : List ℤ) (x : ℤ) (k : ℕ) → length xs ≡ k → P k x → ((j : ℕ) → j < k → P j (item xs j)) → (j : ℕ) → j < k + 1 → P j (item (xs ++ x ∷ []) j)
pushed P xs x k each own before j lt = elim (cases_lt j k) [
  | inl less ↦ subst (P j) (sym (get_or-append xs (x ∷ []) (pos 0) j (omega (arith, less, each)))) (before j less)
  | inr ge ↦
      let last : j ≡ length xs = omega (arith, lt, ge, each) in
      let is : item (xs ++ x ∷ []) j ≡ x = ap (λ (i : ℕ). item (xs ++ x ∷ []) i) last ∙ get_or-append_seam xs x [] (pos 0) in
      subst (P j) (sym is) (subst (λ (i : ℕ). P i x) (sym (last ∙ each)) own)
]
