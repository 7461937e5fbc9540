-- The inner product of lists of errors: linear on both sides, and 0 with a list whose inner product with itself is 0.
use Rattle.std.proofs.Common.{◌≡◌, ◌∙◌, ℕ, zero, suc, ℤ, pos, neg_ℤ, ◌+ℤ◌, ◌*ℤ◌, ◌≤ℤ◌, List, [], ◌∷◌, length, Option, Some, None, slice_get, IsSome, refl, ap, ap₂, arith}
use Rattle.std.specs.Prelude.{IfSome}
use Rattle.std.specs.Int.{int_div_euclid}
use Rattle.std.specs.List.{AllByRecursion}
use Rattle.std.proofs.lemmas.Int.{by_lt_z, ints}
use Rattle.pb_fixed.specs.Sums.{item}
use Rattle.pb_fixed.proofs.Lists.{AllByRecursion-from_all, some_same}
use Rattle.pb_fixed.proofs.Order.{mul_mono, mul_nonneg, neg_square, root_mono, square_pos}
use Rattle.pb_fixed.proofs.Ring.{var, lit, plus, times, ring}
use Rattle.pb_fixed.proofs.RingLaws.{mul_comm}
use Rattle.pb_graph.specs.declared.records.Meas.{Meas}
use Rattle.pb_graph.specs.declared.records.Stream.{Stream}
use Rattle.pb_graph.specs.ProcessGraph.{ProcessGraph, IsProcessGraph, IsMeasurement, IsWithinLimits}
use Rattle.pb_graph.specs.Squares.{variance_product, weighted_product, inner_product}
use Rattle.pb_gap.specs.Laws.{HasWeights}
use Rattle.pb_gap.specs.Least.{combination}
use Rattle.pb_least.proofs.CombinationLemmas.{combined_sum, no_sum}

-- ---- linear on both sides
product_combination : (l : ℤ) (o : Option Meas) (e a b x y : ℤ)
    → weighted_product l o e ((a *ℤ x) +ℤ (b *ℤ y)) ≡ (a *ℤ weighted_product l o e x) +ℤ (b *ℤ weighted_product l o e y)
product_combination l None e a b x y = no_sum a b
product_combination l (Some m) e a b x y =
    ring (int_div_euclid l m.variance ∷ e ∷ a ∷ b ∷ x ∷ y ∷ []) (times (var 0) (times (var 1) (plus (times (var 2) (var 4)) (times (var 3) (var 5)))))
    (plus (times (var 2) (times (var 0) (times (var 1) (var 4)))) (times (var 3) (times (var 0) (times (var 1) (var 5))))) refl

pub inner_right : (l a b : ℤ) (ss : List Stream) (es xs ys : List ℤ) → length xs ≡ length ss → length ys ≡ length ss
    → inner_product l ss es (combination a b xs ys) ≡ (a *ℤ inner_product l ss es xs) +ℤ (b *ℤ inner_product l ss es ys)
inner_right l a b [] es xs ys h k = no_sum a b
inner_right l a b (s ∷ ss) [] xs ys h k = no_sum a b
inner_right l a b (s ∷ ss) (e ∷ es) [] ys h k = absurd (omega (arith, h))
inner_right l a b (s ∷ ss) (e ∷ es) (x ∷ xs) [] h k = absurd (omega (arith, k))
inner_right l a b (s ∷ ss) (e ∷ es) (x ∷ xs) (y ∷ ys) h k =
    ap₂ (λ (u v : ℤ). u +ℤ v) (product_combination l s.meas e a b x y) (inner_right l a b ss es xs ys (omega (arith, h)) (omega (arith, k)))
    ∙ combined_sum a b (weighted_product l s.meas e x) (weighted_product l s.meas e y) (inner_product l ss es xs) (inner_product l ss es ys)

product_swap : (l : ℤ) (o : Option Meas) (x y : ℤ) → weighted_product l o x y ≡ weighted_product l o y x
product_swap l None x y = refl
product_swap l (Some m) x y = ap (λ (z : ℤ). int_div_euclid l m.variance *ℤ z) (mul_comm x y)

pub inner_swap : (l : ℤ) (ss : List Stream) (xs ys : List ℤ) → inner_product l ss xs ys ≡ inner_product l ss ys xs
inner_swap l [] xs ys = refl
inner_swap l (s ∷ ss) [] [] = refl
inner_swap l (s ∷ ss) [] (y ∷ ys) = refl
inner_swap l (s ∷ ss) (x ∷ xs) [] = refl
inner_swap l (s ∷ ss) (x ∷ xs) (y ∷ ys) = ap₂ (λ (u v : ℤ). u +ℤ v) (product_swap l s.meas x y) (inner_swap l ss xs ys)

pub inner_left : (l a b : ℤ) (ss : List Stream) (xs ys es : List ℤ) → length xs ≡ length ss → length ys ≡ length ss
    → inner_product l ss (combination a b xs ys) es ≡ (a *ℤ inner_product l ss xs es) +ℤ (b *ℤ inner_product l ss ys es)
inner_left l a b ss xs ys es h k =
    inner_swap l ss (combination a b xs ys) es ∙ inner_right l a b ss es xs ys h k
    ∙ ap₂ (λ (u v : ℤ). (a *ℤ u) +ℤ (b *ℤ v)) (inner_swap l ss es xs) (inner_swap l ss es ys)

-- ---- each measurement has a positive weight
abbrev pub HasWeight : ℤ → Option Meas → Type 0
HasWeight l o = IfSome o (λ m. pos 1 ≤ℤ int_div_euclid l m.variance)

abbrev pub HaveWeights : ℤ → List Stream → Type 0
HaveWeights l ss = AllByRecursion (λ s. HasWeight l s.meas) ss

abbrev IsWhole : ℤ → Stream → Type 0
IsWhole l s = IfSome s.meas (λ m. int_div_euclid l m.variance *ℤ m.variance ≡ l)

weight_positive : (w v l : ℤ) → w *ℤ v ≡ l → pos 1 ≤ℤ l → pos 1 ≤ℤ v → pos 1 ≤ℤ w
weight_positive w v l e h k = by_lt_z (pos 0) w
    (λ more. omega (arith, ints, more))
    (λ none. let m = mul_mono w (pos 0) v none (omega (arith, ints, k)) in absurd (omega (arith, ints, m, e, h)))

weight : (l : ℤ) (o : Option Meas) → pos 1 ≤ℤ l → IfSome o IsMeasurement → IfSome o (λ m. int_div_euclid l m.variance *ℤ m.variance ≡ l) → HasWeight l o
weight l None l_pos h k = tt
weight l (Some m) l_pos h k = weight_positive (int_div_euclid l m.variance) m.variance l k l_pos h.least

weights : (l : ℤ) (ss : List Stream) → pos 1 ≤ℤ l → AllByRecursion IsWithinLimits ss → AllByRecursion (IsWhole l) ss → HaveWeights l ss
weights l [] l_pos h k = tt
weights l (s ∷ ss) l_pos h k = (weight l s.meas l_pos h.0 k.0, weights l ss l_pos h.1 k.1)

pub have_weights : (graph : ProcessGraph) → IsProcessGraph graph → HasWeights graph → HaveWeights (variance_product graph.streams) graph.streams
have_weights graph limits has =
    let l = variance_product graph.streams in
    weights l graph.streams has.positive (AllByRecursion-from_all IsWithinLimits graph.streams limits.limits)
    (AllByRecursion-from_all (IsWhole l) graph.streams has.each)

-- ---- squares
square_nonneg : (l : ℤ) (o : Option Meas) (x : ℤ) → HasWeight l o → pos 0 ≤ℤ weighted_product l o x x
square_nonneg l None x h = omega (arith, ints)
square_nonneg l (Some m) x h = mul_nonneg (int_div_euclid l m.variance) (x *ℤ x) (omega (arith, ints, h)) (square_pos x)

pub inner_nonneg : (l : ℤ) (ss : List Stream) (xs : List ℤ) → HaveWeights l ss → pos 0 ≤ℤ inner_product l ss xs xs
inner_nonneg l [] xs h = omega (arith, ints)
inner_nonneg l (s ∷ ss) [] h = omega (arith, ints)
inner_nonneg l (s ∷ ss) (x ∷ xs) h =
    let first = square_nonneg l s.meas x h.0 in
    let rest = inner_nonneg l ss xs h.1 in
    omega (arith, ints, first, rest)

-- ---- a list whose squares are 0
square_none : (w x : ℤ) → pos 1 ≤ℤ w → w *ℤ (x *ℤ x) ≡ pos 0 → x ≡ pos 0
square_none w x h e =
    let once = mul_mono (pos 1) w (x *ℤ x) h (square_pos x) in
    let low : (x *ℤ x) ≤ℤ (pos 0 *ℤ pos 0) = omega (arith, ints, once, e) in
    let up = root_mono x (pos 0) (omega (arith, ints)) low in
    let turned = neg_square x in
    let down = root_mono (neg_ℤ x) (pos 0) (omega (arith, ints)) (omega (arith, ints, low, turned)) in
    omega (arith, ints, up, down)

both_none : (a b : ℤ) → pos 0 ≤ℤ a → pos 0 ≤ℤ b → a +ℤ b ≡ pos 0 → (a ≡ pos 0) × (b ≡ pos 0)
both_none a b h k e = (omega (arith, ints, h, k, e), omega (arith, ints, h, k, e))

-- so each stream's square is, and those of the rest together
parts_none : (l : ℤ) (s : Stream) (ss : List Stream) (x : ℤ) (xs : List ℤ) → HaveWeights l (s ∷ ss) → inner_product l (s ∷ ss) (x ∷ xs) (x ∷ xs) ≡ pos 0
    → (weighted_product l s.meas x x ≡ pos 0) × (inner_product l ss xs xs ≡ pos 0)
parts_none l s ss x xs h none = both_none (weighted_product l s.meas x x) (inner_product l ss xs xs) (square_nonneg l s.meas x h.0) (inner_nonneg l ss xs h.1) none

product_none : (l : ℤ) (o : Option Meas) (e x : ℤ) → HasWeight l o → weighted_product l o x x ≡ pos 0 → weighted_product l o e x ≡ pos 0
product_none l None e x h none = refl
product_none l (Some m) e x h none =
    let w = int_div_euclid l m.variance in
    ap (λ (z : ℤ). w *ℤ (e *ℤ z)) (square_none w x h none) ∙ ring (w ∷ e ∷ []) (times (var 0) (times (var 1) (lit (pos 0)))) (lit (pos 0)) refl

pub inner_none : (l : ℤ) (ss : List Stream) (es xs : List ℤ) → HaveWeights l ss → inner_product l ss xs xs ≡ pos 0 → inner_product l ss es xs ≡ pos 0
inner_none l [] es xs h none = refl
inner_none l (s ∷ ss) [] xs h none = refl
inner_none l (s ∷ ss) (e ∷ es) [] h none = refl
inner_none l (s ∷ ss) (e ∷ es) (x ∷ xs) h none =
    let parts = parts_none l s ss x xs h none in
    ap₂ (λ (u v : ℤ). u +ℤ v) (product_none l s.meas e x h.0 parts.0) (inner_none l ss es xs h.1 parts.1)

measured_one : (l : ℤ) (o : Option Meas) (x : ℤ) → HasWeight l o → weighted_product l o x x ≡ pos 0 → IsSome o → x ≡ pos 0
measured_one l None x h none some = cc some
measured_one l (Some m) x h none some = square_none (int_div_euclid l m.variance) x h none

pub measured_none : (l : ℤ) (ss : List Stream) (xs : List ℤ) (k : ℕ) (s : Stream) → HaveWeights l ss → length xs ≡ length ss → inner_product l ss xs xs ≡ pos 0
    → slice_get ss k ≡ Some s → IsSome s.meas → item xs k ≡ pos 0
measured_none l [] xs k s h each none at some = absurd cc
measured_none l (t ∷ ss) [] k s h each none at some = absurd (omega (arith, each))
measured_none l (t ∷ ss) (x ∷ xs) zero s h each none at some =
    measured_one l t.meas x h.0 (parts_none l t ss x xs h none).0 (rw (some_same at) some)
measured_none l (t ∷ ss) (x ∷ xs) (suc k) s h each none at some =
    measured_none l ss xs k s h.1 (omega (arith, each)) (parts_none l t ss x xs h none).1 at some

-- ---- a list that is 0 on each measured stream
product_unmeasured : (l : ℤ) (o : Option Meas) (x e : ℤ) → (IsSome o → x ≡ pos 0) → weighted_product l o x e ≡ pos 0
product_unmeasured l None x e h = refl
product_unmeasured l (Some m) x e h =
    let w = int_div_euclid l m.variance in
    ap (λ (z : ℤ). w *ℤ (z *ℤ e)) (h refl) ∙ ring (w ∷ e ∷ []) (times (var 0) (times (lit (pos 0)) (var 1))) (lit (pos 0)) refl

pub inner_unmeasured : (l : ℤ) (ss : List Stream) (xs es : List ℤ) → ((k : ℕ) (s : Stream) → slice_get ss k ≡ Some s → IsSome s.meas → item xs k ≡ pos 0)
    → inner_product l ss xs es ≡ pos 0
inner_unmeasured l [] xs es h = refl
inner_unmeasured l (s ∷ ss) [] es h = refl
inner_unmeasured l (s ∷ ss) (x ∷ xs) [] h = refl
inner_unmeasured l (s ∷ ss) (x ∷ xs) (e ∷ es) h =
    ap₂ (λ (u v : ℤ). u +ℤ v) (product_unmeasured l s.meas x e (h 0 s refl)) (inner_unmeasured l ss xs es (λ k t at some. h (suc k) t at some))
