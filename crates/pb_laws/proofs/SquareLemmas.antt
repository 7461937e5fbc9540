-- The weighted squares of a graph without one measurement are at most those of the graph.
use Rattle.std.proofs.Common.{◌≡◌, ◌∙◌, ℕ, zero, suc, ℤ, pos, ◌+ℤ◌, ◌*ℤ◌, ◌≤ℤ◌, ◌<ℤ◌, List, [], ◌∷◌, length, All, Option, Some, None, refl, sym, ap, ap₂, subst, arith}
use Rattle.std.specs.Prelude.{IfSome}
use Rattle.std.specs.Int.{int_div_euclid}
use Rattle.std.specs.List.{AllByRecursion}
use Rattle.std.specs.Option.{option_map_or}
use Rattle.std.proofs.lemmas.Int.{ints}
use Rattle.pb_fixed.proofs.Lists.{AllByRecursion-from_all, AllByRecursion-map, All-from_recursion}
use Rattle.pb_fixed.proofs.Order.{add_mono, le_by_eq, le_of_eq, le_refl, mul_mono, mul_nonneg, square_pos}
use Rattle.pb_fixed.proofs.QuotientLaws.{floor_multiple}
use Rattle.pb_fixed.proofs.Ring.{var, times, ring}
use Rattle.pb_fixed.proofs.RingLaws.{mul_add, mul_assoc, mul_comm, mul_swap, mul_zero, one_mul, zero_add}
use Rattle.pb_graph.specs.declared.records.Meas.{Meas}
use Rattle.pb_graph.specs.declared.records.Stream.{Stream}
use Rattle.pb_graph.specs.ProcessGraph.{IsMeasurement, IsProcessGraph, IsStream, IsWithinLimits, ProcessGraph, unmeasured_at}
use Rattle.pb_graph.specs.Squares.{Fractional, by_stream, error_of, errors_of, inner_product, squares_unit, variance_product, weighted_product, weighted_squares, weighted_sum_of_squares}

-- ---- the graph without one measurement
abbrev bare_at : ℕ → ProcessGraph → ProcessGraph
bare_at j g = record g { streams = unmeasured_at j g.streams }

bare_length : (j : ℕ) (ss : List Stream) → length (unmeasured_at j ss) ≡ length ss
bare_length j [] = refl
bare_length zero (s ∷ ss) = refl
bare_length (suc j) (s ∷ ss) = ap suc (bare_length j ss)

bare_joins : (n j : ℕ) (ss : List Stream) → AllByRecursion (IsStream n) ss → AllByRecursion (IsStream n) (unmeasured_at j ss)
bare_joins n j [] all = all
bare_joins n zero (s ∷ ss) all = (record { from = all.0.from; to = all.0.to; apart = all.0.apart }, all.1)
bare_joins n (suc j) (s ∷ ss) all = (all.0, bare_joins n j ss all.1)

bare_within : (j : ℕ) (ss : List Stream) → AllByRecursion IsWithinLimits ss → AllByRecursion IsWithinLimits (unmeasured_at j ss)
bare_within j [] all = all
bare_within zero (s ∷ ss) all = (tt, all.1)
bare_within (suc j) (s ∷ ss) all = (all.0, bare_within j ss all.1)

-- it is within the limits
pub bare_limits : (j : ℕ) (g : ProcessGraph) → IsProcessGraph g → IsProcessGraph (bare_at j g)
bare_limits j g is = record {
  env = is.env;
  few_nodes = is.few_nodes;
  few_streams = omega (arith, is.few_streams, bare_length j g.streams);
  joins = All-from_recursion (IsStream g.nodes) (unmeasured_at j g.streams) (bare_joins g.nodes j g.streams (AllByRecursion-from_all (IsStream g.nodes) g.streams is.joins));
  limits = All-from_recursion IsWithinLimits (unmeasured_at j g.streams) (bare_within j g.streams (AllByRecursion-from_all IsWithinLimits g.streams is.limits));
}

-- ---- the product of the variances is that without the measurement times its variance
abbrev variance_or_one : Option Meas → ℤ
variance_or_one o = option_map_or (λ (m : Meas). m.variance) o (pos 1)

abbrev left_out : ℕ → List Stream → ℤ
left_out j [] = pos 1
left_out zero (s ∷ ss) = variance_or_one s.meas
left_out (suc j) (s ∷ ss) = left_out j ss

product_without : (j : ℕ) (ss : List Stream) → variance_product ss ≡ left_out j ss *ℤ variance_product (unmeasured_at j ss)
product_without j [] = sym (one_mul (pos 1))
product_without zero (s ∷ ss) = ap (λ (p : ℤ). variance_or_one s.meas *ℤ p) (sym (one_mul (variance_product ss)))
product_without (suc j) (s ∷ ss) =
    let v = variance_or_one s.meas in
    ap (λ (p : ℤ). v *ℤ p) (product_without j ss) ∙ mul_swap v (left_out j ss) (variance_product (unmeasured_at j ss))

-- ---- weights
abbrev HasVariance : Stream → Type 0
HasVariance s = IfSome s.meas (λ (m : Meas). pos 1 ≤ℤ m.variance)

abbrev pub Weighs : ℤ → Stream → Type 0
Weighs l s = IfSome s.meas (λ (m : Meas). int_div_euclid l m.variance *ℤ m.variance ≡ l)

has_variance : (o : Option Meas) → IfSome o IsMeasurement → IfSome o (λ (m : Meas). pos 1 ≤ℤ m.variance)
has_variance None is = tt
has_variance (Some m) is = is.least

more_weight : (f l v : ℤ) → pos 1 ≤ℤ v → int_div_euclid l v *ℤ v ≡ l → int_div_euclid (f *ℤ l) v ≡ f *ℤ int_div_euclid l v
more_weight f l v v_pos is =
    let w = int_div_euclid l v in
    ap (λ (z : ℤ). int_div_euclid (f *ℤ z) v) (sym is) ∙ ap (λ (z : ℤ). int_div_euclid z v) (sym (mul_assoc f w v)) ∙ floor_multiple (f *ℤ w) v (omega (arith, ints, v_pos))

more_product : (f l : ℤ) (o : Option Meas) (e : ℤ) → IfSome o (λ (m : Meas). pos 1 ≤ℤ m.variance) → IfSome o (λ (m : Meas). int_div_euclid l m.variance *ℤ m.variance ≡ l)
    → weighted_product (f *ℤ l) o e e ≡ f *ℤ weighted_product l o e e
more_product f l None e has is = sym (mul_zero f)
more_product f l (Some m) e has is =
    ap (λ (w : ℤ). w *ℤ (e *ℤ e)) (more_weight f l m.variance has is) ∙ mul_assoc f (int_div_euclid l m.variance) (e *ℤ e)

more_sum : (f l : ℤ) (ss : List Stream) (es : List ℤ) → AllByRecursion HasVariance ss → AllByRecursion (Weighs l) ss
    → inner_product (f *ℤ l) ss es es ≡ f *ℤ inner_product l ss es es
more_sum f l [] es has is = sym (mul_zero f)
more_sum f l (s ∷ ss) [] has is = sym (mul_zero f)
more_sum f l (s ∷ ss) (e ∷ es) has is =
    ap₂ (λ (a b : ℤ). a +ℤ b) (more_product f l s.meas e has.0 is.0) (more_sum f l ss es has.1 is.1)
    ∙ sym (mul_add f (weighted_product l s.meas e e) (inner_product l ss es es))

-- the square of one error isn't negative
square_positive : (l : ℤ) (o : Option Meas) (e : ℤ) → pos 0 ≤ℤ l → IfSome o (λ (m : Meas). pos 1 ≤ℤ m.variance) → pos 0 ≤ℤ weighted_product (variance_or_one o *ℤ l) o e e
square_positive l None e l_pos has = omega (arith, ints)
square_positive l (Some m) e l_pos has =
    let v = m.variance in
    let is : int_div_euclid (v *ℤ l) v ≡ l = ap (λ (z : ℤ). int_div_euclid z v) (mul_comm v l) ∙ floor_multiple l v (omega (arith, ints, has)) in
    subst (λ (w : ℤ). pos 0 ≤ℤ (w *ℤ (e *ℤ e))) (sym is) (mul_nonneg l (e *ℤ e) l_pos (square_pos e))

more_by : (a b : ℤ) → pos 0 ≤ℤ b → a ≤ℤ (b +ℤ a)
more_by a b positive = omega (arith, ints, positive)

-- ---- the squares
less_without : (q l : ℤ) (j : ℕ) (ss : List Stream) (ys : List ℤ) → pos 0 ≤ℤ l → AllByRecursion HasVariance ss → AllByRecursion (Weighs l) (unmeasured_at j ss)
    → (left_out j ss *ℤ inner_product l (unmeasured_at j ss) (by_stream (error_of q) (unmeasured_at j ss) ys) (by_stream (error_of q) (unmeasured_at j ss) ys))
    ≤ℤ inner_product (left_out j ss *ℤ l) ss (by_stream (error_of q) ss ys) (by_stream (error_of q) ss ys)
less_without q l j [] ys l_pos has is = le_of_eq _ _ (mul_zero (pos 1))
less_without q l zero (s ∷ ss) [] l_pos has is = le_of_eq _ _ (mul_zero (variance_or_one s.meas))
less_without q l (suc j) (s ∷ ss) [] l_pos has is = le_of_eq _ _ (mul_zero (left_out j ss))
less_without q l zero (s ∷ ss) (y ∷ ys) l_pos has is =
    let f = variance_or_one s.meas in
    let es = by_stream (error_of q) ss ys in
    let rest = inner_product l ss es es in
    let own = weighted_product (f *ℤ l) s.meas (error_of q s y) (error_of q s y) in
    le_by_eq _ _ (f *ℤ rest) (own +ℤ (f *ℤ rest)) (ap (λ (z : ℤ). f *ℤ z) (zero_add rest)) (ap (λ (z : ℤ). own +ℤ z) (more_sum f l ss es has.1 is.1))
    (more_by (f *ℤ rest) own (square_positive l s.meas (error_of q s y) l_pos has.0))
less_without q l (suc j) (s ∷ ss) (y ∷ ys) l_pos has is =
    let f = left_out j ss in
    let e = error_of q s y in
    let own = weighted_product l s.meas e e in
    let bare = unmeasured_at j ss in
    let rest = inner_product l bare (by_stream (error_of q) bare ys) (by_stream (error_of q) bare ys) in
    let whole = inner_product (f *ℤ l) ss (by_stream (error_of q) ss ys) (by_stream (error_of q) ss ys) in
    le_by_eq _ _ ((f *ℤ own) +ℤ (f *ℤ rest)) ((f *ℤ own) +ℤ whole) (mul_add f own rest) (ap (λ (z : ℤ). z +ℤ whole) (more_product f l s.meas e has.0 is.0))
    (add_mono (f *ℤ own) (f *ℤ own) (f *ℤ rest) whole (le_refl (f *ℤ own)) (less_without q l j ss ys l_pos has.1 is.1))

-- as fractions
pub squares_without : (g : ProcessGraph) (j : ℕ) (x : Fractional) → IsProcessGraph g → pos 1 ≤ℤ variance_product (unmeasured_at j g.streams)
    → All (Weighs (variance_product (unmeasured_at j g.streams))) (unmeasured_at j g.streams)
    → (weighted_squares (bare_at j g) x *ℤ squares_unit g x) ≤ℤ (weighted_squares g x *ℤ squares_unit (bare_at j g) x)
squares_without g j x limits l_pos weights =
    let f = left_out j g.streams in
    let l = variance_product (unmeasured_at j g.streams) in
    let qq = x.denominator *ℤ x.denominator in
    let s = weighted_squares (bare_at j g) x in
    let product : variance_product g.streams ≡ f *ℤ l = product_without j g.streams in
    let has = AllByRecursion-map IsWithinLimits HasVariance g.streams (λ (s : Stream) within. has_variance s.meas within) (AllByRecursion-from_all IsWithinLimits g.streams limits.limits) in
    let less : (f *ℤ s) ≤ℤ weighted_squares g x =
    subst (λ (p : ℤ). (f *ℤ s) ≤ℤ weighted_sum_of_squares p g.streams (errors_of g.streams x)) (sym product)
    (less_without x.denominator l j g.streams x.numerators (omega (arith, ints, l_pos)) has (AllByRecursion-from_all (Weighs l) (unmeasured_at j g.streams) weights)) in
    le_by_eq _ _ ((f *ℤ s) *ℤ (qq *ℤ l)) (weighted_squares g x *ℤ (qq *ℤ l))
    (ap (λ (p : ℤ). s *ℤ (qq *ℤ p)) product ∙ ring (f ∷ s ∷ qq ∷ l ∷ []) (times (var 1) (times (var 2) (times (var 0) (var 3)))) (times (times (var 0) (var 1)) (times (var 2) (var 3))) refl) refl
    (mul_mono (f *ℤ s) (weighted_squares g x) (qq *ℤ l) less (mul_nonneg qq l (square_pos x.denominator) (omega (arith, ints, l_pos))))
