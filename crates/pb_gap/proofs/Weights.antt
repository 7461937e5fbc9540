-- The product of the variances over each of them is a weight.
use Rattle.std.proofs.Common.{◌≡◌, ◌∙◌, ℕ, ℤ, pos, negsuc, ◌-ℤ◌, ◌*ℤ◌, ◌≤ℤ◌, ◌<ℤ◌, List, [], ◌∷◌, false, Option, Some, None, get_or, refl, sym, ap, arith}
use Rattle.std.specs.Prelude.{IfSome, is_some}
use Rattle.std.specs.Int.{int_div_euclid}
use Rattle.std.specs.List.{All, AllByRecursion}
use Rattle.std.specs.Option.{option_map_or}
use Rattle.std.proofs.lemmas.Int.{by_lt_z, ints}
use Rattle.std.proofs.lemmas.Option.{slice_get-get_or}
use Rattle.pb_fixed.proofs.Lists.{AllByRecursion-from_all, All-from_recursion, AllByRecursion-map}
use Rattle.pb_fixed.proofs.Order.{mul_mono, mul_positive}
use Rattle.pb_fixed.proofs.Ring.{var, times, ring}
use Rattle.pb_fixed.proofs.RingLaws.{one_mul}
use Rattle.pb_fixed.proofs.QuotientLaws.{floor_multiple}
use Rattle.pb_graph.specs.declared.records.Meas.{Meas}
use Rattle.pb_graph.specs.declared.records.Stream.{Stream}
use Rattle.pb_graph.specs.ProcessGraph.{ProcessGraph, IsProcessGraph, IsMeasurement, IsWithinLimits, is_measured}
use Rattle.pb_graph.specs.Squares.{variance_product}
use Rattle.pb_graph.specs.Prices.{PricesFit, rise_of}
use Rattle.pb_graph.proofs.GroupLaws.{stream_joins}
use Rattle.pb_gap.specs.Laws.{WeightLaw}

-- a variance, and the weight that l over it is
pub record HasWeight (l v : ℤ) : Type 0 where
  pub variance : pos 1 ≤ℤ v
  pub weight : int_div_euclid l v *ℤ v ≡ l
  pub nonneg : pos 0 ≤ℤ int_div_euclid l v

weight_nonneg : (w v l : ℤ) → w *ℤ v ≡ l → pos 1 ≤ℤ l → pos 1 ≤ℤ v → pos 0 ≤ℤ w
weight_nonneg w v l e h k = by_lt_z w (pos 0)
    (λ less. let m = mul_mono w (negsuc 0) v (omega (arith, ints, less)) (omega (arith, ints, k)) in absurd (omega (arith, ints, m, e, h, k)))
    (λ ge. ge)

divides : (l k v : ℤ) → pos 1 ≤ℤ l → pos 1 ≤ℤ v → l ≡ k *ℤ v → HasWeight l v
divides l k v l_pos v_pos e =
    let is : int_div_euclid l v ≡ k = ap (λ (z : ℤ). int_div_euclid z v) e ∙ floor_multiple k v (omega (arith, ints, v_pos)) in
    let weight : int_div_euclid l v *ℤ v ≡ l = ap (λ (z : ℤ). z *ℤ v) is ∙ sym e in
    record { variance = v_pos; weight = weight; nonneg = weight_nonneg (int_div_euclid l v) v l weight l_pos v_pos }

-- the variance of a measurement, or 1 if there is none
abbrev variance_or_one : Option Meas → ℤ
variance_or_one o = option_map_or (λ (m : Meas). m.variance) o (pos 1)

one_positive : (o : Option Meas) → IfSome o IsMeasurement → pos 0 <ℤ variance_or_one o
one_positive None h = omega (arith, ints)
one_positive (Some m) h = let p = h.least in omega (arith, ints, p)

pub product_positive : (ss : List Stream) → AllByRecursion IsWithinLimits ss → pos 1 ≤ℤ variance_product ss
product_positive [] h = omega (arith, ints)
product_positive (s ∷ ss) h =
    let rest = product_positive ss h.1 in
    let p = mul_positive (variance_or_one s.meas) (variance_product ss) (one_positive s.meas h.0) (omega (arith, ints, rest)) in
    omega (arith, ints, p)

abbrev pub MayWeigh : ℤ → Option Meas → Type 0
MayWeigh l o = IfSome o (λ m. HasWeight l m.variance)

weight_one : (l k : ℤ) (o : Option Meas) → IfSome o IsMeasurement → pos 1 ≤ℤ l → l ≡ k *ℤ variance_or_one o → MayWeigh l o
weight_one l k None h l_pos e = tt
weight_one l k (Some m) h l_pos e = divides l k m.variance l_pos h.least e

-- each of some streams, if l is the product of their variances times a further factor
weights : (l front : ℤ) (ss : List Stream) → AllByRecursion IsWithinLimits ss → pos 1 ≤ℤ l → l ≡ front *ℤ variance_product ss → AllByRecursion (λ s. MayWeigh l s.meas) ss
weights l front [] h l_pos e = tt
weights l front (s ∷ ss) h l_pos e =
    let v = variance_or_one s.meas in
    let rest = variance_product ss in (
      weight_one l (front *ℤ rest) s.meas h.0 l_pos (e ∙ ring (front ∷ v ∷ rest ∷ []) (times (var 0) (times (var 1) (var 2))) (times (times (var 0) (var 2)) (var 1)) refl),
      weights l (front *ℤ v) ss h.1 l_pos (e ∙ ring (front ∷ v ∷ rest ∷ []) (times (var 0) (times (var 1) (var 2))) (times (times (var 0) (var 1)) (var 2)) refl),
    )

pub limits_of : (g : ProcessGraph) → IsProcessGraph g → AllByRecursion IsWithinLimits g.streams
limits_of g is = AllByRecursion-from_all IsWithinLimits g.streams is.limits

pub product_of : (g : ProcessGraph) → IsProcessGraph g → pos 1 ≤ℤ variance_product g.streams
product_of g is = product_positive g.streams (limits_of g is)

pub weights_of : (g : ProcessGraph) → IsProcessGraph g → AllByRecursion (λ s. MayWeigh (variance_product g.streams) s.meas) g.streams
weights_of g is = weights (variance_product g.streams) (pos 1) g.streams (limits_of g is) (product_of g is) (sym (one_mul (variance_product g.streams)))

weight_alone : (l : ℤ) (o : Option Meas) → MayWeigh l o → IfSome o (λ m. int_div_euclid l m.variance *ℤ m.variance ≡ l)
weight_alone l None h = tt
weight_alone l (Some m) h = h.weight

pub have_weights : WeightLaw
have_weights g is =
    let l = variance_product g.streams in
    let each = AllByRecursion-map (λ s. MayWeigh l s.meas) (λ s. IfSome s.meas (λ m. int_div_euclid l m.variance *ℤ m.variance ≡ l)) g.streams (λ s h. weight_alone l s.meas h) (weights_of g is) in
    record { positive = product_of g is; each = All-from_recursion (λ (s : Stream). IfSome s.meas (λ m. int_div_euclid l m.variance *ℤ m.variance ≡ l)) g.streams each }

-- what is known of a stream: the price doesn't rise along it if it is unmeasured, and it has a weight if it is measured
abbrev pub Weighs : ℤ → Option Meas → ℤ → Type 0
Weighs l None d = d ≡ pos 0
Weighs l (Some m) d = HasWeight l m.variance

abbrev pub WeighAll : ℤ → (ℕ → ℤ) → List Stream → Type 0
WeighAll l price ss = AllByRecursion (λ s. Weighs l s.meas (rise_of price s)) ss

abbrev IsLevel : (ℕ → ℤ) → Stream → Type 0
IsLevel price s = is_measured s ≡ false → rise_of price s ≡ pos 0

level : (x y : ℤ) → x ≡ y → y -ℤ x ≡ pos 0
level x y e = omega (arith, ints, e)

levels : (g : ProcessGraph) (price : ℕ → ℤ) → IsProcessGraph g → PricesFit g price → All (IsLevel price) g.streams
levels g price is fit j d lt plain =
    let s = get_or g.streams j d in
    let ends = is.joins j d lt in
    level (price s.from) (price s.to) (fit.shared s.from s.to ends.from ends.to (stream_joins g.streams j s (slice_get-get_or g.streams j d lt) plain))

weighs : (l : ℤ) (o : Option Meas) (d : ℤ) → MayWeigh l o → (is_some o ≡ false → d ≡ pos 0) → Weighs l o d
weighs l None d h k = k refl
weighs l (Some m) d h k = h

both : (l : ℤ) (price : ℕ → ℤ) (ss : List Stream) → AllByRecursion (λ s. MayWeigh l s.meas) ss → AllByRecursion (IsLevel price) ss → WeighAll l price ss
both l price [] h k = tt
both l price (s ∷ ss) h k = (weighs l s.meas (rise_of price s) h.0 k.0, both l price ss h.1 k.1)

pub weigh_all : (g : ProcessGraph) (price : ℕ → ℤ) → IsProcessGraph g → PricesFit g price → WeighAll (variance_product g.streams) price g.streams
weigh_all g price is fit =
    both (variance_product g.streams) price g.streams (weights_of g is) (AllByRecursion-from_all (IsLevel price) g.streams (levels g price is fit))
