-- Errors that are orthogonal to all balanced flows are those of a least vector, and the difference of two least vectors is 0 on each
-- measured stream.
use Rattle.std.proofs.Common.{◌≡◌, ◌≢◌, ◌∙◌, ℕ, ℤ, pos, neg_ℤ, ◌+ℤ◌, ◌-ℤ◌, ◌*ℤ◌, ◌≤ℤ◌, List, [], ◌∷◌, length, map, Some, slice_get, IsSome, refl, sym, ap, ap₂, arith}
use Rattle.std.proofs.lemmas.Int.{ints}
use Rattle.std.proofs.lemmas.List.{length-map}
use Rattle.pb_fixed.specs.Sums.{item}
use Rattle.pb_fixed.proofs.Order.{le_by_eq, mul_cancel, mul_mono}
use Rattle.pb_fixed.proofs.Ring.{var, lit, plus, times, minus, less, square, ring}
use Rattle.pb_graph.specs.declared.records.Stream.{Stream}
use Rattle.pb_graph.specs.declared.records.Class.{Class}
use Rattle.pb_graph.specs.declared.records.Class.TheVariants.{Observable, Unobservable, Redundant, Nonredundant}
use Rattle.pb_graph.specs.ProcessGraph.{ProcessGraph, IsProcessGraph}
use Rattle.pb_graph.specs.Balance.{IsBalanced}
use Rattle.pb_graph.specs.Classes.{IsClass}
use Rattle.pb_graph.specs.Squares.{Fractional, IsBalancedFractional, IsLeast, variance_product, by_stream, value_or_zero, error_of, errors_of, weighted_squares}
use Rattle.pb_forest.proofs.ForestLaws.{some_forest_law}
use Rattle.pb_gap.specs.Laws.{WeightLaw}
use Rattle.pb_gap.specs.Least.{combination, squared_distance, ExcessLaw}
use Rattle.pb_least.specs.Laws.{SomeLeastLaw, OneLeastLaw}
use Rattle.pb_least.proofs.CombinationLemmas.{length_combination, item_combination, balanced_combination}
use Rattle.pb_least.proofs.InnerProductLemmas.{HaveWeights, have_weights, inner_left, inner_nonneg, inner_swap, measured_none}
use Rattle.pb_least.proofs.OrthogonalLemmas.{Setting, inner, some_orthogonal}

-- ---- the errors of flows y over q are q times those of no flow, plus y
abbrev pub without_flow : List Stream → List ℤ
without_flow ss = map (λ (s : Stream). neg_ℤ (value_or_zero s.meas)) ss

errors_are : (q : ℤ) (ss : List Stream) (ys : List ℤ) → length ys ≡ length ss → by_stream (error_of q) ss ys ≡ combination q (pos 1) (without_flow ss) ys
errors_are q [] ys each = refl
errors_are q (s ∷ ss) [] each = absurd (omega (arith, each))
errors_are q (s ∷ ss) (y ∷ ys) each = ap₂ (λ (u : ℤ) (v : List ℤ). u ∷ v) (one q (value_or_zero s.meas) y) (errors_are q ss ys (omega (arith, each)))
  where
    one : (q v y : ℤ) → y -ℤ (q *ℤ v) ≡ (q *ℤ neg_ℤ v) +ℤ (pos 1 *ℤ y)
    one q v y = ring (q ∷ v ∷ y ∷ []) (less (var 2) (times (var 0) (var 1))) (plus (times (var 0) (minus (var 1))) (times (lit (pos 1)) (var 2))) refl

no_flow_length : (ss : List Stream) → length (without_flow ss) ≡ length ss
no_flow_length ss = length-map ss (λ (s : Stream). neg_ℤ (value_or_zero s.meas))

pub error_product : (graph : ProcessGraph) (q : ℤ) (ys ws : List ℤ) → length ys ≡ length graph.streams
    → inner graph (by_stream (error_of q) graph.streams ys) ws ≡ (q *ℤ inner graph (without_flow graph.streams) ws) +ℤ (pos 1 *ℤ inner graph ys ws)
error_product graph q ys ws each =
    let ss = graph.streams in
    ap (λ (es : List ℤ). inner graph es ws) (errors_are q ss ys each)
    ∙ inner_left (variance_product ss) q (pos 1) ss (without_flow ss) ys ws (no_flow_length ss) each

-- ---- Pythagoras
-- the errors of y over r, those of x over q, and the difference
error_parts : (q r n y x : ℤ) → q *ℤ ((r *ℤ n) +ℤ (pos 1 *ℤ y)) ≡ (r *ℤ ((q *ℤ n) +ℤ (pos 1 *ℤ x))) +ℤ ((q *ℤ y) +ℤ (neg_ℤ r *ℤ x))
error_parts q r n y x =
    ring (q ∷ r ∷ n ∷ y ∷ x ∷ []) (times (var 0) (plus (times (var 1) (var 2)) (times (lit (pos 1)) (var 3))))
    (plus (times (var 1) (plus (times (var 0) (var 2)) (times (lit (pos 1)) (var 4)))) (plus (times (var 0) (var 3)) (times (minus (var 1)) (var 4)))) refl

product_parts : (graph : ProcessGraph) (q r : ℤ) (ys xs ws : List ℤ) → length ys ≡ length graph.streams → length xs ≡ length graph.streams
    → q *ℤ inner graph (by_stream (error_of r) graph.streams ys) ws
    ≡ (r *ℤ inner graph (by_stream (error_of q) graph.streams xs) ws) +ℤ inner graph (combination q (neg_ℤ r) ys xs) ws
product_parts graph q r ys xs ws y x =
    ap (λ (z : ℤ). q *ℤ z) (error_product graph r ys ws y)
    ∙ error_parts q r (inner graph (without_flow graph.streams) ws) (inner graph ys ws) (inner graph xs ws)
    ∙ sym (ap₂ (λ (u v : ℤ). (r *ℤ u) +ℤ v) (error_product graph q xs ws x) (inner_left (variance_product graph.streams) q (neg_ℤ r) graph.streams ys xs ws y x))

pythagoras : (q r yy xy dy xx xd dd : ℤ) → q *ℤ yy ≡ (r *ℤ xy) +ℤ dy → q *ℤ xy ≡ (r *ℤ xx) +ℤ xd → q *ℤ dy ≡ (r *ℤ xd) +ℤ dd → xd ≡ pos 0
    → (q *ℤ q) *ℤ yy ≡ ((r *ℤ r) *ℤ xx) +ℤ dd
pythagoras q r yy xy dy xx xd dd e f g none =
    ring (q ∷ yy ∷ []) (times (square (var 0)) (var 1)) (times (var 0) (times (var 0) (var 1))) refl
    ∙ ap (λ (z : ℤ). q *ℤ z) e
    ∙ ring (q ∷ r ∷ xy ∷ dy ∷ []) (times (var 0) (plus (times (var 1) (var 2)) (var 3))) (plus (times (var 1) (times (var 0) (var 2))) (times (var 0) (var 3))) refl
    ∙ ap₂ (λ (u v : ℤ). (r *ℤ u) +ℤ v) f g
    ∙ ap (λ (z : ℤ). (r *ℤ ((r *ℤ xx) +ℤ z)) +ℤ ((r *ℤ z) +ℤ dd)) none
    ∙ ring (r ∷ xx ∷ dd ∷ []) (plus (times (var 0) (plus (times (var 0) (var 1)) (lit (pos 0)))) (plus (times (var 0) (lit (pos 0))) (var 2)))
    (plus (times (square (var 0)) (var 1)) (var 2)) refl

no_worse : (l q r yy xx dd : ℤ) → pos 1 ≤ℤ l → pos 0 ≤ℤ dd → (q *ℤ q) *ℤ yy ≡ ((r *ℤ r) *ℤ xx) +ℤ dd → (xx *ℤ ((r *ℤ r) *ℤ l)) ≤ℤ (yy *ℤ ((q *ℤ q) *ℤ l))
no_worse l q r yy xx dd l_pos more e =
    let grown = mul_mono ((r *ℤ r) *ℤ xx) ((q *ℤ q) *ℤ yy) l (omega (arith, ints, e, more)) (omega (arith, ints, l_pos)) in
    let turned = λ (a b : ℤ). ring (a ∷ b ∷ l ∷ []) (times (var 1) (times (square (var 0)) (var 2))) (times (times (square (var 0)) (var 1)) (var 2)) refl in
    le_by_eq _ _ _ _ (turned r xx) (turned q yy) grown

-- balanced flows whose errors are orthogonal to all balanced flows are least
orthogonal_least : (graph : ProcessGraph) (x : Fractional) → IsProcessGraph graph → pos 1 ≤ℤ variance_product graph.streams
    → HaveWeights (variance_product graph.streams) graph.streams → IsBalancedFractional graph x
    → ((ys : List ℤ) → IsBalanced graph ys → inner graph (errors_of graph.streams x) ys ≡ pos 0) → IsLeast graph x
orthogonal_least graph x limits l_pos has even flat = (
  even,
  λ y other.
      let l = variance_product graph.streams in
      let ss = graph.streams in
      let q = x.denominator in
      let r = y.denominator in
      let ex = errors_of ss x in
      let ey = errors_of ss y in
      let ds = combination q (neg_ℤ r) y.numerators x.numerators in
      let parts : (ws : List ℤ) → q *ℤ inner graph ey ws ≡ (r *ℤ inner graph ex ws) +ℤ inner graph ds ws = λ ws.
      product_parts graph q r y.numerators x.numerators ws other.balanced.each even.balanced.each in
      let swapped : q *ℤ inner graph ex ey ≡ (r *ℤ inner graph ex ex) +ℤ inner graph ex ds =
      ap (λ (z : ℤ). q *ℤ z) (inner_swap l ss ex ey) ∙ parts ex ∙ ap (λ (z : ℤ). (r *ℤ inner graph ex ex) +ℤ z) (inner_swap l ss ds ex) in
      let along : q *ℤ inner graph ds ey ≡ (r *ℤ inner graph ex ds) +ℤ inner graph ds ds = ap (λ (z : ℤ). q *ℤ z) (inner_swap l ss ds ey) ∙ parts ds in
      let none = flat ds (balanced_combination graph q (neg_ℤ r) y.numerators x.numerators limits other.balanced even.balanced) in
      no_worse l q r (inner graph ey ey) (inner graph ex ex) (inner graph ds ds) l_pos (inner_nonneg l ss ds has)
      (pythagoras q r (inner graph ey ey) (inner graph ex ey) (inner graph ds ey) (inner graph ex ex) (inner graph ex ds) (inner graph ds ds) (parts ey) swapped along none),
)

pub some_least : WeightLaw → SomeLeastLaw
some_least weight graph limits =
    let (held, forest) = some_forest_law graph.streams in
    let known = weight graph limits in
    let has = have_weights graph limits known in
    let t : Setting = record { graph = graph; held = held; limits = limits; forest = forest; weights = has } in
    let none = without_flow graph.streams in
    let h = some_orthogonal t (length held) (omega arith) none (no_flow_length graph.streams) in
    let x : Fractional = record { numerators = h.flows; denominator = h.factor } in
    let flat : (ys : List ℤ) → IsBalanced graph ys → inner graph (errors_of graph.streams x) ys ≡ pos 0 = λ ys even.
    ap (λ (es : List ℤ). inner graph es ys) (errors_are h.factor graph.streams h.flows h.before.balanced.each)
    ∙ h.orthogonal ys (record { balanced = even; rest = λ k past lt out. absurd (omega (arith, past, lt)) }) in
    (x, orthogonal_least graph x limits known.positive has (record { positive = h.positive; balanced = h.before.balanced }) flat)

-- ---- two least vectors
-- w and x are the weighted squares of two least vectors over r and q, d those of the difference
no_distance : (l q r w x d : ℤ) → pos 1 ≤ℤ l → (q *ℤ q) *ℤ w ≡ ((r *ℤ r) *ℤ x) +ℤ d → (w *ℤ ((q *ℤ q) *ℤ l)) ≤ℤ (x *ℤ ((r *ℤ r) *ℤ l)) → pos 0 ≤ℤ d → d ≡ pos 0
no_distance l q r w x d l_pos excess least low =
    let turned = λ (a b : ℤ). ring (a ∷ b ∷ l ∷ []) (times (times (square (var 0)) (var 1)) (var 2)) (times (var 1) (times (square (var 0)) (var 2))) refl in
    let up = mul_cancel ((q *ℤ q) *ℤ w) ((r *ℤ r) *ℤ x) l (le_by_eq _ _ _ _ (turned q w) (turned r x) least) (omega (arith, ints, l_pos)) in
    omega (arith, ints, excess, up, low)

-- the difference is 0 on each measured stream
abbrev between : Fractional → Fractional → List ℤ
between x y = combination y.denominator (neg_ℤ x.denominator) x.numerators y.numerators

same_measured : WeightLaw → ExcessLaw → (graph : ProcessGraph) (x y : Fractional) (k : ℕ) (s : Stream) → IsProcessGraph graph → IsLeast graph x → IsLeast graph y
    → slice_get graph.streams k ≡ Some s → IsSome s.meas → item (between x y) k ≡ pos 0
same_measured weight excess graph x y k s limits least other at some =
    let l = variance_product graph.streams in
    let known = weight graph limits in
    let has = have_weights graph limits known in
    let each : length x.numerators ≡ length y.numerators = least.0.balanced.each ∙ sym other.0.balanced.each in
    measured_none l graph.streams (between x y) k s has (length_combination _ _ x.numerators y.numerators each ∙ least.0.balanced.each)
    (no_distance l y.denominator x.denominator (weighted_squares graph x) (weighted_squares graph y) (squared_distance graph x y) known.positive
    (excess graph x y limits least.0 other) (least.1 y other.0) (inner_nonneg l graph.streams (between x y) has)) at some

-- so on each stream that the measured ones determine
same_class : WeightLaw → ExcessLaw → (graph : ProcessGraph) (x y : Fractional) (j : ℕ) (s : Stream) (class : Class) → IsProcessGraph graph
    → IsLeast graph x → IsLeast graph y → slice_get graph.streams j ≡ Some s → IsClass graph j s class → class ≢ Unobservable → item (between x y) j ≡ pos 0
same_class weight excess graph x y j s Unobservable limits least other at is ne = absurd (ne refl)
same_class weight excess graph x y j s Redundant limits least other at is ne = same_measured weight excess graph x y j s limits least other at is.0
same_class weight excess graph x y j s Nonredundant limits least other at is ne = same_measured weight excess graph x y j s limits least other at is.0
same_class weight excess graph x y j s Observable limits least other at is ne =
    let ds = between x y in
    let even = balanced_combination graph y.denominator (neg_ℤ x.denominator) x.numerators y.numerators limits least.0.balanced other.0.balanced in
    let still = balanced_combination graph (pos 0) (pos 0) ds ds limits even even in
    let none : (k : ℕ) → item (combination (pos 0) (pos 0) ds ds) k ≡ pos 0 = λ k.
    item_combination (pos 0) (pos 0) ds ds k refl
    ∙ ring (item ds k ∷ []) (plus (times (lit (pos 0)) (var 0)) (times (lit (pos 0)) (var 0))) (lit (pos 0)) refl in
    is.1 ds (combination (pos 0) (pos 0) ds ds) even still
    (λ k t there but some. same_measured weight excess graph x y k t limits least other there some ∙ sym (none k)) ∙ none j

same_flow : (a b q r : ℤ) → (r *ℤ a) +ℤ (neg_ℤ q *ℤ b) ≡ pos 0 → a *ℤ r ≡ b *ℤ q
same_flow a b q r e =
    let is : (r *ℤ a) +ℤ (neg_ℤ q *ℤ b) ≡ (a *ℤ r) -ℤ (b *ℤ q) =
    ring (a ∷ b ∷ q ∷ r ∷ []) (plus (times (var 3) (var 0)) (times (minus (var 2)) (var 1))) (less (times (var 0) (var 3)) (times (var 1) (var 2))) refl in
    omega (arith, ints, is, e)

pub one_least : WeightLaw → ExcessLaw → OneLeastLaw
one_least weight excess graph x y j class limits least other (s, at, is) known =
    same_flow (item x.numerators j) (item y.numerators j) x.denominator y.denominator
    (sym (item_combination y.denominator (neg_ℤ x.denominator) x.numerators y.numerators j (least.0.balanced.each ∙ sym other.0.balanced.each))
    ∙ same_class weight excess graph x y j s class limits least other at is known)
