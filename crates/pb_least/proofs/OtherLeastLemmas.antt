-- What circulates unseen, added to a least vector, makes another one.
use Rattle.std.proofs.Common.{◌≡◌, ◌≢◌, ◌∙◌, ℕ, ℤ, pos, neg_ℤ, ◌+ℤ◌, ◌*ℤ◌, ◌≤ℤ◌, List, [], ◌∷◌, length, Some, None, slice_get, IsSome, refl, sym, ap, subst, arith}
use Rattle.std.proofs.lemmas.Int.{ints}
use Rattle.pb_fixed.specs.Sums.{item}
use Rattle.pb_fixed.proofs.Lists.{some_same}
use Rattle.pb_fixed.proofs.Order.{mul_cancel_eq}
use Rattle.pb_fixed.proofs.Ring.{var, lit, plus, times, ring}
use Rattle.pb_graph.specs.declared.records.Stream.{Stream}
use Rattle.pb_graph.specs.ProcessGraph.{ProcessGraph}
use Rattle.pb_graph.specs.Classes.{TellsApart}
use Rattle.pb_graph.specs.Squares.{Fractional, IsBalancedFractional, variance_product, errors_of, weighted_squares, squares_unit}
use Rattle.pb_gap.specs.Least.{combination}
use Rattle.pb_least.specs.Laws.{OtherLeastLaw}
use Rattle.pb_least.proofs.CombinationLemmas.{item_combination, balanced_combination}
use Rattle.pb_least.proofs.InnerProductLemmas.{inner_left, inner_swap, inner_unmeasured}
use Rattle.pb_least.proofs.OrthogonalLemmas.{inner}
use Rattle.pb_least.proofs.LeastLemmas.{without_flow, error_product}

-- the difference of two flow vectors
abbrev difference : List ℤ → List ℤ → List ℤ
difference xs ys = combination (pos 1) (neg_ℤ (pos 1)) xs ys

none_between : (a b : ℤ) → a ≡ b → (pos 1 *ℤ a) +ℤ (neg_ℤ (pos 1) *ℤ b) ≡ pos 0
none_between a b e = omega (arith, ints, e)

same_of_none : (a b d : ℤ) → d ≡ (pos 1 *ℤ a) +ℤ (neg_ℤ (pos 1) *ℤ b) → d ≡ pos 0 → a ≡ b
same_of_none a b d e none = omega (arith, ints, e, none)

-- it is 0 on each measured stream
unseen : (graph : ProcessGraph) (j : ℕ) (t : Stream) (xs ys : List ℤ) → slice_get graph.streams j ≡ Some t → t.meas ≡ None → TellsApart graph j xs ys
    → (k : ℕ) (s : Stream) → slice_get graph.streams k ≡ Some s → IsSome s.meas → item (difference xs ys) k ≡ pos 0
unseen graph j t xs ys there no_meas apart k s at some =
    let ne : k ≢ j = λ same.
    let is : s ≡ t = some_same (sym at ∙ ap (slice_get graph.streams) same ∙ there) in
    let none : s.meas ≡ None = ap (λ (u : Stream). u.meas) is ∙ no_meas in
    cc (rw none at some) in
    item_combination (pos 1) (neg_ℤ (pos 1)) xs ys k (apart.one.each ∙ sym apart.other.each)
    ∙ none_between (item xs k) (item ys k) (apart.agree k s at ne some)

-- x with q times the difference, over q
abbrev moved : Fractional → List ℤ → Fractional
moved x ds = record { numerators = combination (pos 1) x.denominator x.numerators ds; denominator = x.denominator }

moved_product : (graph : ProcessGraph) (x : Fractional) (ds ws : List ℤ) → length x.numerators ≡ length graph.streams → length ds ≡ length graph.streams
    → length (moved x ds).numerators ≡ length graph.streams → inner graph ds ws ≡ pos 0
    → inner graph (errors_of graph.streams (moved x ds)) ws ≡ inner graph (errors_of graph.streams x) ws
moved_product graph x ds ws each of_ds of_moved none =
    let q = x.denominator in
    let start = q *ℤ inner graph (without_flow graph.streams) ws in
    error_product graph q (moved x ds).numerators ws of_moved
    ∙ ap (λ (z : ℤ). start +ℤ (pos 1 *ℤ z)) (inner_left (variance_product graph.streams) (pos 1) q graph.streams x.numerators ds ws each of_ds)
    ∙ ap (λ (z : ℤ). start +ℤ (pos 1 *ℤ ((pos 1 *ℤ inner graph x.numerators ws) +ℤ (q *ℤ z)))) none
    ∙ ring (start ∷ inner graph x.numerators ws ∷ q ∷ []) (plus (var 0) (times (lit (pos 1)) (plus (times (lit (pos 1)) (var 1)) (times (var 2) (lit (pos 0))))))
    (plus (var 0) (times (lit (pos 1)) (var 1))) refl
    ∙ sym (error_product graph q x.numerators ws each)

step_none : (q x d : ℤ) → pos 1 ≤ℤ q → x *ℤ q ≡ ((pos 1 *ℤ x) +ℤ (q *ℤ d)) *ℤ q → d ≡ pos 0
step_none q x d q_pos e =
    let same = mul_cancel_eq x ((pos 1 *ℤ x) +ℤ (q *ℤ d)) q e (omega (arith, ints, q_pos)) in
    let turned : d *ℤ q ≡ q *ℤ d = ring (d ∷ q ∷ []) (times (var 0) (var 1)) (times (var 1) (var 0)) refl in
    let nothing : pos 0 *ℤ q ≡ pos 0 = ring (q ∷ []) (times (lit (pos 0)) (var 0)) (lit (pos 0)) refl in
    mul_cancel_eq d (pos 0) q (omega (arith, ints, same, turned, nothing)) (omega (arith, ints, q_pos))

pub other_least : OtherLeastLaw
other_least graph x j limits least (t, there, (no_meas, (us, vs, apart))) =
    let l = variance_product graph.streams in
    let ss = graph.streams in
    let q = x.denominator in
    let ds = difference us vs in
    let y = moved x ds in
    let circulates = balanced_combination graph (pos 1) (neg_ℤ (pos 1)) us vs limits apart.one apart.other in
    let even : IsBalancedFractional graph y =
    record { positive = least.0.positive; balanced = balanced_combination graph (pos 1) q x.numerators ds limits least.0.balanced circulates } in
    let same : (ws : List ℤ) → inner graph (errors_of ss y) ws ≡ inner graph (errors_of ss x) ws = λ ws.
    moved_product graph x ds ws least.0.balanced.each circulates.each even.balanced.each (inner_unmeasured l ss ds ws (unseen graph j t us vs there no_meas apart)) in
    let squares : weighted_squares graph x ≡ weighted_squares graph y =
    sym (same (errors_of ss x)) ∙ inner_swap l ss (errors_of ss y) (errors_of ss x) ∙ sym (same (errors_of ss y)) in (
      y,
      (even, λ p other. subst (λ (w : ℤ). (w *ℤ squares_unit graph p) ≤ℤ (weighted_squares graph p *ℤ squares_unit graph x)) squares (least.1 p other)),
      λ both. apart.differ (same_of_none (item us j) (item vs j) (item ds j)
          (item_combination (pos 1) (neg_ℤ (pos 1)) us vs j (apart.one.each ∙ sym apart.other.each))
          (step_none q (item x.numerators j) (item ds j) least.0.positive
          (both ∙ ap (λ (z : ℤ). z *ℤ q) (item_combination (pos 1) q x.numerators ds j (least.0.balanced.each ∙ sym circulates.each))))),
    )
