-- Combinations of balanced flows: their length, their flow at a place, and that they are balanced.
use Rattle.std.proofs.Common.{◌≡◌, ◌≢◌, ◌∙◌, ◌==◌, ℕ, zero, suc, ◌<◌, ℤ, pos, ◌+ℤ◌, ◌*ℤ◌, cond, List, [], ◌∷◌, length, refl, sym, ap, ap₂, arith}
use Rattle.std.proofs.lemmas.Bool.{eq-eqb, ne_eqb}
use Rattle.pb_fixed.specs.Sums.{item}
use Rattle.pb_fixed.proofs.Ring.{var, lit, plus, times, ring}
use Rattle.pb_fixed.proofs.RingLaws.{one_mul, zero_mul}
use Rattle.pb_fixed.proofs.Sums.{sum_below-single}
use Rattle.pb_graph.specs.declared.records.Stream.{Stream}
use Rattle.pb_graph.specs.ProcessGraph.{ProcessGraph, IsProcessGraph}
use Rattle.pb_graph.specs.Balance.{net_of, IsBalanced}
use Rattle.pb_graph.specs.Prices.{rise_of}
use Rattle.pb_graph.specs.PricedSums.{priced_streams}
use Rattle.pb_graph.proofs.BalanceLaws.{priced_sums, balanced_sum}
use Rattle.pb_gap.specs.Least.{combination}

-- ---- the combination of two numbers
-- two combinations, summed
pub combined_sum : (a b p q u v : ℤ) → ((a *ℤ p) +ℤ (b *ℤ q)) +ℤ ((a *ℤ u) +ℤ (b *ℤ v)) ≡ (a *ℤ (p +ℤ u)) +ℤ (b *ℤ (q +ℤ v))
combined_sum a b p q u v =
    ring (a ∷ b ∷ p ∷ q ∷ u ∷ v ∷ []) (plus (plus (times (var 0) (var 2)) (times (var 1) (var 3))) (plus (times (var 0) (var 4)) (times (var 1) (var 5))))
    (plus (times (var 0) (plus (var 2) (var 4))) (times (var 1) (plus (var 3) (var 5)))) refl

pub no_sum : (a b : ℤ) → pos 0 ≡ (a *ℤ pos 0) +ℤ (b *ℤ pos 0)
no_sum a b = ring (a ∷ b ∷ []) (lit (pos 0)) (plus (times (var 0) (lit (pos 0))) (times (var 1) (lit (pos 0)))) refl

pub combined_none : (a b x y : ℤ) → x ≡ pos 0 → y ≡ pos 0 → (a *ℤ x) +ℤ (b *ℤ y) ≡ pos 0
combined_none a b x y e f = ap₂ (λ (u v : ℤ). (a *ℤ u) +ℤ (b *ℤ v)) e f ∙ sym (no_sum a b)

-- ---- by place
pub length_combination : (a b : ℤ) (xs ys : List ℤ) → length xs ≡ length ys → length (combination a b xs ys) ≡ length xs
length_combination a b [] ys same = refl
length_combination a b (x ∷ xs) [] same = absurd (omega (arith, same))
length_combination a b (x ∷ xs) (y ∷ ys) same = ap suc (length_combination a b xs ys (omega (arith, same)))

pub item_combination : (a b : ℤ) (xs ys : List ℤ) (k : ℕ) → length xs ≡ length ys
    → item (combination a b xs ys) k ≡ (a *ℤ item xs k) +ℤ (b *ℤ item ys k)
item_combination a b [] [] k same = no_sum a b
item_combination a b [] (y ∷ ys) k same = absurd (omega (arith, same))
item_combination a b (x ∷ xs) [] k same = absurd (omega (arith, same))
item_combination a b (x ∷ xs) (y ∷ ys) zero same = refl
item_combination a b (x ∷ xs) (y ∷ ys) (suc k) same = item_combination a b xs ys k (omega (arith, same))

-- ---- balances
-- at price 1 of one node and 0 of the others, the sum over the streams is the net flow of the node
abbrev price_of : ℕ → ℕ → ℤ
price_of n m = cond (m == n) (pos 1) (pos 0)

net_priced : (graph : ProcessGraph) (n : ℕ) (xs : List ℤ) → IsProcessGraph graph → n < graph.nodes
    → net_of n graph.streams xs ≡ priced_streams (price_of n) graph.streams xs
net_priced graph n xs limits lt =
    let share = λ (m : ℕ). price_of n m *ℤ net_of m graph.streams xs in
    let own : share n ≡ net_of n graph.streams xs = rw (eq-eqb n n refl) (one_mul (net_of n graph.streams xs)) in
    let other : (m : ℕ) → m < graph.nodes → m ≢ n → share m ≡ pos 0 = λ m less ne. rw (ne_eqb m n ne) (zero_mul (net_of m graph.streams xs)) in
    sym own ∙ sym (sum_below-single share graph.nodes n lt other) ∙ priced_sums graph (price_of n) xs limits

priced_combination : (price : ℕ → ℤ) (a b : ℤ) (ss : List Stream) (xs ys : List ℤ) → length xs ≡ length ss → length ys ≡ length ss
    → priced_streams price ss (combination a b xs ys) ≡ (a *ℤ priced_streams price ss xs) +ℤ (b *ℤ priced_streams price ss ys)
priced_combination price a b [] xs ys h k = no_sum a b
priced_combination price a b (s ∷ ss) [] ys h k = absurd (omega (arith, h))
priced_combination price a b (s ∷ ss) (x ∷ xs) [] h k = absurd (omega (arith, k))
priced_combination price a b (s ∷ ss) (x ∷ xs) (y ∷ ys) h k =
    ap₂ (λ (u v : ℤ). u +ℤ v) (share (rise_of price s) x y) (priced_combination price a b ss xs ys (omega (arith, h)) (omega (arith, k)))
    ∙ combined_sum a b (rise_of price s *ℤ x) (rise_of price s *ℤ y) (priced_streams price ss xs) (priced_streams price ss ys)
  where
    share : (r u v : ℤ) → r *ℤ ((a *ℤ u) +ℤ (b *ℤ v)) ≡ (a *ℤ (r *ℤ u)) +ℤ (b *ℤ (r *ℤ v))
    share r u v =
        ring (a ∷ b ∷ r ∷ u ∷ v ∷ []) (times (var 2) (plus (times (var 0) (var 3)) (times (var 1) (var 4))))
        (plus (times (var 0) (times (var 2) (var 3))) (times (var 1) (times (var 2) (var 4)))) refl

pub balanced_combination : (graph : ProcessGraph) (a b : ℤ) (xs ys : List ℤ) → IsProcessGraph graph → IsBalanced graph xs → IsBalanced graph ys
    → IsBalanced graph (combination a b xs ys)
balanced_combination graph a b xs ys limits x y = record {
  each = length_combination a b xs ys (x.each ∙ sym y.each) ∙ x.each;
  even = λ n lt.
      net_priced graph n (combination a b xs ys) limits lt
      ∙ priced_combination (price_of n) a b graph.streams xs ys x.each y.each
      ∙ combined_none a b _ _ (balanced_sum graph (price_of n) xs limits x) (balanced_sum graph (price_of n) ys limits y);
}
