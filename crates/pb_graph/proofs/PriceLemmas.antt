-- A sum over the nodes of price times net flow, taken stream by stream.
use Rattle.std.proofs.Common.{◌≡◌, ◌∙◌, ℕ, zero, suc, ◌<◌, ℤ, pos, ◌+ℤ◌, ◌-ℤ◌, ◌*ℤ◌, List, [], ◌∷◌, length, cond, ◌==◌, refl, sym, ap, ap₂, inl, inr, arith}
use Rattle.std.specs.List.{AllByRecursion}
use Rattle.std.proofs.lemmas.Bool.{cases_eq, eq-eqb, ne_eqb}
use Rattle.std.proofs.lemmas.Int.{ints}
use Rattle.pb_fixed.specs.Sums.{sum_below}
use Rattle.pb_fixed.proofs.RingLaws.{mul_add, mul_zero, one_mul, zero_mul}
use Rattle.pb_fixed.proofs.Ring.{var, times, less, ring}
use Rattle.pb_fixed.proofs.Lists.{AllByRecursion-from_all}
use Rattle.pb_fixed.proofs.Sums.{sum_below-add, sum_below-none, sum_below-same, sum_below-single}
use Rattle.pb_graph.specs.declared.records.Stream.{Stream}
use Rattle.pb_graph.specs.ProcessGraph.{ProcessGraph, IsStream, IsProcessGraph}
use Rattle.pb_graph.specs.Balance.{brought_to, net_of, IsBalanced}
use Rattle.pb_graph.specs.PricedSums.{priced_nodes, priced_streams}

sum_below-sub : (f g : ℕ → ℤ) (n : ℕ) → sum_below (λ k. f k -ℤ g k) n ≡ sum_below f n -ℤ sum_below g n
sum_below-sub f g zero = refl
sum_below-sub f g (suc n) = let e = sum_below-sub f g n in omega (arith, ints, e)

-- a flow that counts at one node only
abbrev at_end : ℕ → ℤ → ℕ → ℤ
at_end m x n = cond (m == n) x (pos 0)

one_end : (price : ℕ → ℤ) (m nodes : ℕ) (x : ℤ) → m < nodes → sum_below (λ n. price n *ℤ at_end m x n) nodes ≡ price m *ℤ x
one_end price m nodes x lt =
    sum_below-single (λ n. price n *ℤ at_end m x n) nodes m lt (λ k less other. rw (ne_eqb m k (λ e. other (sym e))) (mul_zero (price k)))
    ∙ rw (eq-eqb m m refl) refl

-- the part of one stream
one_stream : (price : ℕ → ℤ) (nodes : ℕ) (s : Stream) (x : ℤ) → IsStream nodes s
    → sum_below (λ n. price n *ℤ brought_to n s x) nodes ≡ (price s.to -ℤ price s.from) *ℤ x
one_stream price nodes s x is =
    let part : (n : ℕ) → price n *ℤ brought_to n s x ≡ (price n *ℤ at_end s.to x n) -ℤ (price n *ℤ at_end s.from x n) = λ n.
    ring (price n ∷ at_end s.to x n ∷ at_end s.from x n ∷ []) (times (var 0) (less (var 1) (var 2))) (less (times (var 0) (var 1)) (times (var 0) (var 2))) refl in
    let whole : (price s.to *ℤ x) -ℤ (price s.from *ℤ x) ≡ (price s.to -ℤ price s.from) *ℤ x =
    ring (price s.to ∷ price s.from ∷ x ∷ []) (less (times (var 0) (var 2)) (times (var 1) (var 2))) (times (less (var 0) (var 1)) (var 2)) refl in
    sum_below-same (λ n. price n *ℤ brought_to n s x) (λ n. (price n *ℤ at_end s.to x n) -ℤ (price n *ℤ at_end s.from x n)) nodes (λ k less. part k)
    ∙ sum_below-sub (λ n. price n *ℤ at_end s.to x n) (λ n. price n *ℤ at_end s.from x n) nodes
    ∙ ap₂ (λ (a b : ℤ). a -ℤ b) (one_end price s.to nodes x is.to) (one_end price s.from nodes x is.from)
    ∙ whole

sums_are : (price : ℕ → ℤ) (nodes : ℕ) (ss : List Stream) (xs : List ℤ) → AllByRecursion (IsStream nodes) ss
    → sum_below (λ n. price n *ℤ net_of n ss xs) nodes ≡ priced_streams price ss xs
sums_are price nodes [] xs each = sum_below-none (λ n. price n *ℤ pos 0) nodes (λ k less. mul_zero (price k))
sums_are price nodes (s ∷ ss) [] each = sum_below-none (λ n. price n *ℤ pos 0) nodes (λ k less. mul_zero (price k))
sums_are price nodes (s ∷ ss) (x ∷ xs) each =
    let share = λ (n : ℕ). price n *ℤ brought_to n s x in
    let rest = λ (n : ℕ). price n *ℤ net_of n ss xs in
    sum_below-same (λ n. price n *ℤ (brought_to n s x +ℤ net_of n ss xs)) (λ n. share n +ℤ rest n) nodes (λ k less. mul_add (price k) (brought_to k s x) (net_of k ss xs))
    ∙ sum_below-add share rest nodes
    ∙ ap₂ (λ (a b : ℤ). a +ℤ b) (one_stream price nodes s x each.0) (sums_are price nodes ss xs each.1)

pub streams_of : (g : ProcessGraph) → IsProcessGraph g → AllByRecursion (IsStream g.nodes) g.streams
streams_of g is = AllByRecursion-from_all (IsStream g.nodes) g.streams is.joins

pub priced_sums : (g : ProcessGraph) (price : ℕ → ℤ) (xs : List ℤ) → IsProcessGraph g → priced_nodes price g xs ≡ priced_streams price g.streams xs
priced_sums g price xs is = sums_are price g.nodes g.streams xs (streams_of g is)

-- differences of prices and balanced flows are orthogonal
pub balanced_sum : (g : ProcessGraph) (price : ℕ → ℤ) (xs : List ℤ) → IsProcessGraph g → IsBalanced g xs → priced_streams price g.streams xs ≡ pos 0
balanced_sum g price xs is balanced =
    sym (priced_sums g price xs is)
    ∙ sum_below-none (λ n. price n *ℤ net_of n g.streams xs) g.nodes (λ k less. ap (λ (z : ℤ). price k *ℤ z) (balanced.even k less) ∙ mul_zero (price k))

-- at one price everywhere the sum over the streams is 0
same_price : (price : ℕ → ℤ) (ss : List Stream) (xs : List ℤ) → ((a b : ℕ) → price a ≡ price b) → priced_streams price ss xs ≡ pos 0
same_price price [] xs same = refl
same_price price (s ∷ ss) [] same = refl
same_price price (s ∷ ss) (x ∷ xs) same =
    let rest = same_price price ss xs same in
    let level : price s.to -ℤ price s.from ≡ pos 0 = omega (arith, ints, same s.to s.from) in
    let none : (price s.to -ℤ price s.from) *ℤ x ≡ pos 0 = ap (λ (z : ℤ). z *ℤ x) level ∙ zero_mul x in
    omega (arith, ints, rest, none)

-- flows that balance at every node except the environment balance there too
pub env_balances : (g : ProcessGraph) (xs : List ℤ) → IsProcessGraph g → length xs ≡ length g.streams
    → ((n : ℕ) → 0 < n → n < g.nodes → net_of n g.streams xs ≡ pos 0) → IsBalanced g xs
env_balances g xs is each others =
    let price = λ (n : ℕ). pos 1 in
    let own : (n : ℕ) → price n *ℤ net_of n g.streams xs ≡ net_of n g.streams xs = λ n. one_mul (net_of n g.streams xs) in
    let whole : sum_below (λ n. price n *ℤ net_of n g.streams xs) g.nodes ≡ pos 0 = priced_sums g price xs is ∙ same_price price g.streams xs (λ a b. refl) in
    let single = sum_below-single (λ n. price n *ℤ net_of n g.streams xs) g.nodes 0 is.env (λ k lt ne. own k ∙ others k (omega (arith, ne)) lt) in
    let env : net_of 0 g.streams xs ≡ pos 0 = sym (own 0) ∙ sym single ∙ whole in
    record {
      each = each;
      even = λ n lt. elim (cases_eq n 0) [
        | inl zero_n ↦ ap (λ (k : ℕ). net_of k g.streams xs) zero_n ∙ env
        | inr some ↦ others n (omega (arith, some)) lt
      ];
    }
