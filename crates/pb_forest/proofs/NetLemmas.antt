-- Net flows kept at the branches of trees: from the flows of the streams that aren't held they settle into one balanced vector.
use Rattle.std.proofs.Common.{◌≡◌, ◌≢◌, ◌∙◌, ◌⊎◌, ℕ, zero, suc, ◌+◌, ◌*◌, ◌^◌, ◌<◌, ◌≤◌, ℤ, pos, neg_ℤ, ◌+ℤ◌, ◌-ℤ◌, ◌*ℤ◌, unsigned_abs, Bool, true, false, cond, ◌==◌, List, [], ◌∷◌, length, All, Option, Some, None, get_or, set, refl, sym, ap, ap₂, subst, inl, inr, arith}
use Rattle.std.proofs.lemmas.Bool.{cases_Bool, cases_eq, cases_lt, eq-eqb, ne_eqb}
use Rattle.std.proofs.lemmas.Int.{ints}
use Rattle.std.proofs.lemmas.List.{get_or_past, get_or-set_same, get_or-set_other, length-set}
use Rattle.pb_fixed.specs.Sums.{sum_below, item}
use Rattle.pb_fixed.proofs.RingLaws.{mul_zero, one_mul, zero_mul}
use Rattle.pb_fixed.proofs.Ring.{var, plus, times, less, ring}
use Rattle.pb_fixed.proofs.Sums.{sum_below-same, sum_below-add, sum_below-single}
use Rattle.pb_graph.specs.declared.records.Stream.{Stream}
use Rattle.pb_graph.specs.ProcessGraph.{ProcessGraph, IsStream, IsProcessGraph, other_end, some_stream}
use Rattle.pb_graph.specs.Neighbours.{touches}
use Rattle.pb_graph.specs.Groups.{entering}
use Rattle.pb_graph.specs.Balance.{brought_to, net_of, IsBalanced}
use Rattle.pb_graph.proofs.WalkLemmas.{some_same}
use Rattle.pb_graph.specs.PricedSums.{priced_nodes, priced_streams}
use Rattle.pb_graph.proofs.BalanceLaws.{priced_sums, unit_price}
use Rattle.pb_forest.specs.Forest.{IsForest}
use Rattle.pb_forest.specs.Trees.{RootedTrees, node_at, root_of, up_of, end_from, IsBranch, AreTrees, AreWhole}
use Rattle.pb_limits.specs.Limits.{most_streams}
use Rattle.pb_forest.specs.Flows.{IsGivenFlow, most_given_flow}
use Rattle.pb_forest.specs.Balancing.{entering_of, chord_flow, crossing, net_by, added_at, balancing, settled, AreNets, AreBalancedFrom}
use Rattle.pb_forest.proofs.FlowLemmas.{sum_first, sum_below-less, enters_is, chord_held, chord_other, priced_level, level_all}
use Rattle.pb_forest.proofs.TreeLemmas.{end_cases, two_ends, one_place}

-- ---- the branches of whole trees
pub record Hangs (ss : List Stream) (held : List Bool) (t : RootedTrees) (n k : ℕ) : Type 0 where
  pub place : ℕ
  pub within : place < length t.order
  pub is : node_at t place ≡ n
  pub branch : IsBranch ss held t.order place k

hangs_at : (nodes : ℕ) (ss : List Stream) (held : List Bool) (t : RootedTrees) (n k i : ℕ) → AreTrees nodes ss held t → i < length t.order → node_at t i ≡ n → up_of t n ≡ Some k
    → Hangs ss held t n k
hangs_at nodes ss held t n k i trees lt is up = record { place = i; within = lt; is = is; branch = trees.branch i k lt (ap (up_of t) is ∙ up) }

pub branch_of : (nodes : ℕ) (ss : List Stream) (held : List Bool) (t : RootedTrees) (n k : ℕ) → AreWhole nodes ss held t → up_of t n ≡ Some k → Hangs ss held t n k
branch_of nodes ss held t n k whole up =
    let lt : n < nodes = elim (cases_lt n nodes) [
      | inl less ↦ less
      | inr past ↦ cc (sym (get_or_past t.up n None (omega (arith, past, whole.trees.ups))) ∙ up)
    ] in
    let (r, found) = whole.all n lt in
    let (i, less, is) = whole.trees.listed n r found in
    hangs_at nodes ss held t n k i whole.trees less is up

-- of two ends that hang by one stream, each would come before the other
comes_before : (nodes : ℕ) (ss : List Stream) (held : List Bool) (t : RootedTrees) (m n k : ℕ) → AreWhole nodes ss held t → (a : Hangs ss held t m k) → (b : Hangs ss held t n k)
    → m ≢ n → b.place < a.place
comes_before nodes ss held t m n k whole a b ne =
    let s : Stream = get_or ss k some_stream in
    let touch_m : touches m s ≡ true = ap (λ (i : ℕ). touches i s) (sym a.is) ∙ a.branch.touch in
    let touch_n : touches n s ≡ true = ap (λ (i : ℕ). touches i s) (sym b.is) ∙ b.branch.touch in
    let parent : node_at t a.branch.place ≡ n = a.branch.parent ∙ ap (λ (i : ℕ). end_from ss i k) a.is ∙ sym (two_ends m n s touch_m touch_n ne) in
    let same : b.place ≡ a.branch.place = one_place nodes ss held t b.place a.branch.place whole.trees b.within (omega (arith, a.within, a.branch.before)) (b.is ∙ sym parent) in
    omega (arith, same, a.branch.before)

-- a stream is the branch of one node
pub one_up : (nodes : ℕ) (ss : List Stream) (held : List Bool) (t : RootedTrees) (m n k : ℕ) → AreWhole nodes ss held t → up_of t m ≡ Some k → up_of t n ≡ Some k → m ≡ n
one_up nodes ss held t m n k whole up_m up_n =
    let a = branch_of nodes ss held t m k whole up_m in
    let b = branch_of nodes ss held t n k whole up_n in
    elim (cases_eq m n) [
      | inl same ↦ same
      | inr ne ↦
          let one = comes_before nodes ss held t m n k whole a b ne in
          let other = comes_before nodes ss held t n m k whole b a (λ e. ne (sym e)) in
          absurd (omega (arith, one, other))
    ]

pub up_within : (nodes : ℕ) (ss : List Stream) (held : List Bool) (t : RootedTrees) (n k : ℕ) → AreWhole nodes ss held t → up_of t n ≡ Some k → k < length ss
up_within nodes ss held t n k whole up = (branch_of nodes ss held t n k whole up).branch.there

is_up : (o : Option ℕ) (k : ℕ) → (o ≡ Some k) ⊎ (o ≢ Some k)
is_up None k = inr (λ e. cc e)
is_up (Some j) k = elim (cases_eq j k) [
  | inl same ↦ inl (ap (λ (i : ℕ). Some i) same)
  | inr ne ↦ inr (λ e. ne (some_same e))
]

-- whether a stream is the branch of one of the first nodes
find_up : (t : RootedTrees) (k i : ℕ) → ((b : ℕ) × (b < i) × (up_of t (node_at t b) ≡ Some k)) ⊎ ((b : ℕ) → b < i → up_of t (node_at t b) ≢ Some k)
find_up t k zero = inr (λ b lt. absurd (omega (arith, lt)))
find_up t k (suc i) = elim (find_up t k i) [
  | inl (b, lt, is) ↦ inl (b, omega (arith, lt), is)
  | inr none ↦ elim (is_up (up_of t (node_at t i)) k) [
    | inl is ↦ inl (i, omega arith, is)
    | inr not_here ↦ inr (λ b lt. elim (cases_eq b i) [
      | inl same ↦ λ up. not_here (ap (λ (j : ℕ). up_of t (node_at t j)) (sym same) ∙ up)
      | inr ne ↦ none b (omega (arith, lt, ne))
    ])
  ]
]

no_up : (nodes : ℕ) (ss : List Stream) (held : List Bool) (t : RootedTrees) (k : ℕ) → AreWhole nodes ss held t → ((b : ℕ) → b < length t.order → up_of t (node_at t b) ≢ Some k)
    → (n : ℕ) → up_of t n ≢ Some k
no_up nodes ss held t k whole none n up =
    let a = branch_of nodes ss held t n k whole up in
    none a.place a.within (ap (up_of t) a.is ∙ up)

-- ---- an amount that is added to a net flow
pub length_added : (o : Option ℕ) (x : ℤ) (out : List ℤ) → length (added_at o x out) ≡ length out
length_added None x out = refl
length_added (Some k) x out = length-set out k (item out k +ℤ x)

added_other : (o : Option ℕ) (x : ℤ) (out : List ℤ) (k : ℕ) → o ≢ Some k → item (added_at o x out) k ≡ item out k
added_other None x out k ne = refl
added_other (Some j) x out k ne = get_or-set_other out j k (item out j +ℤ x) (pos 0) (λ e. ne (ap (λ (i : ℕ). Some i) (sym e)))

-- what node n gets of an amount that node m gets
abbrev pub comes : ℕ → ℕ → ℤ → ℤ
comes m n x = cond (m == n) x (pos 0)

added_same : (o : Option ℕ) (x : ℤ) (out : List ℤ) (k : ℕ) → o ≡ Some k → k < length out → item (added_at o x out) k ≡ item out k +ℤ x
added_same None x out k e lt = cc e
added_same (Some j) x out k e lt =
    let is : j ≡ k = some_same e in
    subst (λ (i : ℕ). item (added_at (Some i) x out) k ≡ item out k +ℤ x) (sym is) (get_or-set_same out k (item out k +ℤ x) (pos 0) lt)

pub added_item : (nodes : ℕ) (ss : List Stream) (held : List Bool) (t : RootedTrees) (m n k : ℕ) (x : ℤ) (out : List ℤ) → AreWhole nodes ss held t → up_of t n ≡ Some k
    → k < length out → item (added_at (up_of t m) x out) k ≡ item out k +ℤ comes m n x
added_item nodes ss held t m n k x out whole up lt = elim (cases_eq m n) [
  | inl same ↦ rw (eq-eqb m n same) (added_same (up_of t m) x out k (ap (up_of t) same ∙ up) lt)
  | inr ne ↦
      let kept = added_other (up_of t m) x out k (λ e. ne (one_up nodes ss held t m n k whole e up)) in
      rw (ne_eqb m n ne) (omega (arith, ints, kept))
]

pub added_small : (o : Option ℕ) (x : ℤ) (out : List ℤ) (b c : ℕ) → ((k : ℕ) → unsigned_abs (item out k) ≤ b) → unsigned_abs x ≤ c
    → (k : ℕ) → unsigned_abs (item (added_at o x out) k) ≤ b + c
added_small None x out b c small le k = let h = small k in omega (arith, h)
added_small (Some j) x out b c small le k =
    let h = small k in
    elim (cases_eq k j) [
      | inr ne ↦ let e = get_or-set_other out j k (item out j +ℤ x) (pos 0) ne in omega (arith, ints, h, e)
      | inl same ↦ elim (cases_lt k (length out)) [
        | inl lt ↦ let e = added_same (Some j) x out k (ap (λ (i : ℕ). Some i) (sym same)) lt in omega (arith, ints, h, e, le)
        | inr past ↦ let e = get_or_past (set out j (item out j +ℤ x)) k (pos 0) (omega (arith, past, length-set out j (item out j +ℤ x))) in omega (arith, ints, e)
      ]
    ]

-- ---- what crosses is small
pub item_small : (xs : List ℤ) (b : ℕ) → All (λ (v : ℤ). unsigned_abs v ≤ b) xs → (k : ℕ) → unsigned_abs (item xs k) ≤ b
item_small xs b small k = elim (cases_lt k (length xs)) [
  | inl lt ↦ small k (pos 0) lt
  | inr past ↦ let e = get_or_past xs k (pos 0) (omega (arith, past)) in omega (arith, ints, e)
]

pub chord_small : (held : List Bool) (xs : List ℤ) (b : ℕ) → All (λ (v : ℤ). unsigned_abs v ≤ b) xs → (k : ℕ) → unsigned_abs (chord_flow held xs k) ≤ b
chord_small held xs b small k = elim (cases_Bool (get_or held k false)) [
  | inl h ↦ let e = chord_held held xs k h in omega (arith, ints, e)
  | inr h ↦ let e = chord_other held xs k h in let le = item_small xs b small k in omega (arith, ints, e, le)
]

entering_small : (a c : Bool) (x : ℤ) (b : ℕ) → unsigned_abs x ≤ b → unsigned_abs (entering a c x) ≤ b
entering_small true true x b le = omega (arith, ints)
entering_small true false x b le = omega (arith, ints, le)
entering_small false true x b le = le
entering_small false false x b le = omega (arith, ints)

pub crossing_small : (inside : ℕ → Bool) (ss : List Stream) (held : List Bool) (xs : List ℤ) (b n : ℕ) → All (λ (v : ℤ). unsigned_abs v ≤ b) xs
    → unsigned_abs (crossing inside ss held xs n) ≤ n * b
crossing_small inside ss held xs b zero small = omega (arith, ints)
crossing_small inside ss held xs b (suc n) small =
    let s : Stream = get_or ss n some_stream in
    let rest = crossing_small inside ss held xs b n small in
    let one = entering_small (inside s.from) (inside s.to) (chord_flow held xs n) b (chord_small held xs b small n) in
    omega (arith, ints, rest, one)

crossing_bound : (inside : ℕ → Bool) (ss : List Stream) (held : List Bool) (xs : List ℤ) (n : ℕ) → All IsGivenFlow xs → n ≤ most_streams
    → unsigned_abs (crossing inside ss held xs n) < 2 ^ 68
crossing_bound inside ss held xs n small few = let le = crossing_small inside ss held xs most_given_flow n small in omega (arith, le, few)

-- ---- the net flows of the streams that aren't held
-- all that the code requires of the net flows so far
pub nets_small : (nodes : ℕ) (ss : List Stream) (held : List Bool) (off : List ℤ) (t : RootedTrees) (j : ℕ) (out : List ℤ) → AreWhole nodes ss held t
    → All IsGivenFlow off → j ≤ most_streams → AreNets ss held off t j out → (k : ℕ) → unsigned_abs (item out k) < 2 ^ 68
nets_small nodes ss held off t j out whole small few nets k = elim (cases_lt k (length ss)) [
  | inr past ↦ let e = get_or_past out k (pos 0) (omega (arith, past, nets.each)) in omega (arith, ints, e)
  | inl lt ↦ elim (find_up t k (length t.order)) [
    | inl (b, less, up) ↦
        let e = nets.net (node_at t b) k up in
        let le = crossing_bound (λ m. m == node_at t b) ss held off j small few in
        omega (arith, ints, e, le)
    | inr none ↦
        let e = nets.rest k lt (no_up nodes ss held t k whole none) in
        let le = chord_small held off most_given_flow small k in
        omega (arith, ints, e, le)
  ]
]

pub nets_none : (nodes : ℕ) (ss : List Stream) (held : List Bool) (off : List ℤ) (t : RootedTrees) (out : List ℤ) → AreWhole nodes ss held t → length out ≡ length ss
    → ((k : ℕ) → k < length ss → item out k ≡ chord_flow held off k) → AreNets ss held off t 0 out
nets_none nodes ss held off t out whole each free = record {
  each = each;
  net = λ n k up. let a = branch_of nodes ss held t n k whole up in free k a.branch.there ∙ chord_held held off k a.branch.marked;
  rest = λ k lt none. free k lt;
}

both_ends : (a b : Bool) (z x : ℤ) → (z +ℤ cond a (neg_ℤ x) (pos 0)) +ℤ cond b x (pos 0) ≡ z +ℤ entering a b x
both_ends true true z x = omega (arith, ints)
both_ends true false z x = omega (arith, ints)
both_ends false true z x = omega (arith, ints)
both_ends false false z x = omega (arith, ints)

-- one more stream
pub nets_more : (nodes : ℕ) (ss : List Stream) (held : List Bool) (off : List ℤ) (t : RootedTrees) (j : ℕ) (out : List ℤ) → AreWhole nodes ss held t
    → AreNets ss held off t j out
    → AreNets ss held off t (j + 1) (added_at (up_of t (get_or ss j some_stream).to) (chord_flow held off j) (added_at (up_of t (get_or ss j some_stream).from) (neg_ℤ (chord_flow held off j)) out))
nets_more nodes ss held off t j out whole nets =
    let s : Stream = get_or ss j some_stream in
    let x : ℤ = chord_flow held off j in
    let mid : List ℤ = added_at (up_of t s.from) (neg_ℤ x) out in
    let size : length mid ≡ length ss = length_added (up_of t s.from) (neg_ℤ x) out ∙ nets.each in
    let next : suc j ≡ j + 1 = omega arith in
    record {
      each = length_added (up_of t s.to) x mid ∙ size;
      net = λ n k up.
          let lt : k < length ss = up_within nodes ss held t n k whole up in
          let first = added_item nodes ss held t s.from n k (neg_ℤ x) out whole up (omega (arith, lt, nets.each)) in
          let second = added_item nodes ss held t s.to n k x mid whole up (omega (arith, lt, size)) in
          second ∙ ap (λ (z : ℤ). z +ℤ comes s.to n x) (first ∙ ap (λ (z : ℤ). z +ℤ comes s.from n (neg_ℤ x)) (nets.net n k up))
          ∙ both_ends (s.from == n) (s.to == n) (crossing (λ m. m == n) ss held off j) x ∙ ap (crossing (λ m. m == n) ss held off) next;
      rest = λ k lt none. added_other (up_of t s.to) x mid k (none s.to) ∙ added_other (up_of t s.from) (neg_ℤ x) out k (none s.from) ∙ nets.rest k lt none;
    }

share_enters : (n : ℕ) (s : Stream) (x : ℤ) → entering_of (λ m. m == n) s x ≡ brought_to n s x
share_enters n s x = ends_of_share (s.from == n) (s.to == n)
  where
    ends_of_share : (a b : Bool) → entering a b x ≡ cond b x (pos 0) -ℤ cond a x (pos 0)
    ends_of_share true true = omega (arith, ints)
    ends_of_share true false = omega (arith, ints)
    ends_of_share false true = omega (arith, ints)
    ends_of_share false false = omega (arith, ints)

-- no node is balanced yet
pub settle_none : (nodes : ℕ) (ss : List Stream) (held : List Bool) (off : List ℤ) (t : RootedTrees) (out : List ℤ) → AreWhole nodes ss held t → length held ≡ length ss
    → length ss ≤ most_streams → All IsGivenFlow off → AreNets ss held off t (length ss) out → AreBalancedFrom ss held off t (length t.order) out
settle_none nodes ss held off t out whole marks few small nets = record {
  each = nets.each;
  agree = λ k lt h.
      nets.rest k (omega (arith, lt, marks)) (λ n up. let a = branch_of nodes ss held t n k whole up in cc (sym h ∙ a.branch.marked)) ∙ chord_other held off k h;
  small = nets_small nodes ss held off t (length ss) out whole small few nets;
  flow = chord_flow held off;
  waits = λ b k lt up. chord_held held off k (branch_of nodes ss held t (node_at t b) k whole up).branch.marked;
  decided = λ k lt none. sym (nets.rest k lt (no_up nodes ss held t k whole none));
  net = λ b k lt up.
      let n = node_at t b in
      nets.net n k up ∙ sum_below-same (λ i. entering_of (λ m. m == n) (get_or ss i some_stream) (chord_flow held off i)) (λ i. brought_to n (get_or ss i some_stream) (chord_flow held off i)) (length ss)
      (λ i less. share_enters n (get_or ss i some_stream) (chord_flow held off i));
  even = λ b k le lt up. absurd (omega (arith, le, lt));
  home = λ m. m;
  below = λ b k lt up. nets.net (node_at t b) k up;
}

-- ---- one more node is balanced
share_none : (n : ℕ) (s : Stream) → brought_to n s (pos 0) ≡ pos 0
share_none n s = none (s.to == n) (s.from == n)
  where
    none : (a b : Bool) → cond a (pos 0) (pos 0) -ℤ cond b (pos 0) (pos 0) ≡ pos 0
    none true true = refl
    none true false = refl
    none false true = refl
    none false false = refl

-- a flow with another amount at one place
abbrev with_flow : ℕ → ℤ → (ℕ → ℤ) → ℕ → ℤ
with_flow e x flow k = cond (k == e) x (flow k)

net_with : (n : ℕ) (ss : List Stream) (flow : ℕ → ℤ) (e : ℕ) (x : ℤ) → e < length ss → flow e ≡ pos 0
    → net_by n ss (with_flow e x flow) ≡ net_by n ss flow +ℤ brought_to n (get_or ss e some_stream) x
net_with n ss flow e x lt none =
    let f : ℕ → ℤ = λ k. brought_to n (get_or ss k some_stream) (with_flow e x flow k) in
    let g : ℕ → ℤ = λ k. brought_to n (get_or ss k some_stream) (flow k) in
    let other : (k : ℕ) → k < length ss → k ≢ e → f k -ℤ g k ≡ pos 0 = λ k less ne.
    let same : f k ≡ g k = ap (λ (b : Bool). brought_to n (get_or ss k some_stream) (cond b x (flow k))) (ne_eqb k e ne) in
    omega (arith, ints, same) in
    let own : f e ≡ brought_to n (get_or ss e some_stream) x = ap (λ (b : Bool). brought_to n (get_or ss e some_stream) (cond b x (flow e))) (eq-eqb e e refl) in
    let was : g e ≡ pos 0 = ap (brought_to n (get_or ss e some_stream)) none ∙ share_none n (get_or ss e some_stream) in
    let split : sum_below (λ k. f k -ℤ g k) (length ss) ≡ sum_below f (length ss) -ℤ sum_below g (length ss) = sum_below-less f g (length ss) in
    let one : sum_below (λ k. f k -ℤ g k) (length ss) ≡ f e -ℤ g e = sum_below-single (λ k. f k -ℤ g k) (length ss) e lt other in
    omega (arith, ints, own, was, split, one)

-- the branch takes the net flow away from its lower end, to its parent
share_own : (c : ℕ) (s : Stream) (a : ℤ) → s.from ≢ s.to → touches c s ≡ true → brought_to c s (balancing c s a) ≡ neg_ℤ a
share_own c s a apart touch = elim (end_cases c s touch) [
  | inl (to, other) ↦
      let from : (s.from == c) ≡ false = ne_eqb s.from c (λ e. apart (e ∙ sym to)) in
      rw (eq-eqb s.to c to, from) (omega (arith, ints))
  | inr (from, away, other) ↦ rw (ne_eqb s.to c away, eq-eqb s.from c from) (omega (arith, ints))
]

less_turned : (b : Bool) (a : ℤ) → pos 0 -ℤ cond b (neg_ℤ a) (pos 0) ≡ cond b a (pos 0)
less_turned true a = omega (arith, ints)
less_turned false a = omega (arith, ints)

less_none : (b : Bool) (a : ℤ) → cond b a (pos 0) -ℤ pos 0 ≡ cond b a (pos 0)
less_none true a = omega (arith, ints)
less_none false a = omega (arith, ints)

share_parent : (c n : ℕ) (s : Stream) (a : ℤ) → touches c s ≡ true → n ≢ c → brought_to n s (balancing c s a) ≡ comes (other_end c s) n a
share_parent c n s a touch ne = elim (end_cases c s touch) [
  | inl (to, other) ↦
      let at_to : (s.to == n) ≡ false = ne_eqb s.to n (λ e. ne (sym e ∙ to)) in
      rw (other, eq-eqb s.to c to, at_to) (less_turned (s.from == n) a)
  | inr (from, away, other) ↦
      let at_from : (s.from == n) ≡ false = ne_eqb s.from n (λ e. ne (sym e ∙ from)) in
      rw (other, ne_eqb s.to c away, at_from) (less_none (s.to == n) a)
]

settle_root : (nodes : ℕ) (ss : List Stream) (held : List Bool) (off : List ℤ) (t : RootedTrees) (i : ℕ) (out : List ℤ) → up_of t (node_at t i) ≡ None
    → AreBalancedFrom ss held off t (i + 1) out → AreBalancedFrom ss held off t i out
settle_root nodes ss held off t i out root before =
    let other : (b k : ℕ) → up_of t (node_at t b) ≡ Some k → b ≢ i = λ b k up same. cc (sym root ∙ ap (λ (j : ℕ). up_of t (node_at t j)) (sym same) ∙ up) in
    record {
      each = before.each;
      agree = before.agree;
      small = before.small;
      flow = before.flow;
      waits = λ b k lt up. before.waits b k (omega (arith, lt)) up;
      decided = λ k lt none. before.decided k lt (λ b less up. none b (omega (arith, less, other b k up)) up);
      net = λ b k lt up. before.net b k (omega (arith, lt)) up;
      even = λ b k le lt up. before.even b k (omega (arith, le, other b k up)) lt up;
      home = before.home;
      below = λ b k lt up. before.below b k (omega (arith, lt)) up;
    }

-- ---- where net flows go
-- node c hands its net flow to node p
abbrev handed : ℕ → ℕ → (ℕ → ℕ) → ℕ → ℕ
handed c p home m = cond (home m == c) p (home m)

entering_add : (a1 b1 a2 b2 a b : Bool) (x : ℤ) → unit_price a ≡ unit_price a1 +ℤ unit_price a2 → unit_price b ≡ unit_price b1 +ℤ unit_price b2
    → entering a b x ≡ entering a1 b1 x +ℤ entering a2 b2 x
entering_add a1 b1 a2 b2 a b x ea eb =
    sym (enters_is a b x) ∙ ap₂ (λ (u v : ℤ). (v -ℤ u) *ℤ x) ea eb
    ∙ ring (unit_price a1 ∷ unit_price b1 ∷ unit_price a2 ∷ unit_price b2 ∷ x ∷ [])
    (times (less (plus (var 1) (var 3)) (plus (var 0) (var 2))) (var 4)) (plus (times (less (var 1) (var 0)) (var 4)) (times (less (var 3) (var 2)) (var 4))) refl
    ∙ ap₂ (λ (u v : ℤ). u +ℤ v) (enters_is a1 b1 x) (enters_is a2 b2 x)

handed_unit : (c p : ℕ) (home : ℕ → ℕ) (m : ℕ) → p ≢ c → unit_price (handed c p home m == p) ≡ unit_price (home m == p) +ℤ unit_price (home m == c)
handed_unit c p home m ne = elim (cases_eq (home m) c) [
  | inl same ↦ rw (eq-eqb (home m) c same, eq-eqb p p refl, ne_eqb (home m) p (λ e. ne (sym e ∙ same))) refl
  | inr other ↦ rw (ne_eqb (home m) c other) (add_zero (unit_price (home m == p)))
]
  where
    add_zero : (z : ℤ) → z ≡ z +ℤ pos 0
    add_zero z = omega (arith, ints)

-- the parent has both net flows
crossing_handed : (c p : ℕ) (home : ℕ → ℕ) (ss : List Stream) (held : List Bool) (off : List ℤ) (n : ℕ) → p ≢ c
    → crossing (λ m. handed c p home m == p) ss held off n ≡ crossing (λ m. home m == p) ss held off n +ℤ crossing (λ m. home m == c) ss held off n
crossing_handed c p home ss held off n ne =
    let at : (ℕ → Bool) → ℕ → ℤ = λ inside k. entering_of inside (get_or ss k some_stream) (chord_flow held off k) in
    sum_below-same (at (λ m. handed c p home m == p)) (λ k. at (λ m. home m == p) k +ℤ at (λ m. home m == c) k) n (λ k less.
    let s : Stream = get_or ss k some_stream in
    entering_add (home s.from == p) (home s.to == p) (home s.from == c) (home s.to == c) (handed c p home s.from == p) (handed c p home s.to == p) (chord_flow held off k)
    (handed_unit c p home s.from ne) (handed_unit c p home s.to ne))
    ∙ sum_below-add (at (λ m. home m == p)) (at (λ m. home m == c)) n

handed_other : (c p n : ℕ) (home : ℕ → ℕ) (m : ℕ) → n ≢ p → n ≢ c → (handed c p home m == n) ≡ (home m == n)
handed_other c p n home m np nc = elim (cases_eq (home m) c) [
  | inl same ↦ rw (eq-eqb (home m) c same, ne_eqb p n (λ e. np (sym e)), ne_eqb (home m) n (λ e. nc (sym e ∙ same))) refl
  | inr other ↦ rw (ne_eqb (home m) c other) refl
]

-- another node has its own net flow
crossing_other : (c p n : ℕ) (home : ℕ → ℕ) (ss : List Stream) (held : List Bool) (off : List ℤ) (j : ℕ) → n ≢ p → n ≢ c
    → crossing (λ m. handed c p home m == n) ss held off j ≡ crossing (λ m. home m == n) ss held off j
crossing_other c p n home ss held off j np nc =
    let at : (ℕ → Bool) → ℕ → ℤ = λ inside k. entering_of inside (get_or ss k some_stream) (chord_flow held off k) in
    sum_below-same (at (λ m. handed c p home m == n)) (at (λ m. home m == n)) j (λ k less.
    let s : Stream = get_or ss k some_stream in
    ap₂ (λ (a b : Bool). entering a b (chord_flow held off k)) (handed_other c p n home s.from np nc) (handed_other c p n home s.to np nc))

-- ---- a node that hangs from its parent
balancing_small : (c : ℕ) (s : Stream) (a : ℤ) → unsigned_abs a < 2 ^ 68 → unsigned_abs (balancing c s a) < 2 ^ 68
balancing_small c s a small = elim (cases_Bool (s.to == c)) [
  | inl to ↦ rw to (omega (arith, ints, small))
  | inr from ↦ rw from small
]

-- the vector after node c was balanced by stream e, and its net flow a was added to that of its parent p
record Steps (t : RootedTrees) (c p e : ℕ) (x a : ℤ) (out new : List ℤ) : Type 0 where
  own : item new e ≡ x
  rest : (k : ℕ) → k ≢ e → up_of t p ≢ Some k → item new k ≡ item out k
  nets : (n k : ℕ) → n ≢ c → up_of t n ≡ Some k → item new k ≡ item out k +ℤ comes p n a
  apart : (n k : ℕ) → n ≢ c → up_of t n ≡ Some k → k ≢ e

steps_by : (nodes : ℕ) (ss : List Stream) (held : List Bool) (t : RootedTrees) (c p e : ℕ) (x a : ℤ) (out : List ℤ) → AreWhole nodes ss held t → length out ≡ length ss
    → up_of t c ≡ Some e → p ≢ c → Steps t c p e x a out (added_at (up_of t p) a (set out e x))
steps_by nodes ss held t c p e x a out whole each up ne =
    let lt : e < length out = omega (arith, each, up_within nodes ss held t c e whole up) in
    let apart : (n k : ℕ) → n ≢ c → up_of t n ≡ Some k → k ≢ e = λ n k nc up_n same. nc (one_up nodes ss held t n c e whole (up_n ∙ ap (λ (i : ℕ). Some i) same) up) in
    record {
      own = added_other (up_of t p) a (set out e x) e (λ up_p. apart p e ne up_p refl) ∙ get_or-set_same out e x (pos 0) lt;
      rest = λ k ke none. added_other (up_of t p) a (set out e x) k none ∙ get_or-set_other out e k x (pos 0) ke;
      nets = λ n k nc up_n.
          added_item nodes ss held t p n k a (set out e x) whole up_n (omega (arith, each, up_within nodes ss held t n k whole up_n, length-set out e x))
          ∙ ap (λ (z : ℤ). z +ℤ comes p n a) (get_or-set_other out e k x (pos 0) (apart n k nc up_n));
      apart = apart;
    }

comes_here : (p n : ℕ) (a : ℤ) → p ≡ n → comes p n a ≡ a
comes_here p n a same = rw (eq-eqb p n same) refl

comes_none : (p n : ℕ) (a : ℤ) → p ≢ n → comes p n a ≡ pos 0
comes_none p n a ne = rw (ne_eqb p n ne) refl

settle_branch : (nodes : ℕ) (ss : List Stream) (held : List Bool) (off : List ℤ) (t : RootedTrees) (i e : ℕ) (out : List ℤ) → AreWhole nodes ss held t → length held ≡ length ss
    → length ss ≤ most_streams → All IsGivenFlow off → All (IsStream nodes) ss → i < length t.order → up_of t (node_at t i) ≡ Some e
    → AreBalancedFrom ss held off t (i + 1) out → AreBalancedFrom ss held off t i (settled ss t (node_at t i) (Some e) out)
settle_branch nodes ss held off t i e out whole marks few small joins place up before =
    let c : ℕ = node_at t i in
    let s : Stream = get_or ss e some_stream in
    let p : ℕ = end_from ss c e in
    let a : ℤ = item out e in
    let x : ℤ = balancing c s a in
    let new : List ℤ = added_at (up_of t p) a (set out e x) in
    let b : IsBranch ss held t.order i e = whole.trees.branch i e place up in
    let is : IsStream nodes s = joins e some_stream b.there in
    let apart_at : (k : ℕ) → k < i → node_at t k ≢ c = λ k lt. whole.trees.once k i lt place in
    let ne : p ≢ c = λ same. apart_at b.place b.before (b.parent ∙ same) in
    let steps : Steps t c p e x a out new = steps_by nodes ss held t c p e x a out whole before.each up ne in
    let flow : ℕ → ℤ = with_flow e x before.flow in
    let none : before.flow e ≡ pos 0 = before.waits i e (omega arith) up in
    let more : (n : ℕ) → net_by n ss flow ≡ net_by n ss before.flow +ℤ brought_to n s x = λ n. net_with n ss before.flow e x b.there none in
    let kept : (k : ℕ) → k ≢ e → flow k ≡ before.flow k = λ k ke. ap (λ (v : Bool). cond v x (before.flow k)) (ne_eqb k e ke) in
    let home : ℕ → ℕ = handed c p before.home in
    let net_c : a ≡ net_by c ss before.flow = before.net i e (omega arith) up in
    let below_c : a ≡ crossing (λ m. before.home m == c) ss held off (length ss) = before.below i e (omega arith) up in
    let below : (b k : ℕ) → b < i → up_of t (node_at t b) ≡ Some k → item new k ≡ crossing (λ m. home m == node_at t b) ss held off (length ss) = λ b k lt up_b.
    let n : ℕ = node_at t b in
    let nc : n ≢ c = apart_at b lt in
    let was = before.below b k (omega (arith, lt)) up_b in
    let now = steps.nets n k nc up_b in
    elim (cases_eq p n) [
      | inl same ↦
          let both : crossing (λ m. home m == n) ss held off (length ss) ≡ crossing (λ m. before.home m == n) ss held off (length ss) +ℤ crossing (λ m. before.home m == c) ss held off (length ss) =
          subst (λ (q : ℕ). crossing (λ m. home m == q) ss held off (length ss) ≡ crossing (λ m. before.home m == q) ss held off (length ss) +ℤ crossing (λ m. before.home m == c) ss held off (length ss)) same
          (crossing_handed c p before.home ss held off (length ss) ne) in
          let here = comes_here p n a same in
          omega (arith, ints, was, now, both, here, below_c)
      | inr other ↦
          let own = crossing_other c p n before.home ss held off (length ss) (λ e. other (sym e)) nc in
          let nothing = comes_none p n a other in
          omega (arith, ints, was, now, own, nothing)
    ] in
    record {
      each = length_added (up_of t p) a (set out e x) ∙ length-set out e x ∙ before.each;
      agree = λ k lt h.
          steps.rest k (λ same. cc (sym h ∙ ap (λ (j : ℕ). get_or held j false) same ∙ b.marked))
          (λ up_p. let q = branch_of nodes ss held t p k whole up_p in cc (sym h ∙ q.branch.marked)) ∙ before.agree k lt h;
      small = λ k. elim (cases_eq k e) [
        | inl same ↦
            let own : item new k ≡ x = ap (item new) same ∙ steps.own in
            let le = balancing_small c s a (before.small e) in
            omega (arith, ints, own, le)
        | inr ke ↦ elim (is_up (up_of t p) k) [
          | inr no_p ↦ let rest = steps.rest k ke no_p in let le = before.small k in omega (arith, ints, rest, le)
          | inl up_p ↦
              let is_b = below b.place k b.before (ap (up_of t) b.parent ∙ up_p) in
              let le = crossing_bound (λ m. home m == node_at t b.place) ss held off (length ss) small few in
              omega (arith, ints, is_b, le)
        ]
      ];
      flow = flow;
      waits = λ b k lt up_b. kept k (steps.apart (node_at t b) k (apart_at b lt) up_b) ∙ before.waits b k (omega (arith, lt)) up_b;
      decided = λ k lt not_up. elim (cases_eq k e) [
        | inl same ↦ ap flow same ∙ ap (λ (v : Bool). cond v x (before.flow e)) (eq-eqb e e refl) ∙ sym steps.own ∙ ap (item new) (sym same)
        | inr ke ↦
            let was = before.decided k lt (λ b less up_b. elim (cases_eq b i) [
              | inl same ↦ ke (some_same (sym up_b ∙ ap (λ (j : ℕ). up_of t (node_at t j)) same ∙ up))
              | inr bi ↦ not_up b (omega (arith, less, bi)) up_b
            ]) in
            kept k ke ∙ was ∙ sym (steps.rest k ke (λ up_p. not_up b.place b.before (ap (up_of t) b.parent ∙ up_p)))
      ];
      net = λ b k lt up_b.
          let n : ℕ = node_at t b in
          let nc : n ≢ c = apart_at b lt in
          let was = before.net b k (omega (arith, lt)) up_b in
          let now = steps.nets n k nc up_b in
          let share = share_parent c n s a (whole.trees.branch i e place up).touch nc in
          let sum = more n in
          omega (arith, ints, was, now, share, sum);
      even = λ b k le lt up_b. elim (cases_eq b i) [
        | inl same ↦
            let own = share_own c s a is.apart (whole.trees.branch i e place up).touch in
            let sum = more c in
            let zero_sum : net_by c ss flow ≡ pos 0 = omega (arith, ints, own, sum, net_c) in
            subst (λ (j : ℕ). net_by (node_at t j) ss flow ≡ pos 0) (sym same) zero_sum
        | inr bi ↦
            let q : IsBranch ss held t.order i e = whole.trees.branch i e place up in
            let n : ℕ = node_at t b in
            let nc : n ≢ c = λ same. whole.trees.once i b (omega (arith, le, bi)) lt (sym same) in
            let np : p ≢ n = λ same. whole.trees.once q.place b (omega (arith, q.before, le)) lt (q.parent ∙ same) in
            let was = before.even b k (omega (arith, le, bi)) lt up_b in
            let share = share_parent c n s a q.touch nc in
            let nothing = comes_none p n a np in
            let sum = more n in
            omega (arith, ints, was, share, nothing, sum)
      ];
      home = home;
      below = below;
    }

pub settle_more : (nodes : ℕ) (ss : List Stream) (held : List Bool) (off : List ℤ) (t : RootedTrees) (i : ℕ) (out : List ℤ) → AreWhole nodes ss held t → length held ≡ length ss
    → length ss ≤ most_streams → All IsGivenFlow off → All (IsStream nodes) ss → i < length t.order
    → AreBalancedFrom ss held off t (i + 1) out → AreBalancedFrom ss held off t i (settled ss t (node_at t i) (up_of t (node_at t i)) out)
settle_more nodes ss held off t i out whole marks few small joins place before =
    elim (up_of t (node_at t i)) as (λ o. up_of t (node_at t i) ≡ o → AreBalancedFrom ss held off t i (settled ss t (node_at t i) o out)) [
      | None ↦ λ root. settle_root nodes ss held off t i out root before
      | Some e ↦ λ up. settle_branch nodes ss held off t i e out whole marks few small joins place up before
    ] refl

-- ---- all nodes are balanced
net_is : (n : ℕ) (ss : List Stream) (xs : List ℤ) → length xs ≡ length ss → net_of n ss xs ≡ net_by n ss (item xs)
net_is n [] xs each = refl
net_is n (s ∷ ss) [] each = absurd (omega (arith, each))
net_is n (s ∷ ss) (x ∷ xs) each =
    ap (λ (z : ℤ). brought_to n s x +ℤ z) (net_is n ss xs (omega (arith, each)))
    ∙ sym (sum_first (λ k. brought_to n (get_or (s ∷ ss) k some_stream) (item (x ∷ xs) k)) (length ss))

-- the price of a root for each node of its tree
abbrev root_price : (ℕ → ℤ) → Option ℕ → ℤ
root_price p None = pos 0
root_price p (Some r) = p r

pub settled_balance : (g : ProcessGraph) (held : List Bool) (off : List ℤ) (t : RootedTrees) (out : List ℤ) → IsProcessGraph g → IsForest g.streams held
    → AreWhole g.nodes g.streams held t → AreBalancedFrom g.streams held off t 0 out → IsBalanced g out
settled_balance g held off t out graph forest whole end =
    let ss = g.streams in
    let net : (n : ℕ) → net_of n ss out ≡ net_by n ss end.flow = λ n.
    net_is n ss out end.each ∙ sum_below-same (λ k. brought_to n (get_or ss k some_stream) (item out k)) (λ k. brought_to n (get_or ss k some_stream) (end.flow k)) (length ss) (λ k lt.
    ap (brought_to n (get_or ss k some_stream)) (sym (end.decided k lt (λ b less. absurd (omega (arith, less)))))) in
    let even : (n k : ℕ) → up_of t n ≡ Some k → net_of n ss out ≡ pos 0 = λ n k up.
    let a = branch_of g.nodes ss held t n k whole up in
    net n ∙ ap (λ (m : ℕ). net_by m ss end.flow) (sym a.is) ∙ end.even a.place k (omega arith) a.within (ap (up_of t) a.is ∙ up) in
    record {
      each = end.each;
      even = λ n lt.
          let p : ℕ → ℤ = λ m. cond (m == n) (pos 1) (pos 0) in
          let q : ℕ → ℤ = λ m. root_price p (root_of t m) in
          let level : priced_streams q ss out ≡ pos 0 =
          priced_level q ss out (level_all ss held q forest (λ k s at h. ap (root_price p) (sym (whole.level k s at h)))) in
          let same : priced_nodes p g out ≡ priced_nodes q g out =
          sum_below-same (λ m. p m *ℤ net_of m ss out) (λ m. q m *ℤ net_of m ss out) g.nodes (λ m less.
          elim (up_of t m) as (λ o. up_of t m ≡ o → p m *ℤ net_of m ss out ≡ q m *ℤ net_of m ss out) [
            | Some k ↦ λ up. ap (λ (z : ℤ). p m *ℤ z) (even m k up) ∙ mul_zero (p m) ∙ sym (mul_zero (q m)) ∙ ap (λ (z : ℤ). q m *ℤ z) (sym (even m k up))
            | None ↦ λ root.
                let (r, found) = whole.all m less in
                let is : q m ≡ p m = ap (root_price p) found ∙ ap p (whole.trees.top m r found root) in
                ap (λ (z : ℤ). z *ℤ net_of m ss out) (sym is)
          ] refl) in
          let one : priced_nodes p g out ≡ p n *ℤ net_of n ss out =
          sum_below-single (λ m. p m *ℤ net_of m ss out) g.nodes n lt (λ k less other. rw (ne_eqb k n other) (zero_mul (net_of k ss out))) in
          let own : p n *ℤ net_of n ss out ≡ net_of n ss out = rw (eq-eqb n n refl) (one_mul (net_of n ss out)) in
          sym own ∙ sym one ∙ same ∙ priced_sums g q out graph ∙ level;
    }
