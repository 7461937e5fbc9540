-- The nodal tests of groups, by what is kept of them.
use Rattle.std.proofs.Common.{◌≡◌, ◌∙◌, ◌↔◌, ℕ, zero, suc, ◌+◌, ◌*◌, ◌/◌, ◌<◌, ℤ, pos, negsuc, ◌+ℤ◌, ◌*ℤ◌, ◌≤ℤ◌, unsigned_abs, Bool, true, false, List, [], ◌∷◌, ◌++◌, length, drop, get_or, Option, refl, sym, ap, subst, inl, inr, arith}
use Rattle.std.specs.Prelude.{IsTrue, int_lt, nat_lt, if◌then◌else◌}
use Rattle.std.proofs.lemmas.Bool.{cases_lt, eq-eqb, le-ltb, lt-ltb, ne_eqb}
use Rattle.std.proofs.lemmas.Int.{ints}
use Rattle.std.proofs.lemmas.List.{append-nil}
use Rattle.pb_fixed.proofs.Lists.{drop_next}
use Rattle.pb_graph.specs.declared.records.Stream.{Stream}
use Rattle.pb_study.specs.declared.results.NodalTest.{NodalTest}
use Rattle.pb_graph.specs.ProcessGraph.{ProcessGraph, IsProcessGraph}
use Rattle.pb_graph.specs.Groups.{IsFreeGroup, group_count, is_free_group}
use Rattle.pb_graph.specs.Grouping.{AreGroupsOf, Grouping, IsLeastNode, least_at}
use Rattle.pb_graph.proofs.GroupLaws.{free_law}
use Rattle.pb_stage.specs.Nodal.{crossing_value, group_net, least_node, nodal_test, nodal_tests_below, test_of_group}

-- one more stream in the net flow of a group
pub net_more : (numbers : List ℕ) (k j : ℕ) (ss : List Stream) (s : Stream) → j < length ss
    → group_net numbers k (drop j ss) ≡ crossing_value numbers k (get_or ss j s) +ℤ group_net numbers k (drop (j + 1) ss)
net_more numbers k j ss s lt = ap (group_net numbers k) (drop_next ss j s lt)

-- one more part joins a running total
pub total_more : (total part rest more whole share : ℤ) → total +ℤ rest ≡ whole → rest ≡ share +ℤ more → part ≡ share → (total +ℤ part) +ℤ more ≡ whole
total_more total part rest more whole share so_far next is = omega (arith, ints, so_far, next, is)

-- ---- the least node
pub least_is : (group : List ℕ) (k n : ℕ) → IsLeastNode group k n → least_node k group ≡ n
least_is [] k n is = absurd (omega (arith, is.node))
least_is (number ∷ group) k zero is = ap (λ (b : Bool). if b then 0 else suc (least_node k group)) (eq-eqb number k is.member)
least_is (number ∷ group) k (suc n) is =
    ap (λ (b : Bool). if b then 0 else suc (least_node k group)) (ne_eqb number k (is.first 0 (omega arith)))
    ∙ ap suc (least_is group k n (record { node = omega (arith, is.node); member = is.member; first = λ m lt. is.first (suc m) (omega (arith, lt)) }))

pub least_node_is : (g : ProcessGraph) (grouping : Grouping) (k : ℕ) → AreGroupsOf g grouping → k < group_count grouping.group → least_at grouping.least k ≡ least_node k grouping.group
least_node_is g grouping k are lt = sym (least_is grouping.group k (least_at grouping.least k) (are.least k lt))

pub least_within : (g : ProcessGraph) (grouping : Grouping) (k : ℕ) → AreGroupsOf g grouping → k < group_count grouping.group → least_at grouping.least k < g.nodes
least_within g grouping k are lt = omega (arith, (are.least k lt).node, are.groups.each)

-- ---- free groups
same_bool : (a b : Bool) → (a ≡ true → b ≡ true) → (b ≡ true → a ≡ true) → a ≡ b
same_bool true true there back = refl
same_bool true false there back = cc (there refl)
same_bool false true there back = cc (back refl)
same_bool false false there back = refl

pub free_is : (g : ProcessGraph) (grouping : Grouping) (k : ℕ) → IsProcessGraph g → AreGroupsOf g grouping → k < group_count grouping.group
    → get_or grouping.free k false ≡ is_free_group grouping.group g.streams k
free_is g grouping k limits are lt =
    let least = are.least k lt in
    let n = least_at grouping.least k in
    let node : n < g.nodes = omega (arith, least.node, are.groups.each) in
    let kept : IsTrue (get_or grouping.free k false) ↔ IsFreeGroup g n = subst (λ (i : ℕ). IsTrue (get_or grouping.free i false) ↔ IsFreeGroup g n) least.member (are.free n node) in
    let said : (is_free_group grouping.group g.streams k ≡ true) ↔ IsFreeGroup g n =
    subst (λ (i : ℕ). (is_free_group grouping.group g.streams i ≡ true) ↔ IsFreeGroup g n) least.member (free_law g grouping.group n limits are.groups node) in
    same_bool (get_or grouping.free k false) (is_free_group grouping.group g.streams k) (λ is. said.1 (kept.0 is)) (λ is. kept.1 (said.0 is))

-- ---- one more group
below_next : (group : List ℕ) (ss : List Stream) (critical : Option ℤ) (k : ℕ)
    → nodal_tests_below group ss critical (k + 1) ≡ nodal_tests_below group ss critical k ++ test_of_group group ss critical k
below_next group ss critical k = let next : k + 1 ≡ suc k = omega arith in ap (nodal_tests_below group ss critical) next

pub taken_more : (group : List ℕ) (ss : List Stream) (critical : Option ℤ) (k : ℕ) (tests : List NodalTest) (test : NodalTest) → is_free_group group ss k ≡ true
    → tests ≡ nodal_tests_below group ss critical k → test ≡ nodal_test group ss critical k → tests ++ test ∷ [] ≡ nodal_tests_below group ss critical (k + 1)
taken_more group ss critical k tests test free so_far is =
    (λ i. so_far i ++ is i ∷ [])
    ∙ ap (λ (b : Bool). nodal_tests_below group ss critical k ++ (if b then nodal_test group ss critical k ∷ [] else [])) (sym free)
    ∙ sym (below_next group ss critical k)

pub left_out : (group : List ℕ) (ss : List Stream) (critical : Option ℤ) (k : ℕ) (tests : List NodalTest) → is_free_group group ss k ≡ false
    → tests ≡ nodal_tests_below group ss critical k → tests ≡ nodal_tests_below group ss critical (k + 1)
left_out group ss critical k tests bound so_far =
    so_far ∙ sym (append-nil (nodal_tests_below group ss critical k))
    ∙ ap (λ (b : Bool). nodal_tests_below group ss critical k ++ (if b then nodal_test group ss critical k ∷ [] else [])) (sym bound)
    ∙ sym (below_next group ss critical k)

-- ---- the verdict, without a product of three numbers
pub above_is : (x n : ℕ) → nat_lt (x / 1000) n ≡ nat_lt x (1000 * n)
above_is x n = elim (cases_lt (x / 1000) n) [
  | inl less ↦ lt-ltb (x / 1000) n less ∙ sym (lt-ltb x (1000 * n) (omega (arith, less)))
  | inr most ↦ le-ltb (x / 1000) n most ∙ sym (le-ltb x (1000 * n) (omega (arith, most)))
]

pub above_abs : (critical variance net : ℤ) → pos 0 ≤ℤ critical → pos 0 ≤ℤ variance
    → int_lt (critical *ℤ variance) (pos 1000 *ℤ (net *ℤ net)) ≡ nat_lt (unsigned_abs critical * unsigned_abs variance) (1000 * (unsigned_abs net * unsigned_abs net))
above_abs (pos c) (pos v) (pos n) least positive = refl
above_abs (pos c) (pos v) (negsuc n) least positive = refl
above_abs (negsuc c) variance net least positive = absurd (omega (arith, ints, least))
above_abs (pos c) (negsuc v) net least positive = absurd (omega (arith, ints, positive))
