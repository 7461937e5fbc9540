-- The nodal tests of a graph are in order, and each free group has one.
use Rattle.std.proofs.Common.{◌≡◌, ◌≢◌, ◌∙◌, refl, ℕ, zero, suc, ◌<◌, ◌≤◌, ℤ, Bool, List, [], ◌∷◌, ◌++◌, length, get_or, All, Option, Some, sym, ap, subst, inl, inr, arith}
use Rattle.std.specs.Prelude.{if◌then◌else◌}
use Rattle.std.proofs.lemmas.Bool.{cases_Bool, cases_eq, cases_lt, eq-eqb, ne_eqb}
use Rattle.std.proofs.lemmas.List.{append-nil}
use Rattle.std.proofs.lemmas.List.Elements.{All-push}
use Rattle.std.proofs.lemmas.List.Quantifiers.{all_pairs_push}
use Rattle.std.proofs.lemmas.Option.{get_or_from_slice_get, slice_get-get_or, slice_get_within}
use Rattle.pb_study.specs.declared.results.NodalTest.{NodalTest}
use Rattle.pb_graph.specs.ProcessGraph.{ProcessGraph}
use Rattle.pb_graph.specs.Groups.{AreGroups, group_at, group_count, is_free_group}
use Rattle.pb_graph.specs.Grouping.{IsLeastNode}
use Rattle.pb_graph.proofs.GroupLaws.{number_node}
use Rattle.pb_stage.specs.Nodal.{AreNodalTests, least_node, nodal_test, nodal_tests_below}
use Rattle.pb_stage.specs.Laws.{AreOfFreeGroups, FreeGroupsLaw, IsOfFreeGroup}
use Rattle.pb_laws.specs.Nodal.{AreInOrder, IsTestOfGroup, NodalOrderLaw, OneTestLaw}

-- ---- the least nodes of groups are in order
abbrev pick : ℕ → List ℕ → Bool → ℕ
pick k group here = if here then 0 else suc (least_node k group)

first_later : (number : ℕ) (group : List ℕ) (k j : ℕ) → number ≢ k → IsLeastNode group k j → IsLeastNode (number ∷ group) k (suc j)
first_later number group k j other rest = record { node = omega (arith, rest.node); member = rest.member; first = before }
  where
    before : (m : ℕ) → m < suc j → group_at (number ∷ group) m ≢ k
    before zero below = other
    before (suc m) below = rest.first m (omega (arith, below))

first_now : (number : ℕ) (group : List ℕ) (k : ℕ) → number ≡ k → IsLeastNode (number ∷ group) k (least_node k (number ∷ group))
first_now number group k same =
    subst (IsLeastNode (number ∷ group) k) (sym (ap (pick k group) (eq-eqb number k same)))
    (record { node = omega arith; member = same; first = λ m below. absurd (omega (arith, below)) })

least_first : (group : List ℕ) (k n : ℕ) → n < length group → group_at group n ≡ k → IsLeastNode group k (least_node k group)
least_first [] k n lt is = absurd (omega (arith, lt))
least_first (number ∷ group) k zero lt is = first_now number group k is
least_first (number ∷ group) k (suc n) lt is = elim (cases_eq number k) [
  | inl same ↦ first_now number group k same
  | inr other ↦
      subst (IsLeastNode (number ∷ group) k) (sym (ap (pick k group) (ne_eqb number k other)))
      (first_later number group k (least_node k group) other (least_first group k n (omega (arith, lt)) is))
]

nodes_rise : (g : ProcessGraph) (group : List ℕ) (j k : ℕ) → AreGroups g group → j < k → k < group_count group → least_node j group < least_node k group
nodes_rise g group j k groups less lt =
    let (n, within, is) = number_node g group k groups lt in
    let first = least_first group k n (omega (arith, within, groups.each)) is in
    let node : least_node k group < g.nodes = omega (arith, first.node, groups.each) in
    let (m, before, named) = groups.numbered (least_node k group) j node (subst (λ (i : ℕ). j < i) (sym first.member) less) in
    let earlier = least_first group j m (omega (arith, before, first.node)) named in
    elim (cases_lt m (least_node j group)) [
      | inl below ↦ absurd (earlier.first m below named)
      | inr most ↦ omega (arith, most, before)
    ]

-- ---- the tests of the groups below a number
abbrev IsBelow : List ℕ → ℕ → NodalTest → Type 0
IsBelow group k test = (j : ℕ) × (j < k) × (test.node ≡ least_node j group)

record AreBelow (group : List ℕ) (k : ℕ) (tests : List NodalTest) : Type 0 where
  each : All (IsBelow group k) tests
  order : AreInOrder tests

lift : (group : List ℕ) (k : ℕ) (tests : List NodalTest) → All (IsBelow group k) tests → All (IsBelow group (suc k)) tests
lift group k tests all i d within = by (get_or tests i d) (all i d within)
  where
    by : (test : NodalTest) → IsBelow group k test → IsBelow group (suc k) test
    by test (j, less, named) = (j, omega (arith, less), named)

one_more : (g : ProcessGraph) (group : List ℕ) (k : ℕ) (test : NodalTest) (before : List NodalTest) → AreGroups g group → k < group_count group → test.node ≡ least_node k group
    → AreBelow group k before → AreBelow group (suc k) (before ++ test ∷ [])
one_more g group k test before groups lt is are = record {
  each = All-push (IsBelow group (suc k)) before test (lift group k before are.each) (k, omega arith, is);
  order = all_pairs_push (λ (earlier later : NodalTest). earlier.node < later.node) before test are.order (λ i d within. below (get_or before i d) (are.each i d within));
}
  where
    below : (earlier : NodalTest) → IsBelow group k earlier → earlier.node < test.node
    below earlier (j, less, named) =
        let rise = nodes_rise g group j k groups less lt in
        omega (arith, rise, named, is)

tests_below : (g : ProcessGraph) (group : List ℕ) (critical : Option ℤ) (k : ℕ) → AreGroups g group → k ≤ group_count group
    → AreBelow group k (nodal_tests_below group g.streams critical k)
tests_below g group critical zero groups le = record { each = λ i d lt. absurd (omega (arith, lt)); order = λ i j d less lt. absurd (omega (arith, lt)) }
tests_below g group critical (suc k) groups le =
    let before = nodal_tests_below group g.streams critical k in
    let are = tests_below g group critical k groups (omega (arith, le)) in
    let test = nodal_test group g.streams critical k in
    elim (cases_Bool (is_free_group group g.streams k)) [
      | inl free ↦
          subst (AreBelow group (suc k)) (sym (ap (λ (b : Bool). before ++ (if b then test ∷ [] else [])) free))
          (one_more g group k test before groups (omega (arith, le)) refl are)
      | inr bound ↦
          subst (AreBelow group (suc k)) (sym (ap (λ (b : Bool). before ++ (if b then test ∷ [] else [])) bound ∙ append-nil before))
          (record { each = lift group k before are.each; order = are.order })
    ]

pub in_order : NodalOrderLaw
in_order g critical tests are =
    let whole = tests_below g are.group critical (group_count are.group) are.groups (omega arith) in
    subst AreInOrder (sym are.tested) whole.order

-- ---- each free group has one
place_same : (g : ProcessGraph) (critical : Option ℤ) (tests : List NodalTest) (node i j : ℕ) → AreNodalTests g critical tests → AreOfFreeGroups g tests → node < g.nodes
    → IsTestOfGroup g tests node i → IsTestOfGroup g tests node j → i < j → ⊥
place_same g critical tests node i j are of_free lt one other less =
    let here : get_or tests i one.test ≡ one.test = get_or_from_slice_get tests i one.test one.test one.is in
    let there : get_or tests j one.test ≡ other.test = get_or_from_slice_get tests j other.test one.test other.is in
    let within : j < length tests = slice_get_within tests j other.test other.is in
    let first : IsOfFreeGroup g one.test = subst (IsOfFreeGroup g) here (of_free.each i one.test (omega (arith, less, within))) in
    let second : IsOfFreeGroup g other.test = subst (IsOfFreeGroup g) there (of_free.each j one.test within) in
    let below : one.test.node < other.test.node = rw (here, there) at (in_order g critical tests are i j one.test less within) in
    let number = (are.groups.same one.test.node node first.node lt).1 one.same ∙ sym ((are.groups.same other.test.node node second.node lt).1 other.same) in
    second.least one.test.node below ((are.groups.same one.test.node other.test.node first.node second.node).0 number)

pub one_test : FreeGroupsLaw → OneTestLaw
one_test law g critical tests node limits are lt free =
    let of_free = law g critical tests limits are in
    let (i, test, within, is, same) = of_free.every node lt free in
    let at : IsTestOfGroup g tests node i = record { test = test; is = slice_get-get_or tests i test within ∙ ap Some is; same = same } in
    record {
      place = i;
      is = at;
      only = λ j other. elim (cases_eq j i) [
        | inl equal ↦ equal
        | inr differs ↦ elim (cases_lt j i) [
          | inl less ↦ absurd (place_same g critical tests node j i are of_free lt other at less)
          | inr more ↦ absurd (place_same g critical tests node i j are of_free lt at other (omega (arith, more, differs)))
        ]
      ];
    }
