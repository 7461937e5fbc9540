-- What the nodal tests of a graph are of.
use Rattle.std.proofs.Common.{◌≡◌, ◌≢◌, ◌∙◌, refl, ℕ, zero, suc, ◌<◌, ◌≤◌, ℤ, Bool, true, false, List, [], ◌∷◌, ◌++◌, length, All, Option, sym, ap, subst, inl, inr, arith}
use Rattle.std.specs.Prelude.{if◌then◌else◌}
use Rattle.std.specs.List.{Any}
use Rattle.std.proofs.lemmas.Bool.{cases_Bool, cases_eq, cases_lt, eq-eqb, ne_eqb}
use Rattle.std.proofs.lemmas.List.{append-nil, get_or_append_left, get_or_push, length_push}
use Rattle.std.proofs.lemmas.List.Quantifiers.{Any-push}
use Rattle.pb_study.specs.declared.results.NodalTest.{NodalTest}
use Rattle.pb_graph.specs.ProcessGraph.{ProcessGraph, IsProcessGraph}
use Rattle.pb_graph.specs.Groups.{AreGroups, SameGroup, group_at, group_count, is_free_group}
use Rattle.pb_graph.specs.Grouping.{IsLeastNode}
use Rattle.pb_graph.proofs.GroupLaws.{free_law, number_below, number_node}
use Rattle.pb_stage.specs.Nodal.{least_node, nodal_test, nodal_tests_below}
use Rattle.pb_stage.specs.Laws.{IsOfFreeGroup, FreeGroupsLaw}

-- ---- the least node of a group is its first
abbrev pick : ℕ → List ℕ → Bool → ℕ
pick k group here = if here then 0 else suc (least_node k group)

first_now : (number : ℕ) (group : List ℕ) (k : ℕ) → number ≡ k → IsLeastNode (number ∷ group) k (least_node k (number ∷ group))
first_now number group k same =
    subst (IsLeastNode (number ∷ group) k) (sym (ap (pick k group) (eq-eqb number k same)))
    (record { node = omega arith; member = same; first = λ m below. absurd (omega (arith, below)) })

first_later : (number : ℕ) (group : List ℕ) (k j : ℕ) → number ≢ k → IsLeastNode group k j → IsLeastNode (number ∷ group) k (suc j)
first_later number group k j other rest = record { node = omega (arith, rest.node); member = rest.member; first = before }
  where
    before : (m : ℕ) → m < suc j → group_at (number ∷ group) m ≢ k
    before zero below = other
    before (suc m) below = rest.first m (omega (arith, below))

least_node_first : (group : List ℕ) (k n : ℕ) → n < length group → group_at group n ≡ k → IsLeastNode group k (least_node k group)
least_node_first [] k n lt is = absurd (omega (arith, lt))
least_node_first (number ∷ group) k zero lt is = first_now number group k is
least_node_first (number ∷ group) k (suc n) lt is = elim (cases_eq number k) [
  | inl same ↦ first_now number group k same
  | inr other ↦
      subst (IsLeastNode (number ∷ group) k) (sym (ap (pick k group) (ne_eqb number k other)))
      (first_later number group k (least_node k group) other (least_node_first group k n (omega (arith, lt)) is))
]

-- ---- lists
all_more : {A : Type 0} (P : A → Type 0) (xs : List A) (x : A) → All P xs → P x → All P (xs ++ x ∷ [])
all_more P xs x all here = λ k d lt. elim (cases_lt k (length xs)) [
  | inl less ↦ subst P (sym (get_or_append_left xs (x ∷ []) d k less)) (all k d less)
  | inr more ↦ subst P (sym (get_or_push xs x d k (omega (arith, more, lt, length_push xs x)))) here
]

any_more : {A : Type 0} (P : A → Type 0) (xs : List A) (y : A) → Any P xs → Any P (xs ++ y ∷ [])
any_more P xs y any =
    let (k, x, lt, is, p) = any in
    (k, x, omega (arith, lt, length_push xs y), get_or_append_left xs (y ∷ []) x k lt ∙ is, p)

-- ---- the tests of the groups below a number
record AreTestsBelow (g : ProcessGraph) (group : List ℕ) (k : ℕ) (tests : List NodalTest) : Type 0 where
  each : All (IsOfFreeGroup g) tests
  every : (j : ℕ) → j < k → is_free_group group g.streams j ≡ true → Any (λ (t : NodalTest). t.node ≡ least_node j group) tests

of_group : (g : ProcessGraph) (group : List ℕ) (critical : Option ℤ) (k : ℕ) → IsProcessGraph g → AreGroups g group → k < group_count group
    → is_free_group group g.streams k ≡ true → IsOfFreeGroup g (nodal_test group g.streams critical k)
of_group g group critical k limits groups lt free =
    let (n, within, is) = number_node g group k groups lt in
    let first = least_node_first group k n (omega (arith, within, groups.each)) is in
    let node : least_node k group < g.nodes = omega (arith, first.node, groups.each) in
    record {
      node = node;
      free = (free_law g group (least_node k group) limits groups node).0 (subst (λ (i : ℕ). is_free_group group g.streams i ≡ true) (sym first.member) free);
      least = λ m below same. first.first m below ((groups.same m (least_node k group) (omega (arith, below, node)) node).1 same ∙ first.member);
    }

one_more : (g : ProcessGraph) (group : List ℕ) (critical : Option ℤ) (k : ℕ) → IsProcessGraph g → AreGroups g group → k < group_count group
    → is_free_group group g.streams k ≡ true → (before : List NodalTest) → AreTestsBelow g group k before
    → AreTestsBelow g group (suc k) (before ++ nodal_test group g.streams critical k ∷ [])
one_more g group critical k limits groups lt free before are =
    let test = nodal_test group g.streams critical k in
    record {
      each = all_more (IsOfFreeGroup g) before test are.each (of_group g group critical k limits groups lt free);
      every = λ j below said. elim (cases_lt j k) [
        | inl less ↦ any_more (λ (t : NodalTest). t.node ≡ least_node j group) before test (are.every j less said)
        | inr more ↦
            let same : k ≡ j = omega (arith, more, below) in
            Any-push (λ (t : NodalTest). t.node ≡ least_node j group) before test (ap (λ (i : ℕ). least_node i group) same)
      ];
    }

no_more : (g : ProcessGraph) (group : List ℕ) (k : ℕ) → is_free_group group g.streams k ≡ false → (before : List NodalTest) → AreTestsBelow g group k before
    → AreTestsBelow g group (suc k) before
no_more g group k bound before are = record {
  each = are.each;
  every = λ j below said. elim (cases_lt j k) [
    | inl less ↦ are.every j less said
    | inr more ↦
        let same : j ≡ k = omega (arith, more, below) in
        let no : true ≡ false = sym said ∙ ap (is_free_group group g.streams) same ∙ bound in
        cc no
  ];
}

tests_below : (g : ProcessGraph) (group : List ℕ) (critical : Option ℤ) (k : ℕ) → IsProcessGraph g → AreGroups g group → k ≤ group_count group
    → AreTestsBelow g group k (nodal_tests_below group g.streams critical k)
tests_below g group critical zero limits groups le = record {
  each = λ i d lt. absurd (omega (arith, lt));
  every = λ j lt. absurd (omega (arith, lt));
}
tests_below g group critical (suc k) limits groups le =
    let before = nodal_tests_below group g.streams critical k in
    let are = tests_below g group critical k limits groups (omega (arith, le)) in
    let test = nodal_test group g.streams critical k in
    elim (cases_Bool (is_free_group group g.streams k)) [
      | inl free ↦
          subst (AreTestsBelow g group (suc k)) (sym (ap (λ (b : Bool). before ++ (if b then test ∷ [] else [])) free))
          (one_more g group critical k limits groups (omega (arith, le)) free before are)
      | inr bound ↦
          subst (AreTestsBelow g group (suc k)) (sym (ap (λ (b : Bool). before ++ (if b then test ∷ [] else [])) bound ∙ append-nil before))
          (no_more g group k bound before are)
    ]

pub free_groups : FreeGroupsLaw
free_groups g critical tests limits are =
    let group = are.group in
    let below = tests_below g group critical (group_count group) limits are.groups (omega arith) in
    let whole = subst (AreTestsBelow g group (group_count group)) (sym are.tested) below in
    record {
      each = whole.each;
      every = λ n lt free.
          let k = group_at group n in
          let here : n < length group = omega (arith, lt, are.groups.each) in
          let (i, test, within, is, named) = whole.every k (number_below group n here) ((free_law g group n limits are.groups lt).1 free) in
          let first = least_node_first group k n here refl in
          let node : least_node k group < g.nodes = omega (arith, first.node, are.groups.each) in
          let same : SameGroup g.streams (least_node k group) n = (are.groups.same (least_node k group) n node lt).0 first.member in
          (i, test, within, is, subst (λ (m : ℕ). SameGroup g.streams m n) (sym named) same);
    }
