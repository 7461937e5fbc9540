-- A graph has only one list of group numbers, in the order of least nodes.
use Rattle.std.proofs.Common.{◌≡◌, ◌∙◌, ℕ, zero, suc, ◌+◌, ◌-◌, ◌<◌, ◌≤◌, List, [], ◌∷◌, length, true, ℤ, pos, ◌<ℤ◌, sym, inl, inr, arith}
use Rattle.std.specs.Prelude.{int_lt}
use Rattle.std.specs.List.{All}
use Rattle.std.proofs.lemmas.Bool.{cases_eq, cases_lt}
use Rattle.std.proofs.lemmas.Int.{ints}
use Rattle.std.proofs.lemmas.List.{ext_get_or, get_or_default}
use Rattle.pb_graph.specs.ProcessGraph.{ProcessGraph, IsStream}
use Rattle.pb_graph.specs.Groups.{AreGroups, group_at, group_count}
use Rattle.pb_graph.specs.GroupLaws.{FreeLaw, CrossingLaw, NumberingLaw}
use Rattle.pb_graph.specs.Variance.{group_variance}
use Rattle.pb_graph.proofs.SameGroupLemmas.{all_at}
use Rattle.pb_graph.proofs.FreeLemmas.{first_number, crossing_measured, crossings_add, crossed_is, free_means}
use Rattle.pb_graph.proofs.GroupLemmas.{count_le, number_below}

-- the number of a node's group is at most the node
number_le : (g : ProcessGraph) (group : List ℕ) → AreGroups g group → (most n : ℕ) → n ≤ most → n < g.nodes → group_at group n ≤ n
number_le g group h zero n le lt = elim (cases_lt 0 (group_at group n)) [
  | inl some ↦ let (m, before, is) = h.numbered n 0 lt some in absurd (omega (arith, before, le))
  | inr none ↦ omega (arith, none)
]
number_le g group h (suc most) n le lt = elim (cases_lt 0 (group_at group n)) [
  | inl some ↦
      let (m, before, is) = h.numbered n (group_at group n - 1) lt (omega (arith, some)) in
      let below = number_le g group h most m (omega (arith, before, le)) (omega (arith, before, lt)) in
      omega (arith, some, before, is, below)
  | inr none ↦ omega (arith, none)
]

pub numbers_few : (g : ProcessGraph) (group : List ℕ) → AreGroups g group → All (λ k. k < g.nodes) group
numbers_few g group h j d lt =
    let n_lt : j < g.nodes = omega (arith, lt, h.each) in
    let le = number_le g group h j j (omega arith) n_lt in
    let is = get_or_default group j d 0 lt in
    omega (arith, le, is, n_lt)

pub numbers_below : (group : List ℕ) → All (λ k. k < group_count group) group
numbers_below group j d lt = let is = get_or_default group j d 0 lt in let below = number_below group j lt in omega (arith, is, below)

pub count_few : (g : ProcessGraph) (group : List ℕ) → AreGroups g group → group_count group ≤ g.nodes
count_few g group h = count_le group g.nodes (λ n lt. numbers_few g group h n 0 lt)

-- the greatest number is the number of a node, and so is each number below the count
last_node : (group : List ℕ) → 0 < group_count group → (n : ℕ) × (n < length group) × (group_at group n + 1 ≡ group_count group)
last_node [] some = absurd (omega (arith, some))
last_node (k ∷ ks) some = elim (cases_lt (k + 1) (group_count ks)) [
  | inl less ↦ let (n, lt, is) = last_node ks (omega (arith, less)) in (suc n, omega (arith, lt), omega (arith, is, less))
  | inr more ↦ (0, omega arith, omega (arith, more))
]

pub number_node : (g : ProcessGraph) (group : List ℕ) (k : ℕ) → AreGroups g group → k < group_count group → (n : ℕ) × (n < g.nodes) × (group_at group n ≡ k)
number_node g group k h lt =
    let (n, within, is) = last_node group (omega (arith, lt)) in
    let n_lt : n < g.nodes = omega (arith, within, h.each) in
    elim (cases_eq (group_at group n) k) [
      | inl e ↦ (n, n_lt, e)
      | inr ne ↦ let (m, before, m_is) = h.numbered n k n_lt (omega (arith, lt, is, ne)) in (m, omega (arith, before, n_lt), m_is)
    ]

-- if two lists number the nodes before n alike, n doesn't have a lesser number in the first
not_less : (g : ProcessGraph) (group other : List ℕ) → AreGroups g group → AreGroups g other → (n : ℕ) → n < g.nodes
    → ((m : ℕ) → m < n → group_at group m ≡ group_at other m) → group_at group n < group_at other n → ⊥
not_less g group other h o n lt before less =
    let (m, m_lt, is) = o.numbered n (group_at group n) lt less in
    let m_in : m < g.nodes = omega (arith, m_lt, lt) in
    let same = (h.same m n m_in lt).0 (before m m_lt ∙ is) in
    let e = (o.same m n m_in lt).1 same in
    omega (arith, is, e, less)

alike : (g : ProcessGraph) (group other : List ℕ) → AreGroups g group → AreGroups g other → (most n : ℕ) → n < most → n < g.nodes → group_at group n ≡ group_at other n
alike g group other h o zero n below lt = absurd (omega (arith, below))
alike g group other h o (suc most) n below lt =
    let before = λ (m : ℕ) (m_lt : m < n). alike g group other h o most m (omega (arith, m_lt, below)) (omega (arith, m_lt, lt)) in
    elim (cases_lt (group_at group n) (group_at other n)) [
      | inl less ↦ absurd (not_less g group other h o n lt before less)
      | inr ge ↦ elim (cases_lt (group_at other n) (group_at group n)) [
        | inl less ↦ absurd (not_less g other group o h n lt (λ m m_lt. sym (before m m_lt)) less)
        | inr le ↦ omega (arith, ge, le)
      ]
    ]

pub numbering_law : NumberingLaw
numbering_law = record {
  one = λ g group other h o. ext_get_or 0 group other (h.each ∙ sym o.each) (λ n lt. alike g group other h o (n + 1) n (omega arith) (omega (arith, lt, h.each)));
  order = λ g group j k a b h first second lt.
      elim (cases_lt j k) [
        | inl less ↦ less
        | inr ge ↦ elim (cases_eq j k) [
          | inl e ↦ absurd (second.first a lt (first.member ∙ e))
          | inr ne ↦
              let a_lt : a < g.nodes = omega (arith, first.node, h.each) in
              let (m, before, is) = h.numbered a k a_lt (omega (arith, first.member, ge, ne)) in
              absurd (second.first m (omega (arith, before, lt)) is)
        ]
      ];
  all = λ g group h. record {
    exactly = λ k. (
      (λ lt. number_node g group k h lt),
      (λ (n, lt, is). let below = number_below group n (omega (arith, lt, h.each)) in omega (arith, below, is)),
    );
    few = count_few g group h;
    env = λ is. first_number g group h is.env;
  };
}

pub free_law : FreeLaw
free_law g group n limits h lt = free_means g group n h limits.env limits.joins lt

pub crossing_law : CrossingLaw
crossing_law g group k limits h = record {
  measured = λ j s at one. crossing_measured g group k j s h (all_at (IsStream g.nodes) g.streams j s limits.joins at) at one;
  varied =
      let is = crossed_is group k g.streams (crossings_add g group k h limits.joins limits.limits) in
      let variance = group_variance group k g.streams in
      ((λ any. positive variance (sym is ∙ any)), (λ above. is ∙ more variance above));
}
  where
    positive : (x : ℤ) → int_lt (pos 0) x ≡ true → pos 0 <ℤ x
    positive x h = grind (arith, ints, h)

    more : (x : ℤ) → pos 0 <ℤ x → int_lt (pos 0) x ≡ true
    more x h = grind (arith, ints, h)
