-- Each process graph has groups: unmeasured streams join each node to a least one, and so each node, one by one, has its number.
use Rattle.std.proofs.Common.{◌≡◌, ℕ, zero, suc, ◌+◌, ◌<◌, ◌≤◌, ◌⊎◌, List, [], ◌∷◌, ◌++◌, length, refl, sym, subst, inl, inr, arith}
use Rattle.std.proofs.lemmas.Bool.{cases_eq, cases_lt}
use Rattle.pb_graph.specs.declared.records.Stream.{Stream}
use Rattle.pb_graph.specs.Walk.{unmeasured, ends_of}
use Rattle.pb_graph.specs.Groups.{SameGroup, group_at}
use Rattle.pb_graph.specs.Parts.{IsLabelling, label_at}
use Rattle.pb_graph.proofs.WalkLemmas.{reach_none}
use Rattle.pb_graph.proofs.ReachLemmas.{reach_decided}
use Rattle.pb_graph.proofs.PartLemmas.{label_low, label_own}
use Rattle.pb_graph.specs.Numbers.{AreNumbered}
use Rattle.pb_graph.specs.GroupLaws.{SomeGroupsLaw}
use Rattle.pb_graph.proofs.NumberLemmas.{length_push, push_below, push_at, last_or, numbered_none, numbered_new, numbered_old}
use Rattle.pb_graph.proofs.GroupLemmas.{groups_are}

-- the least node of the group of node n
record IsLeast (ss : List Stream) (n m : ℕ) : Type 0 where
  reached : SameGroup ss n m
  least : (k : ℕ) → SameGroup ss n k → m ≤ k

none_below : (ss : List Stream) (n most : ℕ) → ((m : ℕ) × IsLeast ss n m) ⊎ ((k : ℕ) → k < most → SameGroup ss n k → ⊥)
none_below ss n zero = inr (λ k lt. absurd (omega (arith, lt)))
none_below ss n (suc most) = elim (none_below ss n most) [
  | inl found ↦ inl found
  | inr none ↦ elim (reach_decided ss unmeasured n most) [
    | inl r ↦ inl (
      most,
      record {
        reached = r;
        least = λ k joined. elim (cases_lt k most) [ inl lt ↦ absurd (none k lt joined) | inr ge ↦ ge ];
      },
    )
    | inr apart ↦ inr (λ k lt joined. elim (cases_eq k most) [
      | inl e ↦ apart (subst (λ (i : ℕ). SameGroup ss n i) e joined)
      | inr ne ↦ none k (omega (arith, lt, ne)) joined
    ])
  ]
]

some_least : (ss : List Stream) (n : ℕ) → (m : ℕ) × IsLeast ss n m
some_least ss n = elim (none_below ss n (n + 1)) [ inl found ↦ found | inr none ↦ absurd (none n (omega arith) (reach_none (ends_of unmeasured ss) n)) ]

-- the first nodes with their labels
record HasLabels (ss : List Stream) (nodes : ℕ) : Type 0 where
  labels : List ℕ
  each : length labels ≡ nodes
  least : (n : ℕ) → n < nodes → IsLeast ss n (label_at labels n)

some_labels : (ss : List Stream) (nodes : ℕ) → HasLabels ss nodes
some_labels ss zero = record { labels = []; each = refl; least = λ n lt. absurd (omega (arith, lt)) }
some_labels ss (suc nodes) =
    let less = some_labels ss nodes in
    let (label, is) = some_least ss nodes in
    record {
      labels = less.labels ++ label ∷ [];
      each = omega (arith, length_push less.labels label, less.each);
      least = λ n lt. last_or (λ n. IsLeast ss n (label_at (less.labels ++ label ∷ []) n)) nodes n (omega (arith, lt))
          (subst (λ (m : ℕ). IsLeast ss nodes m) (sym (push_at less.labels label nodes less.each)) is)
          (λ l. subst (λ (m : ℕ). IsLeast ss n m) (sym (push_below less.labels label n (omega (arith, l, less.each)))) (less.least n l));
    }

-- the first n nodes with their numbers
record HasNumbers (labels : List ℕ) (n : ℕ) : Type 0 where
  group : List ℕ
  least : List ℕ
  numbered : AreNumbered labels n group least

some_numbers : (nodes : ℕ) (ss : List Stream) (labels : List ℕ) (n : ℕ) → IsLabelling ss nodes unmeasured labels → n ≤ nodes → HasNumbers labels n
some_numbers nodes ss labels zero are le = record { group = []; least = []; numbered = numbered_none labels }
some_numbers nodes ss labels (suc n) are le =
    let so_far = some_numbers nodes ss labels n are (omega (arith, le)) in
    let group = so_far.group in
    let least = so_far.least in
    let next : n + 1 ≡ suc n = omega arith in
    let lt : n < nodes = omega (arith, le) in
    subst (HasNumbers labels) next (elim (cases_eq (label_at labels n) n) [
      | inl own ↦ record { group = group ++ length least ∷ []; least = least ++ n ∷ []; numbered = numbered_new labels n group least so_far.numbered own }
      | inr other ↦
          let low = label_low ss nodes unmeasured labels n lt are in
          record {
            group = group ++ group_at group (label_at labels n) ∷ [];
            least = least;
            numbered = numbered_old labels n group least so_far.numbered (omega (arith, low, other)) (label_own ss nodes unmeasured labels n lt are);
          }
    ])

pub some_groups_law : SomeGroupsLaw
some_groups_law graph is =
    let made = some_labels graph.streams graph.nodes in
    let are : IsLabelling graph.streams graph.nodes unmeasured made.labels =
    record { each = made.each; reached = λ n lt. (made.least n lt).reached; least = λ n m lt r. (made.least n lt).least m r } in
    let numbers = some_numbers graph.nodes graph.streams made.labels graph.nodes are (omega arith) in
    (numbers.group, groups_are graph made.labels numbers.group numbers.least are numbers.numbered)
