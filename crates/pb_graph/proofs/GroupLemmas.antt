-- The numbers are those of the groups.
use Rattle.std.proofs.Common.{◌≡◌, ◌∙◌, ℕ, zero, suc, ◌+◌, ◌-◌, ◌<◌, ◌≤◌, List, [], ◌∷◌, length, ap, sym, subst, inl, inr, arith}
use Rattle.std.proofs.lemmas.Bool.{cases_lt}
use Rattle.std.proofs.Math.Nat.{le-max_left, le-max_right, max-le}
use Rattle.pb_graph.specs.ProcessGraph.{ProcessGraph}
use Rattle.pb_graph.specs.Walk.{unmeasured}
use Rattle.pb_graph.specs.Groups.{SameGroup, AreGroups, group_at, group_count}
use Rattle.pb_graph.specs.Parts.{IsLabelling, label_at}
use Rattle.pb_graph.proofs.PartLemmas.{label_low, labels_kept}
use Rattle.pb_graph.specs.Numbers.{AreNumbered}
use Rattle.pb_graph.specs.Grouping.{IsLeastNode, least_at}
use Rattle.pb_graph.proofs.SameGroupLemmas.{same_sym, same_trans}

-- a number is below the count
pub number_below : (group : List ℕ) (n : ℕ) → n < length group → group_at group n < group_count group
number_below [] n lt = absurd (omega (arith, lt))
number_below (k ∷ ks) zero lt = let m = le-max_left (k + 1) (group_count ks) in omega (arith, m)
number_below (k ∷ ks) (suc n) lt = let m = le-max_right (k + 1) (group_count ks) in let h = number_below ks n (omega (arith, lt)) in omega (arith, m, h)

pub count_le : (group : List ℕ) (most : ℕ) → ((n : ℕ) → n < length group → group_at group n < most) → group_count group ≤ most
count_le [] most h = omega arith
count_le (k ∷ ks) most h = max-le (let first = h 0 (omega arith) in omega (arith, first)) (count_le ks most (λ n lt. h (suc n) (omega (arith, lt))))

-- there are as many groups as least nodes
pub count_is : (labels : List ℕ) (n : ℕ) (group least : List ℕ) → AreNumbered labels n group least → group_count group ≡ length least
count_is labels n group least h =
    let most = count_le group (length least) (λ a lt. h.below a (omega (arith, h.each, lt))) in
    elim (cases_lt 0 (length least)) [
      | inl some ↦
          let k = length least - 1 in
          let within : k < length least = omega (arith, some) in
          let before = h.before k within in
          let last = number_below group (least_at least k) (omega (arith, h.each, before)) in
          let is = h.member k within in
          omega (arith, most, last, is, some)
      | inr none ↦ omega (arith, most, none)
    ]

-- the numbers are those of the groups
pub groups_are : (g : ProcessGraph) (labels group least : List ℕ) → IsLabelling g.streams g.nodes unmeasured labels → AreNumbered labels g.nodes group least → AreGroups g group
groups_are g labels group least r h = record {
  each = h.each;
  same = λ a b a_lt b_lt. (
    (λ e.
        let one : label_at labels a ≡ label_at labels b = sym (h.label a a_lt) ∙ ap (least_at least) e ∙ h.label b b_lt in
        same_trans g.streams a (label_at labels a) b (r.reached a a_lt)
        (subst (λ (x : ℕ). SameGroup g.streams x b) (sym one) (same_sym g.streams b (label_at labels b) (r.reached b b_lt)))),
    (λ same. by_label a a_lt ∙ ap (group_at group) (labels_kept g.streams g.nodes unmeasured labels a b a_lt b_lt r same) ∙ sym (by_label b b_lt)),
  );
  numbered = λ n k lt below.
      let mine = h.below n lt in
      let rises = h.rising k (group_at group n) below mine in
      let is = h.label n lt in
      let low = label_low g.streams g.nodes unmeasured labels n lt r in
      (least_at least k, omega (arith, rises, is, low), h.member k (omega (arith, below, mine)));
}
  where
    by_label : (a : ℕ) → a < g.nodes → group_at group a ≡ group_at group (label_at labels a)
    by_label a lt = sym (h.member (group_at group a) (h.below a lt)) ∙ ap (group_at group) (h.label a lt)

-- the least nodes are least
pub least_are : (g : ProcessGraph) (labels group least : List ℕ) → IsLabelling g.streams g.nodes unmeasured labels → AreNumbered labels g.nodes group least → (k : ℕ) → k < length least
    → IsLeastNode group k (least_at least k)
least_are g labels group least r h k lt = record {
  node = let b = h.before k lt in omega (arith, b, h.each);
  member = h.member k lt;
  first = λ m before e.
      let b = h.before k lt in
      let m_lt : m < g.nodes = omega (arith, before, b) in
      let is = h.label m m_lt in
      let low = label_low g.streams g.nodes unmeasured labels m m_lt r in
      let same = ap (least_at least) e in
      absurd (omega (arith, before, is, low, same));
}
