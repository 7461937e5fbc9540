-- The groups that labels, numbers and variances make.
use Rattle.std.proofs.Common.{◌≡◌, ◌∙◌, ◌==◌, ℕ, ◌<◌, ◌≤◌, ℤ, pos, ◌≤ℤ◌, Bool, true, false, not, List, length, get_or, unsigned_abs, ap, sym, subst, arith}
use Rattle.std.specs.Prelude.{◌&&◌, int_lt, IsTrue}
use Rattle.std.proofs.lemmas.Int.{ints}
use Rattle.std.proofs.lemmas.List.{get_or_default, take_all}
use Rattle.pb_graph.specs.ProcessGraph.{ProcessGraph, IsProcessGraph}
use Rattle.pb_graph.specs.Groups.{group_at, group_count, is_free_group, AreGroups}
use Rattle.pb_graph.specs.Walk.{unmeasured}
use Rattle.pb_graph.specs.Parts.{IsLabelling}
use Rattle.pb_graph.specs.Numbers.{AreNumbered}
use Rattle.pb_graph.specs.Variance.{group_variance, most_group_variance}
use Rattle.pb_graph.specs.Grouping.{Grouping, IsGrouping, AreGroupsOf}
use Rattle.pb_graph.proofs.GroupLemmas.{count_is, groups_are, least_are, number_below}
use Rattle.pb_graph.proofs.FreeLemmas.{crossings_add, free_is, free_means, variance_nonneg}
use Rattle.pb_graph.proofs.VarianceLemmas.{variance_room}

-- how the parts were made
pub record IsMade (g : ProcessGraph) (labels : List ℕ) (gs : Grouping) : Type 0 where
  pub limits : IsProcessGraph g
  pub labelled : IsLabelling g.streams g.nodes unmeasured labels
  pub numbers : AreNumbered labels g.nodes gs.group gs.least
  pub variances : length gs.variance ≡ length gs.least
  pub variance : (k : ℕ) → k < length gs.least → get_or gs.variance k (pos 0) ≡ group_variance gs.group k g.streams
  pub frees : length gs.free ≡ length gs.variance
  pub free : (k : ℕ) → k < length gs.variance → get_or gs.free k false ≡ (not (0 == k) && int_lt (pos 0) (get_or gs.variance k (pos 0)))

range_from : (x : ℤ) → pos 0 ≤ℤ x → unsigned_abs x ≤ most_group_variance → (pos 0 ≤ℤ x) × (x ≤ℤ pos most_group_variance)
range_from x low high = (low, omega (arith, ints, low, high))

variance_range : (g : ProcessGraph) (group : List ℕ) (k : ℕ) → AreGroups g group → IsProcessGraph g
    → (pos 0 ≤ℤ group_variance group k g.streams) × (group_variance group k g.streams ≤ℤ pos most_group_variance)
variance_range g group k h limits =
    let whole = variance_room group k (length g.streams) g.streams limits.limits limits.few_streams in
    let all = take_all (length g.streams) g.streams (omega arith) in
    range_from (group_variance group k g.streams)
    (variance_nonneg group k g.streams (crossings_add g group k h limits.joins limits.limits))
    (subst (λ ss. unsigned_abs (group_variance group k ss) ≤ most_group_variance) all whole)

pub made_groups : (g : ProcessGraph) (labels : List ℕ) (gs : Grouping) → IsMade g labels gs → AreGroupsOf g gs
made_groups g labels gs h =
    let groups = groups_are g labels gs.group gs.least h.labelled h.numbers in
    let count = count_is labels g.nodes gs.group gs.least h.numbers in
    let is_free : (k : ℕ) → k < group_count gs.group → get_or gs.free k false ≡ is_free_group gs.group g.streams k = λ k lt.
    h.free k (omega (arith, h.variances, count, lt))
    ∙ ap (λ (v : ℤ). not (0 == k) && int_lt (pos 0) v) (h.variance k (omega (arith, count, lt)))
    ∙ sym (free_is g gs.group k groups h.limits.env h.limits.joins h.limits.limits) in
    record {
      groups = groups;
      least = λ k lt. least_are g labels gs.group gs.least h.labelled h.numbers k (omega (arith, count, lt));
      free = λ n lt.
          let within = number_below gs.group n (omega (arith, groups.each, lt)) in
          let is = is_free (group_at gs.group n) within in
          let means = free_means g gs.group n groups h.limits.env h.limits.joins lt in
          ((λ t. means.0 (sym is ∙ true_is (get_or gs.free (group_at gs.group n) false) t)), (λ f. is_true (get_or gs.free (group_at gs.group n) false) (is ∙ means.1 f)));
      variance = λ k lt. h.variance k (omega (arith, count, lt));
    }
  where
    true_is : (b : Bool) → IsTrue b → b ≡ true
    true_is b t = t

    is_true : (b : Bool) → b ≡ true → IsTrue b
    is_true b t = t

pub made_grouping : (g : ProcessGraph) (labels : List ℕ) (gs : Grouping) → IsMade g labels gs → IsGrouping gs
made_grouping g labels gs h =
    let groups = groups_are g labels gs.group gs.least h.labelled h.numbers in
    let count = count_is labels g.nodes gs.group gs.least h.numbers in
    record {
      few = omega (arith, count, h.numbers.few, h.limits.few_nodes);
      each_least = omega (arith, count);
      each_free = omega (arith, h.frees, h.variances, count);
      each_variance = omega (arith, h.variances, count);
      range = λ k d lt.
          let is = get_or_default gs.variance k d (pos 0) lt ∙ h.variance k (omega (arith, h.variances, lt)) in
          subst (λ v. (pos 0 ≤ℤ v) × (v ≤ℤ pos most_group_variance)) (sym is) (variance_range g gs.group k groups h.limits);
    }
