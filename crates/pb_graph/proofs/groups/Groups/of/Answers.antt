use Rattle.std.proofs.Common.{◌≡◌, ◌∙◌, ◌==◌, ◌<◌, ℕ, ℤ, pos, not, List, length, get_or, ap, ap₂, sym, subst, arith}
use Rattle.std.specs.Prelude.{◌&&◌, int_lt}
use Rattle.std.proofs.lemmas.List.{get_or_default}
use Rattle.pb_graph.specs.declared.records.Stream.{Stream}
use Rattle.pb_graph.specs.Walk.{unmeasured}
use Rattle.pb_graph.specs.Parts.{IsLabelling, label_at}
use Rattle.pb_graph.proofs.PartLemmas.{label_own}
use Rattle.pb_graph.specs.Numbers.{AreNumbered}
use Rattle.pb_graph.specs.Variance.{group_variance}
use Rattle.pb_graph.proofs.MadeLemmas.{IsMade, made_groups, made_grouping}
use Rattle.pb_graph.proofs.groups.Groups.of.Goals.{In_ok-free}
use Rattle.pb_graph.proofs.groups.Groups.of.Goals as goal

-- the label of a node is the least node of its part
pub number_all-requires-clause-own : goal.number_all-requires-clause-own
number_all-requires-clause-own c n lt =
    let is = c.in_ok-parts.ensures in
    let within : n < c.nodes.result = omega (arith, lt, ap length c.labels.ensures, is.each) in
    subst (λ (xs : List ℕ). label_at xs (label_at xs n) ≡ label_at xs n) (sym c.labels.ensures)
    (label_own c.streams.result.now c.nodes.result unmeasured c.in_ok-parts.parts n within is)

pub variances-requires-clause-groups : goal.variances-requires-clause-groups
variances-requires-clause-groups c k d lt =
    let numbers = c.in_ok-group.ensures in
    let value = c.deref.ensures.value in
    let below = numbers.below k (omega (arith, lt, ap length value, numbers.each)) in
    let is = get_or_default c.deref.result.now k d 0 lt in
    let same = ap (λ (xs : List ℕ). get_or xs k 0) value in
    omega (arith, is, same, below, c.len.ensures, c.in_ok-group.field-0.least.ok.0)

-- the parts as the calls made them
made : (c : In_ok-free)
    → IsMade c.args.graph.now c.in_ok-parts.parts (record { group = c.in_ok-group.field-0.group.items; least = c.in_ok-group.field-0.least.items; free = c.in_ok-free.free.items; variance = c.in_ok-variance.variance.items })
made c =
    let g = c.args.graph.now in
    let labels = c.in_ok-parts.parts in
    let group = c.in_ok-group.field-0.group.items in
    let least = c.in_ok-group.field-0.least.items in
    let streams_is = c.streams.ensures.value in
    let labelled : IsLabelling g.streams g.nodes unmeasured labels =
    subst (λ (ss : List Stream). IsLabelling ss g.nodes unmeasured labels) streams_is (subst (λ (n : ℕ). IsLabelling c.streams.result.now n unmeasured labels) c.nodes.ensures.value c.in_ok-parts.ensures) in
    let numbers : AreNumbered labels (length labels) group least = subst (λ (xs : List ℕ). AreNumbered xs (length xs) group least) c.labels.ensures c.in_ok-group.ensures in
    let size : length least ≡ c.len.result = omega (arith, c.len.ensures, c.in_ok-group.field-0.least.ok.0) in
    let each_variance : length c.in_ok-variance.variance.items ≡ length least = omega (arith, c.in_ok-variance.ensures.each, c.in_ok-variance.variance.ok.0, size) in
    let variance_is = c.deref-2.ensures.value in
    record {
      limits = c.streams.ensures.limits;
      labelled = labelled;
      numbers = subst (λ (n : ℕ). AreNumbered labels n group least) labelled.each numbers;
      variances = each_variance;
      variance = λ k lt. c.in_ok-variance.ensures.value k (omega (arith, lt, size)) ∙ ap₂ (λ xs ss. group_variance xs k ss) c.deref.ensures.value c.streams-2.ensures.value;
      frees = omega (arith, c.in_ok-free.ensures.each, c.in_ok-free.free.ok.0, ap length variance_is);
      free = λ k lt. c.in_ok-free.ensures.value k (omega (arith, lt, ap length variance_is)) ∙ ap (λ (vs : List ℤ). not (0 == k) && int_lt (pos 0) (get_or vs k (pos 0))) variance_is;
    }

pub invariant_of-result : goal.invariant_of-result
invariant_of-result c = made_grouping c.args.graph.now c.in_ok-parts.parts _ (made c)

pub returns-clause-groups : goal.returns-clause-groups
returns-clause-groups c = let front = (goal.at.returns-clause-groups c).In_ok-free in made_groups c.args.graph.now c.in_ok-parts.parts _ (made front)
