-- The least node of a group, and the price of a node by it.
use Rattle.std.proofs.Common.{◌≡◌, ◌≢◌, ◌∙◌, ℕ, ◌<◌, ℤ, pos, Bool, true, false, get_or, Some, slice_get, refl, sym, ap, subst, inl, inr, arith}
use Rattle.std.proofs.lemmas.Bool.{cases_Bool, cases_lt}
use Rattle.std.proofs.lemmas.Option.{get_or_from_slice_get}
use Rattle.pb_fixed.proofs.Lists.{all_each}
use Rattle.std.specs.Prelude.{if◌then◌else◌}
use Rattle.std.specs.Ordering.{int_eq}
use Rattle.std.proofs.lemmas.Bool.Decides.{Decides-int_eq}
use Rattle.pb_study.specs.declared.results.Stage.{Stage}
use Rattle.pb_graph.specs.ProcessGraph.{ProcessGraph}
use Rattle.pb_graph.specs.WellFormed.{IsPrice}
use Rattle.pb_study.specs.WellFormed.{IsWellFormed}
use Rattle.pb_graph.specs.Walk.{unmeasured}
use Rattle.pb_graph.specs.Groups.{SameGroup, IsFreeGroup, group_at}
use Rattle.pb_graph.proofs.WalkLemmas.{reach_none, reach_both, reach_back}
use Rattle.pb_graph.proofs.ReachLemmas.{reach_decided}
use Rattle.pb_graph.specs.Grouping.{Grouping, AreGroupsOf, IsLeastNode, least_at}
use Rattle.pb_graph.proofs.GroupLaws.{number_below}
use Rattle.pb_stage.specs.Printed.{printed_price}
use Rattle.pb_check.specs.declared.faults.Fault.{Fault}
use Rattle.pb_check.specs.declared.faults.Place.TheVariants.{Node}
use Rattle.pb_check.specs.First.{IsFirstWithout}
use Rattle.pb_check.specs.Asked.{IsLeastOfGroup, HasGroupPriceAt}
use Rattle.pb_check.specs.Faults.{IsPriceFault, fault_at, first_differing}
use Rattle.pb_check.specs.Places.{IsOtherPrice}
use Rattle.pb_check.proofs.DecideLemmas.{least_with}

-- the least node of a node's group, as the groups have it
pub least_is : (graph : ProcessGraph) (groups : Grouping) (n : ℕ) → AreGroupsOf graph groups → n < graph.nodes
    → IsLeastOfGroup graph n (least_at groups.least (group_at groups.group n))
least_is graph groups n are lt =
    let k = group_at groups.group n in
    let each = are.groups.each in
    let m = least_at groups.least k in
    let node : IsLeastNode groups.group k m = are.least k (number_below groups.group n (omega (arith, lt, each))) in
    let less : m < graph.nodes = omega (arith, node.node, each) in
    record {
      same = (are.groups.same n m lt less).0 (sym node.member);
      first = λ other same. elim (cases_lt other m) [
        | inl before ↦ absurd (node.first other before (sym ((are.groups.same n other lt (omega (arith, before, less))).1 same)))
        | inr past ↦ past
      ];
    }

-- it is a node of the graph if the node is
pub least_below : (graph : ProcessGraph) (n m : ℕ) → IsLeastOfGroup graph n m → n < graph.nodes → m < graph.nodes
least_below graph n m is lt = omega (arith, is.first n (reach_none _ n), lt)

-- each node has one, and only one
pub some_least : (graph : ProcessGraph) (n : ℕ) → (m : ℕ) × IsLeastOfGroup graph n m
some_least graph n =
    let (m, same, first) = least_with (SameGroup graph.streams n) n (λ k. reach_decided graph.streams unmeasured n k) (reach_none _ n) in
    (m, record { same = same; first = first })

pub one_least : (graph : ProcessGraph) (n m k : ℕ) → IsLeastOfGroup graph n m → IsLeastOfGroup graph n k → m ≡ k
one_least graph n m k one other = omega (arith, one.first k other.same, other.first m one.same)

-- two nodes of one group have one
pub same_least : (graph : ProcessGraph) (a b m : ℕ) → SameGroup graph.streams a b → IsLeastOfGroup graph a m → IsLeastOfGroup graph b m
same_least graph a b m same least = record {
  same = reach_both _ b a m (reach_back unmeasured graph.streams a b same) least.same;
  first = λ other way. least.first other (reach_both _ a b other same way);
}

-- the nodes of a group share a price, and nodes of groups that aren't free have price 0
pub record AreGroupPrices (stage : Stage) : Type 0 where
  pub shared :
      (a b : ℕ) → a < stage.graph.nodes → b < stage.graph.nodes → SameGroup stage.graph.streams a b
      → printed_price stage a ≡ printed_price stage b
  pub fixed :
      (n : ℕ) → n < stage.graph.nodes → (IsFreeGroup stage.graph n → ⊥) → printed_price stage n ≡ pos 0

-- each node has the price of its group exactly when the prices are those of groups
pub prices_by_nodes : (stage : Stage) → ((n : ℕ) → n < stage.graph.nodes → HasGroupPriceAt stage n) → AreGroupPrices stage
prices_by_nodes stage each = record {
  shared = λ a b la lb same.
      let (m, least) = some_least stage.graph a in
      (each a la).shared m least ∙ sym ((each b lb).shared m (same_least stage.graph a b m same least));
  fixed = λ n lt tied. (each n lt).fixed tied;
}

pub nodes_by_prices : (stage : Stage) → AreGroupPrices stage → (n : ℕ) → n < stage.graph.nodes → HasGroupPriceAt stage n
nodes_by_prices stage are n lt = record {
  shared = λ m least. are.shared n m lt (least_below stage.graph n m least lt) least.same;
  fixed = λ tied. are.fixed n lt tied;
}

-- the price that a fault finds: that of the least node if it differs, otherwise 0
abbrev pub price_beside : ℤ → ℤ → ℤ
price_beside price shared = if int_eq price shared then pos 0 else shared

-- if the prices differ, it is the other one
beside_other : (b : Bool) (shared : ℤ) → b ≡ false → (if b then pos 0 else shared) ≡ shared
beside_other true shared false_is = cc false_is
beside_other false shared false_is = refl

beside_same : (b : Bool) (shared : ℤ) → b ≡ true → (if b then pos 0 else shared) ≡ pos 0
beside_same true shared true_is = refl
beside_same false shared true_is = cc true_is

pub not_shared : (stage : Stage) (n m : ℕ) (found : ℤ) → IsLeastOfGroup stage.graph n m → printed_price stage n ≢ printed_price stage m
    → found ≡ printed_price stage m → IsOtherPrice stage n found
not_shared stage n m found least ne is =
    let price = printed_price stage n in
    let shared = printed_price stage m in
    record {
      least = m;
      is_least = least;
      fails = λ has. ne (has.shared m least);
      is = is ∙ sym (elim (cases_Bool (int_eq price shared)) [
        | inl true_is ↦ absurd (ne ((Decides-int_eq price shared).0 true_is))
        | inr false_is ↦ beside_other (int_eq price shared) shared false_is
      ]);
    }

pub not_fixed : (stage : Stage) (n m : ℕ) (found : ℤ) → IsLeastOfGroup stage.graph n m → printed_price stage n ≡ printed_price stage m
    → printed_price stage n ≢ pos 0 → (IsFreeGroup stage.graph n → ⊥) → found ≡ pos 0 → IsOtherPrice stage n found
not_fixed stage n m found least same ne tied is =
    let price = printed_price stage n in
    let shared = printed_price stage m in
    record {
      least = m;
      is_least = least;
      fails = λ has. ne (has.fixed tied);
      is = is ∙ sym (beside_same (int_eq price shared) shared ((Decides-int_eq price shared).1 same));
    }

pub has_price : (stage : Stage) (n m : ℕ) → IsLeastOfGroup stage.graph n m → printed_price stage n ≡ printed_price stage m
    → ((IsFreeGroup stage.graph n → ⊥) → printed_price stage n ≡ pos 0) → HasGroupPriceAt stage n
has_price stage n m least same fixed = record {
  shared = λ other is. same ∙ ap (printed_price stage) (one_least stage.graph n m other least is);
  fixed = fixed;
}

-- the numbers of a price and of that beside it
numbers_by : (same : Bool) (price shared : ℤ) → fault_at (Node 0) (price, if same then pos 0 else shared) ≡ fault_at (Node 0) (if same then (price, pos 0) else (price, shared))
numbers_by true price shared = refl
numbers_by false price shared = refl

pub price_fails : (stage : Stage) (node : ℕ) (found : ℤ) (fault : Fault) → IsFirstWithout (HasGroupPriceAt stage) stage.graph.nodes node → IsOtherPrice stage node found
    → fault ≡ fault_at (Node node) (printed_price stage node, found) → IsPriceFault stage fault
price_fails stage node found fault first other is =
    let price = printed_price stage node in
    let shared = printed_price stage other.least in
    let numbers : fault_at (Node node) (price, found) ≡ fault_at (Node node) (first_differing price shared price (pos 0)) =
    ap (λ (x : ℤ). fault_at (Node node) (price, x)) other.is ∙ ap (λ (f : Fault). record f { place = Node node }) (numbers_by (int_eq price shared) price shared) in
    (node, other.least, first, other.is_least, is ∙ numbers)

-- the same by what was looked up
pub least_here : (graph : ProcessGraph) (groups : Grouping) (n k m : ℕ) → AreGroupsOf graph groups → n < graph.nodes → k ≡ group_at groups.group n
    → m ≡ least_at groups.least k → IsLeastOfGroup graph n m
least_here graph groups n k m are lt is_k is_m =
    subst (IsLeastOfGroup graph n) (sym (is_m ∙ ap (least_at groups.least) is_k)) (least_is graph groups n are lt)

pub free_here : (graph : ProcessGraph) (groups : Grouping) (n k : ℕ) (b : Bool) → AreGroupsOf graph groups → n < graph.nodes → k ≡ group_at groups.group n
    → b ≡ get_or groups.free k false → (b ≡ true → IsFreeGroup graph n) × (IsFreeGroup graph n → b ≡ true)
free_here graph groups n k b are lt is_k is_b =
    let mark : b ≡ get_or groups.free (group_at groups.group n) false = is_b ∙ ap (λ (i : ℕ). get_or groups.free i false) is_k in
    let says = are.free n lt in
    ((λ h. says.0 (sym mark ∙ h)), (λ free. mark ∙ says.1 free))

-- the price at a node
pub price_there : (stage : Stage) (n : ℕ) (a : ℤ) → slice_get stage.prices n ≡ Some a → printed_price stage n ≡ a
price_there stage n a here = get_or_from_slice_get stage.prices n a (pos 0) here

pub price_small : (stage : Stage) (n : ℕ) (a : ℤ) → IsWellFormed stage → slice_get stage.prices n ≡ Some a → IsPrice a
price_small stage n a formed here = all_each IsPrice stage.prices formed.prices n a here
