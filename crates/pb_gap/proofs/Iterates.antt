-- What a solver keeps, and the state that it is.
use Rattle.std.proofs.Common.{◌≡◌, ◌∙◌, ℕ, ◌<◌, ◌≤◌, Bool, ℤ, pos, List, ◌++◌, take, drop, length, get_or, ap, ap₂, sym, subst, refl, inl, inr, arith}
use Rattle.std.proofs.lemmas.Bool.{cases_lt}
use Rattle.std.proofs.lemmas.List.{get_or_past, take-append-le, take_all}
use Rattle.pb_graph.specs.ProcessGraph.{ProcessGraph, IsProcessGraph}
use Rattle.pb_graph.specs.Prices.{PricesFit}
use Rattle.pb_graph.specs.Groups.{AreGroups, group_at, group_count}
use Rattle.pb_graph.specs.Walk.{ends_of, unmeasured}
use Rattle.pb_graph.proofs.WalkLemmas.{reach_none}
use Rattle.pb_forest.specs.Forest.{SpanningForest, IsForest, degrees_of_freedom}
use Rattle.pb_forest.proofs.ForestLaws.{one_forest_law}
use Rattle.pb_graph.specs.Grouping.{AreGroupsOf, Grouping}
use Rattle.pb_graph.specs.Variance.{group_variance}
use Rattle.pb_dual.specs.DualValue.{dual_flows_of}
use Rattle.pb_dual.specs.Priced.{Priced, price_of}
use Rattle.pb_dual.specs.Sweeps.{prices_after}
use Rattle.pb_gap.specs.State.{AreRoundedFlows, IsState, IsStateAfter, State, gap_in, price_in}
use Rattle.pb_gap.specs.Gap.{Gap, gap_of}
use Rattle.pb_gap.specs.Nets.{imbalance_root}
use Rattle.pb_gap.specs.FlowPair.{AreOfPrices, PairedFlows}
use Rattle.pb_gap.specs.Iterate.{AreFlowsOf, AreImbalanceRoots, AreOfGraph, HaveRoots}

-- the state of what a solver keeps
abbrev pub state_in : Priced → List ℤ → State
state_in d flows = record { graph = d.graph; group = d.group; prices = d.prices; flows = flows }

pub state_of : (f : SpanningForest) (d : Priced) (flows : List ℤ) → AreOfGraph f d → AreFlowsOf f d flows → IsState (state_in d flows)
state_of f d flows parts belong = record {
  limits = parts.limits;
  groups = parts.groups;
  fit = parts.fit;
  rounded = record { held = f.held; forest = parts.held; balanced = belong.balanced; nearest = belong.nearest };
}

-- a state whose prices are those after k sweeps
pub state_at : (s : State) (g : ProcessGraph) (group : List ℕ) (k : ℕ) → s.graph ≡ g → IsState s → AreGroups g group → price_in s ≡ prices_after g group k → IsStateAfter g k (price_in s) s.flows
state_at s g group k same is groups swept =
    record { group = group; groups = groups; swept = swept; rounded = subst (λ (h : ProcessGraph). AreRoundedFlows h (price_in s) s.flows) same is.rounded }

-- a vector whose items were written
pub put_back : {A : Type 0} (n : ℕ) (xs ys : List A) → length xs ≡ n → take n (xs ++ drop (length xs) ys) ≡ xs
put_back n xs ys each = take-append-le n xs (drop (length xs) ys) (omega (arith, each)) ∙ take_all n xs (omega (arith, each))

-- a graph has the same degrees of freedom by each of its forests
pub one_freedom : (g h : ProcessGraph) (dof : ℕ) (mine held : List Bool) → h ≡ g → dof ≡ degrees_of_freedom h.streams mine → IsForest h.streams mine
    → IsForest g.streams held → dof ≡ degrees_of_freedom g.streams held
one_freedom g h dof mine held same value forest other =
    subst (λ (g : ProcessGraph). IsForest g.streams held → dof ≡ degrees_of_freedom g.streams held) same
    (λ (there : IsForest h.streams held). value ∙ ap (degrees_of_freedom h.streams) (one_forest_law h.streams mine held forest there)) other

-- a node outside the graph has the price of the environment
pub outside : (s : State) (n : ℕ) → IsState s → s.graph.nodes ≤ n → price_in s n ≡ pos 0
outside s n is past =
    let first : group_at s.group 0 ≡ 0 = first_group s.graph s.group is.limits.env is.groups in
    let own : group_at s.group n ≡ 0 = get_or_past s.group n 0 (omega (arith, past, is.groups.each)) in
    let none : price_in s 0 ≡ pos 0 = is.fit.fixed 0 is.limits.env (λ free. free.apart (reach_none (ends_of unmeasured s.graph.streams) 0)) in
    ap (λ (k : ℕ). get_or s.prices k (pos 0)) (own ∙ sym first) ∙ none
  where
    first_group : (g : ProcessGraph) (group : List ℕ) → 1 ≤ g.nodes → AreGroups g group → group_at group 0 ≡ 0
    first_group g group env groups = elim (cases_lt 0 (group_at group 0)) [
      | inl some ↦ let (m, before, is) = groups.numbered 0 0 env some in absurd (omega (arith, before))
      | inr none ↦ omega (arith, none)
    ]

-- the parts of a new solver
pub begun : (g : ProcessGraph) (gs : Grouping) (f : SpanningForest) (d : Priced) (numbers : List ℕ) → IsProcessGraph g → AreGroups g gs.group → numbers ≡ gs.group → f.graph ≡ g
    → IsForest g.streams f.held → d.graph ≡ g → d.group ≡ numbers → PricesFit d.graph (price_of d) → AreOfGraph f d
begun g gs f d numbers limits groups are_numbers f_graph held d_graph d_group fit = record {
  limits = subst IsProcessGraph (sym d_graph) limits;
  groups = subst (λ (h : ProcessGraph). AreGroups h d.group) (sym d_graph) (subst (AreGroups g) (sym (d_group ∙ are_numbers)) groups);
  forest = f_graph ∙ sym d_graph;
  held = subst (λ (h : ProcessGraph). IsForest h.streams f.held) (sym d_graph) held;
  fit = fit;
}

pub rooted : (g : ProcessGraph) (gs : Grouping) (d : Priced) (numbers : List ℕ) (roots : List ℤ) → AreGroupsOf g gs → AreImbalanceRoots gs roots → numbers ≡ gs.group → d.graph ≡ g → d.group ≡ numbers
    → HaveRoots d roots
rooted g gs d numbers roots of are are_numbers d_graph d_group =
    let group : d.group ≡ gs.group = d_group ∙ are_numbers in
    let count : group_count d.group ≡ group_count gs.group = ap group_count group in
    record {
      each = are.each ∙ sym count;
      are = λ k lt.
          let below : k < group_count gs.group = omega (arith, lt, count) in
          are.are k below ∙ ap imbalance_root (of.variance k below ∙ ap₂ (λ (ks : List ℕ) (h : ProcessGraph). group_variance ks k h.streams) (sym group) (sym d_graph));
      small = λ k lt. are.small k (omega (arith, lt, count));
    }

-- what holds of the gap of the pair that is kept holds of the gap of the state
pub at_state : (P : Gap → Type 0) (s : State) (d : Priced) (xs : List ℤ) (pair : PairedFlows) → state_in d xs ≡ s → pair ≡ record { graph = d.graph; dual_flows = dual_flows_of (price_of d) d.graph.streams; flows = xs }
    → ((price : ℕ → ℤ) → AreOfPrices price pair → P (gap_of price pair.graph.streams pair.flows)) → P (gap_in s)
at_state P s d xs pair view is all =
    subst (λ (s : State). P (gap_in s)) view
    (subst (λ (p : PairedFlows). (price : ℕ → ℤ) → AreOfPrices price p → P (gap_of price p.graph.streams p.flows)) is all (price_of d) refl)

-- the pair of what is kept
pub paired : (g : ProcessGraph) (d : Priced) (us xs ys : List ℤ) (pair : PairedFlows) → pair ≡ record { graph = g; dual_flows = us; flows = xs } → g ≡ d.graph
    → us ≡ dual_flows_of (price_of d) d.graph.streams → xs ≡ ys → pair ≡ record { graph = d.graph; dual_flows = dual_flows_of (price_of d) d.graph.streams; flows = ys }
paired g d us xs ys pair is graph duals flows =
    is ∙ ap (λ (h : ProcessGraph). record { graph = h; dual_flows = us; flows = xs }) graph ∙ ap₂ (λ (vs zs : List ℤ). record { graph = d.graph; dual_flows = vs; flows = zs }) duals flows
