-- What the steps of a solution find, as states after a number of sweeps.
use Rattle.std.proofs.Common.{◌≡◌, ◌∙◌, ℕ, suc, ◌<◌, Bool, true, false, ℤ, pos, List, get_or, ap₂, refl, sym, subst, arith, rules}
use Rattle.std.specs.Prelude.{IsTrue, ◌↔◌}
use Rattle.pb_graph.specs.ProcessGraph.{ProcessGraph}
use Rattle.pb_graph.specs.Groups.{AreGroups, group_at}
use Rattle.pb_dual.specs.Sweeps.{prices_after}
use Rattle.pb_gap.specs.Gap.{MeetsGap, gap_of}
use Rattle.pb_gap.specs.State.{AreRoundedFlows, IsState, State, gap_in, price_in}
use Rattle.pb_gap.specs.Solution.{EachMissesBefore, IsMetAfter, IsUnconverged, MissesAfter}
use Rattle.pb_gap.proofs.Iterates.{state_at}
use Rattle.pb_gap.proofs.States.{idle_from, misses_at, misses_idle, none_near}

-- a state with the prices after k sweeps of a graph, whose flows may be any
pub record IsPricedAfter (g : ProcessGraph) (group : List ℕ) (k : ℕ) (s : State) : Type 0 where
  pub graph : s.graph ≡ g
  pub numbers : s.group ≡ group
  pub groups : AreGroups g group
  pub after : price_in s ≡ prices_after g group k

-- a state with the same prices
pub record HasSamePrices (s t : State) : Type 0 where
  pub graph : t.graph ≡ s.graph
  pub numbers : t.group ≡ s.group
  pub prices : t.prices ≡ s.prices

same_price : (s t : State) → HasSamePrices s t → price_in t ≡ price_in s
same_price s t h = λ i n. get_or (h.prices i) (group_at (h.numbers i) n) (pos 0)

pub kept_prices : (g : ProcessGraph) (group : List ℕ) (k : ℕ) (s t : State) → IsPricedAfter g group k s → HasSamePrices s t → IsPricedAfter g group k t
kept_prices g group k s t is same = record { graph = same.graph ∙ is.graph; numbers = same.numbers ∙ is.numbers; groups = is.groups; after = same_price s t same ∙ is.after }

-- what a test of the flows that belong to the prices of a state says of any flows that belong to them
pub far_same : (s t : State) (gap : ℕ) (met : Bool) → HasSamePrices s t → IsState t → (IsTrue met ↔ MeetsGap gap (gap_in t)) → met ≡ false → (flows : List ℤ) → AreRoundedFlows s.graph (price_in s) flows
    → MeetsGap gap (gap_of (price_in s) s.graph.streams flows) → ⊥
far_same s t gap met same is test fails flows rounded meets =
    let price = same_price s t same in
    none_near t gap met is test fails flows
    (subst (λ (h : ProcessGraph). AreRoundedFlows h (price_in t) flows) (sym same.graph) (subst (λ (p : ℕ → ℤ). AreRoundedFlows s.graph p flows) (sym price) rounded))
    (subst (λ (h : ProcessGraph). MeetsGap gap (gap_of (price_in t) h.streams flows)) (sym same.graph) (subst (λ (p : ℕ → ℤ). MeetsGap gap (gap_of p s.graph.streams flows)) (sym price) meets))

-- one more sweep
pub swept_prices : (g : ProcessGraph) (group : List ℕ) (k : ℕ) (t u : State) → IsPricedAfter g group k t → u.graph ≡ t.graph → u.group ≡ t.group
    → ((k : ℕ) → price_in t ≡ prices_after t.graph t.group k → price_in u ≡ prices_after t.graph t.group (suc k)) → IsPricedAfter g group (suc k) u
swept_prices g group k t u is graph numbers more = record {
  graph = graph ∙ is.graph;
  numbers = numbers ∙ is.numbers;
  groups = is.groups;
  after = more k (is.after ∙ sym (ap₂ (λ (h : ProcessGraph) (ks : List ℕ). prices_after h ks k) is.graph is.numbers)) ∙ ap₂ (λ (h : ProcessGraph) (ks : List ℕ). prices_after h ks (suc k)) is.graph is.numbers;
}

-- what a test of a state says
pub missed_now : (g : ProcessGraph) (group : List ℕ) (gap k : ℕ) (s : State) (met : Bool) → IsPricedAfter g group k s
    → (met ≡ false → (flows : List ℤ) → AreRoundedFlows s.graph (price_in s) flows → MeetsGap gap (gap_of (price_in s) s.graph.streams flows) → ⊥) → met ≡ false → MissesAfter g gap k
missed_now g group gap k s met is far fails =
    misses_at g group gap k (price_in s) is.groups is.after
    (subst (λ (h : ProcessGraph). (flows : List ℤ) → AreRoundedFlows h (price_in s) flows → MeetsGap gap (gap_of (price_in s) h.streams flows) → ⊥) is.graph (far fails))

yes : (met : Bool) → met ≡ true → IsTrue met
yes met is = search rules

pub met_now : (g : ProcessGraph) (group : List ℕ) (gap k : ℕ) (t : State) (met : Bool) → IsPricedAfter g group k t → (IsTrue met → IsState t) → (IsTrue met → MeetsGap gap (gap_in t)) → met ≡ true
    → IsMetAfter g gap k (price_in t) t.flows
met_now g group gap k t met is state meets passes =
    let told = yes met passes in
    record {
      state = state_at t g group k is.graph (state told) is.groups is.after;
      met = subst (λ (h : ProcessGraph). MeetsGap gap (gap_of (price_in t) h.streams t.flows)) is.graph (meets told);
    }

-- a sweep that changed no price: t are the prices before it, u those after it, and v is the state that is left
pub idle_now : (g : ProcessGraph) (group : List ℕ) (gap sweeps k : ℕ) (t u v : State) → IsPricedAfter g group k t → IsPricedAfter g group (suc k) u → price_in u ≡ price_in t → HasSamePrices u v → IsState v → k < sweeps
    → EachMissesBefore g gap k → MissesAfter g gap k → IsUnconverged g gap sweeps sweeps (price_in v) v.flows
idle_now g group gap sweeps k t u v before after idle same state lt each here =
    let fixed : prices_after g group (suc k) ≡ prices_after g group k = sym after.after ∙ idle ∙ before.after in
    let left = kept_prices g group (suc k) u v after same in
    record {
      done = refl;
      none = misses_idle g group gap k (suc sweeps) before.groups fixed each here;
      here = state_at v g group sweeps left.graph state before.groups (left.after ∙ fixed ∙ sym (idle_from g group sweeps k fixed (omega (arith, lt))));
    }
