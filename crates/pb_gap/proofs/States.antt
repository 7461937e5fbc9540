-- A graph has one state after each number of sweeps, and one solution.
use Rattle.std.proofs.Common.{◌≡◌, ◌∙◌, ℕ, zero, suc, ◌+◌, ◌-◌, ◌*◌, ◌^◌, ◌≤◌, ◌⊎◌, Bool, false, ℤ, List, ap, ap₂, refl, sym, subst, inl, inr, arith, rules}
use Rattle.std.specs.Prelude.{IsTrue, ◌↔◌}
use Rattle.std.proofs.lemmas.Bool.{cases_lt}
use Rattle.pb_study.specs.declared.results.Solved.{Solved}
use Rattle.pb_study.specs.declared.results.Solved.TheVariants.{Converged, Unconverged}
use Rattle.pb_graph.specs.ProcessGraph.{ProcessGraph, IsProcessGraph}
use Rattle.pb_graph.proofs.GroupLaws.{numbering_law, some_groups_law}
use Rattle.pb_forest.specs.Flows.{AgreeOffForest}
use Rattle.pb_forest.proofs.ForestLaws.{one_balanced_law, one_forest_law, some_balanced_law, some_forest_law}
use Rattle.pb_graph.specs.Groups.{AreGroups}
use Rattle.pb_dual.specs.Sweeps.{prices_after}
use Rattle.pb_dual.proofs.SweepLaws.{idle_law}
use Rattle.pb_gap.specs.Gap.{MeetsGap, gap_of, gap_size}
use Rattle.pb_gap.specs.State.{AreRoundedFlows, IsState, IsStateAfter, State, gap_in, nearest_flows, price_in}
use Rattle.pb_gap.specs.Statistic.{high_of, low_of}
use Rattle.pb_gap.specs.Solution.{EachMissesBefore, IsMetAfter, IsSolution, MissesAfter, OneSolutionLaw, OneSolvedStatisticLaw, OneStateLaw, SomeSolutionLaw, SomeSolvedStatisticLaw, SomeStateLaw}

-- only one vector of flows belongs to prices
pub one_rounded : (g : ProcessGraph) (price : ℕ → ℤ) (xs ys : List ℤ) → IsProcessGraph g → AreRoundedFlows g price xs → AreRoundedFlows g price ys → xs ≡ ys
one_rounded g price xs ys limits a b =
    let near : AgreeOffForest a.held ys (nearest_flows price g.streams) =
    subst (λ (held : List Bool). AgreeOffForest held ys (nearest_flows price g.streams)) (one_forest_law g.streams b.held a.held b.forest a.forest) b.nearest in
    one_balanced_law g a.held xs ys limits a.forest a.balanced b.balanced (λ k lt off. a.nearest k lt off ∙ sym (near k lt off))

pub one_state : OneStateLaw
one_state g k p q xs ys limits a b =
    let group = numbering_law.one g a.group b.group a.groups b.groups in
    let price = a.swept ∙ ap (λ (group : List ℕ). prices_after g group k) group ∙ sym b.swept in
    record { price = price; flows = one_rounded g q xs ys limits (subst (λ (f : ℕ → ℤ). AreRoundedFlows g f xs) price a.rounded) b.rounded }

pub some_state : SomeStateLaw
some_state g k limits =
    let (group, groups) = some_groups_law g limits in
    let (held, forest) = some_forest_law g.streams in
    let price = prices_after g group k in
    let (flows, balanced, nearest) = some_balanced_law g held (nearest_flows price g.streams) forest in
    (price, flows, record { group = group; groups = groups; swept = refl; rounded = record { held = held; forest = forest; balanced = balanced; nearest = nearest } })

-- no state after a number of sweeps both misses the gap and meets it
pub not_both : (g : ProcessGraph) (gap k : ℕ) (p : ℕ → ℤ) (xs : List ℤ) → IsProcessGraph g → MissesAfter g gap k → IsMetAfter g gap k p xs → ⊥
not_both g gap k p xs limits miss met =
    let same = one_state g k p miss.price xs miss.flows limits met.state miss.state in
    miss.missed (subst (λ (f : ℕ → ℤ). MeetsGap gap (gap_of f g.streams miss.flows)) same.price (subst (λ (ys : List ℤ). MeetsGap gap (gap_of p g.streams ys)) same.flows met.met))

-- one more number of sweeps after which the gap is missed
pub misses_more : (g : ProcessGraph) (gap k : ℕ) → EachMissesBefore g gap k → MissesAfter g gap k → EachMissesBefore g gap (suc k)
misses_more g gap k each here j lt = elim (cases_lt j k) [
  | inl less ↦ each j less
  | inr ge ↦ let e : k ≡ j = omega (arith, lt, ge) in subst (MissesAfter g gap) e here
]

-- neither of two solutions that converged comes after the other
not_after : (g : ProcessGraph) (gap j k : ℕ) (p : ℕ → ℤ) (xs : List ℤ) → IsProcessGraph g → IsMetAfter g gap j p xs → EachMissesBefore g gap k → k ≤ j
not_after g gap j k p xs limits met each = elim (cases_lt j k) [ inl less ↦ absurd (not_both g gap j p xs limits (each j less) met) | inr ge ↦ ge ]

pub one_solution : OneSolutionLaw
one_solution g gap sweeps (Converged j) (Converged k) p q xs ys limits a b =
    let is : j ≡ k = omega (arith, not_after g gap j k p xs limits a.here b.least, not_after g gap k j q ys limits b.here a.least) in
    (ap Converged is, one_state g k p q xs ys limits (subst (λ (n : ℕ). IsStateAfter g n p xs) is a.here.state) b.here.state)
one_solution g gap sweeps (Converged j) (Unconverged k) p q xs ys limits a b =
    absurd (not_both g gap j p xs limits (b.none j (omega (arith, a.within, b.done))) a.here)
one_solution g gap sweeps (Unconverged j) (Converged k) p q xs ys limits a b =
    absurd (not_both g gap k q ys limits (a.none k (omega (arith, b.within, a.done))) b.here)
one_solution g gap sweeps (Unconverged j) (Unconverged k) p q xs ys limits a b =
    let is = a.done ∙ sym b.done in
    (ap Unconverged is, one_state g k p q xs ys limits (subst (λ (n : ℕ). IsStateAfter g n p xs) is a.here) b.here)

-- ---- a solution is found by trying each number of sweeps
HasFirst : ProcessGraph → ℕ → ℕ → ℕ → Type 0
HasFirst g gap sweeps n = ((solved : Solved) × (price : ℕ → ℤ) × (flows : List ℤ) × IsSolution g gap sweeps solved price flows) ⊎ EachMissesBefore g gap n

tried : (g : ProcessGraph) (gap sweeps n : ℕ) → IsProcessGraph g → n ≤ suc sweeps → HasFirst g gap sweeps n
unfolding HasFirst
tried g gap sweeps zero limits le = inr (λ k lt. absurd (omega (arith, lt)))
tried g gap sweeps (suc n) limits le = elim (tried g gap sweeps n limits (omega (arith, le))) [
  | inl found ↦ inl found
  | inr each ↦
      let (price, flows, state) = some_state g n limits in
      elim (cases_lt (gap * 2 ^ 20) (gap_size (gap_of price g.streams flows) * 1000)) [
        | inl far ↦ inr (misses_more g gap n each (record { price = price; flows = flows; state = state; missed = λ met. omega (arith, far, met) }))
        | inr met ↦ inl (Converged n, price, flows, record { within = omega (arith, le); least = each; here = record { state = state; met = met } })
      ]
]

pub some_solution : SomeSolutionLaw
unfolding HasFirst
some_solution g gap sweeps limits = elim (tried g gap sweeps (suc sweeps) limits (omega arith)) [
  | inl found ↦ found
  | inr each ↦
      let (price, flows, state) = some_state g sweeps limits in
      (Unconverged sweeps, price, flows, record { done = refl; none = each; here = state })
]

pub some_solved_statistic : SomeSolvedStatisticLaw
some_solved_statistic g gap sweeps limits =
    let (solved, price, flows, solution) = some_solution g gap sweeps limits in (
      low_of g.streams flows (gap_of price g.streams flows),
      high_of g.streams flows,
      record { solved = solved; price = price; flows = flows; solution = solution; is_low = refl; is_high = refl },
    )

pub one_solved_statistic : OneSolvedStatisticLaw
one_solved_statistic g gap sweeps low other_low high other_high limits a b =
    let same = (one_solution g gap sweeps a.solved b.solved a.price b.price a.flows b.flows limits a.solution b.solution).1 in (
      a.is_low ∙ ap₂ (λ (f : ℕ → ℤ) (xs : List ℤ). low_of g.streams xs (gap_of f g.streams xs)) same.price same.flows ∙ sym b.is_low,
      a.is_high ∙ ap (high_of g.streams) same.flows ∙ sym b.is_high,
    )

-- prices after k sweeps whose flows miss the gap, whichever they are
pub misses_at : (g : ProcessGraph) (group : List ℕ) (gap k : ℕ) (price : ℕ → ℤ) → AreGroups g group → price ≡ prices_after g group k
    → ((flows : List ℤ) → AreRoundedFlows g price flows → MeetsGap gap (gap_of price g.streams flows) → ⊥) → MissesAfter g gap k
misses_at g group gap k price groups swept far =
    let (held, forest) = some_forest_law g.streams in
    let (flows, balanced, nearest) = some_balanced_law g held (nearest_flows price g.streams) forest in
    let rounded : AreRoundedFlows g price flows = record { held = held; forest = forest; balanced = balanced; nearest = nearest } in
    record { price = price; flows = flows; state = record { group = group; groups = groups; swept = swept; rounded = rounded }; missed = far flows rounded }

-- the flows of a state are the only ones that belong to its prices
pub none_near : (s : State) (gap : ℕ) (met : Bool) → IsState s → (IsTrue met ↔ MeetsGap gap (gap_in s)) → met ≡ false → (flows : List ℤ) → AreRoundedFlows s.graph (price_in s) flows
    → MeetsGap gap (gap_of (price_in s) s.graph.streams flows) → ⊥
none_near s gap met is test fails flows rounded meets =
    let same = one_rounded s.graph (price_in s) flows s.flows is.limits rounded is.rounded in
    clash met (test.1 (subst (λ (xs : List ℤ). MeetsGap gap (gap_of (price_in s) s.graph.streams xs)) same meets)) fails
  where
    clash : (met : Bool) → IsTrue met → met ≡ false → ⊥
    clash met yes_ no_ = search rules

-- if a sweep changes no price, the gap is missed ever after
misses_later : (g : ProcessGraph) (group : List ℕ) (gap j k : ℕ) → AreGroups g group → prices_after g group j ≡ prices_after g group k → MissesAfter g gap k → MissesAfter g gap j
misses_later g group gap j k groups same miss =
    let own = numbering_law.one g miss.state.group group miss.state.groups groups in
    record {
      price = miss.price;
      flows = miss.flows;
      state = record { group = group; groups = groups; swept = miss.state.swept ∙ ap (λ (ks : List ℕ). prices_after g ks k) own ∙ sym same; rounded = miss.state.rounded };
      missed = miss.missed;
    }

pub idle_from : (g : ProcessGraph) (group : List ℕ) (j k : ℕ) → prices_after g group (suc k) ≡ prices_after g group k → k ≤ j → prices_after g group j ≡ prices_after g group k
idle_from g group j k same le = let e : (j - k) + k ≡ j = omega (arith, le) in ap (prices_after g group) (sym e) ∙ idle_law g group k (j - k) same

pub misses_idle : (g : ProcessGraph) (group : List ℕ) (gap k n : ℕ) → AreGroups g group → prices_after g group (suc k) ≡ prices_after g group k → EachMissesBefore g gap k → MissesAfter g gap k
    → EachMissesBefore g gap n
misses_idle g group gap k n groups same each here j lt = elim (cases_lt j k) [
  | inl less ↦ each j less
  | inr ge ↦ misses_later g group gap j k groups (idle_from g group j k same ge) here
]

pub misses_to : (g : ProcessGraph) (gap k n : ℕ) → k ≡ n → EachMissesBefore g gap k → EachMissesBefore g gap n
misses_to g gap k n is each = subst (EachMissesBefore g gap) is each
