-- Nodes outside a graph have the price of the environment.
use Rattle.std.proofs.Common.{◌≡◌, ◌∙◌, ◌==◌, ℕ, zero, suc, ℤ, pos, List, refl, ap, ap₂, sym, inl, inr, arith}
use Rattle.std.specs.Prelude.{if◌then◌else◌}
use Rattle.std.proofs.lemmas.Bool.{cases_Bool}
use Rattle.std.proofs.lemmas.List.{get_or_past}
use Rattle.pb_graph.specs.ProcessGraph.{ProcessGraph}
use Rattle.pb_graph.specs.Groups.{group_at, group_count, is_free_group}
use Rattle.pb_graph.specs.Walk.{ends_of, unmeasured}
use Rattle.pb_graph.proofs.WalkLemmas.{reach_none}
use Rattle.pb_graph.proofs.GroupLaws.{first_number}
use Rattle.pb_dual.specs.Candidates.{best_price}
use Rattle.pb_dual.specs.Sweeps.{prices_after, swept}
use Rattle.pb_dual.proofs.SweepLaws.{prices_fit}
use Rattle.pb_gap.specs.Solution.{OutsideLaw}

-- two numbers of the same group keep the same price
same_swept : (g : ProcessGraph) (group : List ℕ) (price : ℕ → ℤ) (n m : ℕ) → group_at group n ≡ group_at group m → price n ≡ price m → (j : ℕ)
    → swept group g.streams price j n ≡ swept group g.streams price j m
same_swept g group price n m same start zero = start
same_swept g group price n m same start (suc j) =
    let before = same_swept g group price n m same start j in
    let best = best_price group (swept group g.streams price j) j g.streams in
    elim (cases_Bool (is_free_group group g.streams j)) [
      | inl free ↦ rw free (ap₂ (λ (k : ℕ) (x : ℤ). if k == j then best else x) same before)
      | inr held ↦ rw held before
    ]

same_after : (g : ProcessGraph) (group : List ℕ) (n m : ℕ) → group_at group n ≡ group_at group m → (k : ℕ) → prices_after g group k n ≡ prices_after g group k m
same_after g group n m same zero = refl
same_after g group n m same (suc k) = same_swept g group (prices_after g group k) n m same (same_after g group n m same k) (group_count group)

pub outside_law : OutsideLaw
outside_law g k price flows n limits state past =
    let group = state.group in
    let first = first_number g group state.groups limits.env in
    let own : group_at group n ≡ 0 = get_or_past group n 0 (omega (arith, past, state.groups.each)) in
    let fit = prices_fit g group k limits state.groups in
    let none : prices_after g group k 0 ≡ pos 0 = fit.fixed 0 limits.env (λ free. free.apart (reach_none (ends_of unmeasured g.streams) 0)) in
    ap (λ (p : ℕ → ℤ). p n) state.swept ∙ same_after g group n 0 (own ∙ sym first) k ∙ none
