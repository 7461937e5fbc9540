-- Sweeps keep the prices fitting and don't lower the dual value.
use Rattle.std.proofs.Common.{◌≡◌, ◌∙◌, ◌+◌, ◌^◌, ℕ, zero, suc, ◌≤◌, ℤ, pos, ◌-ℤ◌, ◌*ℤ◌, ◌≤ℤ◌, List, Option, Some, None, ap, refl, inl, inr, arith, unsigned_abs}
use Rattle.std.specs.Prelude.{IfSome}
use Rattle.std.proofs.lemmas.Bool.{cases_Bool}
use Rattle.pb_fixed.proofs.Order.{le_refl, le_trans}
use Rattle.pb_fixed.proofs.RingLaws.{mul_zero}
use Rattle.pb_graph.specs.declared.records.Meas.{Meas}
use Rattle.pb_graph.specs.ProcessGraph.{ProcessGraph, IsProcessGraph}
use Rattle.pb_graph.specs.Groups.{AreGroups, is_free_group, group_count}
use Rattle.pb_graph.specs.Prices.{PricesFit}
use Rattle.pb_dual.specs.DualValue.{dual_value}
use Rattle.pb_dual.specs.Sweeps.{stepped, swept, prices_after}
use Rattle.pb_dual.specs.Laws.{CanMove, AscentLaw, IdleLaw}
use Rattle.pb_dual.proofs.FitLaws.{best_fits, best_up}

-- new prices fit, and their dual value is at least that of the old ones
pub record Improves (g : ProcessGraph) (old new : ℕ → ℤ) : Type 0 where
  pub fit : PricesFit g new
  pub up : dual_value old g.streams ≤ℤ dual_value new g.streams

pub step_improves : (g : ProcessGraph) (group : List ℕ) (price : ℕ → ℤ) (k : ℕ) → IsProcessGraph g → AreGroups g group → PricesFit g price → Improves g price (stepped group g.streams price k)
step_improves g group price k limits groups fit = elim (cases_Bool (is_free_group group g.streams k)) [
  | inl free ↦
      let can : CanMove g group price k = record { limits = limits; groups = groups; fit = fit; free = free } in
      rw free (record { fit = best_fits g group price k can; up = best_up g group price k can })
  | inr held ↦ rw held (record { fit = fit; up = le_refl (dual_value price g.streams) })
]

pub sweep_improves : (g : ProcessGraph) (group : List ℕ) (price : ℕ → ℤ) (n : ℕ) → IsProcessGraph g → AreGroups g group → PricesFit g price → Improves g price (swept group g.streams price n)
sweep_improves g group price zero limits groups fit = record { fit = fit; up = le_refl (dual_value price g.streams) }
sweep_improves g group price (suc n) limits groups fit =
    let before = sweep_improves g group price n limits groups fit in
    let step = step_improves g group (swept group g.streams price n) n limits groups before.fit in
    record {
      fit = step.fit;
      up = le_trans (dual_value price g.streams) (dual_value (swept group g.streams price n) g.streams) (dual_value (stepped group g.streams (swept group g.streams price n) n) g.streams) before.up step.up;
    }

-- prices of 0 fit
zero_in_box : (m : Option Meas) → IfSome m (λ m. unsigned_abs (m.variance *ℤ (pos 0 -ℤ pos 0)) ≤ 2 ^ 112)
zero_in_box None = tt
zero_in_box (Some m) = rw (mul_zero m.variance) (omega arith)

pub zero_fits : (g : ProcessGraph) → PricesFit g (λ n. pos 0)
zero_fits g = record {
  shared = λ a b a_lt b_lt same. refl;
  fixed = λ n lt held. refl;
  within = λ n lt. omega arith;
  box = λ j d lt. zero_in_box _;
}

pub prices_fit : (g : ProcessGraph) (group : List ℕ) (k : ℕ) → IsProcessGraph g → AreGroups g group → PricesFit g (prices_after g group k)
prices_fit g group zero limits groups = zero_fits g
prices_fit g group (suc k) limits groups = (sweep_improves g group (prices_after g group k) (group_count group) limits groups (prices_fit g group k limits groups)).fit

pub ascent_law : AscentLaw
ascent_law g group k limits groups =
    let fit = prices_fit g group k limits groups in
    record { fit = fit; ascent = (sweep_improves g group (prices_after g group k) (group_count group) limits groups fit).up }

pub idle_law : IdleLaw
idle_law g group k zero same = let e : 0 + k ≡ k = omega arith in ap (prices_after g group) e
idle_law g group k (suc n) same = let e : suc n + k ≡ suc (n + k) = omega arith in ap (prices_after g group) e ∙ ap (λ (price : ℕ → ℤ). swept group g.streams price (group_count group)) (idle_law g group k n same) ∙ same
