-- Statement. How the dual value changes with the price of one group.
use Rattle.std.specs.Prelude.{◌≡◌, ◌==◌, ℕ, ℤ, pos, ◌+ℤ◌, ◌-ℤ◌, ◌*ℤ◌, List, if◌then◌else◌}
use Rattle.pb_fixed.specs.Sums.{sum_over}
use Rattle.pb_graph.specs.declared.records.Stream.{Stream}
use Rattle.pb_graph.specs.Groups.{entering, group_at}
use Rattle.pb_graph.specs.Variance.{group_variance}
use Rattle.pb_dual.specs.DualValue.{dual_flow, dual_value}

-- the prices with group k at c
abbrev pub with_price : List ℕ → (ℕ → ℤ) → ℕ → ℤ → ℕ → ℤ
with_price group price k c n = if group_at group n == k then c else price n

-- the net dual flow of group k: what enters it less what leaves it
abbrev pub group_flow : List ℕ → (ℕ → ℤ) → ℕ → List Stream → ℤ
group_flow group price k ss = sum_over (λ s. entering (group_at group s.from == k) (group_at group s.to == k) (dual_flow price s)) ss

-- a value falls along a parabola: at c it is the value at old less t * (2 * n + a * t), where t is c - old
abbrev pub FallsAlong : (ℤ → ℤ) → ℤ → ℤ → ℤ → Type 0
FallsAlong value old n a = (c : ℤ) → value c ≡ value old -ℤ ((c -ℤ old) *ℤ ((pos 2 *ℤ n) +ℤ (a *ℤ (c -ℤ old))))

-- Moving the price of group k by t changes the dual value by -t * (2 * N + A * t), where N is the net dual flow of the group and A
-- its variance.
abbrev pub MoveLaw : Type 0
MoveLaw = (group : List ℕ) (price : ℕ → ℤ) (k : ℕ) (old t : ℤ) (ss : List Stream) → ((n : ℕ) → group_at group n ≡ k → price n ≡ old)
    → dual_value (with_price group price k (old +ℤ t)) ss ≡ dual_value price ss -ℤ (t *ℤ ((pos 2 *ℤ group_flow group price k ss) +ℤ (group_variance group k ss *ℤ t)))
