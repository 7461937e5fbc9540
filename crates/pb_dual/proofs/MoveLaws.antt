-- The dual value as one group's price moves.
use Rattle.std.proofs.Common.{◌≡◌, ◌∙◌, ◌==◌, ℕ, ℤ, pos, neg_ℤ, ◌+ℤ◌, ◌-ℤ◌, ◌*ℤ◌, List, [], ◌∷◌, true, false, not, refl, sym, ap, ap₂, inl, inr, arith, Bool, Option, Some, None}
use Rattle.std.specs.Prelude.{if◌then◌else◌}
use Rattle.std.proofs.lemmas.Bool.{cases_eq, eq-eqb, ne_eqb}
use Rattle.std.proofs.lemmas.Int.{ints}
use Rattle.pb_fixed.specs.Sums.{sum_over}
use Rattle.pb_fixed.proofs.Ring.{Expr, var, lit, plus, times, minus, ring}
use Rattle.pb_graph.specs.declared.records.Meas.{Meas}
use Rattle.pb_graph.specs.declared.records.Stream.{Stream}
use Rattle.pb_graph.specs.Groups.{entering, group_at}
use Rattle.pb_graph.specs.Prices.{rise_of}
use Rattle.pb_graph.specs.Variance.{variance_of, group_variance}
use Rattle.pb_dual.specs.DualValue.{scale, flow_at, cost_at, dual_flow, dual_value}
use Rattle.pb_dual.specs.Moves.{with_price, group_flow, FallsAlong, MoveLaw}

abbrev pick : Bool → ℤ → ℤ → ℤ
pick a c x = if a then c else x

-- what a stream adds to the variance, by which of its ends are in the group
abbrev crossing : Bool → Bool → ℤ → ℤ
crossing from_in to_in v = if (if to_in then not from_in else from_in) then v else pos 0

-- what one stream takes, with the group's price moved from old to c; x and y are the prices of its ends
abbrev Moved : Option Meas → Bool → Bool → ℤ → ℤ → ℤ → ℤ → Type 0
Moved o b a y x c old =
    cost_at o (pick a c x -ℤ pick b c y)
    ≡ cost_at o (pick a old x -ℤ pick b old y)
    +ℤ ((c -ℤ old) *ℤ ((pos 2 *ℤ entering b a (flow_at o (pick a old x -ℤ pick b old y))) +ℤ (crossing b a (variance_of o) *ℤ (c -ℤ old))))

-- expressions of a cost, and of how much a price that moves from x to y adds to it
abbrev cost_e : Expr → Expr → Expr → Expr
cost_e d val v = plus (times (times (lit (pos 2)) (lit scale)) (times d val)) (times v (times d d))

abbrev more_e : Expr → Expr → Expr → Expr → Expr
more_e x y n a = times (plus y (minus x)) (plus (times (lit (pos 2)) n) (times a (plus y (minus x))))

abbrev nothing : (c old : ℤ) → pos 0 ≡ pos 0 +ℤ ((c -ℤ old) *ℤ ((pos 2 *ℤ pos 0) +ℤ (pos 0 *ℤ (c -ℤ old))))
nothing c old = ring (c ∷ old ∷ []) (lit (pos 0)) (plus (lit (pos 0)) (more_e (var 1) (var 0) (lit (pos 0)) (lit (pos 0)))) refl

one : (o : Option Meas) (b a : Bool) (y x c old : ℤ) → Moved o b a y x c old
one None true true y x c old = nothing c old
one None true false y x c old = nothing c old
one None false true y x c old = nothing c old
one None false false y x c old = nothing c old
one (Some m) true true y x c old =
    let C = var 0 in
    let O = var 1 in
    ring (c ∷ old ∷ m.value ∷ m.variance ∷ []) (cost_e (plus C (minus C)) (var 2) (var 3)) (plus (cost_e (plus O (minus O)) (var 2) (var 3)) (more_e O C (lit (pos 0)) (lit (pos 0)))) refl
one (Some m) false true y x c old =
    let C = var 0 in
    let O = var 1 in
    let D = plus O (minus (var 4)) in
    let U = plus (times (lit scale) (var 2)) (times (var 3) D) in
    ring (c ∷ old ∷ m.value ∷ m.variance ∷ y ∷ []) (cost_e (plus C (minus (var 4))) (var 2) (var 3)) (plus (cost_e D (var 2) (var 3)) (more_e O C U (var 3))) refl
one (Some m) true false y x c old =
    let C = var 0 in
    let O = var 1 in
    let D = plus (var 4) (minus O) in
    let U = plus (times (lit scale) (var 2)) (times (var 3) D) in
    ring (c ∷ old ∷ m.value ∷ m.variance ∷ x ∷ []) (cost_e (plus (var 4) (minus C)) (var 2) (var 3)) (plus (cost_e D (var 2) (var 3)) (more_e O C (minus U) (var 3))) refl
one (Some m) false false y x c old =
    ring (c ∷ old ∷ cost_at (Some m) (x -ℤ y) ∷ []) (var 2) (plus (var 2) (more_e (var 1) (var 0) (lit (pos 0)) (lit (pos 0)))) refl

-- two such sums in one
join : (a b t n v n2 v2 : ℤ) → (a +ℤ (t *ℤ ((pos 2 *ℤ n) +ℤ (v *ℤ t)))) +ℤ (b +ℤ (t *ℤ ((pos 2 *ℤ n2) +ℤ (v2 *ℤ t))))
    ≡ (a +ℤ b) +ℤ (t *ℤ ((pos 2 *ℤ (n +ℤ n2)) +ℤ ((v +ℤ v2) *ℤ t)))
join a b t n v n2 v2 =
    let T = var 2 in
    let more = λ (x y : Expr). times T (plus (times (lit (pos 2)) x) (times y T)) in
    ring (a ∷ b ∷ t ∷ n ∷ v ∷ n2 ∷ v2 ∷ [])
    (plus (plus (var 0) (more (var 3) (var 4))) (plus (var 1) (more (var 5) (var 6))))
    (plus (plus (var 0) (var 1)) (more (plus (var 3) (var 5)) (plus (var 4) (var 6)))) refl

abbrev cost : (ℕ → ℤ) → Stream → ℤ
cost price s = cost_at s.meas (rise_of price s)

costs : (group : List ℕ) (price : ℕ → ℤ) (k : ℕ) (old c : ℤ) (ss : List Stream)
    → sum_over (cost (with_price group price k c)) ss
    ≡ sum_over (cost (with_price group price k old)) ss
    +ℤ ((c -ℤ old) *ℤ ((pos 2 *ℤ group_flow group (with_price group price k old) k ss) +ℤ (group_variance group k ss *ℤ (c -ℤ old))))
costs group price k old c [] = nothing c old
costs group price k old c (s ∷ ss) =
    let b = group_at group s.from == k in
    let a = group_at group s.to == k in
    let before = with_price group price k old in
    ap₂ (λ (x y : ℤ). x +ℤ y) (one s.meas b a (price s.from) (price s.to) c old) (costs group price k old c ss)
    ∙ join (cost before s) (sum_over (cost before) ss) (c -ℤ old) (entering b a (dual_flow before s)) (crossing b a (variance_of s.meas)) (group_flow group before k ss) (group_variance group k ss)

-- the dual value falls along a parabola
pub falls_along : (group : List ℕ) (price : ℕ → ℤ) (k : ℕ) (old : ℤ) (ss : List Stream)
    → FallsAlong (λ c. dual_value (with_price group price k c) ss) old (group_flow group (with_price group price k old) k ss) (group_variance group k ss)
falls_along group price k old ss c =
    turned (sum_over (cost (with_price group price k c)) ss) (sum_over (cost (with_price group price k old)) ss) ((c -ℤ old) *ℤ ((pos 2 *ℤ group_flow group (with_price group price k old) k ss) +ℤ (group_variance group k ss *ℤ (c -ℤ old)))) (costs group price k old c ss)
  where
    turned : (x y p : ℤ) → x ≡ y +ℤ p → neg_ℤ x ≡ neg_ℤ y -ℤ p
    turned x y p e = omega (arith, ints, e)

-- prices in which a group already has a price are the prices with the group at it
pub with_own : (group : List ℕ) (price : ℕ → ℤ) (k : ℕ) (old : ℤ) → ((n : ℕ) → group_at group n ≡ k → price n ≡ old) → with_price group price k old ≡ price
with_own group price k old h = λ i n. at n i
  where
    at : (n : ℕ) → with_price group price k old n ≡ price n
    at n = elim (cases_eq (group_at group n) k) [
      | inl same ↦ rw (eq-eqb (group_at group n) k same) (sym (h n same))
      | inr other ↦ rw (ne_eqb (group_at group n) k other) refl
    ]

pub move_law : MoveLaw
move_law group price k old t ss h =
    let own = with_own group price k old h in
    let law = falls_along group price k old ss (old +ℤ t) in
    let by : (old +ℤ t) -ℤ old ≡ t = omega (arith, ints) in
    law
    ∙ ap (λ (x : ℤ). dual_value (with_price group price k old) ss -ℤ (x *ℤ ((pos 2 *ℤ group_flow group (with_price group price k old) k ss) +ℤ (group_variance group k ss *ℤ x)))) by
    ∙ ap (λ (p : ℕ → ℤ). dual_value p ss -ℤ (t *ℤ ((pos 2 *ℤ group_flow group p k ss) +ℤ (group_variance group k ss *ℤ t)))) own
