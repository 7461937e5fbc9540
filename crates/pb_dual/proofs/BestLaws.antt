-- The best candidate along a parabola is the nearest quotient moved into the interval.
use Rattle.std.proofs.Common.{◌≡◌, ◌∙◌, ℕ, zero, suc, ℤ, pos, negsuc, ◌+ℤ◌, ◌-ℤ◌, ◌*ℤ◌, ◌≤ℤ◌, ◌<ℤ◌, List, [], ◌∷◌, inl, inr, refl, sym, subst, ap, arith, unsigned_abs}
use Rattle.std.specs.Prelude.{int_lt}
use Rattle.std.proofs.lemmas.Bool.{cases_Bool}
use Rattle.std.proofs.lemmas.Int.{by_lt_z, ints}
use Rattle.pb_fixed.proofs.Order.{mul_mono, mul_negative, mul_nonneg}
use Rattle.pb_fixed.proofs.Ring.{Expr, var, lit, plus, times, minus, ring}
use Rattle.pb_fixed.specs.Quotients.{IsNearest}
use Rattle.pb_dual.specs.Best.{best, best_upto, clamped, IsBest}
use Rattle.pb_dual.specs.Moves.{FallsAlong}

-- at the last candidate, or among the earlier ones
last_or : (P : ℤ → Type 0) (lo d : ℤ) (n : ℕ) → d ≤ℤ (lo +ℤ pos (suc n)) → (d ≤ℤ (lo +ℤ pos n) → P d) → P (lo +ℤ pos (suc n)) → P d
last_or P lo d n h early late = by_lt_z d (lo +ℤ pos (suc n))
    (λ less. early (omega (arith, ints, less)))
    (λ ge. let e : lo +ℤ pos (suc n) ≡ d = omega (arith, ints, h, ge) in subst P e late)

-- the search's answer is a best candidate
upto_is : (value : ℤ → ℤ) (lo : ℤ) (n : ℕ) → IsBest value lo (lo +ℤ pos n) (best_upto value lo n)
upto_is value lo zero = record {
  from = omega (arith, ints);
  to = omega (arith, ints);
  most = λ d a b. let e : d ≡ lo = omega (arith, ints, a, b) in subst (λ (x : ℤ). value x ≤ℤ value lo) (sym e) (omega (arith, ints));
  least = λ d a b. absurd (omega (arith, ints, a, b));
}
upto_is value lo (suc n) =
    let before = best_upto value lo n in
    let last = lo +ℤ pos (suc n) in
    let b = upto_is value lo n in
    elim (cases_Bool (int_lt (value before) (value last))) [
      | inl more ↦ rw more (
          let up : value before <ℤ value last = omega (arith, ints, more) in
          record {
            from = omega (arith, ints);
            to = omega (arith, ints);
            most = λ d a h. last_or (λ (x : ℤ). value x ≤ℤ value last) lo d n h (λ k. let m = b.most d a k in omega (arith, ints, m, up)) (omega (arith, ints));
            least = λ d a h. let m = b.most d a (omega (arith, ints, h)) in omega (arith, ints, m, up);
          })
      | inr not_more ↦ rw not_more (
          let up : value last ≤ℤ value before = omega (arith, ints, not_more) in
          record {
            from = b.from;
            to = omega (arith, ints, b.to);
            most = λ d a h. last_or (λ (x : ℤ). value x ≤ℤ value before) lo d n h (λ k. b.most d a k) up;
            least = b.least;
          })
    ]

pub best_is : (value : ℤ → ℤ) (lo hi : ℤ) → lo ≤ℤ hi → IsBest value lo hi (best value lo hi)
best_is value lo hi le =
    let e : lo +ℤ pos (unsigned_abs (hi -ℤ lo)) ≡ hi = omega (arith, ints, le) in
    subst (λ (x : ℤ). IsBest value lo x (best value lo hi)) e (upto_is value lo (unsigned_abs (hi -ℤ lo)))

-- there is only one best candidate
one_best : (value : ℤ → ℤ) (lo hi c d : ℤ) → IsBest value lo hi c → IsBest value lo hi d → c ≡ d
one_best value lo hi c d b e = by_lt_z c d
    (λ less. let m = b.most d e.from e.to in let l = e.least c b.from less in absurd (omega (arith, ints, m, l)))
    (λ le. by_lt_z d c
    (λ less. let m = e.most c b.from b.to in let l = b.least d e.from less in absurd (omega (arith, ints, m, l)))
    (λ ge. omega (arith, ints, le, ge)))

best_only : (value : ℤ → ℤ) (lo hi c : ℤ) → IsBest value lo hi c → best value lo hi ≡ c
best_only value lo hi c b = one_best value lo hi (best value lo hi) c (best_is value lo hi (omega (arith, ints, b.from, b.to))) b

-- how two values differ
difference : (value : ℤ → ℤ) (old n a c d : ℤ) → FallsAlong value old n a
    → value c ≡ value d +ℤ ((d -ℤ c) *ℤ ((a *ℤ ((c +ℤ d) -ℤ (pos 2 *ℤ old))) +ℤ (pos 2 *ℤ n)))
difference value old n a c d law =
    let vs : List ℤ = value old ∷ old ∷ n ∷ a ∷ c ∷ d ∷ [] in
    let F = var 0 in
    let O = var 1 in
    let N = var 2 in
    let A = var 3 in
    let C = var 4 in
    let D = var 5 in
    let at = λ (x : Expr). plus F (minus (times (plus x (minus O)) (plus (times (lit (pos 2)) N) (times A (plus x (minus O)))))) in
    let both : value old -ℤ ((c -ℤ old) *ℤ ((pos 2 *ℤ n) +ℤ (a *ℤ (c -ℤ old))))
    ≡ (value old -ℤ ((d -ℤ old) *ℤ ((pos 2 *ℤ n) +ℤ (a *ℤ (d -ℤ old))))) +ℤ ((d -ℤ c) *ℤ ((a *ℤ ((c +ℤ d) -ℤ (pos 2 *ℤ old))) +ℤ (pos 2 *ℤ n))) =
    ring vs (at C) (plus (at D) (times (plus D (minus C)) (plus (times A (plus (plus C D) (minus (times (lit (pos 2)) O)))) (times (lit (pos 2)) N)))) refl in
    law c ∙ both ∙ ap (λ (x : ℤ). x +ℤ ((d -ℤ c) *ℤ ((a *ℤ ((c +ℤ d) -ℤ (pos 2 *ℤ old))) +ℤ (pos 2 *ℤ n)))) (sym (law d))

-- the second factor of the difference, where s is how far the sum of two candidates is above twice the nearest one
slope_is : (old n a q k s : ℤ) → k ≡ s +ℤ (pos 2 *ℤ (old -ℤ q)) → (a *ℤ (k -ℤ (pos 2 *ℤ old))) +ℤ (pos 2 *ℤ n) ≡ ((a *ℤ s) -ℤ (q *ℤ (pos 2 *ℤ a))) +ℤ (pos 2 *ℤ n)
slope_is old n a q k s e =
    let vs : List ℤ = old ∷ n ∷ a ∷ q ∷ s ∷ [] in
    let O = var 0 in
    let N = var 1 in
    let A = var 2 in
    let Q = var 3 in
    let S = var 4 in
    subst (λ (x : ℤ). (a *ℤ (x -ℤ (pos 2 *ℤ old))) +ℤ (pos 2 *ℤ n) ≡ ((a *ℤ s) -ℤ (q *ℤ (pos 2 *ℤ a))) +ℤ (pos 2 *ℤ n)) (sym e) (
    ring vs (plus (times A (plus (plus S (times (lit (pos 2)) (plus O (minus Q)))) (minus (times (lit (pos 2)) O)))) (times (lit (pos 2)) N))
    (plus (plus (times A S) (minus (times Q (times (lit (pos 2)) A)))) (times (lit (pos 2)) N)) refl)

slope_above : (old n a q k : ℤ) → pos 0 <ℤ a → IsNearest n a q → (pos 2 *ℤ (old -ℤ q)) <ℤ k → pos 0 ≤ℤ ((a *ℤ (k -ℤ (pos 2 *ℤ old))) +ℤ (pos 2 *ℤ n))
slope_above old n a q k h near less =
    let s = k -ℤ (pos 2 *ℤ (old -ℤ q)) in
    let e = slope_is old n a q k s (omega (arith, ints)) in
    let m = mul_mono (pos 1) s a (omega (arith, ints, less)) (omega (arith, ints, h)) in
    let b = near.below in
    omega (arith, ints, e, m, b)

slope_below : (old n a q k : ℤ) → pos 0 <ℤ a → IsNearest n a q → k <ℤ (pos 2 *ℤ (old -ℤ q)) → ((a *ℤ (k -ℤ (pos 2 *ℤ old))) +ℤ (pos 2 *ℤ n)) <ℤ pos 0
slope_below old n a q k h near less =
    let s = k -ℤ (pos 2 *ℤ (old -ℤ q)) in
    let e = slope_is old n a q k s (omega (arith, ints)) in
    let m = mul_mono s (negsuc 0) a (omega (arith, ints, less)) (omega (arith, ints, h)) in
    let b = near.next in
    omega (arith, ints, e, m, b)

up_to : (x y p : ℤ) → x ≡ y +ℤ p → pos 0 ≤ℤ p → y ≤ℤ x
up_to x y p e h = omega (arith, ints, e, h)

down_to : (x y p : ℤ) → x ≡ y +ℤ p → p <ℤ pos 0 → x <ℤ y
down_to x y p e h = omega (arith, ints, e, h)

-- of two candidates with their middle above the nearest one, the lower is as good; with it below, the higher is better
falls : (value : ℤ → ℤ) (old n a q c d : ℤ) → FallsAlong value old n a → pos 0 <ℤ a → IsNearest n a q → c ≤ℤ d → (pos 2 *ℤ (old -ℤ q)) <ℤ (c +ℤ d) → value d ≤ℤ value c
falls value old n a q c d law h near le mid =
    up_to _ _ _ (difference value old n a c d law) (mul_nonneg (d -ℤ c) _ (omega (arith, ints, le)) (slope_above old n a q (c +ℤ d) h near mid))

rises : (value : ℤ → ℤ) (old n a q c d : ℤ) → FallsAlong value old n a → pos 0 <ℤ a → IsNearest n a q → c <ℤ d → (c +ℤ d) <ℤ (pos 2 *ℤ (old -ℤ q)) → value c <ℤ value d
rises value old n a q c d law h near less mid =
    down_to _ _ _ (difference value old n a c d law) (mul_negative (d -ℤ c) _ (omega (arith, ints, less)) (slope_below old n a q (c +ℤ d) h near mid))

pub best_is_nearest : (value : ℤ → ℤ) (lo hi old n a q : ℤ) → FallsAlong value old n a → pos 0 <ℤ a → lo ≤ℤ hi → IsNearest n a q
    → best value lo hi ≡ clamped lo hi (old -ℤ q)
best_is_nearest value lo hi old n a q law h le near = best_only value lo hi _ (
    let m = old -ℤ q in
    elim (cases_Bool (int_lt m lo)) [
      | inl low ↦ rw low (record {
        from = omega (arith, ints);
        to = le;
        most = λ d a1 b1. falls value old n a q lo d law h near a1 (omega (arith, ints, low, a1));
        least = λ d a1 b1. absurd (omega (arith, ints, a1, b1));
      })
      | inr not_low ↦ rw not_low (elim (cases_Bool (int_lt hi m)) [
        | inl high ↦ rw high (record {
          from = le;
          to = omega (arith, ints);
          most = λ d a1 b1. by_lt_z d hi
              (λ less. let r = rises value old n a q d hi law h near less (omega (arith, ints, high, less)) in omega (arith, ints, r))
              (λ ge. let e : hi ≡ d = omega (arith, ints, ge, b1) in subst (λ (x : ℤ). value x ≤ℤ value hi) e (omega (arith, ints)));
          least = λ d a1 b1. rises value old n a q d hi law h near b1 (omega (arith, ints, high, b1));
        })
        | inr not_high ↦ rw not_high (record {
          from = omega (arith, ints, not_low);
          to = omega (arith, ints, not_high);
          most = λ d a1 b1. by_lt_z d m
              (λ less. let r = rises value old n a q d m law h near less (omega (arith, ints, less)) in omega (arith, ints, r))
              (λ ge. by_lt_z m d
              (λ less. falls value old n a q m d law h near (omega (arith, ints, less)) (omega (arith, ints, less)))
              (λ ge2. let e : m ≡ d = omega (arith, ints, ge, ge2) in subst (λ (x : ℤ). value x ≤ℤ value m) e (omega (arith, ints))));
          least = λ d a1 b1. rises value old n a q d m law h near b1 (omega (arith, ints, b1));
        })
      ])
    ])
