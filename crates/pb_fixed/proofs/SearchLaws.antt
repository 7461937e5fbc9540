-- What the searches find.
use Rattle.std.specs.Prelude.{Bool, true}
use Rattle.std.proofs.Common.{◌≡◌, ℕ, zero, suc, ◌≤◌, inl, inr, arith}
use Rattle.std.proofs.lemmas.Bool.{cases_Bool, cases_eq}
use Rattle.pb_fixed.specs.Search.{greatest_upto, least_upto}

-- the greatest passes, if 0 does
pub greatest_upto-passes : (pass : ℕ → Bool) (n : ℕ) → pass 0 ≡ true → pass (greatest_upto pass n) ≡ true
unfolding greatest_upto
greatest_upto-passes pass zero h = h
greatest_upto-passes pass (suc n) h = elim (cases_Bool (pass (suc n))) [
  | inl passes ↦ rw passes passes
  | inr fails ↦ rw fails (greatest_upto-passes pass n h)
]

-- and no number up to n above it does
pub greatest_upto-greatest : (pass : ℕ → Bool) (n k : ℕ) → k ≤ n → pass k ≡ true → k ≤ greatest_upto pass n
unfolding greatest_upto
greatest_upto-greatest pass zero k le h = le
greatest_upto-greatest pass (suc n) k le h = elim (cases_Bool (pass (suc n))) [
  | inl passes ↦ rw passes le
  | inr fails ↦ rw fails (elim (cases_eq k (suc n)) [
    | inl e ↦ absurd (cc (e, h, fails))
    | inr ne ↦ greatest_upto-greatest pass n k (omega (arith, le, ne)) h
  ])
]

-- the least passes, if some number up to n does
pub least_upto-passes : (pass : ℕ → Bool) (n k : ℕ) → k ≤ n → pass k ≡ true → pass (least_upto pass n) ≡ true
unfolding least_upto
least_upto-passes pass zero k le h =
    let none : k ≡ 0 = omega (arith, le) in
    let here : pass 0 ≡ true = rw none at h in
    rw here here
least_upto-passes pass (suc n) zero le h = rw h h
least_upto-passes pass (suc n) (suc k) le h = elim (cases_Bool (pass 0)) [
  | inl passes ↦ rw passes passes
  | inr fails ↦ rw fails (least_upto-passes (λ j. pass (suc j)) n k (omega (arith, le)) h)
]

-- and each number that passes is at least it
pub least_upto-least : (pass : ℕ → Bool) (n k : ℕ) → k ≤ n → pass k ≡ true → least_upto pass n ≤ k
unfolding least_upto
least_upto-least pass zero k le h =
    let none : k ≡ 0 = omega (arith, le) in
    let here : pass 0 ≡ true = rw none at h in
    rw here (omega arith)
least_upto-least pass (suc n) zero le h = rw h (omega arith)
least_upto-least pass (suc n) (suc k) le h = elim (cases_Bool (pass 0)) [
  | inl passes ↦ rw passes (omega arith)
  | inr fails ↦ rw fails (let m = least_upto-least (λ j. pass (suc j)) n k (omega (arith, le)) h in omega (arith, m))
]
