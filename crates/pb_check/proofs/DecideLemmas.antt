-- What is decided: a fact that holds or doesn't, and the first place at which one doesn't.
use Rattle.std.proofs.Common.{◌≡◌, ◌⊎◌, ◌↔◌, ◌∙◌, ℕ, zero, suc, ◌+◌, ◌<◌, ◌≤◌, Bool, false, IsTrue, sym, subst, inl, inr, arith}
use Rattle.std.proofs.lemmas.Bool.{cases_lt}
use Rattle.pb_graph.proofs.ReachLemmas.{IsDecidable}
use Rattle.pb_check.specs.First.{IsFirstWithout}

pub decided_both : {P Q : Type 0} → IsDecidable P → IsDecidable Q → IsDecidable (P × Q)
decided_both p q = elim p [
  | inl x ↦ elim q [ inl y ↦ inl (x, y) | inr out ↦ inr (λ r. out r.1) ]
  | inr out ↦ inr (λ r. out r.0)
]

pub decided_as : {P Q : Type 0} → (P → Q) → (Q → P) → IsDecidable P → IsDecidable Q
decided_as forth back p = elim p [ inl x ↦ inl (forth x) | inr out ↦ inr (λ y. out (back y)) ]

pub decided_not : {P : Type 0} → IsDecidable P → IsDecidable (P → ⊥)
decided_not p = elim p [ inl x ↦ inr (λ out. out x) | inr out ↦ inl out ]

pub decided_if : {P Q : Type 0} → IsDecidable P → IsDecidable Q → IsDecidable (P → Q)
decided_if p q = elim q [
  | inl y ↦ inl (λ x. y)
  | inr out ↦ elim p [ inl x ↦ inr (λ f. out (f x)) | inr never ↦ inl (λ x. absurd (never x)) ]
]

-- one more place
pub one_more : (P : ℕ → Type 0) (n : ℕ) → ((k : ℕ) → k < n → P k) → P n → (k : ℕ) → k < n + 1 → P k
one_more P n each here k lt = elim (cases_lt k n) [
  | inl less ↦ each k less
  | inr past ↦ subst P (omega (arith, lt, past)) here
]

-- a test that is false decides against
pub fails_by : (P : Type 0) (b : Bool) → (IsTrue b ↔ P) → b ≡ false → P → ⊥
fails_by P b decides false_is p = cc (sym false_is ∙ decides.1 p)

-- each place has what it should have, or there is a first one that doesn't
pub each_or_first : (P : ℕ → Type 0) (n : ℕ) → ((k : ℕ) → k < n → IsDecidable (P k)) → ((k : ℕ) → k < n → P k) ⊎ ((k : ℕ) × IsFirstWithout P n k)
each_or_first P zero decided = inl (λ k lt. absurd (omega (arith, lt)))
each_or_first P (suc n) decided = elim (each_or_first P n (λ k lt. decided k (omega (arith, lt)))) [
  | inl each ↦ elim (decided n (omega arith)) [
    | inl here ↦ inl (λ k lt. one_more P n each here k (omega (arith, lt)))
    | inr fails ↦ inr (n, record { within = omega arith; before = each; without = fails })
  ]
  | inr (k, first) ↦ inr (k, record { within = omega (arith, first.within); before = first.before; without = first.without })
]

-- not both
pub not_both : (P : ℕ → Type 0) (n k : ℕ) → ((i : ℕ) → i < n → P i) → IsFirstWithout P n k → ⊥
not_both P n k each first = first.without (each k first.within)

-- not two
pub one_first : (P : ℕ → Type 0) (n j k : ℕ) → IsFirstWithout P n j → IsFirstWithout P n k → j ≡ k
one_first P n j k one other = elim (cases_lt j k) [
  | inl less ↦ absurd (one.without (other.before j less))
  | inr past ↦ elim (cases_lt k j) [
    | inl less ↦ absurd (other.without (one.before k less))
    | inr le ↦ omega (arith, past, le)
  ]
]

-- if some place has P, there is a least one
pub least_with : (P : ℕ → Type 0) (n : ℕ) → ((k : ℕ) → IsDecidable (P k)) → P n → (m : ℕ) × P m × ((k : ℕ) → P k → m ≤ k)
least_with P n decided here = elim (each_or_first (λ k. P k → ⊥) (n + 1) (λ k lt. decided_not (decided k))) [
  | inl none ↦ absurd (none n (omega arith) here)
  | inr (m, first) ↦ (
    m,
    elim (decided m) [ inl p ↦ p | inr out ↦ absurd (first.without out) ],
    λ k p. elim (cases_lt k m) [ inl less ↦ absurd (first.before k less p) | inr past ↦ past ],
  )
]
