-- Statement. The greatest and the least number that passes a test (bounded search: Kleene,
-- Introduction to Metamathematics).
use Rattle.std.specs.Prelude.{ℕ, zero, suc, Bool, if◌then◌else◌}

-- the greatest number up to n that passes, or 0 if none does
unfoldable pub greatest_upto : (ℕ → Bool) → ℕ → ℕ
greatest_upto pass zero = zero
greatest_upto pass (suc n) = if pass (suc n) then suc n else greatest_upto pass n

-- the least number up to n that passes, or n + 1 if none does
unfoldable pub least_upto : (ℕ → Bool) → ℕ → ℕ
least_upto pass zero = if pass zero then zero else suc zero
least_upto pass (suc n) = if pass zero then zero else suc (least_upto (λ k. pass (suc k)) n)
