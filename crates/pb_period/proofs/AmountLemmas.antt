-- Sums of amounts, and how large they are.
use Rattle.std.proofs.Common.{◌≡◌, ◌+◌, ◌≤◌, ℕ, ℤ, pos, ◌+ℤ◌, arith, ap₂}
use Rattle.std.proofs.lemmas.Int.{ints}
use Rattle.pb_period.specs.declared.amount.Amount.{Amount}
use Rattle.pb_period.specs.Amounts.{IsAmount, IsSmall, sum_of_two}
use Rattle.pb_period.specs.Facts.{no_amount}

add_none : (a : ℤ) → pos 0 +ℤ a ≡ a
add_none a = omega (arith, ints)

add_end : (a : ℤ) → a +ℤ pos 0 ≡ a
add_end a = omega (arith, ints)

add_assoc : (a b c : ℤ) → (a +ℤ b) +ℤ c ≡ a +ℤ (b +ℤ c)
add_assoc a b c = omega (arith, ints)

amount_by : (g h v w : ℤ) → g ≡ h → v ≡ w → (let one : Amount = record { grams = g; variance = v } in one) ≡ record { grams = h; variance = w }
amount_by g h v w e f = ap₂ (λ (x y : ℤ). let one : Amount = record { grams = x; variance = y } in one) e f

-- no mass, and an amount
pub none_more : (a : Amount) → sum_of_two no_amount a ≡ a
none_more a = amount_by _ _ _ _ (add_none a.grams) (add_none a.variance)

pub more_none : (a : Amount) → sum_of_two a no_amount ≡ a
more_none a = amount_by _ _ _ _ (add_end a.grams) (add_end a.variance)

pub sum_assoc : (a b c : Amount) → sum_of_two (sum_of_two a b) c ≡ sum_of_two a (sum_of_two b c)
sum_assoc a b c = amount_by _ _ _ _ (add_assoc a.grams b.grams c.grams) (add_assoc a.variance b.variance c.variance)

-- ---- how large they are

pub none_is_amount : IsAmount 0 no_amount
none_is_amount = record { grams = omega arith; from = omega (arith, ints); to = omega (arith, ints) }

pub sum_is_amount : (n m : ℕ) (a b : Amount) → IsAmount n a → IsAmount m b → IsAmount (n + m) (sum_of_two a b)
sum_is_amount n m a b left right = record {
  grams = omega (arith, ints, left.grams, right.grams);
  from = omega (arith, ints, left.from, right.from);
  to = omega (arith, ints, left.to, right.to);
}

pub of_more_facts : (n m : ℕ) (a : Amount) → n ≤ m → IsAmount n a → IsAmount m a
of_more_facts n m a le is = record { grams = omega (arith, is.grams, le); from = is.from; to = omega (arith, ints, is.to, le) }

pub is_small : (n : ℕ) (a : Amount) → n ≤ 200000 → IsAmount n a → IsSmall a
is_small n a few is = record { grams = omega (arith, is.grams, few); from = is.from; to = omega (arith, ints, is.to, few) }
