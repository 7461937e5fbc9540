-- What a verdict says of the ends.
use Rattle.std.proofs.Common.{◌≡◌, ℤ, ◌<ℤ◌, Bool, true, false, cond, Option, refl, arith}
use Rattle.std.specs.Prelude.{int_le, int_lt}
use Rattle.std.specs.Option.{option_map_or}
use Rattle.std.proofs.lemmas.Int.{ints}
use Rattle.pb_study.specs.declared.results.Verdict.{Verdict}
use Rattle.pb_study.specs.declared.results.Verdict.TheVariants.{Reject, Accept, Undecided, NoTest}
use Rattle.pb_stage.specs.Verdicts.{verdict_at}

-- whether there is a high end and it is at most the critical value
abbrev pub is_at_most : ℤ → Option ℤ → Bool
is_at_most critical high = option_map_or (λ high. int_le high critical) high false

first_chosen : (a b : Bool) → cond a Reject (cond b Accept Undecided) ≡ Reject → a ≡ true
first_chosen true b h = refl
first_chosen false true h = cc h
first_chosen false false h = cc h

second_chosen : (a b : Bool) → cond a Reject (cond b Accept Undecided) ≡ Accept → b ≡ true
second_chosen true b h = cc h
second_chosen false true h = refl
second_chosen false false h = cc h

-- the low end of a statistic that is rejected is above the critical value
pub rejected : (low : ℤ) (high : Option ℤ) (c : ℤ) → verdict_at low high c ≡ Reject → c <ℤ low
rejected low high c h = let less = first_chosen (int_lt c low) (is_at_most c high) h in omega (arith, ints, less)

-- a statistic that is accepted has a high end, which is at most the critical value
pub accepted : (low : ℤ) (high : Option ℤ) (c : ℤ) → verdict_at low high c ≡ Accept → is_at_most c high ≡ true
accepted low high c h = second_chosen (int_lt c low) (is_at_most c high) h

-- a verdict other than that there is nothing to test is that on the statistic
pub tested : (none : Bool) (v : Verdict) {w : Verdict} → cond none NoTest v ≡ w → (NoTest ≡ w → ⊥) → v ≡ w
tested true v h other = absurd (other h)
tested false v h other = h
