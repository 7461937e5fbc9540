-- Live facts found by a test.
use Rattle.std.specs.Prelude.{not, ◌&&◌, nat_lt, find, option_and_then, position}
use Rattle.std.specs.List.{position_or_len}
use Rattle.std.proofs.Common.{◌≡◌, ◌∙◌, ◌+◌, ℕ, suc, List, [], ◌∷◌, length, Bool, true, false, Option, Some, None, cond, refl, sym, ap, arith, inl, inr}
use Rattle.std.proofs.lemmas.Bool.{cases_Bool, lt-ltb, ltb-false, ltb-true}
use Rattle.pb_facts.specs.declared.fact.Fact.{Fact}
use Rattle.pb_facts.specs.declared.facts.KeptFact.{KeptFact}
use Rattle.pb_facts.specs.Facts.{live_at, live_facts}

below_next : (a n : ℕ) → nat_lt (1 + a) (suc n) ≡ nat_lt a n
below_next a n = elim (cases_Bool (nat_lt a n)) [
  | inl lt ↦ lt-ltb (1 + a) (suc n) (omega (arith, ltb-true a n lt)) ∙ sym lt
  | inr ge ↦ elim (cases_Bool (nat_lt (1 + a) (suc n))) [
    | inl lt ↦ absurd (omega (arith, ltb-true (1 + a) (suc n) lt, ltb-false a n ge))
    | inr not_lt ↦ not_lt ∙ sym ge
  ]
]

-- the place of the first item that passes, after one that fails
position_next : {X Y : Type 0} (p : X → Bool) (f : ℕ → Option Y) (x : X) (xs : List X) → p x ≡ false
    → option_and_then f (position p (x ∷ xs)) ≡ option_and_then (λ i. f (suc i)) (position p xs)
position_next {X} {Y} p f x xs fails = let a = position_or_len p xs in let n = length xs in rw (fails, below_next a n) (by (nat_lt a n) a)
  where
    by : (b : Bool) (a : ℕ) → option_and_then f (cond b (Some (1 + a)) None) ≡ option_and_then (λ i. f (suc i)) (cond b (Some a) None)
    by true a = let e : 1 + a ≡ suc a = omega arith in ap f e
    by false a = refl

-- the first item, if it passes
position_here : {X Y : Type 0} (p : X → Bool) (f : ℕ → Option Y) (x : X) (xs : List X) → p x ≡ true → option_and_then f (position p (x ∷ xs)) ≡ f 0
position_here {X} {Y} p f x xs passes = rw (passes, lt-ltb 0 (suc (length xs)) (omega arith)) refl

-- a kept fact is live and passes a test
abbrev pub passes_live : (Fact → Bool) → KeptFact → Bool
passes_live q k = not k.struck && q k.fact

-- the first live fact that passes, if the first kept fact is struck, or passes, or fails
find_struck : (q : Fact → Bool) (k : KeptFact) (kept : List KeptFact) → k.struck ≡ true → find q (live_facts (k ∷ kept)) ≡ find q (live_facts kept)
find_struck q k kept struck = rw struck refl

find_here : (q : Fact → Bool) (k : KeptFact) (kept : List KeptFact) → k.struck ≡ false → q k.fact ≡ true → find q (live_facts (k ∷ kept)) ≡ live_at (k ∷ kept) 0
find_here q k kept live passes = rw (live, passes) refl

find_later : (q : Fact → Bool) (k : KeptFact) (kept : List KeptFact) → k.struck ≡ false → q k.fact ≡ false → find q (live_facts (k ∷ kept)) ≡ find q (live_facts kept)
find_later q k kept live fails = rw (live, fails) refl

-- the first live fact that passes a test is at the place of the first kept one that is live and passes
find_live : (q : Fact → Bool) (kept : List KeptFact) → find q (live_facts kept) ≡ option_and_then (live_at kept) (position (passes_live q) kept)
find_live q [] = refl
find_live q (k ∷ kept) = elim (cases_Bool k.struck) [
  | inl struck ↦ find_struck q k kept struck ∙ find_live q kept ∙ sym (position_next (passes_live q) (live_at (k ∷ kept)) k kept (rw struck refl))
  | inr live ↦ elim (cases_Bool (q k.fact)) [
    | inl passes ↦ find_here q k kept live passes ∙ sym (position_here (passes_live q) (live_at (k ∷ kept)) k kept (rw (live, passes) refl))
    | inr fails ↦ find_later q k kept live fails ∙ find_live q kept ∙ sym (position_next (passes_live q) (live_at (k ∷ kept)) k kept (rw (live, fails) refl))
  ]
]

-- what is live at that place
pub found : (q : Fact → Bool) (kept : List KeptFact) (place : Option ℕ) → place ≡ position (passes_live q) kept
    → option_and_then (live_at kept) place ≡ find q (live_facts kept)
found q kept place is = ap (option_and_then (live_at kept)) is ∙ sym (find_live q kept)
