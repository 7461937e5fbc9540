-- What is there is found.
use Rattle.std.proofs.Common.{◌≡◌, ℕ, ◌≤◌, ◌<◌, Option, Some, None, arith, refl}
use Rattle.std.specs.Prelude.{IfSome, MatchOption}
use Rattle.plantbal_c.specs.Status.{done}

-- there are more than so many, so that there is one at the place
pub done_at : {A : Type 0} (found : Option A) (status : ℕ) (new : A) (many place : ℕ) (P : A → Type 0) → MatchOption found (many ≤ place) P
    → IfSome found (λ value. (status ≡ done) × (new ≡ value)) → place < many → status ≡ done
done_at (Some value) status new many place P shown (is, same) lt = is
done_at None status new many place P shown written lt = absurd (omega (arith, shown, lt))

-- something has the name
pub done_named : {A : Type 0} (found : Option A) (status : ℕ) (new : A) → (found ≡ None → ⊥) → IfSome found (λ value. (status ≡ done) × (new ≡ value)) → status ≡ done
done_named (Some value) status new some (is, same) = is
done_named None status new some written = absurd (some refl)
