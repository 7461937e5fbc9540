-- A text that was appended if a call succeeded.
use Rattle.std.proofs.Common.{◌≡◌, ℕ, List, ◌++◌, OnOk, Result, Ok, Err}

-- a text with this property was appended
pub appends_such : {T E : Type 0} (r : Result T E) (Holds : List ℕ → Type 0) (old new text : List ℕ) → Holds text → OnOk r (new ≡ old ++ text)
    → OnOk r ((t : List ℕ) × (new ≡ old ++ t) × Holds t)
appends_such (Ok x) Holds old new text holds is = (text, is, holds)
appends_such (Err e) Holds old new text holds is = tt

-- and so a text with this property
pub appends_so : {T E : Type 0} (r : Result T E) (Holds Then : List ℕ → Type 0) (old new : List ℕ) → ((t : List ℕ) → Holds t → Then t)
    → OnOk r ((t : List ℕ) × (new ≡ old ++ t) × Holds t) → OnOk r ((t : List ℕ) × (new ≡ old ++ t) × Then t)
appends_so (Ok x) Holds Then old new so (text, is, holds) = (text, is, so text holds)
appends_so (Err e) Holds Then old new so appended = tt
