-- Statement. What is appended to a text.
use Rattle.std.specs.Prelude.{◌≡◌, ℕ, List, ◌++◌, Vec}

-- a text with this property was appended
abbrev pub AppendsText : {A : Type 0} → (List ℕ → Type 0) → Vec ℕ A → Vec ℕ A → Type 0
AppendsText Holds old new = (text : List ℕ) × (new.items ≡ old.items ++ text) × Holds text

-- the text stays as it was
abbrev pub KeepsText : {A : Type 0} → Vec ℕ A → Vec ℕ A → Type 0
KeepsText old new = new.items ≡ old.items
