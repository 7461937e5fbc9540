-- Inside. How a text lies in an array of bytes: at the front, with zeros after it.
use Rattle.std.specs.Prelude.{◌≡◌, ◌≤◌, ◌-◌, ◌++◌, ℕ, List, Bool, length, take, drop, replicate, true}
use Rattle.std.proofs.Common.{arith, ap, sym, ◌∙◌}
use Rattle.std.proofs.lemmas.List.{length-take-le, take-append-drop}

-- the first bytes have the form, and zeros come after them
pub record IsPadded (is_form : List ℕ → Bool) (room len : ℕ) (bytes : List ℕ) : Type 0 where
  pub long : length bytes ≡ room
  pub fits : len ≤ room
  pub form : is_form (take len bytes) ≡ true
  pub zeros : drop len bytes ≡ replicate (room - len) 0

-- how long the text is follows from its bytes
pub padded_len : (is_form : List ℕ → Bool) (room len : ℕ) (bytes : List ℕ) → IsPadded is_form room len bytes → length (take len bytes) ≡ len
padded_len is_form room len bytes h = length-take-le len bytes (omega (arith, h.fits, h.long))

-- and so does the array
pub padded_bytes : (is_form : List ℕ → Bool) (room len : ℕ) (bytes : List ℕ) → IsPadded is_form room len bytes
    → take len bytes ++ replicate (room - length (take len bytes)) 0 ≡ bytes
padded_bytes is_form room len bytes h =
    ap (λ (n : ℕ). take len bytes ++ replicate {A = ℕ} (room - n) 0) (padded_len is_form room len bytes h)
    ∙ ap (λ (z : List ℕ). take len bytes ++ z) (sym h.zeros) ∙ take-append-drop len bytes
