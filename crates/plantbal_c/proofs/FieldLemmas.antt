-- The fields of a record, one after another, and records of them.
use Rattle.std.proofs.Common.{◌≡◌, ◌∙◌, ℕ, ◌+◌, ◌-◌, ◌<◌, ◌≤◌, List, [], ◌∷◌, ◌++◌, length, take, drop, get_or, ap, sym, refl, subst, append_assoc, append-nil}
use Rattle.std.proofs.lemmas.List.{drop_all, drop_more}
use Rattle.plantbal_c.specs.Fields.{AreFieldEnds, fields_between, last_end}

-- some fields are in the row, and the others lie between the places that are left
pub record IsSoFar (bytes ends : List ℕ) (start i from : ℕ) (row : List (List ℕ)) : Type 0 where
  pub fields : fields_between bytes start ends ≡ row ++ fields_between bytes from (drop i ends)
  pub apart : AreFieldEnds bytes start ends → AreFieldEnds bytes from (drop i ends)
  pub last : last_end start ends ≡ last_end from (drop i ends)

pub no_field : (bytes ends : List ℕ) (start : ℕ) → IsSoFar bytes ends start 0 start []
no_field bytes ends start = record { fields = refl; apart = λ are. are; last = refl }

pub one_field : (bytes ends : List ℕ) (start i from end : ℕ) (row : List (List ℕ)) → i < length ends → end ≡ get_or ends i 0
    → IsSoFar bytes ends start i from row → IsSoFar bytes ends start (i + 1) end (row ++ take (end - from) (drop from bytes) ∷ [])
one_field bytes ends start i from end row lt is so_far =
    let left : drop i ends ≡ end ∷ drop (i + 1) ends = drop_more ends i 0 lt ∙ ap (λ (e : ℕ). e ∷ drop (i + 1) ends) (sym is) in
    let piece : List ℕ = take (end - from) (drop from bytes) in
    record {
      fields = so_far.fields ∙ ap (λ (l : List ℕ). row ++ fields_between bytes from l) left ∙ sym (append_assoc row (piece ∷ []) (fields_between bytes end (drop (i + 1) ends)));
      apart = λ are. (subst (AreFieldEnds bytes from) left (so_far.apart are)).2;
      last = so_far.last ∙ ap (last_end from) left;
    }

-- the next field ends within the bytes, after it begins
pub next_end : (bytes ends : List ℕ) (start i from end : ℕ) (row : List (List ℕ)) → i < length ends → end ≡ get_or ends i 0
    → IsSoFar bytes ends start i from row → AreFieldEnds bytes start ends → (from ≤ end) × (end ≤ length bytes)
next_end bytes ends start i from end row lt is so_far are =
    let left : drop i ends ≡ end ∷ drop (i + 1) ends = drop_more ends i 0 lt ∙ ap (λ (e : ℕ). e ∷ drop (i + 1) ends) (sym is) in
    let next : AreFieldEnds bytes from (end ∷ drop (i + 1) ends) = subst (AreFieldEnds bytes from) left (so_far.apart are) in
    (next.0, next.1)

pub all_fields : (bytes ends : List ℕ) (start i from : ℕ) (row : List (List ℕ)) → length ends ≤ i → IsSoFar bytes ends start i from row
    → row ≡ fields_between bytes start ends
all_fields bytes ends start i from row le so_far =
    sym (append-nil row) ∙ ap (λ (l : List ℕ). row ++ fields_between bytes from l) (sym (drop_all i ends le)) ∙ sym so_far.fields

pub all_ends : (bytes ends : List ℕ) (start i from : ℕ) (row : List (List ℕ)) → length ends ≤ i → IsSoFar bytes ends start i from row
    → from ≡ last_end start ends
all_ends bytes ends start i from row le so_far = sym (so_far.last ∙ ap (last_end from) (drop_all i ends le))
