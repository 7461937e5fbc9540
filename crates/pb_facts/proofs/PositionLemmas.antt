-- The first place at which a test passes, in a list that grows at its end.
use Rattle.std.proofs.Common.{◌≡◌, ◌≢◌, ◌<◌, ◌≤◌, ◌+◌, ◌++◌, ◌∷◌, [], ◌∙◌, ℕ, suc, List, Bool, true, false, Some, None, length, get_or, arith, sym, refl, inl, inr, cond, length-append}
use Rattle.std.specs.Prelude.{not, nat_lt, ◌==◌, is_some, position}
use Rattle.std.specs.List.{list_any, position_or_len}
use Rattle.std.proofs.lemmas.Bool.{cases_Bool, eqb-false, eqb-true, ltb-false, ltb-true}
use Rattle.std.proofs.Math.ListN.{get_or-append}
use Rattle.std.proofs.Math.Seq.{get_or-append_seam}
use Rattle.std.proofs.lemmas.List.Folds.{list_any_at, position_or_len_push}
use Rattle.std.proofs.lemmas.List.Sums.{position_or_len_is, prefix_len-le-length}

below_true : (a b : ℕ) → a < b → nat_lt a b ≡ true
below_true a b lt = elim (cases_Bool (nat_lt a b)) [ inl passes ↦ passes | inr fails ↦ absurd (omega (arith, ltb-false a b fails)) ]

below_false : (a b : ℕ) → b ≤ a → nat_lt a b ≡ false
below_false a b le = elim (cases_Bool (nat_lt a b)) [ inl passes ↦ absurd (omega (arith, ltb-true a b passes)) | inr fails ↦ fails ]

-- the place at which the test passes, if it fails before this place
pub position_at : {X : Type 0} (p : X → Bool) (xs : List X) (i : ℕ) (d : X) → i < length xs → ((k : ℕ) → k < i → p (get_or xs k d) ≡ false)
    → p (get_or xs i d) ≡ true → position p xs ≡ Some i
position_at p xs i d within before here =
    let e = position_or_len_is p xs i d (omega arith) before (λ _. here) in
    rw (e, below_true i (length xs) within) refl

-- no place, if the test fails everywhere
pub position_none : {X : Type 0} (p : X → Bool) (xs : List X) → ((k : ℕ) (d : X) → k < length xs → p (get_or xs k d) ≡ false) → position p xs ≡ None
position_none p [] fails = refl
position_none p (x ∷ xs) fails =
    let e = position_or_len_is p (x ∷ xs) (length (x ∷ xs)) x (omega arith) (λ k lt. fails k x lt) (λ past. absurd (omega arith)) in
    rw (e, below_false (length (x ∷ xs)) (length (x ∷ xs)) (omega arith)) refl

-- if no item passes, the item at each place fails
pub any_absent : {X : Type 0} (p : X → Bool) (xs : List X) → list_any p xs ≡ false → (k : ℕ) (d : X) → k < length xs → p (get_or xs k d) ≡ false
any_absent p xs none k d within = elim (cases_Bool (p (get_or xs k d))) [
  | inl passes ↦ cc (sym none ∙ list_any_at p xs k d within passes)
  | inr fails ↦ fails
]

-- there is a place exactly when some item passes
pub is_some-position : {X : Type 0} (p : X → Bool) (xs : List X) → is_some (position p xs) ≡ list_any p xs
is_some-position p [] = refl
is_some-position p (x ∷ xs) = by (p x) refl (is_some-position p xs)
  where
    tail : (b : Bool) (a n : ℕ) → nat_lt a n ≡ b → nat_lt (1 + a) (suc n) ≡ b
    tail true a n e = below_true (1 + a) (suc n) (omega (arith, ltb-true a n e))
    tail false a n e = below_false (1 + a) (suc n) (omega (arith, ltb-false a n e))

    test : (b : Bool) (a n : ℕ) → is_some (cond b (Some (1 + a)) None) ≡ is_some (cond b (Some a) None)
    test true a n = refl
    test false a n = refl

    by : (b : Bool) → p x ≡ b → is_some (position p xs) ≡ list_any p xs → is_some (position p (x ∷ xs)) ≡ list_any p (x ∷ xs)
    by true e so_far = rw (e, below_true 0 (suc (length xs)) (omega arith)) refl
    by false e so_far =
        let n = length xs in
        let a = position_or_len p xs in
        rw (e, tail (nat_lt a n) a n refl) (test (nat_lt a n) a n ∙ so_far)

-- one more item that passes, if none did
pub position_push_new : {X : Type 0} (p : X → Bool) (xs : List X) (x : X) → list_any p xs ≡ false → p x ≡ true → position p (xs ++ x ∷ []) ≡ Some (length xs)
position_push_new p xs x none here =
    let long = length-append xs (x ∷ []) in
    position_at p (xs ++ x ∷ []) (length xs) x (omega arith)
    (λ k lt. rw (get_or-append xs (x ∷ []) x k lt) (any_absent p xs none k x lt))
    (rw (get_or-append_seam xs x [] x) here)

-- one more item that fails
pub position_push_other : {X : Type 0} (p : X → Bool) (xs : List X) (x : X) → p x ≡ false → position p (xs ++ x ∷ []) ≡ position p xs
position_push_other p xs x fails =
    let push = position_or_len_push p xs x in
    let long = length-append xs (x ∷ []) in
    let within = prefix_len-le-length (λ y. not (p y)) xs in
    elim (cases_Bool (position_or_len p xs == length xs)) [
      | inl all ↦
          let place = eqb-true (position_or_len p xs) (length xs) all in
          let end : position_or_len p (xs ++ x ∷ []) ≡ length xs + 1 = rw (all, fails) at push in
          rw (end, below_false (length xs + 1) (length (xs ++ x ∷ [])) (omega arith), below_false (position_or_len p xs) (length xs) (omega arith)) refl
      | inr some ↦
          let kept : position_or_len p (xs ++ x ∷ []) ≡ position_or_len p xs = rw some at push in
          let apart : position_or_len p xs ≢ length xs = eqb-false (position_or_len p xs) (length xs) some in
          let low : position_or_len p xs < length xs = omega arith in
          rw (kept, below_true (position_or_len p xs) (length (xs ++ x ∷ [])) (omega arith), below_true (position_or_len p xs) (length xs) low) refl
    ]
