-- Equations of polynomials by computing: two expressions have the same value if their difference has no term left.
use Rattle.std.specs.Prelude.{◌&&◌, ◌==◌, Bool, nat_lt}
use Rattle.std.proofs.Common.{◌≡◌, ◌∙◌, ℕ, zero, suc, ℤ, pos, negsuc, neg_ℤ, ◌+ℤ◌, ◌*ℤ◌, ◌≤ℤ◌, ◌<ℤ◌, List, [], ◌∷◌, true, false, cond, ap, ap₂, sym, refl, inl, inr, arith, get_or}
use Rattle.std.proofs.lemmas.Bool.{cases_Bool, and_parts, eqb-true}
use Rattle.std.proofs.lemmas.Int.{ints}
use Rattle.pb_fixed.proofs.RingLaws.{add_assoc, add_comm, add_mul, mul_add, mul_assoc, mul_comm, mul_pairs, mul_swap, one_mul, zero_add, zero_mul}

-- variables by their place in a list of values, literals, sums, products and negatives
pub data Expr : Type 0 where
  var : ℕ → Expr
  lit : ℤ → Expr
  plus : Expr → Expr → Expr
  times : Expr → Expr → Expr
  minus : Expr → Expr

abbrev pub value : List ℤ → Expr → ℤ
value vs (var x) = get_or vs x (pos 0)
value vs (lit z) = z
value vs (plus a b) = value vs a +ℤ value vs b
value vs (times a b) = value vs a *ℤ value vs b
value vs (minus a) = neg_ℤ (value vs a)

-- a difference and a square, as expressions
abbrev pub less : Expr → Expr → Expr
less a b = plus a (minus b)

abbrev pub square : Expr → Expr
square a = times a a

-- the product of variables that stand in order
abbrev product : List ℤ → List ℕ → ℤ
product vs [] = pos 1
product vs (x ∷ m) = get_or vs x (pos 0) *ℤ product vs m

-- a product of variables, and how often it is taken
abbrev Term : Type 0
Term = List ℕ × ℤ

abbrev sum_of : List ℤ → List Term → ℤ
sum_of vs [] = pos 0
sum_of vs (t ∷ ts) = (t.1 *ℤ product vs t.0) +ℤ sum_of vs ts

-- one more variable, in order
abbrev put : ℕ → List ℕ → List ℕ
put x [] = x ∷ []
put x (y ∷ m) = cond (nat_lt y x) (y ∷ put x m) (x ∷ y ∷ m)

put_is : (vs : List ℤ) (x : ℕ) (m : List ℕ) → product vs (put x m) ≡ get_or vs x (pos 0) *ℤ product vs m
put_is vs x [] = refl
put_is vs x (y ∷ m) = elim (cases_Bool (nat_lt y x)) [
  | inl later ↦ rw later (ap (λ (z : ℤ). get_or vs y (pos 0) *ℤ z) (put_is vs x m) ∙ mul_swap (get_or vs y (pos 0)) (get_or vs x (pos 0)) (product vs m))
  | inr first ↦ rw first refl
]

abbrev join : List ℕ → List ℕ → List ℕ
join [] n = n
join (x ∷ m) n = put x (join m n)

join_is : (vs : List ℤ) (m n : List ℕ) → product vs (join m n) ≡ product vs m *ℤ product vs n
join_is vs [] n = sym (one_mul (product vs n))
join_is vs (x ∷ m) n =
    put_is vs x (join m n) ∙ ap (λ (z : ℤ). get_or vs x (pos 0) *ℤ z) (join_is vs m n) ∙ sym (mul_assoc (get_or vs x (pos 0)) (product vs m) (product vs n))

abbrev same : List ℕ → List ℕ → Bool
same [] [] = true
same [] (y ∷ n) = false
same (x ∷ m) [] = false
same (x ∷ m) (y ∷ n) = (x == y) && same m n

same_list : (m n : List ℕ) → same m n ≡ true → m ≡ n
same_list [] [] h = refl
same_list [] (y ∷ n) h = cc h
same_list (x ∷ m) [] h = cc h
same_list (x ∷ m) (y ∷ n) h = let p = and_parts _ _ h in ap₂ (λ (z : ℕ) (l : List ℕ). z ∷ l) (eqb-true x y p.0) (same_list m n p.1)

-- one more term, joined to the term of the same product if there is one
abbrev add_term : Term → List Term → List Term
add_term t [] = t ∷ []
add_term t (u ∷ us) = cond (same t.0 u.0) ((u.0, t.1 +ℤ u.1) ∷ us) (u ∷ add_term t us)

add_term_is : (vs : List ℤ) (t : Term) (us : List Term) → sum_of vs (add_term t us) ≡ (t.1 *ℤ product vs t.0) +ℤ sum_of vs us
add_term_is vs t [] = refl
add_term_is vs t (u ∷ us) = elim (cases_Bool (same t.0 u.0)) [
  | inl same ↦
      let e = same_list t.0 u.0 same in
      rw same (ap (λ (z : ℤ). z +ℤ sum_of vs us) (add_mul t.1 u.1 (product vs u.0)) ∙ add_assoc (t.1 *ℤ product vs u.0) (u.1 *ℤ product vs u.0) (sum_of vs us)
      ∙ ap (λ (m : List ℕ). (t.1 *ℤ product vs m) +ℤ ((u.1 *ℤ product vs u.0) +ℤ sum_of vs us)) (sym e))
  | inr other ↦
      let a = t.1 *ℤ product vs t.0 in
      let b = u.1 *ℤ product vs u.0 in
      rw other (ap (λ (z : ℤ). b +ℤ z) (add_term_is vs t us) ∙ sym (add_assoc b a (sum_of vs us)) ∙ ap (λ (z : ℤ). z +ℤ sum_of vs us) (add_comm b a)
      ∙ add_assoc a b (sum_of vs us))
]

abbrev add_terms : List Term → List Term → List Term
add_terms [] us = us
add_terms (t ∷ ts) us = add_term t (add_terms ts us)

add_terms_is : (vs : List ℤ) (ts us : List Term) → sum_of vs (add_terms ts us) ≡ sum_of vs ts +ℤ sum_of vs us
add_terms_is vs [] us = sym (zero_add (sum_of vs us))
add_terms_is vs (t ∷ ts) us =
    add_term_is vs t (add_terms ts us) ∙ ap (λ (z : ℤ). (t.1 *ℤ product vs t.0) +ℤ z) (add_terms_is vs ts us)
    ∙ sym (add_assoc (t.1 *ℤ product vs t.0) (sum_of vs ts) (sum_of vs us))

-- each term times one term
abbrev scaled : Term → List Term → List Term
scaled t [] = []
scaled t (u ∷ us) = add_term (join t.0 u.0, t.1 *ℤ u.1) (scaled t us)

scaled_is : (vs : List ℤ) (t : Term) (us : List Term) → sum_of vs (scaled t us) ≡ (t.1 *ℤ product vs t.0) *ℤ sum_of vs us
scaled_is vs t [] = sym (mul_comm (t.1 *ℤ product vs t.0) (pos 0) ∙ zero_mul (t.1 *ℤ product vs t.0))
scaled_is vs t (u ∷ us) =
    let a = t.1 *ℤ product vs t.0 in
    let b = u.1 *ℤ product vs u.0 in
    let whole : (t.1 *ℤ u.1) *ℤ product vs (join t.0 u.0) ≡ a *ℤ b =
    ap (λ (z : ℤ). (t.1 *ℤ u.1) *ℤ z) (join_is vs t.0 u.0) ∙ mul_pairs t.1 u.1 (product vs t.0) (product vs u.0) in
    add_term_is vs (join t.0 u.0, t.1 *ℤ u.1) (scaled t us) ∙ ap₂ (λ (x y : ℤ). x +ℤ y) whole (scaled_is vs t us) ∙ sym (mul_add a b (sum_of vs us))

abbrev multiplied : List Term → List Term → List Term
multiplied [] us = []
multiplied (t ∷ ts) us = add_terms (scaled t us) (multiplied ts us)

multiplied_is : (vs : List ℤ) (ts us : List Term) → sum_of vs (multiplied ts us) ≡ sum_of vs ts *ℤ sum_of vs us
multiplied_is vs [] us = sym (zero_mul (sum_of vs us))
multiplied_is vs (t ∷ ts) us =
    add_terms_is vs (scaled t us) (multiplied ts us) ∙ ap₂ (λ (x y : ℤ). x +ℤ y) (scaled_is vs t us) (multiplied_is vs ts us)
    ∙ sym (add_mul (t.1 *ℤ product vs t.0) (sum_of vs ts) (sum_of vs us))

-- the terms of an expression, each product once
abbrev pub terms : Expr → List Term
terms (var x) = (x ∷ [], pos 1) ∷ []
terms (lit z) = ([], z) ∷ []
terms (plus a b) = add_terms (terms a) (terms b)
terms (times a b) = multiplied (terms a) (terms b)
terms (minus a) = scaled ([], negsuc 0) (terms a)

terms_are : (vs : List ℤ) (e : Expr) → sum_of vs (terms e) ≡ value vs e
terms_are vs (var x) = omega (arith, ints)
terms_are vs (lit z) = omega (arith, ints)
terms_are vs (plus a b) = add_terms_is vs (terms a) (terms b) ∙ ap₂ (λ (x y : ℤ). x +ℤ y) (terms_are vs a) (terms_are vs b)
terms_are vs (times a b) = multiplied_is vs (terms a) (terms b) ∙ ap₂ (λ (x y : ℤ). x *ℤ y) (terms_are vs a) (terms_are vs b)
terms_are vs (minus a) = scaled_is vs ([], negsuc 0) (terms a) ∙ ap (λ (z : ℤ). (negsuc 0 *ℤ pos 1) *ℤ z) (terms_are vs a) ∙ omega (arith, ints)

abbrev is_zero : ℤ → Bool
is_zero (pos zero) = true
is_zero (pos (suc n)) = false
is_zero (negsuc n) = false

abbrev pub all_zero : List Term → Bool
all_zero [] = true
all_zero (t ∷ ts) = is_zero t.1 && all_zero ts

zero_is : (z : ℤ) → is_zero z ≡ true → z ≡ pos 0
zero_is (pos zero) h = refl
zero_is (pos (suc n)) h = cc h
zero_is (negsuc n) h = cc h

all_zero_is : (vs : List ℤ) (ts : List Term) → all_zero ts ≡ true → sum_of vs ts ≡ pos 0
all_zero_is vs [] h = refl
all_zero_is vs (t ∷ ts) h =
    let p = and_parts _ _ h in
    ap₂ (λ (x y : ℤ). (x *ℤ product vs t.0) +ℤ y) (zero_is t.1 p.0) (all_zero_is vs ts p.1) ∙ ap (λ (z : ℤ). z +ℤ pos 0) (zero_mul (product vs t.0))

-- an equation: `ring vs a b refl`, where vs are the values of the variables
pub ring : (vs : List ℤ) (a b : Expr) → all_zero (terms (plus a (minus b))) ≡ true → value vs a ≡ value vs b
ring vs a b h =
    let e : value vs a +ℤ neg_ℤ (value vs b) ≡ pos 0 = sym (terms_are vs (plus a (minus b))) ∙ all_zero_is vs (terms (plus a (minus b))) h in
    omega (arith, ints, e)

-- an inequality, from an expression for the difference that is not negative: `ring_le vs a b p refl h`
pub ring_le : (vs : List ℤ) (a b p : Expr) → all_zero (terms (plus (plus a p) (minus b))) ≡ true → pos 0 ≤ℤ value vs p → value vs a ≤ℤ value vs b
ring_le vs a b p h n = let e = ring vs (plus a p) b h in omega (arith, ints, e, n)

-- the same, strict
pub ring_lt : (vs : List ℤ) (a b p : Expr) → all_zero (terms (plus (plus a p) (minus b))) ≡ true → pos 0 <ℤ value vs p → value vs a <ℤ value vs b
ring_lt vs a b p h n = let e = ring vs (plus a p) b h in omega (arith, ints, e, n)
