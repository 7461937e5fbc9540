-- Sums over lists, and sums over the numbers below one.
use Rattle.std.proofs.Common.{◌≡◌, ◌≢◌, ◌∙◌, ℕ, zero, suc, ◌+◌, ◌*◌, ◌≤◌, ◌<◌, ℤ, pos, neg_ℤ, ◌+ℤ◌, ◌-ℤ◌, ◌*ℤ◌, ◌≤ℤ◌, ◌<ℤ◌, unsigned_abs, List, [], ◌∷◌, ◌++◌, map, length, get_or, take, drop, refl, sym, ap, ap₂, inl, inr, arith}
use Rattle.std.specs.List.{AllByRecursion}
use Rattle.std.proofs.lemmas.Bool.{cases_eq}
use Rattle.std.proofs.lemmas.Int.{ints}
use Rattle.std.proofs.lemmas.List.{take_more}
use Rattle.pb_fixed.specs.Sums.{sum_over, sum_below}
use Rattle.pb_fixed.proofs.Lists.{drop_next}
use Rattle.pb_fixed.proofs.Order.{add_mono}
use Rattle.pb_fixed.proofs.RingLaws.{mul_add, mul_zero}

-- ---- the shape of the list
pub sum_over-append : {A : Type 0} (f : A → ℤ) (xs ys : List A) → sum_over f (xs ++ ys) ≡ sum_over f xs +ℤ sum_over f ys
sum_over-append f [] ys = omega (arith, ints)
sum_over-append f (x ∷ xs) ys = let e = sum_over-append f xs ys in omega (arith, ints, e)

pub sum_over-push : {A : Type 0} (f : A → ℤ) (xs : List A) (x : A) → sum_over f (xs ++ x ∷ []) ≡ sum_over f xs +ℤ f x
sum_over-push f xs x = let e = sum_over-append f xs (x ∷ []) in omega (arith, ints, e)

pub sum_over-map : {A B : Type 0} (f : B → ℤ) (g : A → B) (xs : List A) → sum_over f (map g xs) ≡ sum_over (λ x. f (g x)) xs
sum_over-map f g [] = refl
sum_over-map f g (x ∷ xs) = ap (λ (z : ℤ). f (g x) +ℤ z) (sum_over-map f g xs)

-- a loop's step, from the front and from the rest
pub sum_over-take_more : {A : Type 0} (f : A → ℤ) (xs : List A) (i : ℕ) (d : A) → i < length xs → sum_over f (take (i + 1) xs) ≡ sum_over f (take i xs) +ℤ f (get_or xs i d)
sum_over-take_more f xs i d lt = ap (sum_over f) (take_more xs i d lt) ∙ sum_over-push f (take i xs) (get_or xs i d)

pub sum_over-drop_next : {A : Type 0} (f : A → ℤ) (xs : List A) (i : ℕ) (d : A) → i < length xs → sum_over f (drop i xs) ≡ f (get_or xs i d) +ℤ sum_over f (drop (i + 1) xs)
sum_over-drop_next f xs i d lt = ap (sum_over f) (drop_next xs i d lt)

-- ---- sums, multiples
pub sum_over-zero : {A : Type 0} (xs : List A) → sum_over (λ (x : A). pos 0) xs ≡ pos 0
sum_over-zero [] = refl
sum_over-zero (x ∷ xs) = let e = sum_over-zero xs in omega (arith, ints, e)

pub sum_over-add : {A : Type 0} (f g : A → ℤ) (xs : List A) → sum_over (λ x. f x +ℤ g x) xs ≡ sum_over f xs +ℤ sum_over g xs
sum_over-add f g [] = refl
sum_over-add f g (x ∷ xs) = let e = sum_over-add f g xs in omega (arith, ints, e)

pub sum_over-sub : {A : Type 0} (f g : A → ℤ) (xs : List A) → sum_over (λ x. f x -ℤ g x) xs ≡ sum_over f xs -ℤ sum_over g xs
sum_over-sub f g [] = refl
sum_over-sub f g (x ∷ xs) = let e = sum_over-sub f g xs in omega (arith, ints, e)

pub sum_over-neg : {A : Type 0} (f : A → ℤ) (xs : List A) → sum_over (λ x. neg_ℤ (f x)) xs ≡ neg_ℤ (sum_over f xs)
sum_over-neg f [] = refl
sum_over-neg f (x ∷ xs) = let e = sum_over-neg f xs in omega (arith, ints, e)

pub sum_over-mul : {A : Type 0} (c : ℤ) (f : A → ℤ) (xs : List A) → sum_over (λ x. c *ℤ f x) xs ≡ c *ℤ sum_over f xs
sum_over-mul c f [] = sym (mul_zero c)
sum_over-mul c f (x ∷ xs) = ap (λ (z : ℤ). (c *ℤ f x) +ℤ z) (sum_over-mul c f xs) ∙ sym (mul_add c (f x) (sum_over f xs))

-- a sum of sums, in either order
pub sum_over-swap : {A B : Type 0} (f : A → B → ℤ) (xs : List A) (ys : List B) → sum_over (λ x. sum_over (f x) ys) xs ≡ sum_over (λ y. sum_over (λ x. f x y) xs) ys
sum_over-swap f [] ys = sym (sum_over-zero ys)
sum_over-swap f (x ∷ xs) ys = ap (λ (z : ℤ). sum_over (f x) ys +ℤ z) (sum_over-swap f xs ys) ∙ sym (sum_over-add (f x) (λ y. sum_over (λ x. f x y) xs) ys)

-- ---- item by item
pub sum_over-same : {A : Type 0} (f g : A → ℤ) (xs : List A) → AllByRecursion (λ x. f x ≡ g x) xs → sum_over f xs ≡ sum_over g xs
sum_over-same f g [] h = refl
sum_over-same f g (x ∷ xs) h = ap₂ (λ (a b : ℤ). a +ℤ b) h.0 (sum_over-same f g xs h.1)

pub sum_over-mono : {A : Type 0} (f g : A → ℤ) (xs : List A) → AllByRecursion (λ x. f x ≤ℤ g x) xs → sum_over f xs ≤ℤ sum_over g xs
sum_over-mono f g [] h = omega (arith, ints)
sum_over-mono f g (x ∷ xs) h = add_mono _ _ _ _ h.0 (sum_over-mono f g xs h.1)

pub sum_over-nonneg : {A : Type 0} (f : A → ℤ) (xs : List A) → AllByRecursion (λ x. pos 0 ≤ℤ f x) xs → pos 0 ≤ℤ sum_over f xs
sum_over-nonneg f [] h = omega (arith, ints)
sum_over-nonneg f (x ∷ xs) h = let p = h.0 in let q = sum_over-nonneg f xs h.1 in omega (arith, ints, p, q)

pub sum_over-positive : {A : Type 0} (f : A → ℤ) (x : A) (xs : List A) → AllByRecursion (λ x. pos 0 <ℤ f x) (x ∷ xs) → pos 0 <ℤ sum_over f (x ∷ xs)
sum_over-positive f x [] h = let p = h.0 in omega (arith, ints, p)
sum_over-positive f x (y ∷ xs) h = let p = h.0 in let q = sum_over-positive f y xs h.1 in omega (arith, ints, p, q)

-- the triangle inequality
pub sum_over-triangle : {A : Type 0} (f : A → ℤ) (xs : List A) → pos (unsigned_abs (sum_over f xs)) ≤ℤ sum_over (λ x. pos (unsigned_abs (f x))) xs
sum_over-triangle f [] = omega (arith, ints)
sum_over-triangle f (x ∷ xs) = let q = sum_over-triangle f xs in omega (arith, ints, q)

pub sum_over-bound : {A : Type 0} (f : A → ℤ) (bound : ℕ) (xs : List A) → AllByRecursion (λ x. unsigned_abs (f x) ≤ bound) xs → unsigned_abs (sum_over f xs) ≤ length xs * bound
sum_over-bound f bound [] h = omega (arith, ints)
sum_over-bound f bound (x ∷ xs) h = let p = h.0 in let q = sum_over-bound f bound xs h.1 in omega (arith, ints, p, q)

-- ---- sums over the numbers below n
pub sum_below-zero : (n : ℕ) → sum_below (λ (k : ℕ). pos 0) n ≡ pos 0
sum_below-zero zero = refl
sum_below-zero (suc n) = let e = sum_below-zero n in omega (arith, ints, e)

pub sum_below-same : (f g : ℕ → ℤ) (n : ℕ) → ((k : ℕ) → k < n → f k ≡ g k) → sum_below f n ≡ sum_below g n
sum_below-same f g zero h = refl
sum_below-same f g (suc n) h = ap₂ (λ (a b : ℤ). a +ℤ b) (sum_below-same f g n (λ k lt. h k (omega (arith, lt)))) (h n (omega arith))

pub sum_below-add : (f g : ℕ → ℤ) (n : ℕ) → sum_below (λ k. f k +ℤ g k) n ≡ sum_below f n +ℤ sum_below g n
sum_below-add f g zero = refl
sum_below-add f g (suc n) = let e = sum_below-add f g n in omega (arith, ints, e)

pub sum_below-mul : (c : ℤ) (f : ℕ → ℤ) (n : ℕ) → sum_below (λ k. c *ℤ f k) n ≡ c *ℤ sum_below f n
sum_below-mul c f zero = sym (mul_zero c)
sum_below-mul c f (suc n) = ap (λ (z : ℤ). z +ℤ (c *ℤ f n)) (sum_below-mul c f n) ∙ sym (mul_add c (sum_below f n) (f n))

-- a sum with one number that is not 0
pub sum_below-none : (f : ℕ → ℤ) (n : ℕ) → ((k : ℕ) → k < n → f k ≡ pos 0) → sum_below f n ≡ pos 0
sum_below-none f n h = sum_below-same f (λ (k : ℕ). pos 0) n h ∙ sum_below-zero n

pub sum_below-single : (f : ℕ → ℤ) (n j : ℕ) → j < n → ((k : ℕ) → k < n → k ≢ j → f k ≡ pos 0) → sum_below f n ≡ f j
sum_below-single f zero j lt h = absurd (omega (arith, lt))
sum_below-single f (suc n) j lt h = elim (cases_eq n j) [
  | inl e ↦
      let none = sum_below-none f n (λ k less. h k (omega (arith, less)) (λ same. omega (arith, same, e, less))) in
      let here = ap f e in
      omega (arith, ints, none, here)
  | inr ne ↦
      let single = sum_below-single f n j (omega (arith, lt, ne)) (λ k less other. h k (omega (arith, less)) other) in
      let zero_here = h n (omega arith) ne in
      omega (arith, ints, single, zero_here)
]

-- a sum over the numbers below n of sums over a list, in either order
pub sum_below-swap : {A : Type 0} (f : ℕ → A → ℤ) (n : ℕ) (xs : List A) → sum_below (λ k. sum_over (f k) xs) n ≡ sum_over (λ x. sum_below (λ k. f k x) n) xs
sum_below-swap f zero xs = sym (sum_over-zero xs)
sum_below-swap f (suc n) xs = ap (λ (z : ℤ). z +ℤ sum_over (f n) xs) (sum_below-swap f n xs) ∙ sym (sum_over-add (λ x. sum_below (λ k. f k x) n) (f n) xs)
