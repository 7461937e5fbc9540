-- Groups are numbered in the order of their least nodes.
use Rattle.std.proofs.Common.{◌≡◌, ◌≢◌, ◌∙◌, ℕ, ◌+◌, ◌<◌, List, [], ◌∷◌, ◌++◌, length, ap, sym, refl, subst, inl, inr, arith, length-append}
use Rattle.std.proofs.lemmas.Bool.{cases_eq, eq-eqb, ne_eqb}
use Rattle.std.proofs.lemmas.List.{get_or_append_left, get_or_push}
use Rattle.pb_graph.specs.Groups.{group_at}
use Rattle.pb_graph.specs.Parts.{label_at}
use Rattle.pb_graph.specs.Grouping.{least_at}
use Rattle.pb_graph.specs.Numbers.{AreNumbered, number_of}

pub length_push : {X : Type 0} (xs : List X) (y : X) → length (xs ++ y ∷ []) ≡ length xs + 1
length_push xs y = length-append xs (y ∷ [])

pub push_below : (xs : List ℕ) (y i : ℕ) → i < length xs → group_at (xs ++ y ∷ []) i ≡ group_at xs i
push_below xs y i lt = get_or_append_left xs (y ∷ []) 0 i lt

pub push_at : (xs : List ℕ) (y i : ℕ) → length xs ≡ i → group_at (xs ++ y ∷ []) i ≡ y
push_at xs y i e = get_or_push xs y 0 i e

-- of the places below n + 1, the last one and the others
pub last_or : (P : ℕ → Type 0) (n a : ℕ) → a < n + 1 → P n → (a < n → P a) → P a
last_or P n a lt last early = elim (cases_eq a n) [ inl e ↦ subst P (sym e) last | inr ne ↦ early (omega (arith, lt, ne)) ]

-- a node that is its own label begins a group
pub numbered_new : (labels : List ℕ) (n : ℕ) (group least : List ℕ) → AreNumbered labels n group least → label_at labels n ≡ n
    → AreNumbered labels (n + 1) (group ++ length least ∷ []) (least ++ n ∷ [])
numbered_new labels n group least h own =
    let size = length least in
    let more = length_push least n in
    let group_end = push_at group size n h.each in
    let least_end = push_at least n size refl in
    let group_is : (a : ℕ) → a < n → group_at (group ++ size ∷ []) a ≡ group_at group a = λ a lt. push_below group size a (omega (arith, h.each, lt)) in
    let least_is : (k : ℕ) → k < size → least_at (least ++ n ∷ []) k ≡ least_at least k = λ k lt. push_below least n k lt in
    record {
      each = omega (arith, length_push group size, h.each);
      few = omega (arith, more, h.few);
      below = λ a lt. last_or (λ a. group_at (group ++ size ∷ []) a < length (least ++ n ∷ [])) n a lt
          (omega (arith, group_end, more))
          (λ l. let b = h.below a l in omega (arith, group_is a l, more, b));
      label = λ a lt. last_or (λ a. least_at (least ++ n ∷ []) (group_at (group ++ size ∷ []) a) ≡ label_at labels a) n a lt
          (ap (least_at (least ++ n ∷ [])) group_end ∙ least_end ∙ sym own)
          (λ l. ap (least_at (least ++ n ∷ [])) (group_is a l) ∙ least_is (group_at group a) (h.below a l) ∙ h.label a l);
      before = λ k lt. last_or (λ k. least_at (least ++ n ∷ []) k < n + 1) size k (omega (arith, lt, more))
          (omega (arith, least_end))
          (λ l. let b = h.before k l in omega (arith, least_is k l, b));
      member = λ k lt. last_or (λ k. group_at (group ++ size ∷ []) (least_at (least ++ n ∷ []) k) ≡ k) size k (omega (arith, lt, more))
          (ap (group_at (group ++ size ∷ [])) least_end ∙ group_end)
          (λ l. ap (group_at (group ++ size ∷ [])) (least_is k l) ∙ group_is (least_at least k) (h.before k l) ∙ h.member k l);
      rising = λ j k lt within. last_or (λ k. j < k → least_at (least ++ n ∷ []) j < least_at (least ++ n ∷ []) k) size k (omega (arith, within, more))
          (λ lt. let b = h.before j lt in omega (arith, least_end, least_is j lt, b))
          (λ l lt. let r = h.rising j k lt l in omega (arith, least_is k l, least_is j (omega (arith, lt, l)), r))
          lt;
    }

-- another node has the number of its label
pub numbered_old : (labels : List ℕ) (n : ℕ) (group least : List ℕ) → AreNumbered labels n group least → label_at labels n < n → label_at labels (label_at labels n) ≡ label_at labels n
    → AreNumbered labels (n + 1) (group ++ group_at group (label_at labels n) ∷ []) least
numbered_old labels n group least h low own =
    let r = label_at labels n in
    let k = group_at group r in
    let group_end = push_at group k n h.each in
    let group_is : (a : ℕ) → a < n → group_at (group ++ k ∷ []) a ≡ group_at group a = λ a lt. push_below group k a (omega (arith, h.each, lt)) in
    record {
      each = omega (arith, length_push group k, h.each);
      few = omega (arith, h.few);
      below = λ a lt. last_or (λ a. group_at (group ++ k ∷ []) a < length least) n a lt
          (let b = h.below r low in omega (arith, group_end, b))
          (λ l. let b = h.below a l in omega (arith, group_is a l, b));
      label = λ a lt. last_or (λ a. least_at least (group_at (group ++ k ∷ []) a) ≡ label_at labels a) n a lt
          (ap (least_at least) group_end ∙ h.label r low ∙ own)
          (λ l. ap (least_at least) (group_is a l) ∙ h.label a l);
      before = λ k lt. let b = h.before k lt in omega (arith, b);
      member = λ j lt. group_is (least_at least j) (h.before j lt) ∙ h.member j lt;
      rising = h.rising;
    }

pub numbered_none : (labels : List ℕ) → AreNumbered labels 0 [] []
numbered_none labels = record {
  each = refl;
  few = omega arith;
  below = λ a lt. absurd (omega (arith, lt));
  label = λ a lt. absurd (omega (arith, lt));
  before = λ k lt. absurd (omega (arith, lt));
  member = λ k lt. absurd (omega (arith, lt));
  rising = λ j k lt within. absurd (omega (arith, within));
}

pub number_new : (group : List ℕ) (groups n r : ℕ) → r ≡ n → number_of group groups n r ≡ groups
number_new group groups n r e = rw (eq-eqb r n e) refl

pub number_old : (group : List ℕ) (groups n r : ℕ) → r ≢ n → number_of group groups n r ≡ group_at group r
number_old group groups n r ne = rw (ne_eqb r n ne) refl
