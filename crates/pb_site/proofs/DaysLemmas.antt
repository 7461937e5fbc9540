-- Nodes in order, those that are kept, and their places.
use Rattle.std.specs.Prelude.{filter}
use Rattle.std.specs.List.{AllPairs, list_any, range_with_len}
use Rattle.std.specs.List.Sorted.{IsNonDecreasingBy, IsStrictlyIncreasing}
use Rattle.std.proofs.Common.{◌≡◌, ◌∙◌, ℕ, zero, suc, ◌+◌, ◌-◌, ◌<◌, ◌≤◌, ◌==◌, Bool, true, false, List, [], ◌∷◌, ◌++◌, length, get_or, All, refl, sym, ap, arith, inl, inr}
use Rattle.std.proofs.lemmas.Bool.{cases_Bool, cases_eq, cases_lt, eq-eqb, ne_eqb}
use Rattle.std.proofs.lemmas.List.{append-nil}
use Rattle.std.proofs.lemmas.List.Elements.{All-cons, All-filter, filter-append}
use Rattle.std.proofs.lemmas.List.FromFn.{get_or-range_with_len, length-range_with_len}
use Rattle.std.proofs.lemmas.List.Kept.{AllPairs-cons, AllPairs-filter}
use Rattle.std.proofs.lemmas.List.Sums.{count_by-le-length, length-filter}
use Rattle.pb_site.specs.OnDays.{has_place, place_among}
use Rattle.pb_site.proofs.LookUpLemmas.{any_place}

-- ---- ranges

pub ranges : (from a b : ℕ) → range_with_len from (a + b) ≡ range_with_len from a ++ range_with_len (from + a) b
ranges from zero b =
    let e : from + 0 ≡ from = omega arith in
    let z : zero + b ≡ b = omega arith in
    ap (range_with_len from) z ∙ ap (λ (n : ℕ). range_with_len n b) (sym e)
ranges from (suc a) b =
    let e : (from + 1) + a ≡ from + suc a = omega arith in
    let z : suc a + b ≡ suc (a + b) = omega arith in
    ap (range_with_len from) z ∙ ap (λ rest. from ∷ rest) (ranges (from + 1) a b ∙ ap (λ (n : ℕ). range_with_len (from + 1) a ++ range_with_len n b) e)

-- tests that agree on each number of a range keep the same numbers
pub same_kept : (p q : ℕ → Bool) (from count : ℕ) → ((k : ℕ) → from ≤ k → k < from + count → p k ≡ q k) → filter p (range_with_len from count) ≡ filter q (range_with_len from count)
same_kept p q from zero same = refl
same_kept p q from (suc count) same =
    let here : p from ≡ q from = same from (omega arith) (omega arith) in
    let rest = same_kept p q (from + 1) count (λ k low high. same k (omega (arith, low)) (omega (arith, high))) in
    elim (cases_Bool (q from)) [
      | inl kept ↦ rw (here, kept) (ap (λ (ns : List ℕ). from ∷ ns) rest)
      | inr left ↦ rw (here, left) rest
    ]

-- a test that each number passes keeps all
pub all_kept : (p : ℕ → Bool) (from count : ℕ) → ((k : ℕ) → from ≤ k → k < from + count → p k ≡ true) → filter p (range_with_len from count) ≡ range_with_len from count
all_kept p from zero each = refl
all_kept p from (suc count) each =
    let rest = all_kept p (from + 1) count (λ k low high. each k (omega (arith, low)) (omega (arith, high))) in
    rw (each from (omega arith) (omega arith)) (ap (λ (ns : List ℕ). from ∷ ns) rest)

-- the next number of a range is kept if it passes
pub kept_more : (p : ℕ → Bool) (k : ℕ) → 1 ≤ k → p k ≡ true → filter p (range_with_len 1 ((k + 1) - 1)) ≡ filter p (range_with_len 1 (k - 1)) ++ k ∷ []
kept_more p k some passes =
    let sizes : (k + 1) - 1 ≡ (k - 1) + 1 = omega (arith, some) in
    let seam : 1 + (k - 1) ≡ k = omega (arith, some) in
    let last : filter p (range_with_len k 1) ≡ k ∷ [] = rw passes refl in
    ap (λ (n : ℕ). filter p (range_with_len 1 n)) sizes ∙ ap (filter p) (ranges 1 (k - 1) 1) ∙ filter-append p (range_with_len 1 (k - 1)) (range_with_len (1 + (k - 1)) 1)
    ∙ ap (λ (n : ℕ). filter p (range_with_len 1 (k - 1)) ++ filter p (range_with_len n 1)) seam ∙ ap (λ (ns : List ℕ). filter p (range_with_len 1 (k - 1)) ++ ns) last

-- and left out if it doesn't
pub kept_same : (p : ℕ → Bool) (k : ℕ) → 1 ≤ k → p k ≡ false → filter p (range_with_len 1 ((k + 1) - 1)) ≡ filter p (range_with_len 1 (k - 1))
kept_same p k some fails =
    let sizes : (k + 1) - 1 ≡ (k - 1) + 1 = omega (arith, some) in
    let seam : 1 + (k - 1) ≡ k = omega (arith, some) in
    let last : filter p (range_with_len k 1) ≡ [] = rw fails refl in
    ap (λ (n : ℕ). filter p (range_with_len 1 n)) sizes ∙ ap (filter p) (ranges 1 (k - 1) 1) ∙ filter-append p (range_with_len 1 (k - 1)) (range_with_len (1 + (k - 1)) 1)
    ∙ ap (λ (n : ℕ). filter p (range_with_len 1 (k - 1)) ++ filter p (range_with_len n 1)) seam ∙ ap (λ (ns : List ℕ). filter p (range_with_len 1 (k - 1)) ++ ns) last
    ∙ append-nil (filter p (range_with_len 1 (k - 1)))

-- ---- the environment, and the other nodes that are kept

abbrev pub kept_nodes : (ℕ → Bool) → ℕ → List ℕ
kept_nodes p nodes = 0 ∷ filter p (range_with_len 1 (nodes - 1))

range_within : (from count : ℕ) → All (λ (k : ℕ). (from ≤ k) × (k < from + count)) (range_with_len from count)
range_within from count k d within =
    let less : k < count = rw (length-range_with_len from count) at within in
    let at = get_or-range_with_len from count k d less in
    (omega (arith, at), omega (arith, at, less))

range_rises : (from count : ℕ) → AllPairs (λ (a b : ℕ). a < b) (range_with_len from count)
range_rises from count i j d before within =
    let less : j < count = rw (length-range_with_len from count) at within in
    let first = get_or-range_with_len from count i d (omega (arith, before, less)) in
    let second = get_or-range_with_len from count j d less in
    omega (arith, before, first, second)

-- each is a node, and they come in order
pub kept_within : (p : ℕ → Bool) (nodes : ℕ) → 0 < nodes → All (λ (k : ℕ). k < nodes) (kept_nodes p nodes)
kept_within p nodes some =
    let range = All-filter p (λ (k : ℕ). (1 ≤ k) × (k < 1 + (nodes - 1))) (range_with_len 1 (nodes - 1)) (range_within 1 (nodes - 1)) in
    All-cons (λ (k : ℕ). k < nodes) 0 (filter p (range_with_len 1 (nodes - 1))) some (λ k d within. let each = range k d within in omega (arith, each.1, some))

pub kept_rises : (p : ℕ → Bool) (nodes : ℕ) → AllPairs (λ (a b : ℕ). a < b) (kept_nodes p nodes)
kept_rises p nodes =
    let range = range_with_len 1 (nodes - 1) in
    let each = All-filter p (λ (k : ℕ). (1 ≤ k) × (k < 1 + (nodes - 1))) range (range_within 1 (nodes - 1)) in
    AllPairs-cons (λ (a b : ℕ). a < b) 0 (filter p range) (λ k d within. omega (arith, (each k d within).0)) (AllPairs-filter (λ (a b : ℕ). a < b) p range (range_rises 1 (nodes - 1)))

pub kept_few : (p : ℕ → Bool) (nodes : ℕ) → 0 < nodes → length (kept_nodes p nodes) ≤ nodes
kept_few p nodes some =
    let range = range_with_len 1 (nodes - 1) in
    let many = length-filter p range in
    let most = count_by-le-length p range in
    let long = length-range_with_len 1 (nodes - 1) in
    omega (arith, many, most, long, some)

pub increasing : (nodes : List ℕ) → AllPairs (λ (a b : ℕ). a < b) nodes → IsStrictlyIncreasing nodes
increasing nodes rises = λ k within. rises k (k + 1) 0 (omega arith) within

-- a node that is kept is among them
pub kept_there : (p : ℕ → Bool) (nodes k : ℕ) → k < nodes → p k ≡ true → has_place (kept_nodes p nodes) k ≡ true
kept_there p nodes k within passes = elim (cases_eq k 0) [
  | inl first ↦ rw (eq-eqb 0 k (sym first)) refl
  | inr other ↦ rw (ne_eqb 0 k (λ e. other (sym e))) (there 1 (nodes - 1) (omega (arith, other)) (omega (arith, within, other)))
]
  where
    there : (from count : ℕ) → from ≤ k → k < from + count → list_any (λ (n : ℕ). n == k) (filter p (range_with_len from count)) ≡ true
    there from zero low high = absurd (omega (arith, low, high))
    there from (suc count) low high = elim (cases_eq from k) [
      | inl here ↦ rw (ap p here ∙ passes, eq-eqb from k here) refl
      | inr away ↦
          let rest = there (from + 1) count (omega (arith, low, away)) (omega (arith, high)) in
          elim (cases_Bool (p from)) [
            | inl kept ↦ rw (kept, ne_eqb from k away) rest
            | inr left ↦ rw left rest
          ]
    ]

-- ---- the place of a node

-- two nodes with the same place are equal
pub place_apart : (nodes : List ℕ) (a b : ℕ) → has_place nodes a ≡ true → has_place nodes b ≡ true → place_among nodes a ≡ place_among nodes b → a ≡ b
place_apart [] a b a_in b_in same = cc a_in
place_apart (n ∷ nodes) a b a_in b_in same = elim (cases_eq n a) [
  | inl here ↦ elim (cases_eq n b) [
    | inl there ↦ sym here ∙ there
    | inr other ↦ absurd (omega (arith, rw (eq-eqb n a here, ne_eqb n b other) at same))
  ]
  | inr away ↦ elim (cases_eq n b) [
    | inl there ↦ absurd (omega (arith, rw (ne_eqb n a away, eq-eqb n b there) at same))
    | inr other ↦ place_apart nodes a b (rw (ne_eqb n a away) at a_in) (rw (ne_eqb n b other) at b_in) (omega (arith, rw (ne_eqb n a away, ne_eqb n b other) at same))
  ]
]

-- the node at its place
node_at_place : (nodes : List ℕ) (node d : ℕ) → has_place nodes node ≡ true → get_or nodes (place_among nodes node) d ≡ node
node_at_place [] node d there = cc there
node_at_place (n ∷ nodes) node d there = elim (cases_eq n node) [
  | inl here ↦ rw (eq-eqb n node here) here
  | inr away ↦
      let place = place_among nodes node in
      let next : 1 + place ≡ suc place = omega arith in
      rw (ne_eqb n node away) (ap (λ (k : ℕ). get_or (n ∷ nodes) k d) next ∙ node_at_place nodes node d (rw (ne_eqb n node away) at there))
]

pub not_falling : (nodes : List ℕ) → AllPairs (λ (a b : ℕ). a < b) nodes → IsNonDecreasingBy (λ (n : ℕ). n) nodes
not_falling nodes rises i j d le within = elim (cases_lt i j) [
  | inl before ↦ let less = rises i j d before within in omega (arith, less)
  | inr past ↦
      let same : i ≡ j = omega (arith, le, past) in
      let equal = ap (λ (k : ℕ). get_or nodes k d) same in
      omega (arith, equal)
]

-- among nodes in order it is the number of those before it
pub place_found : (nodes : List ℕ) (node i : ℕ) → AllPairs (λ (a b : ℕ). a < b) nodes → i ≤ length nodes → ((k : ℕ) → k < i → get_or nodes k 0 < node)
    → ((k : ℕ) → i ≤ k → k < length nodes → node ≤ get_or nodes k 0) → has_place nodes node ≡ true → (i ≡ place_among nodes node) × (i < length nodes)
place_found nodes node i rises within before after there =
    let place = place_among nodes node in
    let here : get_or nodes place 0 ≡ node = node_at_place nodes node 0 there in
    let inside : place < length nodes = any_place (λ (n : ℕ). n == node) nodes there in
    elim (cases_lt i place) [
      | inl low ↦
          let less = rises i place 0 low inside in
          let high = after i (omega arith) (omega (arith, low, inside)) in
          absurd (omega (arith, here, less, high))
      | inr high ↦ elim (cases_lt place i) [
        | inl past ↦ let less = before place past in absurd (omega (arith, here, less))
        | inr same ↦ (omega (arith, high, same), omega (arith, high, same, inside))
      ]
    ]
