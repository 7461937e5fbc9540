-- The order in which the code takes streams: what its list keeps, and that the sorted list is in order.
use Rattle.std.proofs.Common.{◌≡◌, ◌≢◌, ◌∙◌, ◌⊎◌, nat_lt, cond, Less, Equal, Greater, ℕ, zero, suc, ◌+◌, ◌<◌, ◌≤◌, ℤ, pos, ◌-ℤ◌, ◌≤ℤ◌, ◌<ℤ◌, unsigned_abs, Bool, true, false, not, ◌==◌, List, [], ◌∷◌, ◌++◌, length, Some, slice_get, get_or, ap, sym, refl, subst, inl, inr, arith, length-append}
use Rattle.std.specs.List.{All, AllByRecursion, IsDistinct}
use Rattle.std.specs.Ordering.{is_lt, nat_cmp, ordering_then}
use Rattle.std.specs.Cmp.{IsStrictWeakOrder}
use Rattle.std.specs.List.Sorted.{IsPermutation, IsSortedBy}
use Rattle.std.proofs.lemmas.Bool.{cases_Bool, cases_eq, cases_lt, ltb-true, lt-ltb, eqb-true, eq-eqb, ne_eqb}
use Rattle.std.proofs.lemmas.Int.{ints}
use Rattle.std.proofs.lemmas.List.{get_or_append_left, get_or_push, get_or_default}
use Rattle.std.proofs.lemmas.List.Sorted.{All-permutation, Contains-permutation, sorted_far}
use Rattle.std.proofs.lemmas.List.Elements.{Contains-get_or}
use Rattle.std.proofs.lemmas.Map.Keys.{IsDistinct-IsPermutation}
use Rattle.std.proofs.lemmas.Option.{slice_get_within, slice_get-get_or, get_or_from_slice_get}
use Rattle.pb_fixed.specs.Sums.{item}
use Rattle.pb_graph.specs.declared.records.Stream.{Stream}
use Rattle.pb_graph.specs.ProcessGraph.{is_measured}
use Rattle.pb_graph.specs.Walk.{unmeasured}
use Rattle.pb_graph.proofs.WalkLemmas.{some_same}
use Rattle.pb_advise.specs.Choice.{most_cost, IsCost}
use Rattle.pb_advise.proofs.PrecedesLemmas.{precedes_is}
use Rattle.pb_advise.specs.Order.{Candidate, taken_at, IsCandidate, AreCandidates, IsOrder}

-- ---- the list grows
pub none_yet : (costs : List ℤ) (ss : List Stream) → AreCandidates costs ss 0 []
none_yet costs ss = record { each = λ p c at. cc at; all = λ k s lt. absurd (omega (arith, lt)); rise = λ p q less lt. absurd (omega (arith, lt)) }

clash : (b : Bool) → b ≡ true → not b ≡ true → ⊥
clash true on off = cc off
clash false on off = cc on

-- a measured stream is passed
pub pass_one : (costs : List ℤ) (ss : List Stream) (j : ℕ) (s : Stream) (list : List Candidate) → slice_get ss j ≡ Some s → is_measured s ≡ true
    → AreCandidates costs ss j list → AreCandidates costs ss (j + 1) list
pass_one costs ss j s list at measured are = record {
  each = λ p c there. let (t, here, bare, cost, lt) = are.each p c there in (t, here, bare, cost, omega (arith, lt));
  all = λ k t lt here bare. elim (cases_eq k j) [
    | inl same ↦
        let is : s ≡ t = some_same (sym at ∙ ap (λ (i : ℕ). slice_get ss i) (sym same) ∙ here) in
        let on : is_measured t ≡ true = ap is_measured (sym is) ∙ measured in
        absurd (clash (is_measured t) on bare)
    | inr other ↦ are.all k t (omega (arith, lt, other)) here bare
  ];
  rise = are.rise;
}

-- an unmeasured one joins
pub take_one : (costs : List ℤ) (ss : List Stream) (j : ℕ) (s : Stream) (list : List Candidate) (below : ℕ) → slice_get ss j ≡ Some s → is_measured s ≡ false
    → below ≡ unsigned_abs (pos most_cost -ℤ item costs j) → AreCandidates costs ss j list → AreCandidates costs ss (j + 1) (list ++ (below, j) ∷ [])
take_one costs ss j s list below at bare value are =
    let new : Candidate = (below, j) in
    let more : List Candidate = list ++ new ∷ [] in
    let size : length more ≡ length list + 1 = length-append list (new ∷ []) in
    let old : (p : ℕ) → p < length list → get_or more p (0, 0) ≡ get_or list p (0, 0) = λ p lt. get_or_append_left list (new ∷ []) (0, 0) p lt in
    let last : get_or more (length list) (0, 0) ≡ new = get_or_push list new (0, 0) (length list) refl in
    let small : (p : ℕ) → p < length list → taken_at list p < j = λ p lt.
    (are.each p (get_or list p (0, 0)) (slice_get-get_or list p (0, 0) lt)).4 in
    record {
      each = λ p c there. elim (cases_eq p (length list)) [
        | inl same ↦
            let is : c ≡ new = sym (get_or_from_slice_get more p c (0, 0) there) ∙ ap (λ (i : ℕ). get_or more i (0, 0)) same ∙ last in
            subst (IsCandidate costs ss (j + 1)) (sym is) (s, at, rw bare refl, value, omega arith)
        | inr other ↦
            let lt : p < length list = let w = slice_get_within more p c there in omega (arith, w, size, other) in
            let is : c ≡ get_or list p (0, 0) = sym (get_or_from_slice_get more p c (0, 0) there) ∙ old p lt in
            let (t, here, open_t, cost, less) = are.each p (get_or list p (0, 0)) (slice_get-get_or list p (0, 0) lt) in
            subst (IsCandidate costs ss (j + 1)) (sym is) (t, here, open_t, cost, omega (arith, less))
      ];
      all = λ k t lt here open_t. elim (cases_eq k j) [
        | inl same ↦ (length list, omega (arith, size), ap (λ (c : Candidate). c.1) last ∙ sym same)
        | inr other ↦
            let (p, within, is) = are.all k t (omega (arith, lt, other)) here open_t in
            (p, omega (arith, within, size), ap (λ (c : Candidate). c.1) (old p within) ∙ is)
      ];
      rise = λ p q less lt. elim (cases_eq q (length list)) [
        | inl same ↦
            let p_lt : p < length list = omega (arith, less, same) in
            let here : taken_at more q ≡ j = ap (λ (i : ℕ). taken_at more i) same ∙ ap (λ (c : Candidate). c.1) last in
            let before : taken_at more p ≡ taken_at list p = ap (λ (c : Candidate). c.1) (old p p_lt) in
            let lower = small p p_lt in
            omega (arith, here, before, lower)
        | inr other ↦
            let q_lt : q < length list = omega (arith, lt, size, other) in
            let p_lt : p < length list = omega (arith, less, q_lt) in
            let up = are.rise p q less q_lt in
            let x : taken_at more p ≡ taken_at list p = ap (λ (c : Candidate). c.1) (old p p_lt) in
            let y : taken_at more q ≡ taken_at list q = ap (λ (c : Candidate). c.1) (old q q_lt) in
            omega (arith, up, x, y)
      ];
    }

-- ---- the sorted list is in order
abbrev pair_lt : Candidate → Candidate → Bool
pair_lt x y = is_lt (ordering_then (nat_cmp x.0 y.0) (nat_cmp x.1 y.1))

-- the order of two pairs, in words
abbrev Before : Candidate → Candidate → Type 0
Before x y = (x.0 < y.0) ⊎ ((x.0 ≡ y.0) × (x.1 < y.1))

lt_by : (a b c d : Bool) → is_lt (ordering_then (cond a Less (cond b Equal Greater)) (cond c Less (cond d Equal Greater))) ≡ true
    → (a ≡ true) ⊎ ((b ≡ true) × (c ≡ true))
lt_by true b c d h = inl refl
lt_by false true true d h = inr (refl, refl)
lt_by false true false true h = cc h
lt_by false true false false h = cc h
lt_by false false c d h = cc h

lt_from : (a b c d : Bool) → (a ≡ true) ⊎ ((a ≡ false) × (b ≡ true) × (c ≡ true))
    → is_lt (ordering_then (cond a Less (cond b Equal Greater)) (cond c Less (cond d Equal Greater))) ≡ true
lt_from true b c d h = refl
lt_from false true true d h = refl
lt_from false true false d h = elim h [ inl x ↦ cc x | inr x ↦ cc x.2 ]
lt_from false false c d h = elim h [ inl x ↦ cc x | inr x ↦ cc x.1 ]

pair_says : (x y : Candidate) → pair_lt x y ≡ true → Before x y
pair_says x y h = elim (lt_by (nat_lt x.0 y.0) (x.0 == y.0) (nat_lt x.1 y.1) (x.1 == y.1) h) [
  | inl less ↦ inl (ltb-true x.0 y.0 less)
  | inr both ↦ inr (eqb-true x.0 y.0 both.0, ltb-true x.1 y.1 both.1)
]

not_lt : (a b : ℕ) → b ≤ a → nat_lt a b ≡ false
not_lt a b le = elim (cases_Bool (nat_lt a b)) [ inl on ↦ let lt = ltb-true a b on in absurd (omega (arith, le, lt)) | inr off ↦ off ]

pair_is : (x y : Candidate) → Before x y → pair_lt x y ≡ true
pair_is x y h = lt_from (nat_lt x.0 y.0) (x.0 == y.0) (nat_lt x.1 y.1) (x.1 == y.1) (elim h [
  | inl less ↦ inl (lt-ltb x.0 y.0 less)
  | inr both ↦ let same = both.0 in inr (not_lt x.0 y.0 (omega (arith, same)), eq-eqb x.0 y.0 same, lt-ltb x.1 y.1 both.1)
])

before_not : (x y : Candidate) → Before x y → Before y x → ⊥
before_not x y a b = elim a [
  | inl p ↦ elim b [ inl q ↦ omega (arith, p, q) | inr q ↦ let e = q.0 in omega (arith, p, e) ]
  | inr p ↦ let e = p.0 in let l = p.1 in elim b [ inl q ↦ omega (arith, e, q) | inr q ↦ let m = q.1 in omega (arith, l, m) ]
]

-- the order is one in which any two compare
or_not : (x z : Candidate) → (Before x z → ⊥) → pair_lt x z ≡ false
or_not x z never = elim (cases_Bool (pair_lt x z)) [ inl on ↦ absurd (never (pair_says x z on)) | inr off ↦ off ]

either : (x y : Candidate) → Before x y ⊎ (Before x y → ⊥)
either x y = elim (cases_Bool (pair_lt x y)) [
  | inl on ↦ inl (pair_says x y on)
  | inr off ↦ inr (λ b. cc (sym off ∙ pair_is x y b))
]

through : (x y z : Candidate) → Before x z → Before x y ⊎ Before y z
through x y z h = elim (either x y) [
  | inl a ↦ inl a
  | inr not_first ↦ elim (either y z) [
    | inl b ↦ inr b
    | inr never ↦ absurd (elim h [
      | inl less ↦ elim (cases_lt x.0 y.0) [
        | inl a ↦ not_first (inl a)
        | inr b ↦ never (inl (omega (arith, less, b)))
      ]
      | inr both ↦ let same = both.0 in let lower = both.1 in elim (cases_lt x.0 y.0) [
        | inl a ↦ not_first (inl a)
        | inr b ↦ elim (cases_lt y.0 z.0) [
          | inl a ↦ never (inl a)
          | inr c ↦ elim (cases_lt x.1 y.1) [
            | inl a ↦ not_first (inr (omega (arith, same, b, c), a))
            | inr d ↦ never (inr (omega (arith, same, b, c), omega (arith, lower, d)))
          ]
        ]
      ]
    ])
  ]
]

pairs_order : IsStrictWeakOrder pair_lt
pairs_order = record {
  one_way = λ x y on. or_not y x (λ b. before_not x y (pair_says x y on) b);
  chain = λ x y z a b. or_not x z (λ h. elim (through x y z h) [
    | inl p ↦ cc (sym a ∙ pair_is x y p)
    | inr q ↦ cc (sym b ∙ pair_is y z q)
  ]);
}

-- candidates of different places differ
abbrev same_place : Candidate → Candidate → Bool
same_place x y = x.1 == y.1

distinct_at : (list : List Candidate) → ((p q : ℕ) → p < q → q < length list → taken_at list p < taken_at list q) → IsDistinct same_place list
unfolding IsDistinct
distinct_at [] rise = tt
distinct_at (c ∷ list) rise = (
  by_index (λ (y : Candidate). same_place c y ≡ false) list (λ q lt. let up = rise 0 (suc q) (omega arith) (omega (arith, lt)) in ne_eqb c.1 (taken_at list q) (λ same. omega (arith, up, same))),
  distinct_at list (λ p q less lt. rise (suc p) (suc q) (omega (arith, less)) (omega (arith, lt))),
)
  where
    by_index : (P : Candidate → Type 0) (list : List Candidate) → ((q : ℕ) → q < length list → P (get_or list q (0, 0))) → AllByRecursion P list
    by_index P [] each = tt
    by_index P (d ∷ rest) each = (each 0 (omega arith), by_index P rest (λ q lt. each (suc q) (omega (arith, lt))))

differ_at : (list : List Candidate) → IsDistinct same_place list → (p q : ℕ) → p < q → q < length list → taken_at list p ≢ taken_at list q
unfolding IsDistinct
differ_at [] far p q less lt same = omega (arith, lt)
differ_at (c ∷ list) far zero zero less lt same = omega (arith, less)
differ_at (c ∷ list) far zero (suc q) less lt same = cc (sym (at_index (λ (y : Candidate). same_place c y ≡ false) list far.0 q (omega (arith, lt))) ∙ eq-eqb c.1 (taken_at list q) same)
  where
    at_index : (P : Candidate → Type 0) (list : List Candidate) → AllByRecursion P list → (q : ℕ) → q < length list → P (get_or list q (0, 0))
    at_index P [] all q lt = absurd (omega (arith, lt))
    at_index P (d ∷ rest) all zero lt = all.0
    at_index P (d ∷ rest) all (suc q) lt = at_index P rest all.1 q (omega (arith, lt))
differ_at (c ∷ list) far (suc p) zero less lt same = omega (arith, less)
differ_at (c ∷ list) far (suc p) (suc q) less lt same = differ_at list far.1 p q (omega (arith, less)) (omega (arith, lt)) same

abbrev outranks_words : ℤ → ℤ → ℕ → ℕ → Type 0
outranks_words c d j k = (c <ℤ d) ⊎ ((c ≤ℤ d) × (k < j))

farther : (c d : ℤ) → IsCost c → IsCost d → (unsigned_abs (pos most_cost -ℤ d) < unsigned_abs (pos most_cost -ℤ c)) → c <ℤ d
farther c d x y lt = let a = x.1 in let b = y.1 in omega (arith, ints, a, b, lt)

-- a lesser distance from the greatest cost is a greater cost
nearer : (c d : ℤ) → IsCost c → IsCost d → (unsigned_abs (pos most_cost -ℤ d) ≤ unsigned_abs (pos most_cost -ℤ c)) → c ≤ℤ d
nearer c d x y le = let a = x.1 in let b = y.1 in omega (arith, ints, a, b, le)

pub sorted_is : (costs : List ℤ) (ss : List Stream) (xs ys : List Candidate) → length costs ≡ length ss → All IsCost costs
    → AreCandidates costs ss (length ss) xs → IsPermutation xs ys → IsSortedBy pair_lt ys → IsOrder costs ss ys
sorted_is costs ss xs ys size within are moved sorted =
    let is_all : All (IsCandidate costs ss (length ss)) xs = λ p d lt. are.each p (get_or xs p d) (slice_get-get_or xs p d lt) in
    let all_ys = All-permutation (IsCandidate costs ss (length ss)) xs ys moved is_all in
    let far = IsDistinct-IsPermutation same_place flips xs ys moved (distinct_at xs are.rise) in
    let at : (p : ℕ) → p < length ys → IsCandidate costs ss (length ss) (get_or ys p (0, 0)) = λ p lt. all_ys p (0, 0) lt in
    record {
      each = λ p lt. let (s, here, bare, cost, less) = at p lt in (s, here, bare);
      all = λ k s here bare.
          let (p, lt, is) = are.all k s (slice_get_within ss k s here) here bare in
          let (q, q_lt, q_is) = Contains-permutation xs ys (get_or xs p (0, 0)) moved (Contains-get_or xs p (0, 0) lt) in
          (q, q_lt, ap (λ (c : Candidate). c.1) (sym (get_or_default ys q (get_or xs p (0, 0)) (0, 0) q_lt) ∙ q_is) ∙ is);
      sorted = λ p q s less lt here.
          let p_lt : p < length ys = omega (arith, less, lt) in
          let x = get_or ys p (0, 0) in
          let y = get_or ys q (0, 0) in
          let (t, here_t, bare, cost_x, low_x) = at p p_lt in
          let (u, here_u, bare_u, cost_y, low_y) = at q lt in
          let is : s ≡ t = some_same (sym here ∙ here_t) in
          let not_less = sorted_far pair_lt pairs_order ys sorted p q (0, 0) (omega (arith, less)) lt in
          let other = differ_at ys far p q less lt in
          let cost_in : (k : ℕ) → k < length ss → IsCost (item costs k) = λ k k_lt. within k (pos 0) (omega (arith, k_lt, size)) in
          let order : outranks_words (item costs y.1) (item costs x.1) y.1 x.1 = elim (cases_lt x.0 y.0) [
            | inl lower ↦ inl (farther (item costs y.1) (item costs x.1) (cost_in y.1 low_y) (cost_in x.1 low_x) (omega (arith, lower, cost_x, cost_y)))
            | inr ge ↦ elim (cases_lt y.0 x.0) [
              | inl lower ↦ cc (sym not_less ∙ pair_is y x (inl lower))
              | inr le ↦ elim (cases_lt y.1 x.1) [
                | inl lower ↦ cc (sym not_less ∙ pair_is y x (inr (omega (arith, ge, le), lower)))
                | inr before ↦ inr (nearer (item costs y.1) (item costs x.1) (cost_in y.1 low_y) (cost_in x.1 low_x) (omega (arith, le, ge, cost_x, cost_y)), omega (arith, before, other))
              ]
            ]
          ] in
          precedes_is costs y.1 x.1 s (ap (λ (v : Stream). unmeasured x.1 v) is ∙ bare) order;
    }
  where
    eqb_flip : (a b : ℕ) → (a == b) ≡ (b == a)
    eqb_flip a b = elim (cases_eq a b) [
      | inl same ↦ eq-eqb a b same ∙ sym (eq-eqb b a (sym same))
      | inr other ↦ ne_eqb a b other ∙ sym (ne_eqb b a (λ z. other (sym z)))
    ]

    flips : (x y : Candidate) → same_place x y ≡ same_place y x
    flips x y = eqb_flip x.1 y.1
