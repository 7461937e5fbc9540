-- What circulates along a walk: one unit along each stream that it takes forward, and one against each that it takes backward.
use Rattle.std.proofs.Common.{◌≡◌, ◌≢◌, ◌∙◌, ℕ, zero, suc, ◌<◌, ℤ, pos, negsuc, ◌+ℤ◌, ◌-ℤ◌, Bool, true, false, not, cond, ◌==◌, List, [], ◌∷◌, length, Some, slice_get, refl, sym, ap, ap₂, inl, inr, arith}
use Rattle.std.specs.List.{list_any}
use Rattle.std.proofs.lemmas.Bool.{cases_eq, cases_Bool, eq-eqb, ne_eqb, and_parts, not-true}
use Rattle.std.proofs.lemmas.Int.{ints}
use Rattle.pb_fixed.specs.Sums.{item}
use Rattle.pb_fixed.proofs.RingLaws.{add_assoc}
use Rattle.pb_graph.specs.declared.records.Stream.{Stream}
use Rattle.pb_graph.specs.declared.records.Step.{Step}
use Rattle.pb_graph.specs.Walk.{along, ends_of, Walks}
use Rattle.pb_graph.specs.Cycle.{is_distinct}
use Rattle.pb_graph.specs.Balance.{brought_to, net_of}
use Rattle.pb_graph.proofs.WalkLemmas.{some_same, stream_of}

-- no flow at all
abbrev pub zeros : List Stream → List ℤ
zeros [] = []
zeros (s ∷ ss) = pos 0 ∷ zeros ss

abbrev add_at : ℕ → ℤ → List ℤ → List ℤ
add_at k d [] = []
add_at zero d (x ∷ xs) = (d +ℤ x) ∷ xs
add_at (suc k) d (x ∷ xs) = x ∷ add_at k d xs

abbrev turn : Bool → ℤ
turn true = pos 1
turn false = negsuc 0

abbrev pub turns : List Stream → List Step → List ℤ
turns ss [] = zeros ss
turns ss (t ∷ rest) = add_at t.stream (turn t.forward) (turns ss rest)

-- whether a walk takes a stream
abbrev pub takes : ℕ → List Step → Bool
takes k steps = list_any (λ (t : Step). t.stream == k) steps

-- ---- lists
length_zeros : (ss : List Stream) → length (zeros ss) ≡ length ss
length_zeros [] = refl
length_zeros (s ∷ ss) = ap suc (length_zeros ss)

item_zeros : (ss : List Stream) (k : ℕ) → item (zeros ss) k ≡ pos 0
item_zeros [] k = refl
item_zeros (s ∷ ss) zero = refl
item_zeros (s ∷ ss) (suc k) = item_zeros ss k

length_add : (k : ℕ) (d : ℤ) (xs : List ℤ) → length (add_at k d xs) ≡ length xs
length_add k d [] = refl
length_add zero d (x ∷ xs) = refl
length_add (suc k) d (x ∷ xs) = ap suc (length_add k d xs)

item_add_same : (k : ℕ) (d : ℤ) (xs : List ℤ) → k < length xs → item (add_at k d xs) k ≡ d +ℤ item xs k
item_add_same k d [] lt = absurd (omega (arith, lt))
item_add_same zero d (x ∷ xs) lt = refl
item_add_same (suc k) d (x ∷ xs) lt = item_add_same k d xs (omega (arith, lt))

item_add_other : (k i : ℕ) (d : ℤ) (xs : List ℤ) → i ≢ k → item (add_at k d xs) i ≡ item xs i
item_add_other k i d [] ne = refl
item_add_other zero zero d (x ∷ xs) ne = absurd (ne refl)
item_add_other zero (suc i) d (x ∷ xs) ne = refl
item_add_other (suc k) zero d (x ∷ xs) ne = refl
item_add_other (suc k) (suc i) d (x ∷ xs) ne = item_add_other k i d xs (λ e. ne (ap suc e))

pub length_turns : (ss : List Stream) (steps : List Step) → length (turns ss steps) ≡ length ss
length_turns ss [] = length_zeros ss
length_turns ss (t ∷ rest) = length_add t.stream (turn t.forward) (turns ss rest) ∙ length_turns ss rest

-- ---- net flows
net_zeros : (n : ℕ) (ss : List Stream) → net_of n ss (zeros ss) ≡ pos 0
net_zeros n [] = refl
net_zeros n (s ∷ ss) =
    elim (cases_Bool (s.to == n)) [
      | inl to ↦ elim (cases_Bool (s.from == n)) [
        | inl from ↦ rw (to, from, net_zeros n ss) refl
        | inr other ↦ rw (to, other, net_zeros n ss) refl
      ]
      | inr away ↦ elim (cases_Bool (s.from == n)) [
        | inl from ↦ rw (away, from, net_zeros n ss) refl
        | inr other ↦ rw (away, other, net_zeros n ss) refl
      ]
    ]

share_parts : (to from : Bool) (d x : ℤ)
    → cond to (d +ℤ x) (pos 0) -ℤ cond from (d +ℤ x) (pos 0) ≡ (cond to d (pos 0) -ℤ cond from d (pos 0)) +ℤ (cond to x (pos 0) -ℤ cond from x (pos 0))
share_parts true true d x = omega (arith, ints)
share_parts true false d x = omega (arith, ints)
share_parts false true d x = omega (arith, ints)
share_parts false false d x = omega (arith, ints)

share_add : (n : ℕ) (s : Stream) (d x : ℤ) → brought_to n s (d +ℤ x) ≡ brought_to n s d +ℤ brought_to n s x
share_add n s d x = share_parts (s.to == n) (s.from == n) d x

swap_first : (a b c : ℤ) → a +ℤ (b +ℤ c) ≡ b +ℤ (a +ℤ c)
swap_first a b c = omega (arith, ints)

net_add : (n : ℕ) (ss : List Stream) (xs : List ℤ) (k : ℕ) (d : ℤ) (s : Stream) → slice_get ss k ≡ Some s → length xs ≡ length ss
    → net_of n ss (add_at k d xs) ≡ brought_to n s d +ℤ net_of n ss xs
net_add n [] xs k d s at len = cc at
net_add n (t ∷ ss) [] k d s at len = absurd (omega (arith, len))
net_add n (t ∷ ss) (x ∷ xs) zero d s at len =
    ap (λ (z : ℤ). z +ℤ net_of n ss xs) (share_add n t d x ∙ ap (λ (u : Stream). brought_to n u d +ℤ brought_to n t x) (some_same at))
    ∙ add_assoc (brought_to n s d) (brought_to n t x) (net_of n ss xs)
net_add n (t ∷ ss) (x ∷ xs) (suc k) d s at len =
    ap (λ (z : ℤ). brought_to n t x +ℤ z) (net_add n ss xs k d s at (omega (arith, len)))
    ∙ swap_first (brought_to n t x) (brought_to n s d) (net_of n ss xs)

-- one unit at a node
abbrev unit_at : ℕ → ℕ → ℤ
unit_at m n = cond (m == n) (pos 1) (pos 0)

turn_backward : (to from : Bool) → cond to (negsuc 0) (pos 0) -ℤ cond from (negsuc 0) (pos 0) ≡ cond from (pos 1) (pos 0) -ℤ cond to (pos 1) (pos 0)
turn_backward true true = refl
turn_backward true false = refl
turn_backward false true = refl
turn_backward false false = refl

share_turn : (n : ℕ) (s : Stream) (forward : Bool) (a c : ℕ) → along forward s ≡ (a, c) → brought_to n s (turn forward) ≡ unit_at c n -ℤ unit_at a n
share_turn n s true a c e = ap (λ (p : ℕ × ℕ). unit_at p.1 n -ℤ unit_at p.0 n) e
share_turn n s false a c e = turn_backward (s.to == n) (s.from == n) ∙ ap (λ (p : ℕ × ℕ). unit_at p.1 n -ℤ unit_at p.0 n) e

no_gap : (b : ℤ) → pos 0 ≡ b -ℤ b
no_gap b = omega (arith, ints)

gap_sum : (a b c : ℤ) → (c -ℤ a) +ℤ (b -ℤ c) ≡ b -ℤ a
gap_sum a b c = omega (arith, ints)

-- a walk takes one unit from the node where it begins to the node where it ends
pub walk_net : (may : ℕ → Stream → Bool) (ss : List Stream) (n a b : ℕ) (steps : List Step) → Walks (ends_of may ss) a steps b
    → net_of n ss (turns ss steps) ≡ unit_at b n -ℤ unit_at a n
walk_net may ss n a b [] w = net_zeros n ss ∙ no_gap (unit_at b n) ∙ ap (λ (m : ℕ). unit_at b n -ℤ unit_at m n) (sym w)
walk_net may ss n a b (t ∷ rest) (c, e, w) =
    let (s, at, ok, goes) = stream_of may ss t (a, c) e in
    net_add n ss (turns ss rest) t.stream (turn t.forward) s at (length_turns ss rest)
    ∙ ap₂ (λ (x y : ℤ). x +ℤ y) (share_turn n s t.forward a c goes) (walk_net may ss n c b rest w)
    ∙ gap_sum (unit_at a n) (unit_at b n) (unit_at c n)

-- so a closed walk takes nothing anywhere
pub round_net : (may : ℕ → Stream → Bool) (ss : List Stream) (n a : ℕ) (steps : List Step) → Walks (ends_of may ss) a steps a → net_of n ss (turns ss steps) ≡ pos 0
round_net may ss n a steps w = walk_net may ss n a a steps w ∙ sym (no_gap (unit_at a n))

-- ---- the flow of a stream
pub not_taken : (ss : List Stream) (k : ℕ) (steps : List Step) → takes k steps ≡ false → item (turns ss steps) k ≡ pos 0
not_taken ss k [] none = item_zeros ss k
not_taken ss k (t ∷ rest) none = elim (cases_eq t.stream k) [
  | inl same ↦ cc (rw (eq-eqb t.stream k same) at none)
  | inr other ↦ item_add_other t.stream k (turn t.forward) (turns ss rest) (λ e. other (sym e)) ∙ not_taken ss k rest (rw (ne_eqb t.stream k other) at none)
]

turn_some : (forward : Bool) (z : ℤ) → z ≡ pos 0 → turn forward +ℤ z ≡ pos 0 → ⊥
turn_some true z none e = omega (arith, ints, none, e)
turn_some false z none e = omega (arith, ints, none, e)

-- a first step along a stream that the rest does not take
pub first_taken : (ss : List Stream) (t : Step) (rest : List Step) → t.stream < length ss → takes t.stream rest ≡ false
    → item (turns ss (t ∷ rest)) t.stream ≢ pos 0
first_taken ss t rest lt none e =
    turn_some t.forward (item (turns ss rest) t.stream) (not_taken ss t.stream rest none)
    (sym (item_add_same t.stream (turn t.forward) (turns ss rest) (omega (arith, lt, length_turns ss rest))) ∙ e)

pub taken_once : (ss : List Stream) (k : ℕ) (steps : List Step) → k < length ss → is_distinct (λ (t : Step). t.stream) steps ≡ true → takes k steps ≡ true
    → item (turns ss steps) k ≢ pos 0
taken_once ss k [] lt once some = cc some
taken_once ss k (t ∷ rest) lt once some = elim (cases_eq t.stream k) [
  | inl same ↦
      let none : takes t.stream rest ≡ false = not-true (takes t.stream rest) (and_parts (not (takes t.stream rest)) (is_distinct (λ (u : Step). u.stream) rest) once).0 in
      λ e. first_taken ss t rest (omega (arith, same, lt)) none (ap (item (turns ss (t ∷ rest))) same ∙ e)
  | inr other ↦
      let more : takes k rest ≡ true = rw (ne_eqb t.stream k other) at some in
      λ e. taken_once ss k rest lt (and_parts (not (takes t.stream rest)) (is_distinct (λ (u : Step). u.stream) rest) once).1 more
      (sym (item_add_other t.stream k (turn t.forward) (turns ss rest) (λ z. other (sym z))) ∙ e)
]

-- a first step forward along a stream that the rest does not take brings one unit there
pub first_unit : (ss : List Stream) (k : ℕ) (rest : List Step) → k < length ss → takes k rest ≡ false
    → item (turns ss (record { stream = k; forward = true } ∷ rest)) k ≡ pos 1
first_unit ss k rest lt none =
    item_add_same k (pos 1) (turns ss rest) (omega (arith, lt, length_turns ss rest)) ∙ ap (λ (z : ℤ). pos 1 +ℤ z) (not_taken ss k rest none)
