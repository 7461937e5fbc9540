-- The order in which streams are taken.
use Rattle.std.proofs.Common.{◌≡◌, ◌∙◌, ℕ, ◌+◌, ◌<◌, Bool, true, false, not, ◌&&◌, ◌||◌, nat_lt, sym, refl, arith}
use Rattle.std.proofs.lemmas.Bool.{ltb-true, lt-ltb}
use Rattle.pb_graph.specs.declared.records.Stream.{Stream}
use Rattle.pb_graph.specs.ProcessGraph.{is_measured}
use Rattle.pb_forest.specs.Forest.{is_before}

-- the same over only the two kinds
abbrev comes : Bool → Bool → ℕ → ℕ → Bool
comes true x k j = not x || nat_lt k j
comes false x k j = not x && nat_lt k j

comes_is : (m : Bool) (j k : ℕ) (t : Stream) → is_before m j k t ≡ comes m (is_measured t) k j
comes_is true j k t = refl
comes_is false j k t = refl

-- the place in the order of the j-th stream of a kind, out of this many streams
abbrev pub place_of : ℕ → Bool → ℕ → ℕ
place_of count true j = count + j
place_of count false j = j

comes_less : (count j k : ℕ) (m x : Bool) → k < count → comes m x k j ≡ true → place_of count x k < place_of count m j
comes_less count j k true true lt h = let less = ltb-true k j h in omega arith
comes_less count j k true false lt h = omega arith
comes_less count j k false true lt h = cc h
comes_less count j k false false lt h = let less = ltb-true k j h in omega arith

-- what comes before has the smaller place
pub before_less : (count : ℕ) (m : Bool) (j k : ℕ) (t : Stream) → k < count → is_before m j k t ≡ true → place_of count (is_measured t) k < place_of count m j
before_less count m j k t lt h = comes_less count j k m (is_measured t) lt (sym (comes_is m j k t) ∙ h)

comes_trans : (m x y : Bool) (j k n : ℕ) → comes m x k j ≡ true → comes x y n k ≡ true → comes m y n j ≡ true
comes_trans true true true j k n h i = let a = ltb-true k j h in let b = ltb-true n k i in lt-ltb n j (omega arith)
comes_trans true true false j k n h i = refl
comes_trans true false true j k n h i = cc i
comes_trans true false false j k n h i = refl
comes_trans false true y j k n h i = cc h
comes_trans false false true j k n h i = cc i
comes_trans false false false j k n h i = let a = ltb-true k j h in let b = ltb-true n k i in lt-ltb n j (omega arith)

pub before_trans : (m : Bool) (j k n : ℕ) (t u : Stream) → is_before m j k t ≡ true → is_before (is_measured t) k n u ≡ true → is_before m j n u ≡ true
before_trans m j k n t u h i =
    comes_is m j n u ∙ comes_trans m (is_measured t) (is_measured u) j k n (sym (comes_is m j k t) ∙ h) (sym (comes_is (is_measured t) k n u) ∙ i)

comes_earlier : (m x : Bool) (j k : ℕ) → (k ≡ j → ⊥) → comes m x k (j + 1) ≡ true → comes m x k j ≡ true
comes_earlier true true j k ne h = let a = ltb-true k (j + 1) h in lt-ltb k j (omega (arith, a, ne))
comes_earlier true false j k ne h = refl
comes_earlier false true j k ne h = cc h
comes_earlier false false j k ne h = let a = ltb-true k (j + 1) h in lt-ltb k j (omega (arith, a, ne))

-- what comes before the next place comes before this place, or is at it
pub before_earlier : (m : Bool) (j k : ℕ) (t : Stream) → (k ≡ j → ⊥) → is_before m (j + 1) k t ≡ true → is_before m j k t ≡ true
before_earlier m j k t ne h = comes_is m j k t ∙ comes_earlier m (is_measured t) j k ne (sym (comes_is m (j + 1) k t) ∙ h)

comes_later : (m x : Bool) (j k : ℕ) → comes m x k j ≡ true → comes m x k (j + 1) ≡ true
comes_later true true j k h = let a = ltb-true k j h in lt-ltb k (j + 1) (omega arith)
comes_later true false j k h = refl
comes_later false true j k h = cc h
comes_later false false j k h = let a = ltb-true k j h in lt-ltb k (j + 1) (omega arith)

pub before_later : (m : Bool) (j k : ℕ) (t : Stream) → is_before m j k t ≡ true → is_before m (j + 1) k t ≡ true
before_later m j k t h = comes_is m (j + 1) k t ∙ comes_later m (is_measured t) j k (sym (comes_is m j k t) ∙ h)

-- a stream of the other kind is at no place of this kind
comes_other : (m : Bool) (j : ℕ) → comes m (not m) j (j + 1) ≡ true → comes m (not m) j j ≡ true
comes_other true j h = refl
comes_other false j h = cc h

pub before_other : (m : Bool) (j : ℕ) (t : Stream) → is_measured t ≡ not m → is_before m (j + 1) j t ≡ true → is_before m j j t ≡ true
before_other m j t kind h =
    comes_is m j j t ∙ rw kind (comes_other m j (rw kind at (sym (comes_is m (j + 1) j t) ∙ h)))

comes_here : (m : Bool) (j : ℕ) → comes m m j (j + 1) ≡ true
comes_here true j = lt-ltb j (j + 1) (omega arith)
comes_here false j = lt-ltb j (j + 1) (omega arith)

-- a stream comes before the next place of its kind
pub before_here : (m : Bool) (j : ℕ) (t : Stream) → is_measured t ≡ m → is_before m (j + 1) j t ≡ true
before_here m j t kind = comes_is m (j + 1) j t ∙ rw kind (comes_here m j)
