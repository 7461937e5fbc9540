-- Walks: one step, one walk after another, the same walk back, the same walk if more streams may be taken.
use Rattle.std.proofs.Common.{◌≡◌, ◌∙◌, ℕ, ◌<◌, Bool, true, false, not, List, [], ◌∷◌, ◌++◌, Option, Some, None, slice_get, ap, sym, refl, subst, inl, inr, arith}
use Rattle.std.proofs.lemmas.Bool.{cases_Bool}
pub use Rattle.pb_fixed.proofs.Lists.{some_same}
use Rattle.pb_graph.specs.declared.records.Stream.{Stream}
use Rattle.pb_graph.specs.declared.records.Step.{Step}
use Rattle.pb_graph.specs.ProcessGraph.{IsStream}
use Rattle.pb_graph.specs.Walk.{along, ends_at, ends_of, Walks, Reaches, IsStricter}

-- a step along a stream that exists and may be taken
pub ends_is : (may : ℕ → Stream → Bool) (ss : List Stream) (k : ℕ) (s : Stream) (forward : Bool) → slice_get ss k ≡ Some s → may k s ≡ true
    → ends_of may ss (record { stream = k; forward = forward }) ≡ Some (along forward s)
ends_is may ss k s forward at ok = ap (ends_at may k forward) at ∙ rw ok refl

ends_of_at : (may : ℕ → Stream → Bool) (k : ℕ) (forward : Bool) (o : Option Stream) (e : ℕ × ℕ) → ends_at may k forward o ≡ Some e
    → (s : Stream) × (o ≡ Some s) × (may k s ≡ true) × (along forward s ≡ e)
ends_of_at may k forward None e is = cc is
ends_of_at may k forward (Some s) e is = elim (cases_Bool (may k s)) [
  | inl ok ↦ (s, refl, ok, some_same (rw ok at is))
  | inr closed ↦ cc (rw closed at is)
]

-- the stream of a step that may be taken
pub stream_of : (may : ℕ → Stream → Bool) (ss : List Stream) (t : Step) (e : ℕ × ℕ) → ends_of may ss t ≡ Some e
    → (s : Stream) × (slice_get ss t.stream ≡ Some s) × (may t.stream s ≡ true) × (along t.forward s ≡ e)
stream_of may ss t e is = ends_of_at may t.stream t.forward (slice_get ss t.stream) e is

-- a stream back leads the other way
pub along_back : (s : Stream) (forward : Bool) (a c : ℕ) → along forward s ≡ (a, c) → along (not forward) s ≡ (c, a)
along_back s true a c e = ap (λ (p : ℕ × ℕ). (p.1, p.0)) e
along_back s false a c e = ap (λ (p : ℕ × ℕ). (p.1, p.0)) e

pub along_within : (nodes : ℕ) (s : Stream) (forward : Bool) (a c : ℕ) → IsStream nodes s → along forward s ≡ (a, c) → (a < nodes) × (c < nodes)
along_within nodes s true a c is e =
    let x : s.from ≡ a = ap (λ (p : ℕ × ℕ). p.0) e in
    let y : s.to ≡ c = ap (λ (p : ℕ × ℕ). p.1) e in
    (omega (arith, x, is.from), omega (arith, y, is.to))
along_within nodes s false a c is e =
    let x : s.to ≡ a = ap (λ (p : ℕ × ℕ). p.0) e in
    let y : s.from ≡ c = ap (λ (p : ℕ × ℕ). p.1) e in
    (omega (arith, x, is.to), omega (arith, y, is.from))

-- a step the other way
pub ends_back : (may : ℕ → Stream → Bool) (ss : List Stream) (t : Step) (a c : ℕ) → ends_of may ss t ≡ Some (a, c)
    → ends_of may ss (record { stream = t.stream; forward = not t.forward }) ≡ Some (c, a)
ends_back may ss t a c e =
    let (s, at, ok, is) = stream_of may ss t (a, c) e in
    ends_is may ss t.stream s (not t.forward) at ok ∙ ap (λ (p : ℕ × ℕ). Some p) (along_back s t.forward a c is)

-- one walk after another
pub walks_both : (ends : Step → Option (ℕ × ℕ)) (a b c : ℕ) (xs ys : List Step) → Walks ends a xs b → Walks ends b ys c → Walks ends a (xs ++ ys) c
walks_both ends a b c [] ys w v = subst (λ (n : ℕ). Walks ends n ys c) (sym w) v
walks_both ends a b c (t ∷ xs) ys (d, e, w) v = (d, e, walks_both ends d b c xs ys w v)

pub reach_none : (ends : Step → Option (ℕ × ℕ)) (a : ℕ) → Reaches ends a a
reach_none ends a = ([], refl)

pub reach_one : (ends : Step → Option (ℕ × ℕ)) (a b : ℕ) (t : Step) → ends t ≡ Some (a, b) → Reaches ends a b
reach_one ends a b t e = (t ∷ [], (b, e, refl))

pub reach_both : (ends : Step → Option (ℕ × ℕ)) (a b c : ℕ) → Reaches ends a b → Reaches ends b c → Reaches ends a c
reach_both ends a b c (xs, w) (ys, v) = (xs ++ ys, walks_both ends a b c xs ys w v)

walk_back : (may : ℕ → Stream → Bool) (ss : List Stream) (a b : ℕ) (steps : List Step) → Walks (ends_of may ss) a steps b → Reaches (ends_of may ss) b a
walk_back may ss a b [] w = ([], sym w)
walk_back may ss a b (t ∷ rest) (c, e, w) =
    reach_both (ends_of may ss) b c a (walk_back may ss c b rest w) (reach_one (ends_of may ss) c a (record { stream = t.stream; forward = not t.forward }) (ends_back may ss t a c e))

-- a node that is reached reaches back
pub reach_back : (may : ℕ → Stream → Bool) (ss : List Stream) (a b : ℕ) → Reaches (ends_of may ss) a b → Reaches (ends_of may ss) b a
reach_back may ss a b (steps, w) = walk_back may ss a b steps w

-- every stream that passes the first test passes the second
abbrev pub IsWithin : List Stream → (ℕ → Stream → Bool) → (ℕ → Stream → Bool) → Type 0
IsWithin ss may more = IsStricter ss may more

pub ends_more : (may more : ℕ → Stream → Bool) (ss : List Stream) (t : Step) (e : ℕ × ℕ) → IsWithin ss may more → ends_of may ss t ≡ Some e → ends_of more ss t ≡ Some e
ends_more may more ss t e within is =
    let (s, at, ok, goes) = stream_of may ss t e is in
    ends_is more ss t.stream s t.forward at (within t.stream s at ok) ∙ ap (λ (p : ℕ × ℕ). Some p) goes

pub walk_more : (may more : ℕ → Stream → Bool) (ss : List Stream) (a b : ℕ) (steps : List Step) → IsWithin ss may more
    → Walks (ends_of may ss) a steps b → Walks (ends_of more ss) a steps b
walk_more may more ss a b [] within w = w
walk_more may more ss a b (t ∷ rest) within (c, e, w) = (c, ends_more may more ss t (a, c) within e, walk_more may more ss c b rest within w)

pub reach_more : (may more : ℕ → Stream → Bool) (ss : List Stream) (a b : ℕ) → IsWithin ss may more → Reaches (ends_of may ss) a b → Reaches (ends_of more ss) a b
reach_more may more ss a b within (steps, w) = (steps, walk_more may more ss a b steps within w)

-- what each step keeps, a walk keeps
pub walk_keeps : (ends : Step → Option (ℕ × ℕ)) (P : ℕ → Type 0) (a b : ℕ) (steps : List Step) → ((t : Step) (x y : ℕ) → ends t ≡ Some (x, y) → P x → P y)
    → Walks ends a steps b → P a → P b
walk_keeps ends P a b [] keep w p = subst P w p
walk_keeps ends P a b (t ∷ rest) keep (c, e, w) p = walk_keeps ends P c b rest keep w (keep t a c e p)
