-- Whether a certificate shows a class is decided.
use Rattle.std.proofs.Common.{◌≡◌, ◌∙◌, ℕ, ◌<◌, ℤ, Bool, true, false, ◌==◌, List, [], ◌∷◌, length, Option, Some, None, slice_get, IsSome, refl, sym, ap, ap₂, subst, inl, inr, arith}
use Rattle.std.specs.List.{AllByRecursion, list_any}
use Rattle.std.specs.Ordering.{int_eq}
use Rattle.std.proofs.lemmas.Bool.{cases_Bool, cases_eq, cases_lt}
use Rattle.std.proofs.lemmas.Bool.Decides.{Decides-int_eq}
use Rattle.pb_fixed.proofs.Lists.{some_same}
use Rattle.pb_graph.specs.declared.records.Stream.{Stream}
use Rattle.pb_graph.specs.declared.records.Member.{Member}
use Rattle.pb_graph.specs.declared.records.Step.{Step}
use Rattle.pb_graph.specs.declared.records.Class.{Class}
use Rattle.pb_graph.specs.declared.records.Class.TheVariants.{Observable, Unobservable, Redundant, Nonredundant}
use Rattle.pb_graph.specs.declared.records.Witness.{Witness}
use Rattle.pb_graph.specs.declared.records.Witness.TheVariants.{Cut, Cycle}
use Rattle.pb_graph.specs.ProcessGraph.{ProcessGraph}
use Rattle.pb_graph.specs.Walk.{ends_of, any_stream, Walks}
use Rattle.pb_graph.specs.Boundary.{IsCut, boundary_of}
use Rattle.pb_graph.specs.Cycle.{IsCycle, is_distinct, begin_of, start_of}
use Rattle.pb_graph.specs.Certificates.{CutsOff, GoesRound, Shows}
use Rattle.pb_graph.proofs.ReachLemmas.{IsDecidable}
use Rattle.pb_check.proofs.DecideLemmas.{decided_both, decided_as, decided_not, decided_if}

-- ---- numbers, bits, options
pub int_decided : (a b : ℤ) → IsDecidable (a ≡ b)
int_decided a b = elim (cases_Bool (int_eq a b)) [
  | inl true_is ↦ inl ((Decides-int_eq a b).0 true_is)
  | inr false_is ↦ inr (λ e. cc (sym false_is ∙ (Decides-int_eq a b).1 e))
]

pub true_decided : (b : Bool) → IsDecidable (b ≡ true)
true_decided true = inl refl
true_decided false = inr (λ e. cc e)

pub bits_decided : (a b : Bool) → IsDecidable (a ≡ b)
bits_decided true true = inl refl
bits_decided false false = inl refl
bits_decided true false = inr (λ e. cc e)
bits_decided false true = inr (λ e. cc e)

pub none_decided : {A : Type 0} (o : Option A) → IsDecidable (o ≡ None)
none_decided None = inl refl
none_decided (Some x) = inr (λ e. cc e)

pub option_decided : {A : Type 0} → ((x y : A) → IsDecidable (x ≡ y)) → (a b : Option A) → IsDecidable (a ≡ b)
option_decided same None None = inl refl
option_decided same None (Some y) = inr (λ e. cc e)
option_decided same (Some x) None = inr (λ e. cc e)
option_decided same (Some x) (Some y) = decided_as (λ e. ap Some e) (λ e. some_same e) (same x y)

pub list_decided : {A : Type 0} → ((x y : A) → IsDecidable (x ≡ y)) → (xs ys : List A) → IsDecidable (xs ≡ ys)
list_decided same [] [] = inl refl
list_decided same [] (y ∷ ys) = inr (λ e. cc e)
list_decided same (x ∷ xs) [] = inr (λ e. cc e)
list_decided same (x ∷ xs) (y ∷ ys) =
    decided_as (λ p. ap₂ (λ z zs. z ∷ zs) p.0 p.1) (λ e. parts x y xs ys e) (decided_both (same x y) (list_decided same xs ys))
  where
    parts : {A : Type 0} (x y : A) (xs ys : List A) → x ∷ xs ≡ y ∷ ys → (x ≡ y) × (xs ≡ ys)
    parts x y xs ys e = (cc e, cc e)

pub each_decided : {A : Type 0} (P : A → Type 0) → ((x : A) → IsDecidable (P x)) → (xs : List A) → IsDecidable (AllByRecursion P xs)
each_decided P decided [] = inl tt
each_decided P decided (x ∷ xs) = decided_both (decided x) (each_decided P decided xs)

-- a fact of a place of a list, if there is one
pub at_decided : {A : Type 0} (P : A → Type 0) → ((x : A) → IsDecidable (P x)) → (o : Option A) → IsDecidable ((x : A) → o ≡ Some x → P x)
at_decided P decided None = inl (λ x e. cc e)
at_decided P decided (Some y) = decided_as (λ p x e. subst P (some_same e) p) (λ each. each y refl) (decided y)

-- ---- cuts
abbrev member_of : ℕ → ℤ → Member
member_of stream sign = record { stream = stream; sign = sign }

member_decided : (a b : Member) → IsDecidable (a ≡ b)
member_decided a b =
    decided_as (λ p. ap₂ member_of p.0 p.1) (λ e. (ap (λ (m : Member). m.stream) e, ap (λ (m : Member). m.sign) e))
    (decided_both (cases_eq a.stream b.stream) (int_decided a.sign b.sign))

cut_decided : (graph : ProcessGraph) (side : List Bool) (members : List Member) → IsDecidable (IsCut graph side members)
cut_decided graph side members =
    decided_as (λ p. record { each = p.0; boundary = p.1 }) (λ c. (c.each, c.boundary))
    (decided_both (cases_eq (length side) graph.nodes) (list_decided member_decided members (boundary_of side graph.streams)))

off_decided : (graph : ProcessGraph) (j : ℕ) (side : List Bool) (members : List Member) → IsDecidable (CutsOff graph j side members)
off_decided graph j side members =
    decided_as (λ p. record { cut = p.0; has = p.1.0; others = p.1.1 }) (λ c. (c.cut, (c.has, c.others)))
    (decided_both (cut_decided graph side members) (decided_both (true_decided (list_any (λ (m : Member). m.stream == j) members))
    (each_decided _ (λ m. decided_if (decided_not (cases_eq m.stream j)) (at_decided (λ (s : Stream). IsSome s.meas) (λ s. true_decided _) (slice_get graph.streams m.stream))) members)))

-- ---- cycles
walks_decided : (ends : Step → Option (ℕ × ℕ)) (a b : ℕ) (steps : List Step) → IsDecidable (Walks ends a steps b)
walks_decided ends a b [] = cases_eq a b
walks_decided ends a b (s ∷ rest) = by (ends s) refl (λ c. walks_decided ends c b rest)
  where
    by : (o : Option (ℕ × ℕ)) → ends s ≡ o → ((c : ℕ) → IsDecidable (Walks ends c rest b)) → IsDecidable ((c : ℕ) × (ends s ≡ Some (a, c)) × Walks ends c rest b)
    by None is behind = inr (λ (c, e, w). cc (sym is ∙ e))
    by (Some (x, c)) is behind = elim (cases_eq x a) [
      | inl e ↦ decided_as (λ w. (c, is ∙ ap (λ (n : ℕ). Some (n, c)) e, w))
          (λ (d, f, w). subst (λ (n : ℕ). Walks ends n rest b) (ap (λ (p : ℕ × ℕ). p.1) (some_same (sym f ∙ is))) w) (behind c)
      | inr ne ↦ inr (λ (d, f, w). ne (ap (λ (p : ℕ × ℕ). p.0) (some_same (sym is ∙ f))))
    ]

some_decided : {A : Type 0} (xs : List A) → IsDecidable (0 < length xs)
some_decided xs = elim (cases_lt 0 (length xs)) [ inl lt ↦ inl lt | inr le ↦ inr (λ lt. omega (arith, lt, le)) ]

cycle_decided : (graph : ProcessGraph) (steps : List Step) → IsDecidable (IsCycle graph steps)
cycle_decided graph steps =
    decided_as (λ p. record { some = p.0; back = p.1.0; each_stream = p.1.1.0; each_node = p.1.1.1 }) (λ c. (c.some, (c.back, (c.each_stream, c.each_node))))
    (decided_both (some_decided steps) (decided_both (walks_decided (ends_of any_stream graph.streams) (start_of graph steps) (start_of graph steps) steps)
    (decided_both (true_decided (is_distinct (λ (t : Step). t.stream) steps)) (true_decided (is_distinct (begin_of graph.nodes graph.streams) steps)))))

round_decided : (graph : ProcessGraph) (j : ℕ) (steps : List Step) → IsDecidable (GoesRound graph j steps)
round_decided graph j steps =
    decided_as (λ p. record { cycle = p.0; has = p.1.0; others = p.1.1 }) (λ c. (c.cycle, (c.has, c.others)))
    (decided_both (cycle_decided graph steps) (decided_both (true_decided (list_any (λ (t : Step). t.stream == j) steps))
    (each_decided _ (λ t. decided_if (decided_not (cases_eq t.stream j)) (at_decided (λ (s : Stream). s.meas ≡ None) (λ s. none_decided s.meas) (slice_get graph.streams t.stream))) steps)))

-- ---- classes
pub shows_decided : (graph : ProcessGraph) (j : ℕ) (s : Stream) (class : Class) (witness : Witness) → IsDecidable (Shows graph j s class witness)
shows_decided graph j s Observable (Cut side members) = decided_both (none_decided s.meas) (off_decided graph j side members)
shows_decided graph j s Redundant (Cut side members) = decided_both (true_decided _) (off_decided graph j side members)
shows_decided graph j s Unobservable (Cycle steps) = decided_both (none_decided s.meas) (round_decided graph j steps)
shows_decided graph j s Nonredundant (Cycle steps) = decided_both (true_decided _) (round_decided graph j steps)
shows_decided graph j s Observable (Cycle steps) = inr (λ x. x)
shows_decided graph j s Redundant (Cycle steps) = inr (λ x. x)
shows_decided graph j s Unobservable (Cut side members) = inr (λ x. x)
shows_decided graph j s Nonredundant (Cut side members) = inr (λ x. x)
