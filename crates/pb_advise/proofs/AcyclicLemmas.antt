-- Sets of streams without a cycle: a part of a set, and one more stream.
use Rattle.std.proofs.Common.{◌≡◌, ◌∙◌, ℕ, Bool, true, false, not, ◌==◌, List, Some, slice_get, ap, sym, subst, inl, inr}
use Rattle.std.proofs.lemmas.Bool.{cases_eq, and_parts, and_from, not-true, eq-eqb}
use Rattle.pb_graph.specs.declared.records.Stream.{Stream}
use Rattle.pb_graph.specs.Walk.{ends_of, Reaches}
use Rattle.pb_graph.proofs.WalkLemmas.{some_same, ends_is, reach_one, reach_both, reach_back, reach_more}
use Rattle.pb_graph.proofs.ReachLemmas.{IsPartBut, more_cases}
use Rattle.pb_forest.specs.Laws.{except, IsAcyclic, IsPart}

-- a part of a set without a cycle has no cycle
pub acyclic_part : (ss : List Stream) (some may : ℕ → Stream → Bool) → IsPart ss some may → IsAcyclic ss may → IsAcyclic ss some
acyclic_part ss some may part acyclic j s at ok r =
    acyclic j s at (part j s at ok)
    (reach_more (except j some) (except j may) ss s.from s.to (λ k t here both. let parts = and_parts (some k t) (not (k == j)) both in and_from _ _ (part k t here parts.0) parts.1) r)

-- one more stream, if the others do not join its ends, makes no cycle
pub acyclic_more : (ss : List Stream) (x y : ℕ → Stream → Bool) (i : ℕ) (u : Stream) → slice_get ss i ≡ Some u → (Reaches (ends_of x ss) u.from u.to → ⊥)
    → IsPartBut ss i y x → IsAcyclic ss x → IsAcyclic ss y
acyclic_more ss x y i u at_u apart but acyclic j s at ok r = elim (cases_eq j i) [
  | inl same ↦
      let is : s ≡ u = some_same (sym at ∙ ap (λ (n : ℕ). slice_get ss n) same ∙ at_u) in
      let joined : Reaches (ends_of x ss) s.from s.to = reach_more (except j y) x ss s.from s.to
      (λ k t here both. let parts = and_parts (y k t) (not (k == j)) both in but k t here (λ z. cc (sym (not-true (k == j) parts.1) ∙ eq-eqb k j (z ∙ sym same))) parts.0) r in
      apart (subst (λ (v : Stream). Reaches (ends_of x ss) v.from v.to) is joined)
  | inr other ↦
      let here : x j s ≡ true = but j s at other ok in
      let ends = ends_of x ss in
      let wide : (a b : ℕ) → Reaches (ends_of (except j x) ss) a b → Reaches ends a b = λ a b q. reach_more (except j x) x ss a b (λ k t there both. (and_parts _ _ both).0) q in
      let forth : Reaches ends s.from s.to = reach_one ends s.from s.to (record { stream = j; forward = true }) (ends_is x ss j s true at here) in
      let back : Reaches ends s.to s.from = reach_one ends s.to s.from (record { stream = j; forward = false }) (ends_is x ss j s false at here) in
      let others : IsPartBut ss i (except j y) (except j x) = λ k t there ne both.
      let parts = and_parts (y k t) (not (k == j)) both in
      and_from _ _ (but k t there ne parts.0) parts.1 in
      elim (more_cases ss (except j x) (except j y) i u s.from s.to r.0 at_u others r.1) [
        | inl q ↦ acyclic j s at here q
        | inr more ↦ elim more [
          | inl (p, q) ↦
              let begin = reach_back x ss s.from u.from (wide s.from u.from p) in
              let end = reach_back x ss u.to s.to (wide u.to s.to q) in
              apart (reach_both ends u.from s.from u.to begin (reach_both ends s.from s.to u.to forth end))
          | inr (p, q) ↦ apart (reach_both ends u.from s.to u.to (wide u.from s.to q) (reach_both ends s.to s.from u.to back (wide s.from u.to p)))
        ]
      ]
]
