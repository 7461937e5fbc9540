-- The forest has no cycle, and there is only one forest.
use Rattle.std.proofs.Common.{◌≡◌, ◌⊎◌, ◌∙◌, ℕ, zero, suc, ◌+◌, ◌<◌, ◌≤◌, Bool, true, false, not, ◌==◌, nat_lt, List, length, Some, None, slice_get, get_or, ap, sym, refl, subst, inl, inr, arith}
use Rattle.std.proofs.lemmas.Bool.{cases_Bool, cases_eq, and_parts, and_from, or_right, not-true, eq-eqb, ltb-true, lt-ltb}
use Rattle.std.proofs.lemmas.Option.{slice_get_within, slice_get-get_or}
use Rattle.std.proofs.lemmas.List.{ext_get_or}
use Rattle.pb_graph.specs.declared.records.Stream.{Stream}
use Rattle.pb_graph.specs.ProcessGraph.{is_measured}
use Rattle.pb_graph.specs.Walk.{ends_of, Reaches}
use Rattle.pb_graph.specs.Path.{is_open}
use Rattle.pb_graph.proofs.WalkLemmas.{some_same, ends_is, reach_one, reach_both, reach_back, reach_more}
use Rattle.pb_forest.specs.Forest.{is_before, IsDecided, IsForest}
use Rattle.pb_forest.specs.Laws.{held_before, except, IsAcyclic, IsPart, AcyclicLaw, OneForestLaw}
use Rattle.pb_forest.proofs.OrderLemmas.{before_earlier, before_other}
use Rattle.pb_forest.proofs.SpansLemmas.{before_unmeasured}
use Rattle.pb_graph.proofs.ReachLemmas.{IsPartBut, more_cases}

-- a part of a set without a cycle has none
pub acyclic_part : (ss : List Stream) (some may : ℕ → Stream → Bool) → IsPart ss some may → IsAcyclic ss may → IsAcyclic ss some
acyclic_part ss some may part acyclic j s at ok r =
    acyclic j s at (part j s at ok)
    (reach_more (except j some) (except j may) ss s.from s.to (λ k t here both. let parts = and_parts (some k t) (not (k == j)) both in and_from _ _ (part k t here parts.0) parts.1) r)

-- one more stream, whose ends the others don't join, makes no cycle
acyclic_more : (ss : List Stream) (x y : ℕ → Stream → Bool) (i : ℕ) (u : Stream) → slice_get ss i ≡ Some u → (Reaches (ends_of x ss) u.from u.to → ⊥)
    → IsPartBut ss i y x → IsAcyclic ss x → IsAcyclic ss y
acyclic_more ss x y i u at_u apart but acyclic j s at ok r = elim (cases_eq j i) [
  | inl same ↦
      let is : s ≡ u = some_same (sym at ∙ ap (λ (n : ℕ). slice_get ss n) same ∙ at_u) in
      let joined : Reaches (ends_of x ss) s.from s.to = reach_more (except j y) x ss s.from s.to
      (λ k t here both. let parts = and_parts (y k t) (not (k == j)) both in but k t here (λ z. cc (sym (not-true (k == j) parts.1) ∙ eq-eqb k j (z ∙ sym same))) parts.0) r in
      apart (subst (λ (v : Stream). Reaches (ends_of x ss) v.from v.to) is joined)
  | inr other ↦
      let here : x j s ≡ true = but j s at other ok in
      let ends = ends_of x ss in
      let wide : (a b : ℕ) → Reaches (ends_of (except j x) ss) a b → Reaches ends a b = λ a b q. reach_more (except j x) x ss a b (λ k t there both. (and_parts _ _ both).0) q in
      let forth : Reaches ends s.from s.to = reach_one ends s.from s.to (record { stream = j; forward = true }) (ends_is x ss j s true at here) in
      let back : Reaches ends s.to s.from = reach_one ends s.to s.from (record { stream = j; forward = false }) (ends_is x ss j s false at here) in
      let others : IsPartBut ss i (except j y) (except j x) = λ k t there ne both.
      let parts = and_parts (y k t) (not (k == j)) both in
      and_from _ _ (but k t there ne parts.0) parts.1 in
      elim (more_cases ss (except j x) (except j y) i u s.from s.to r.0 at_u others r.1) [
        | inl q ↦ acyclic j s at here q
        | inr more ↦ elim more [
          | inl (p, q) ↦
              let begin = reach_back x ss s.from u.from (wide s.from u.from p) in
              let end = reach_back x ss u.to s.to (wide u.to s.to q) in
              apart (reach_both ends u.from s.from u.to begin (reach_both ends s.from s.to u.to forth end))
          | inr (p, q) ↦ apart (reach_both ends u.from s.to u.to (wide u.from s.to q) (reach_both ends s.to s.from u.to back (wide s.from u.to p)))
        ]
      ]
]

-- the held streams before the next place of a kind
acyclic_next : (ss : List Stream) (held : List Bool) (m : Bool) (i : ℕ) (u : Stream) → IsForest ss held → slice_get ss i ≡ Some u
    → IsAcyclic ss (held_before held m i) → IsAcyclic ss (held_before held m (i + 1))
acyclic_next ss held m i u forest at_u acyclic =
    let before = held_before held m i in
    let next = held_before held m (i + 1) in
    let but : IsPartBut ss i next before = λ k t at ne both.
    let parts = and_parts (is_open held k t) (is_before m (i + 1) k t) both in
    and_from _ _ parts.0 (before_earlier m i k t ne parts.1) in
    let part : ((t : Stream) → slice_get ss i ≡ Some t → next i t ≡ true → before i t ≡ true) → IsAcyclic ss next = λ here.
    acyclic_part ss next before (λ k t at both. elim (cases_eq k i) [
      | inl same ↦ subst (λ (n : ℕ). slice_get ss n ≡ Some t → next n t ≡ true → before n t ≡ true) (sym same) (here t) at both
      | inr other ↦ but k t at other both
    ]) acyclic in
    elim (cases_Bool (get_or held i false)) [
      | inr out ↦ part (λ t at both. cc (sym out ∙ (and_parts (is_open held i t) (is_before m (i + 1) i t) both).0))
      | inl in_it ↦ elim (cases_kind m (is_measured u)) [
        | inr other ↦ part (λ t at both.
            let is : u ≡ t = some_same (sym at_u ∙ at) in
            let kind : is_measured t ≡ not m = ap is_measured (sym is) ∙ other in
            let parts = and_parts (is_open held i t) (is_before m (i + 1) i t) both in
            and_from _ _ parts.0 (before_other m i t kind parts.1))
        | inl same ↦
            let apart = (forest.decided i (slice_get_within ss i u at_u)).apart in_it u at_u in
            let joined = λ (r : Reaches (ends_of before ss) u.from u.to). reach_more before (is_before m i) ss u.from u.to (λ k t at both. (and_parts _ _ both).1) r in
            acyclic_more ss before next i u at_u (λ r. apart (subst (λ (k : Bool). Reaches (ends_of (is_before k i) ss) u.from u.to) (sym same) (joined r))) but acyclic
      ]
    ]
  where
    cases_kind : (m x : Bool) → (x ≡ m) ⊎ (x ≡ not m)
    cases_kind true true = inl refl
    cases_kind true false = inr refl
    cases_kind false true = inr refl
    cases_kind false false = inl refl

acyclic_upto : (ss : List Stream) (held : List Bool) (m : Bool) (n : ℕ) → IsForest ss held → n ≤ length ss
    → IsAcyclic ss (held_before held m 0) → IsAcyclic ss (held_before held m n)
acyclic_upto ss held m zero forest le acyclic = acyclic
acyclic_upto ss held m (suc n) forest le acyclic =
    let some : Stream = record { from = 0; to = 0; meas = None } in
    let at = slice_get-get_or ss n some (omega arith) in
    let next : suc n ≡ n + 1 = omega arith in
    subst (λ (k : ℕ). IsAcyclic ss (held_before held m k)) (sym next)
    (acyclic_next ss held m n (get_or ss n some) forest at (acyclic_upto ss held m n forest (omega arith) acyclic))

pub acyclic_law : AcyclicLaw
acyclic_law ss held forest =
    let none : IsAcyclic ss (held_before held false 0) = λ j s at ok r.
    let lt = ltb-true j 0 (and_parts (not (is_measured s)) (nat_lt j 0) (and_parts (is_open held j s) (is_before false 0 j s) ok).1).1 in
    omega arith in
    let bare = acyclic_upto ss held false (length ss) forest (omega arith) none in
    let first : IsPart ss (held_before held true 0) (held_before held false (length ss)) = λ k t at both.
    let parts = and_parts (is_open held k t) (is_before true 0 k t) both in
    and_from _ _ parts.0 (and_from _ _ (before_unmeasured k t parts.1) (lt-ltb k (length ss) (slice_get_within ss k t at))) in
    let all = acyclic_upto ss held true (length ss) forest (omega arith) (acyclic_part ss (held_before held true 0) (held_before held false (length ss)) first bare) in
    let part : IsPart ss (is_open held) (held_before held true (length ss)) = λ k t at ok.
    and_from _ _ ok (or_right (not (is_measured t)) (nat_lt k (length ss)) (lt-ltb k (length ss) (slice_get_within ss k t at))) in
    acyclic_part ss (is_open held) (held_before held true (length ss)) part all

-- a stream has only one mark
marks_same : (ss : List Stream) (j : ℕ) (s : Stream) (x y : Bool) → slice_get ss j ≡ Some s → IsDecided ss j x → IsDecided ss j y → x ≡ y
marks_same ss j s true true at d e = refl
marks_same ss j s true false at d e = absurd (d.apart refl s at (e.tied refl s at))
marks_same ss j s false true at d e = absurd (e.apart refl s at (d.tied refl s at))
marks_same ss j s false false at d e = refl

pub one_forest_law : OneForestLaw
one_forest_law ss held other forest forest2 =
    let some : Stream = record { from = 0; to = 0; meas = None } in
    ext_get_or false held other (forest.each ∙ sym forest2.each) (λ i lt.
    let within : i < length ss = omega (arith, lt, forest.each) in
    marks_same ss i (get_or ss i some) (get_or held i false) (get_or other i false) (slice_get-get_or ss i some within) (forest.decided i within) (forest2.decided i within))
