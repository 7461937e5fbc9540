-- What a stream's `from` end reaches over the other unmeasured streams decides whether the stream is determined.
use Rattle.std.proofs.Common.{◌≡◌, ◌≢◌, ◌∙◌, ℕ, zero, suc, ◌+◌, negsuc, Bool, true, false, not, ◌==◌, List, [], ◌∷◌, Option, Some, None, slice_get, IsSome, is_some, refl, sym, ap, ap₂, subst, inl, inr, arith}
use Rattle.std.specs.List.{AllByRecursion, list_any}
use Rattle.std.proofs.lemmas.Bool.{cases_Bool, eq-eqb, ne_eqb, and_parts, not-true, or_right, false_from_ne_true}
use Rattle.std.proofs.lemmas.Option.{slice_get_within}
use Rattle.pb_graph.specs.declared.records.Stream.{Stream}
use Rattle.pb_graph.specs.declared.records.Member.{Member}
use Rattle.pb_graph.specs.declared.records.Step.{Step}
use Rattle.pb_graph.specs.ProcessGraph.{ProcessGraph, IsProcessGraph, is_measured}
use Rattle.pb_graph.specs.Walk.{ends_of, any_stream, unmeasured_but, is_in, Walks, Reaches, IsReach}
use Rattle.pb_graph.specs.Boundary.{sign_at, member_by, member_at, with_first, members_from, boundary_of}
use Rattle.pb_graph.specs.Classes.{IsDetermined, IsFree}
use Rattle.pb_graph.specs.Certificates.{CutsOff}
use Rattle.pb_graph.proofs.WalkLemmas.{some_same, stream_of, ends_is, walk_more, reach_none, reach_one, reach_both, reach_back}
use Rattle.pb_graph.specs.BalanceLaws.{IsDecidedBy}
use Rattle.pb_graph.proofs.CutLemmas.{member_stream, cut_determines}
use Rattle.pb_graph.proofs.TurnLemmas.{takes, first_taken}
use Rattle.pb_graph.proofs.CirculationLemmas.{AreUnmeasuredBut, round_frees}

-- ---- if it is reached
-- a walk over the other unmeasured streams does not take stream j, and no measured one
-- a stream that is not measured has no measurement
pub no_meas : (s : Stream) → is_measured s ≡ false → s.meas ≡ None
no_meas s none = elim s.meas as (λ o. is_some o ≡ false → o ≡ None) [ None ↦ λ e. refl | Some m ↦ λ e. cc e ] none

pub others_walk : (j a b : ℕ) (ss : List Stream) (steps : List Step) → Walks (ends_of (unmeasured_but j) ss) a steps b
    → (takes j steps ≡ false) × AreUnmeasuredBut j ss steps
others_walk j a b ss [] w = (refl, tt)
others_walk j a b ss (t ∷ rest) (c, e, w) =
    let (s, at, ok, goes) = stream_of (unmeasured_but j) ss t (a, c) e in
    let parts = and_parts (not (is_measured s)) (not (t.stream == j)) ok in
    let later = others_walk j c b ss rest w in
    let first : (t.stream == j) ≡ false = not-true (t.stream == j) parts.1 in
    let bare : t.stream ≢ j → (u : Stream) → slice_get ss t.stream ≡ Some u → u.meas ≡ None = λ ne u at_u.
    no_meas u (subst (λ (v : Stream). is_measured v ≡ false) (some_same (sym at ∙ at_u)) (not-true (is_measured s) parts.0)) in
    (rw first later.0, (bare, later.1))

reached_frees : (g : ProcessGraph) (j : ℕ) (s : Stream) → slice_get g.streams j ≡ Some s → Reaches (ends_of (unmeasured_but j) g.streams) s.from s.to → IsFree g j
reached_frees g j s at (steps, w) =
    let ss = g.streams in
    let back : Step = record { stream = j; forward = false } in
    let facts = others_walk j s.from s.to ss steps w in
    let whole : Walks (ends_of any_stream ss) s.to (back ∷ steps) s.to =
    (s.from, ends_is any_stream ss j s false at refl, walk_more (unmeasured_but j) any_stream ss s.from s.to steps (λ k u f h. refl) w) in
    round_frees g j any_stream s.to (back ∷ steps) whole ((λ ne u f. absurd (ne refl)), facts.1) (first_taken ss back steps (slice_get_within ss j s at) facts.0)

-- ---- if it is not reached
-- the set that is reached is closed: an unmeasured stream other than j has both ends in it or none
both_or_none : (g : ProcessGraph) (j a k : ℕ) (s : Stream) (side : List Bool) → IsReach (ends_of (unmeasured_but j) g.streams) g.nodes a side
    → slice_get g.streams k ≡ Some s → unmeasured_but j k s ≡ true → is_in side s.from ≡ is_in side s.to
both_or_none g j a k s side reach at ok =
    let ends = ends_of (unmeasured_but j) g.streams in
    let forth : Reaches ends s.from s.to = reach_one ends s.from s.to (record { stream = k; forward = true }) (ends_is (unmeasured_but j) g.streams k s true at ok) in
    let back : Reaches ends s.to s.from = reach_back (unmeasured_but j) g.streams s.from s.to forth in
    elim (cases_Bool (is_in side s.from)) [
      | inl in_from ↦ in_from ∙ sym (reach.whole s.to (reach_both ends a s.from s.to (reach.reached s.from in_from) forth))
      | inr out ↦ elim (cases_Bool (is_in side s.to)) [
        | inl in_to ↦ cc (sym out ∙ reach.whole s.from (reach_both ends a s.to s.from (reach.reached s.to in_to) back))
        | inr out_to ↦ out ∙ sym out_to
      ]
    ]

same_side : (k : ℕ) (a b : Bool) (m : Member) → a ≡ b → member_by k (sign_at a b) ≡ Some m → ⊥
same_side k true true m e is = cc is
same_side k true false m e is = cc e
same_side k false true m e is = cc e
same_side k false false m e is = cc is

-- a stream with one end in the set is the j-th, or is measured
crossing_measured : (g : ProcessGraph) (j a k : ℕ) (s : Stream) (side : List Bool) (m : Member) → IsReach (ends_of (unmeasured_but j) g.streams) g.nodes a side
    → slice_get g.streams k ≡ Some s → k ≢ j → member_at side k s ≡ Some m → IsSome s.meas
crossing_measured g j a k s side m reach at other is = elim (cases_Bool (is_measured s)) [
  | inl some ↦ some
  | inr none ↦
      let ok : unmeasured_but j k s ≡ true = rw (none, ne_eqb k j other) refl in
      absurd (same_side k (is_in side s.from) (is_in side s.to) m (both_or_none g j a k s side reach at ok) is)
]

first_all : (P : Member → Type 0) (o : Option Member) (rest : List Member) → ((m : Member) → o ≡ Some m → P m) → AllByRecursion P rest → AllByRecursion P (with_first o rest)
first_all P None rest each all = all
first_all P (Some m) rest each all = (each m refl, all)

-- what each member has, if each stream with one end in the side has it
members_all : (P : Member → Type 0) (side : List Bool) (i : ℕ) (ss : List Stream)
    → ((k : ℕ) (s : Stream) (m : Member) → slice_get ss k ≡ Some s → member_at side (i + k) s ≡ Some m → P m) → AllByRecursion P (members_from side i ss)
members_all P side i [] each = tt
members_all P side i (s ∷ ss) each =
    first_all P (member_at side i s) (members_from side (i + 1) ss) (λ m is. each 0 s m refl (ap (λ (n : ℕ). member_at side n s) (omega arith) ∙ is))
    (members_all P side (i + 1) ss (λ k t m at is. each (suc k) t m at (ap (λ (n : ℕ). member_at side n t) (omega arith) ∙ is)))

first_any : (q : Member → Bool) (m : Member) (rest : List Member) → q m ≡ true → list_any q (m ∷ rest) ≡ true
first_any q m rest e = rw e refl

later_any : (q : Member → Bool) (o : Option Member) (rest : List Member) → list_any q rest ≡ true → list_any q (with_first o rest) ≡ true
later_any q None rest e = e
later_any q (Some m) rest e = or_right (q m) (list_any q rest) e

-- a stream with one end in the side is among the members
member_listed : (q : Member → Bool) (side : List Bool) (i n k : ℕ) (ss : List Stream) (s : Stream) (m : Member) → slice_get ss k ≡ Some s → n ≡ i + k
    → member_at side n s ≡ Some m → q m ≡ true → list_any q (members_from side i ss) ≡ true
member_listed q side i n k [] s m at e is ok = cc at
member_listed q side i n zero (t ∷ ss) s m at e is ok =
    let first : member_at side i t ≡ Some m = ap₂ (member_at side) (omega (arith, e)) (some_same at) ∙ is in
    ap (λ (o : Option Member). list_any q (with_first o (members_from side (i + 1) ss))) first ∙ first_any q m (members_from side (i + 1) ss) ok
member_listed q side i n (suc k) (t ∷ ss) s m at e is ok =
    later_any q (member_at side i t) (members_from side (i + 1) ss) (member_listed q side (i + 1) n k ss s m at (omega (arith, e)) is ok)

pub side_cuts_off : (g : ProcessGraph) (j : ℕ) (s : Stream) (side : List Bool) → slice_get g.streams j ≡ Some s
    → IsReach (ends_of (unmeasured_but j) g.streams) g.nodes s.from side → is_in side s.to ≡ false → CutsOff g j side (boundary_of side g.streams)
side_cuts_off g j s side at reach out =
    let ends = ends_of (unmeasured_but j) g.streams in
    let from_in : is_in side s.from ≡ true = reach.whole s.from (reach_none ends s.from) in
    let m : Member = record { stream = j; sign = negsuc 0 } in
    let is : member_at side j s ≡ Some m = ap₂ (λ (a b : Bool). member_by j (sign_at a b)) from_in out in
    record {
      cut = record { each = reach.each; boundary = refl };
      has = member_listed (λ (n : Member). n.stream == j) side 0 j j g.streams s m at (omega arith) is (eq-eqb j j refl);
      others = members_all (λ (n : Member). n.stream ≢ j → (u : Stream) → slice_get g.streams n.stream ≡ Some u → IsSome u.meas) side 0 g.streams (λ k t n at_t crosses ne u at_u.
          let place : n.stream ≡ 0 + k = member_stream (0 + k) (sign_at (is_in side t.from) (is_in side t.to)) n crosses in
          let there : slice_get g.streams (0 + k) ≡ Some u = ap (slice_get g.streams) (sym place) ∙ at_u in
          crossing_measured g j s.from (0 + k) u side n reach there (λ z. ne (place ∙ z))
          (ap (member_at side (0 + k)) (some_same (sym there ∙ ap (slice_get g.streams) (omega arith) ∙ at_t)) ∙ crosses));
    }

-- two vectors that differ on a stream show that it is not determined
pub not_both : (g : ProcessGraph) (j : ℕ) → IsDetermined g j → IsFree g j → ⊥
not_both g j determined (xs, ys, apart) = apart.differ (determined xs ys apart.one apart.other apart.agree)

pub reach_decides : (g : ProcessGraph) (j : ℕ) (s : Stream) (side : List Bool) → IsProcessGraph g → slice_get g.streams j ≡ Some s
    → IsReach (ends_of (unmeasured_but j) g.streams) g.nodes s.from side → IsDecidedBy g j s side
reach_decides g j s side is at reach =
    let frees : is_in side s.to ≡ true → IsFree g j = λ inside. reached_frees g j s at (reach.reached s.to inside) in
    let cuts : is_in side s.to ≡ false → CutsOff g j side (boundary_of side g.streams) = λ out. side_cuts_off g j s side at reach out in
    record {
      determined = ((λ d. false_from_ne_true (is_in side s.to) (λ inside. not_both g j d (frees inside))), (λ out. cut_determines g j side (boundary_of side g.streams) is (cuts out)));
      free = ((λ f. elim (cases_Bool (is_in side s.to)) [ inl inside ↦ inside | inr out ↦ absurd (not_both g j (cut_determines g j side (boundary_of side g.streams) is (cuts out)) f) ]), frees);
      cut = cuts;
    }
