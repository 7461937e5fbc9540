-- Labels of nodes, as streams in order join more of them, and the marks that they decide.
use Rattle.std.proofs.Common.{◌≡◌, ◌∙◌, ℕ, ◌+◌, ◌<◌, Bool, true, false, not, ◌==◌, nat_lt, List, length, Some, slice_get, get_or, set, get_or-set_same, get_or-set_other, ap, sym, refl, subst, inl, inr, arith}
use Rattle.std.proofs.lemmas.Bool.{cases_Bool, cases_eq, and_parts, and_from, or_left, not-true, not-false, eq-eqb, eqb-true, ltb-true, lt-ltb}
use Rattle.std.proofs.Math.Bool.{beq}
use Rattle.std.proofs.lemmas.Option.{slice_get_within}
use Rattle.pb_graph.specs.declared.records.Stream.{Stream}
use Rattle.pb_graph.specs.ProcessGraph.{IsStream, is_measured}
use Rattle.pb_graph.specs.Walk.{ends_of, Reaches}
use Rattle.pb_graph.specs.Parts.{IsLabelling, IsOneMore, TakesNone, label_at}
use Rattle.pb_graph.proofs.WalkLemmas.{some_same}
use Rattle.pb_graph.proofs.PartLemmas.{labels_same, labels_tell}
use Rattle.pb_forest.specs.Forest.{is_before, IsDecided}
use Rattle.pb_forest.proofs.OrderLemmas.{before_earlier, before_later, before_other, before_here}
use Rattle.pb_forest.proofs.SpansLemmas.{before_unmeasured}

-- no stream comes before the first
pub none_before : (ss : List Stream) → TakesNone ss (is_before false 0)
none_before ss k t at = elim (cases_Bool (is_before false 0 k t)) [
  | inl ok ↦ let lt = ltb-true k 0 (and_parts (not (is_measured t)) (nat_lt k 0) ok).1 in absurd (omega arith)
  | inr out ↦ out
]

-- one more stream of the kind
pub one_more : (ss : List Stream) (m : Bool) (j : ℕ) (s : Stream) → slice_get ss j ≡ Some s → is_measured s ≡ m → IsOneMore ss (is_before m j) (is_before m (j + 1)) j s
one_more ss m j s at kind = record {
  there = at;
  here = before_here m j s kind;
  before = λ k t here ok. before_later m j k t ok;
  only = λ k t here ne ok. before_earlier m j k t ne ok;
}

-- a stream of the other kind leaves the labels as they are
pub labels_stay : (ss : List Stream) (nodes : ℕ) (m : Bool) (labels : List ℕ) (j : ℕ) (s : Stream)
    → slice_get ss j ≡ Some s → is_measured s ≡ not m → IsLabelling ss nodes (is_before m j) labels → IsLabelling ss nodes (is_before m (j + 1)) labels
labels_stay ss nodes m labels j s at kind l =
    labels_same ss nodes (is_before m j) (is_before m (j + 1)) labels (λ k t here ok. before_later m j k t ok) (λ k t here ok. elim (cases_eq k j) [
      | inl same ↦
          let is : s ≡ t = some_same (sym at ∙ ap (λ (i : ℕ). slice_get ss i) (sym same) ∙ here) in
          let other : is_measured t ≡ not m = ap is_measured (sym is) ∙ kind in
          let here_ok : is_before m (j + 1) j t ≡ true = rw same at ok in
          rw same (before_other m j t other here_ok)
      | inr other ↦ before_earlier m j k t other ok
    ]) l

-- the labels decide the next stream
pub decided_by : (ss : List Stream) (nodes : ℕ) (m : Bool) (labels : List ℕ) (j : ℕ) (s : Stream)
    → slice_get ss j ≡ Some s → IsStream nodes s → is_measured s ≡ m → IsLabelling ss nodes (is_before m j) labels
    → IsDecided ss j (not (label_at labels s.from == label_at labels s.to))
decided_by ss nodes m labels j s at stream kind l =
    let joins : Bool → Stream → Type 0 = λ k v. Reaches (ends_of (is_before k j) ss) v.from v.to in
    let tell = labels_tell ss nodes (is_before m j) labels s.from s.to stream.from stream.to l in
    record {
      apart = λ apart t here r.
          let is : s ≡ t = some_same (sym at ∙ here) in
          let other = not-true (label_at labels s.from == label_at labels s.to) apart in
          let joined : joins m s = subst (λ (k : Bool). joins k s) kind (subst (λ (v : Stream). joins (is_measured v) v) (sym is) r) in
          cc (sym other ∙ eq-eqb (label_at labels s.from) (label_at labels s.to) (tell.1 joined));
      tied = λ tied t here.
          let is : s ≡ t = some_same (sym at ∙ here) in
          let same = eqb-true (label_at labels s.from) (label_at labels s.to) (not-false (label_at labels s.from == label_at labels s.to) tied) in
          let joined : joins m s = tell.0 same in
          subst (λ (v : Stream). joins (is_measured v) v) is (subst (λ (k : Bool). joins k s) (sym kind) joined);
    }

-- the streams of a kind below a place are decided
abbrev pub DecidedBelow : List Stream → Bool → ℕ → List Bool → Type 0
DecidedBelow ss m j held = (k : ℕ) (s : Stream) → k < j → slice_get ss k ≡ Some s → is_measured s ≡ m → IsDecided ss k (get_or held k false)

-- one more mark
pub marks_next : (ss : List Stream) (m : Bool) (j : ℕ) (held : List Bool) (mark : Bool) → j < length held → DecidedBelow ss m j held → IsDecided ss j mark
    → DecidedBelow ss m (j + 1) (set held j mark)
marks_next ss m j held mark within below here k s lt at kind = elim (cases_eq k j) [
  | inl same ↦ subst (λ (n : ℕ). IsDecided ss n (get_or (set held j mark) n false)) (sym same) (rw (get_or-set_same held j mark false within) here)
  | inr other ↦ rw (get_or-set_other held j k mark false other) (below k s (omega (arith, lt, other)) at kind)
]

kinds_differ : (m : Bool) → m ≡ not m → ⊥
kinds_differ true e = cc e
kinds_differ false e = cc e

-- a stream of the other kind leaves the marks as they are
pub marks_stay : (ss : List Stream) (m : Bool) (j : ℕ) (held : List Bool) (s : Stream) → slice_get ss j ≡ Some s → is_measured s ≡ not m
    → DecidedBelow ss m j held → DecidedBelow ss m (j + 1) held
marks_stay ss m j held s at_j other below k t lt at kind = elim (cases_eq k j) [
  | inl same ↦
      let is : t ≡ s = some_same (sym at ∙ ap (λ (i : ℕ). slice_get ss i) same ∙ at_j) in
      absurd (kinds_differ m (sym kind ∙ ap is_measured is ∙ other))
  | inr apart ↦ below k t (omega (arith, lt, apart)) at kind
]

-- a mark leaves the marks of the other kind as they are
pub others_stay : (ss : List Stream) (m : Bool) (j : ℕ) (held : List Bool) (mark : Bool) (s t : Stream) (k : ℕ) → slice_get ss j ≡ Some s → is_measured s ≡ m
    → slice_get ss k ≡ Some t → is_measured t ≡ not m → get_or (set held j mark) k false ≡ get_or held k false
others_stay ss m j held mark s t k at_j kind at other = elim (cases_eq k j) [
  | inl same ↦
      let is : t ≡ s = some_same (sym at ∙ ap (λ (i : ℕ). slice_get ss i) same ∙ at_j) in
      absurd (kinds_differ m (sym kind ∙ ap is_measured (sym is) ∙ other))
  | inr apart ↦ get_or-set_other held j k mark false apart
]

-- the unmeasured streams are those before the first measured one
pub labels_between : (ss : List Stream) (nodes : ℕ) (labels : List ℕ) → IsLabelling ss nodes (is_before false (length ss)) labels → IsLabelling ss nodes (is_before true 0) labels
labels_between ss nodes labels l =
    labels_same ss nodes (is_before false (length ss)) (is_before true 0) labels
    (λ k t at ok. or_left (not (is_measured t)) (nat_lt k 0) (and_parts (not (is_measured t)) (nat_lt k (length ss)) ok).0)
    (λ k t at ok. and_from _ _ (before_unmeasured k t ok) (lt-ltb k (length ss) (slice_get_within ss k t at))) l

pub beq_same : (x y : Bool) → beq x y ≡ true → x ≡ y
beq_same true true e = refl
beq_same true false e = cc e
beq_same false true e = cc e
beq_same false false e = refl

pub beq_other : (x y : Bool) → beq x y ≡ false → x ≡ not y
beq_other true true e = cc e
beq_other true false e = refl
beq_other false true e = refl
beq_other false false e = cc e
