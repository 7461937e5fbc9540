-- If streams before a place join two nodes, the held ones among them do too.
use Rattle.std.proofs.Common.{◌≡◌, ◌∙◌, ℕ, zero, suc, ◌<◌, ◌≤◌, Bool, true, false, not, nat_lt, List, [], ◌∷◌, length, Some, get_or, ap, sym, subst, inl, inr, arith}
use Rattle.std.proofs.lemmas.Bool.{cases_Bool, and_parts, and_from, or_left, or_right, or_cases, ltb-true, lt-ltb}
use Rattle.std.proofs.lemmas.Option.{slice_get_within}
use Rattle.pb_graph.specs.declared.records.Stream.{Stream}
use Rattle.pb_graph.specs.declared.records.Step.{Step}
use Rattle.pb_graph.specs.ProcessGraph.{is_measured}
use Rattle.pb_graph.specs.Walk.{along, ends_of, Walks, Reaches, any_stream, unmeasured}
use Rattle.pb_graph.specs.Path.{is_open}
use Rattle.pb_graph.proofs.WalkLemmas.{ends_is, stream_of, reach_one, reach_both, reach_back, IsWithin, reach_more}
use Rattle.pb_forest.specs.Forest.{is_before, IsForest}
use Rattle.pb_forest.specs.Laws.{held_before, held_unmeasured, SpansLaw, ChordLaw}
use Rattle.pb_forest.proofs.OrderLemmas.{place_of, before_less, before_trans}

-- a walk between a stream's ends leads the same way as a step along it
pub along_reach : (may : ℕ → Stream → Bool) (ss : List Stream) (s : Stream) (forward : Bool) (a c : ℕ) → along forward s ≡ (a, c)
    → Reaches (ends_of may ss) s.from s.to → Reaches (ends_of may ss) a c
along_reach may ss s true a c e r = subst (λ (p : ℕ × ℕ). Reaches (ends_of may ss) p.0 p.1) e r
along_reach may ss s false a c e r = subst (λ (p : ℕ × ℕ). Reaches (ends_of may ss) p.0 p.1) e (reach_back may ss s.from s.to r)

-- a walk that leads as a step along a stream does joins its ends
pub joins_ends : (may : ℕ → Stream → Bool) (ss : List Stream) (s : Stream) (forward : Bool) (a c : ℕ) → along forward s ≡ (a, c)
    → Reaches (ends_of may ss) a c → Reaches (ends_of may ss) s.from s.to
joins_ends may ss s true a c e r = subst (λ (p : ℕ × ℕ). Reaches (ends_of may ss) p.0 p.1) (sym e) r
joins_ends may ss s false a c e r = reach_back may ss s.to s.from (subst (λ (p : ℕ × ℕ). Reaches (ends_of may ss) p.0 p.1) (sym e) r)

-- the places below a bound are spanned
abbrev SpansBelow : List Stream → List Bool → ℕ → Type 0
SpansBelow ss held n = (m : Bool) (j a b : ℕ) → place_of (length ss) m j < n → Reaches (ends_of (is_before m j) ss) a b → Reaches (ends_of (held_before held m j) ss) a b

-- a step along a stream before a place
step_spans : (ss : List Stream) (held : List Bool) (n : ℕ) → IsForest ss held → SpansBelow ss held n → (m : Bool) (j a c : ℕ) (t : Step)
    → place_of (length ss) m j ≤ n → ends_of (is_before m j) ss t ≡ Some (a, c) → Reaches (ends_of (held_before held m j) ss) a c
step_spans ss held n forest below m j a c t le e =
    let (s, at, ok, goes) = stream_of (is_before m j) ss t (a, c) e in
    let within = slice_get_within ss t.stream s at in
    elim (cases_Bool (get_or held t.stream false)) [
      | inl in_it ↦
          reach_one (ends_of (held_before held m j) ss) a c t
          (ends_is (held_before held m j) ss t.stream s t.forward at (and_from _ _ in_it ok) ∙ ap (λ (p : ℕ × ℕ). Some p) goes)
      | inr out ↦
          let kind = is_measured s in
          let less = before_less (length ss) m j t.stream s within ok in
          let tied : Reaches (ends_of (is_before kind t.stream) ss) s.from s.to = (forest.decided t.stream within).tied out s at in
          let earlier = below kind t.stream s.from s.to (omega (arith, less, le)) tied in
          let part : IsWithin ss (held_before held kind t.stream) (held_before held m j) = λ k u here both.
          let parts = and_parts (is_open held k u) (is_before kind t.stream k u) both in
          and_from _ _ parts.0 (before_trans m j t.stream k s u ok parts.1) in
          along_reach (held_before held m j) ss s t.forward a c goes (reach_more (held_before held kind t.stream) (held_before held m j) ss s.from s.to part earlier)
    ]

walk_spans : (ss : List Stream) (held : List Bool) (n : ℕ) → IsForest ss held → SpansBelow ss held n → (m : Bool) (j a b : ℕ) (steps : List Step)
    → place_of (length ss) m j ≤ n → Walks (ends_of (is_before m j) ss) a steps b → Reaches (ends_of (held_before held m j) ss) a b
walk_spans ss held n forest below m j a b [] le w = ([], w)
walk_spans ss held n forest below m j a b (t ∷ rest) le (c, e, w) =
    reach_both (ends_of (held_before held m j) ss) a c b (step_spans ss held n forest below m j a c t le e) (walk_spans ss held n forest below m j c b rest le w)

spans_below : (ss : List Stream) (held : List Bool) (n : ℕ) → IsForest ss held → SpansBelow ss held n
spans_below ss held zero forest = λ m j a b lt r. absurd (omega arith)
spans_below ss held (suc n) forest = λ m j a b lt r. walk_spans ss held n forest (spans_below ss held n forest) m j a b r.0 (omega arith) r.1

spans_before : (ss : List Stream) (held : List Bool) → IsForest ss held → (m : Bool) (j a b : ℕ)
    → Reaches (ends_of (is_before m j) ss) a b → Reaches (ends_of (held_before held m j) ss) a b
spans_before ss held forest m j a b r = spans_below ss held (suc (place_of (length ss) m j)) forest m j a b (omega arith) r

-- every stream comes before the end of the order
all_before : (ss : List Stream) → IsWithin ss any_stream (is_before true (length ss))
all_before ss k t at ok = or_right (not (is_measured t)) (nat_lt k (length ss)) (lt-ltb k (length ss) (slice_get_within ss k t at))

-- the unmeasured streams are those before the first measured one
unmeasured_before : (ss : List Stream) → IsWithin ss unmeasured (is_before true 0)
unmeasured_before ss k t at ok = or_left (not (is_measured t)) (nat_lt k 0) ok

pub before_unmeasured : (k : ℕ) (t : Stream) → is_before true 0 k t ≡ true → unmeasured k t ≡ true
before_unmeasured k t ok = elim (or_cases (not (is_measured t)) (nat_lt k 0) ok) [
  | inl bare ↦ bare
  | inr less ↦ let lt = ltb-true k 0 less in absurd (omega arith)
]

pub spans_law : SpansLaw
spans_law ss held forest = record {
  before = spans_before ss held forest;
  whole = λ a b r.
      let all = spans_before ss held forest true (length ss) a b (reach_more any_stream (is_before true (length ss)) ss a b (all_before ss) r) in
      reach_more (held_before held true (length ss)) (is_open held) ss a b (λ k t at both. (and_parts _ _ both).0) all;
  bare = λ a b r.
      let all = spans_before ss held forest true 0 a b (reach_more unmeasured (is_before true 0) ss a b (unmeasured_before ss) r) in
      let part : IsWithin ss (held_before held true 0) (held_unmeasured held) = λ k t at both.
      let parts = and_parts (is_open held k t) (is_before true 0 k t) both in
      and_from _ _ parts.0 (before_unmeasured k t parts.1) in
      reach_more (held_before held true 0) (held_unmeasured held) ss a b part all;
}

-- a stream without measurement comes after unmeasured ones only
bare_before : (ss : List Stream) (m : Bool) (j : ℕ) → m ≡ false → IsWithin ss (is_before m j) unmeasured
bare_before ss true j kind k t at ok = cc kind
bare_before ss false j kind k t at ok = (and_parts _ _ ok).0

pub chord_law : ChordLaw
chord_law ss held j s forest at kind out =
    let tied : Reaches (ends_of (is_before (is_measured s) j) ss) s.from s.to = (forest.decided j (slice_get_within ss j s at)).tied out s at in
    (spans_law ss held forest).bare s.from s.to (reach_more (is_before (is_measured s) j) unmeasured ss s.from s.to (bare_before ss (is_measured s) j kind) tied)
