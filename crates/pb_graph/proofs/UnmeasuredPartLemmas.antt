-- The parts that unmeasured streams make, stream by stream.
use Rattle.std.proofs.Common.{◌≡◌, ◌∙◌, ℕ, ◌+◌, true, false, not, nat_lt, List, length, Some, slice_get, ap, sym, inl, inr, arith}
use Rattle.std.proofs.lemmas.Bool.{cases_Bool, cases_eq, and_parts, and_from, ltb-true, lt-ltb}
use Rattle.std.proofs.lemmas.Option.{slice_get_within}
use Rattle.pb_graph.specs.declared.records.Stream.{Stream}
use Rattle.pb_graph.specs.ProcessGraph.{is_measured}
use Rattle.pb_graph.specs.Walk.{unmeasured}
use Rattle.pb_graph.specs.Parts.{IsLabelling, IsOneMore, TakesNone}
use Rattle.pb_graph.proofs.WalkLemmas.{some_same}
use Rattle.pb_graph.proofs.PartLemmas.{labels_same}
use Rattle.pb_graph.specs.Numbers.{unmeasured_before}

-- no stream comes before the first
pub none_before : (ss : List Stream) → TakesNone ss (unmeasured_before 0)
none_before ss k t at = elim (cases_Bool (unmeasured_before 0 k t)) [
  | inl ok ↦ let lt = ltb-true k 0 (and_parts (unmeasured k t) (nat_lt k 0) ok).1 in absurd (omega arith)
  | inr out ↦ out
]

before_later : (j k : ℕ) (t : Stream) → unmeasured_before j k t ≡ true → unmeasured_before (j + 1) k t ≡ true
before_later j k t ok =
    let parts = and_parts (unmeasured k t) (nat_lt k j) ok in
    let lt = ltb-true k j parts.1 in
    and_from (unmeasured k t) (nat_lt k (j + 1)) parts.0 (lt-ltb k (j + 1) (omega arith))

before_earlier : (j k : ℕ) (t : Stream) → (k ≡ j → ⊥) → unmeasured_before (j + 1) k t ≡ true → unmeasured_before j k t ≡ true
before_earlier j k t ne ok =
    let parts = and_parts (unmeasured k t) (nat_lt k (j + 1)) ok in
    let lt = ltb-true k (j + 1) parts.1 in
    and_from (unmeasured k t) (nat_lt k j) parts.0 (lt-ltb k j (omega (arith, lt, ne)))

-- one more unmeasured stream
pub one_more : (ss : List Stream) (j : ℕ) (s : Stream) → slice_get ss j ≡ Some s → is_measured s ≡ false → IsOneMore ss (unmeasured_before j) (unmeasured_before (j + 1)) j s
one_more ss j s at plain = record {
  there = at;
  here = and_from (unmeasured j s) (nat_lt j (j + 1)) (ap not plain) (lt-ltb j (j + 1) (omega arith));
  before = λ k t here ok. before_later j k t ok;
  only = λ k t here ne ok. before_earlier j k t ne ok;
}

-- a measured stream leaves the labels as they are
pub labels_stay : (ss : List Stream) (nodes : ℕ) (labels : List ℕ) (j : ℕ) (s : Stream) → slice_get ss j ≡ Some s → is_measured s ≡ true
    → IsLabelling ss nodes (unmeasured_before j) labels → IsLabelling ss nodes (unmeasured_before (j + 1)) labels
labels_stay ss nodes labels j s at measured =
    labels_same ss nodes (unmeasured_before j) (unmeasured_before (j + 1)) labels (λ k t here ok. before_later j k t ok) (λ k t here ok. elim (cases_eq k j) [
      | inl same ↦
          let is : s ≡ t = some_same (sym at ∙ ap (λ (i : ℕ). slice_get ss i) (sym same) ∙ here) in
          let plain = (and_parts (unmeasured k t) (nat_lt k (j + 1)) ok).0 in
          cc (sym plain ∙ ap (λ (u : Stream). not (is_measured u)) (sym is) ∙ ap not measured)
      | inr other ↦ before_earlier j k t other ok
    ])

-- all unmeasured streams come before the end
pub labels_whole : (ss : List Stream) (nodes : ℕ) (labels : List ℕ) → IsLabelling ss nodes (unmeasured_before (length ss)) labels → IsLabelling ss nodes unmeasured labels
labels_whole ss nodes labels =
    labels_same ss nodes (unmeasured_before (length ss)) unmeasured labels (λ k t at ok. (and_parts (unmeasured k t) (nat_lt k (length ss)) ok).0)
    (λ k t at ok. and_from (unmeasured k t) (nat_lt k (length ss)) ok (lt-ltb k (length ss) (slice_get_within ss k t at)))
