-- The first cycle that has a stream.
use Rattle.std.proofs.Common.{◌≡◌, ◌≢◌, ◌∙◌, ℕ, ◌+◌, Bool, false, not, ◌==◌, List, [], ◌∷◌, Option, Some, None, slice_get, get_or, is_some, ap, sym, refl, subst, inl, inr, arith}
use Rattle.std.specs.List.{AllByRecursion}
use Rattle.std.proofs.lemmas.Bool.{cases_Bool, cases_eq, and_parts, and_from, or_parts, or_left, not-true, eq-eqb}
use Rattle.pb_graph.specs.declared.records.Stream.{Stream}
use Rattle.pb_graph.specs.declared.records.Step.{Step}
use Rattle.pb_graph.specs.ProcessGraph.{ProcessGraph, is_measured}
use Rattle.pb_graph.specs.Walk.{ends_of, unmeasured_but, Walks, Reaches}
use Rattle.pb_graph.specs.Path.{is_open}
use Rattle.pb_graph.specs.Certificates.{GoesRound}
use Rattle.pb_graph.proofs.WalkLemmas.{some_same, ends_is, stream_of, reach_one, reach_both, reach_back}
use Rattle.pb_graph.proofs.BalanceLaws.{no_meas}
use Rattle.pb_forest.specs.Forest.{IsForest}
use Rattle.pb_forest.specs.Laws.{except}
use Rattle.pb_forest.proofs.ForestLaws.{along_reach, acyclic_law, walk_without}
use Rattle.pb_classify.specs.Certificate.{IsCycleOf, IsFirstCycle, IsUnmeasured, has_stream}
use Rattle.pb_classify.specs.Chords.{IsChord, IsCycleWithout, IsFirstBefore, after_cycle}
use Rattle.pb_classify.proofs.RoundLemmas.{round_of, cycle_round, chord_joined}
use Rattle.pb_classify.proofs.UniqueLemmas.{one_cycle}

bare_meas : (s : Stream) → s.meas ≡ None → is_measured s ≡ false
bare_meas s none = ap (λ o. is_some o) none

-- ---- some chord's cycle has a stream on a cycle of unmeasured streams
-- no cycle of a chord has stream j
abbrev pub NoneHas : ProcessGraph → List Bool → ℕ → Type 0
NoneHas g held j = (k : ℕ) (s : Stream) → IsChord g held k s → IsCycleWithout g held k j

-- a chord whose cycle lacks stream j is gone round by held streams other than j
chord_without : (g : ProcessGraph) (held : List Bool) (k j : ℕ) (s : Stream) → slice_get g.streams k ≡ Some s → IsCycleWithout g held k j
    → Reaches (ends_of (except j (is_open held)) g.streams) s.from s.to
chord_without g held k j s at x =
    let may = except j (is_open held) in
    let is : x.cycle.s ≡ s = some_same (sym x.cycle.at ∙ at) in
    let lacks : has_stream j (round_of k x.cycle.back) ≡ false = ap (has_stream j) (sym x.cycle.round) ∙ x.lacks in
    let walk = walk_without (is_open held) g.streams j x.cycle.s.to x.cycle.s.from x.cycle.back x.cycle.path.walk (or_parts (k == j) (has_stream j x.cycle.back) lacks).1 in
    reach_back may g.streams s.to s.from (subst (λ (u : Stream). Reaches (ends_of may g.streams) u.to u.from) is (x.cycle.back, walk))

walk_held : (g : ProcessGraph) (held : List Bool) (j a b : ℕ) (steps : List Step) → NoneHas g held j → Walks (ends_of (unmeasured_but j) g.streams) a steps b
    → Reaches (ends_of (except j (is_open held)) g.streams) a b
walk_held g held j a b [] none w = ([], w)
walk_held g held j a b (t ∷ rest) none (c, e, w) =
    let ss = g.streams in
    let may = except j (is_open held) in
    let (s, at, ok, goes) = stream_of (unmeasured_but j) ss t (a, c) e in
    let parts = and_parts (not (is_measured s)) (not (t.stream == j)) ok in
    let one : Reaches (ends_of may ss) a c = elim (cases_Bool (get_or held t.stream false)) [
      | inl in_it ↦ reach_one (ends_of may ss) a c t (ends_is may ss t.stream s t.forward at (and_from (is_open held t.stream s) (not (t.stream == j)) in_it parts.1) ∙ ap (λ (p : ℕ × ℕ). Some p) goes)
      | inr out ↦
          let chord : IsChord g held t.stream s = record { at = at; unmeasured = not-true (is_measured s) parts.0; outside = out } in
          along_reach may ss s t.forward a c goes (chord_without g held t.stream j s at (none t.stream s chord))
    ] in
    reach_both (ends_of may ss) a c b one (walk_held g held j c b rest none w)

pub some_has : (g : ProcessGraph) (held : List Bool) (j : ℕ) (s : Stream) → IsForest g.streams held → slice_get g.streams j ≡ Some s → is_measured s ≡ false
    → NoneHas g held j → Reaches (ends_of (unmeasured_but j) g.streams) s.from s.to → ⊥
some_has g held j s forest at kind none (steps, w) = elim (cases_Bool (get_or held j false)) [
  | inl in_it ↦ acyclic_law g.streams held forest j s at in_it (walk_held g held j s.from s.to steps none w)
  | inr out ↦
      let own = none j s (record { at = at; unmeasured = kind; outside = out }) in
      cc (sym own.lacks ∙ ap (has_stream j) own.cycle.round ∙ or_left (j == j) (has_stream j own.cycle.back) (eq-eqb j j refl))
]

-- ---- a cycle of unmeasured streams is a cycle of each of its streams
takes_bare : (g : ProcessGraph) (e j : ℕ) (steps : List Step) → IsUnmeasured g e
    → AllByRecursion (λ (t : Step). t.stream ≢ e → (s : Stream) → slice_get g.streams t.stream ≡ Some s → s.meas ≡ None) steps
    → AllByRecursion (λ (t : Step). t.stream ≢ j → (s : Stream) → slice_get g.streams t.stream ≡ Some s → s.meas ≡ None) steps
takes_bare g e j [] bare others = tt
takes_bare g e j (t ∷ rest) bare others = (
  (λ ne s at. elim (cases_eq t.stream e) [ inl same ↦ bare s (ap (slice_get g.streams) (sym same) ∙ at) | inr other ↦ others.0 other s at ]),
  takes_bare g e j rest bare others.1,
)

pub first_round : (g : ProcessGraph) (held : List Bool) (j : ℕ) (steps : List Step) → IsForest g.streams held → IsFirstCycle g held j steps → GoesRound g j steps
first_round g held j steps forest x =
    let chord : IsChord g held x.e x.cycle.s = record { at = x.cycle.at; unmeasured = bare_meas x.cycle.s (x.unmeasured x.cycle.s x.cycle.at); outside = x.cycle.outside } in
    let joined = λ (s : Stream) (at : slice_get g.streams x.e ≡ Some s). chord_joined g held x.e s forest
    (record { at = at; unmeasured = bare_meas s (x.unmeasured s at); outside = x.cycle.outside }) in
    let whole = cycle_round g held x.e steps forest joined x.cycle in
    record { cycle = whole.cycle; has = x.has; others = takes_bare g x.e j steps x.unmeasured whole.others }

-- ---- one more chord
-- a stream that isn't a chord leaves what is known unchanged
pub first_none : (g : ProcessGraph) (held : List Bool) (n j : ℕ) (o : Option (List Step)) → ((s : Stream) → IsChord g held n s → ⊥) → IsFirstBefore g held n j o
    → IsFirstBefore g held (n + 1) j o
first_none g held n j None apart known = λ k s lt chord. elim (cases_eq k n) [
  | inl same ↦ absurd (apart s (subst (λ (i : ℕ). IsChord g held i s) same chord))
  | inr other ↦ known k s (omega (arith, lt, other)) chord
]
first_none g held n j (Some steps) apart known = known

pub first_more : (g : ProcessGraph) (held : List Bool) (n j : ℕ) (s : Stream) (steps : List Step) (o : Option (List Step)) → IsForest g.streams held → IsChord g held n s
    → IsCycleOf g held n steps → IsFirstBefore g held n j o → IsFirstBefore g held (n + 1) j (after_cycle steps j o)
first_more g held n j s steps (Some old) forest chord cycle known = known
first_more g held n j s steps None forest chord cycle known = elim (cases_Bool (has_stream j steps)) [
  | inl has ↦ rw has (record {
    e = n;
    unmeasured = λ u at. no_meas u (subst (λ (v : Stream). is_measured v ≡ false) (some_same (sym chord.at ∙ at)) chord.unmeasured);
    cycle = cycle;
    has = has;
    first = λ k other lt bare x.
        let earlier = known k x.s lt (record { at = x.at; unmeasured = bare_meas x.s (bare x.s x.at); outside = x.outside }) in
        ap (has_stream j) (one_cycle g held k other earlier.steps forest x earlier.cycle) ∙ earlier.lacks;
  })
  | inr lacks ↦ rw lacks (λ k u lt x. elim (cases_eq k n) [
    | inl same ↦ subst (λ (i : ℕ). IsCycleWithout g held i j) (sym same) (record { steps = steps; cycle = cycle; lacks = lacks })
    | inr other ↦ known k u (omega (arith, lt, other)) x
  ])
]
