-- There always is an advice.
use Rattle.std.proofs.Common.{◌≡◌, ◌∙◌, ℕ, zero, suc, ◌<◌, ℤ, Bool, true, false, List, [], ◌∷◌, ◌++◌, length, Some, None, slice_get, get_or, ap, sym, refl, subst, inl, inr, arith, length-append}
use Rattle.std.specs.List.{AllByRecursion}
use Rattle.std.proofs.lemmas.Bool.{cases_Bool, cases_eq, cases_lt}
use Rattle.std.proofs.lemmas.List.{get_or_append_left, get_or_push}
use Rattle.std.proofs.lemmas.Option.{slice_get_within, slice_get-get_or}
use Rattle.pb_fixed.specs.Sums.{item}
use Rattle.pb_graph.specs.declared.records.Stream.{Stream}
use Rattle.pb_graph.specs.ProcessGraph.{ProcessGraph, is_measured}
use Rattle.pb_graph.specs.Walk.{ends_of, Reaches}
use Rattle.pb_graph.proofs.WalkLemmas.{some_same, reach_back}
use Rattle.pb_graph.proofs.ReachLemmas.{IsDecidable, reach_decided}
use Rattle.pb_forest.proofs.ForestLaws.{some_path_law}
use Rattle.pb_advise.specs.declared.advice.Meter.{Meter}
use Rattle.pb_advise.specs.Choice.{stays_unmeasured, cost_of}
use Rattle.pb_advise.specs.Advice.{precedes, IsAdvisedChoice, streams_of, metered_streams, IsMeter}
use Rattle.pb_advise.specs.Laws.{SomeAdviceLaw}
use Rattle.pb_advise.proofs.LeastLemmas.{marked_at}
use Rattle.pb_advise.proofs.PrecedesLemmas.{chosen_tied}
use Rattle.pb_advise.proofs.AdviceLemmas.{all_marked}

-- a stream is to be chosen: it is unmeasured, and streams that precede it join its ends
record IsTied (costs : List ℤ) (ss : List Stream) (j : ℕ) : Type 0 where
  s : Stream
  at : slice_get ss j ≡ Some s
  bare : is_measured s ≡ false
  joined : Reaches (ends_of (precedes costs j) ss) s.from s.to

tied_decided : (costs : List ℤ) (ss : List Stream) (j : ℕ) → IsDecidable (IsTied costs ss j)
tied_decided costs ss j = elim (cases_lt j (length ss)) [
  | inr past ↦ inr (λ is. let lt = slice_get_within ss j is.s is.at in omega (arith, lt, past))
  | inl lt ↦
      let d : Stream = record { from = 0; to = 0; meas = None } in
      let s = get_or ss j d in
      let at : slice_get ss j ≡ Some s = slice_get-get_or ss j d lt in
      elim (cases_Bool (is_measured s)) [
        | inl out ↦ inr (λ is. let same : is.s ≡ s = some_same (sym is.at ∙ at) in cc (sym is.bare ∙ ap is_measured same ∙ out))
        | inr bare ↦ elim (reach_decided ss (precedes costs j) s.from s.to) [
          | inl joined ↦ inl (record { s = s; at = at; bare = bare; joined = joined })
          | inr apart ↦ inr (λ is. let same : is.s ≡ s = some_same (sym is.at ∙ at) in
              apart (subst (λ (v : Stream). Reaches (ends_of (precedes costs j) ss) v.from v.to) same is.joined))
        ]
      ]
]

-- marks that say it of the first n streams
record AreTold (costs : List ℤ) (ss : List Stream) (n : ℕ) : Type 0 where
  marks : List Bool
  each : length marks ≡ n
  on : (j : ℕ) → j < n → get_or marks j false ≡ true → IsTied costs ss j
  off : (j : ℕ) → j < n → get_or marks j false ≡ false → IsTied costs ss j → ⊥

one_told : (costs : List ℤ) (ss : List Stream) (n : ℕ) (told : AreTold costs ss n) (b : Bool) → (b ≡ true → IsTied costs ss n) → (b ≡ false → IsTied costs ss n → ⊥) → AreTold costs ss (suc n)
one_told costs ss n told b yes_if no_if =
    let marks = told.marks ++ b ∷ [] in
    let size = told.each in
    let last : get_or marks n false ≡ b = get_or_push told.marks b false n size in
    let old : (j : ℕ) → j < n → get_or marks j false ≡ get_or told.marks j false = λ j lt. get_or_append_left told.marks (b ∷ []) false j (omega (arith, lt, size)) in
    record {
      marks = marks;
      each = omega (arith, size, length-append told.marks (b ∷ []));
      on = λ j lt h. elim (cases_eq j n) [
        | inl same ↦ subst (IsTied costs ss) (sym same) (yes_if (sym last ∙ ap (λ (k : ℕ). get_or marks k false) (sym same) ∙ h))
        | inr other ↦ let less : j < n = omega (arith, lt, other) in told.on j less (sym (old j less) ∙ h)
      ];
      off = λ j lt h is. elim (cases_eq j n) [
        | inl same ↦ no_if (sym last ∙ ap (λ (k : ℕ). get_or marks k false) (sym same) ∙ h) (subst (IsTied costs ss) same is)
        | inr other ↦ let less : j < n = omega (arith, lt, other) in told.off j less (sym (old j less) ∙ h) is
      ];
    }

all_told : (costs : List ℤ) (ss : List Stream) (n : ℕ) → AreTold costs ss n
all_told costs ss zero = record { marks = []; each = refl; on = λ j lt. absurd (omega (arith, lt)); off = λ j lt. absurd (omega (arith, lt)) }
all_told costs ss (suc n) = elim (tied_decided costs ss n) [
  | inl is ↦ one_told costs ss n (all_told costs ss n) true (λ h. is) (λ h. cc h)
  | inr never ↦ one_told costs ss n (all_told costs ss n) false (λ h. cc h) (λ h. never)
]

some_choice : (g : ProcessGraph) (costs : List ℤ) → (chosen : List Bool) × IsAdvisedChoice g costs chosen
some_choice g costs =
    let ss = g.streams in
    let told = all_told costs ss (length ss) in (
      told.marks,
      record {
        choice = record {
          each = told.each;
          bare = λ j s at h. let is = told.on j (slice_get_within ss j s at) h in ap is_measured (some_same (sym at ∙ is.at)) ∙ is.bare;
        };
        decided = λ j s at bare. (
          (λ h.
              let is = told.on j (slice_get_within ss j s at) h in
              subst (λ (v : Stream). Reaches (ends_of (precedes costs j) ss) v.from v.to) (some_same (sym is.at ∙ at)) is.joined),
          (λ r. elim (cases_Bool (get_or told.marks j false)) [
            | inl on ↦ on
            | inr off ↦ absurd (told.off j (slice_get_within ss j s at) off (record { s = s; at = at; bare = bare; joined = r }))
          ]),
        );
      },
    )

-- ---- the meters of the chosen streams
record AreMetersOf (g : ProcessGraph) (costs : List ℤ) (chosen : List Bool) (places : List ℕ) : Type 0 where
  list : List Meter
  named : metered_streams list ≡ places
  meters : AllByRecursion (IsMeter g costs chosen) list

some_meters : (g : ProcessGraph) (costs : List ℤ) (chosen : List Bool) (places : List ℕ) → IsAdvisedChoice g costs chosen
    → AllByRecursion (λ (j : ℕ). get_or chosen j false ≡ true) places → AreMetersOf g costs chosen places
some_meters g costs chosen [] advised on = record { list = []; named = refl; meters = tt }
some_meters g costs chosen (j ∷ places) advised on =
    let ss = g.streams in
    let stays = stays_unmeasured chosen in
    let (s, at, lt) = marked_at ss chosen j advised.choice.each on.0 in
    let tied = chosen_tied g costs chosen j s advised at on.0 in
    let (back, path) = some_path_law ss stays g.nodes s.to s.from (reach_back stays ss s.from s.to tied) in
    let meter : Meter = record { stream = j; cost = item costs j; steps = record { stream = j; forward = true } ∷ back } in
    let rest = some_meters g costs chosen places advised on.1 in
    record {
      list = meter ∷ rest.list;
      named = ap (λ (l : List ℕ). j ∷ l) rest.named;
      meters = (record { cost = refl; cycle = record { s = s; at = at; back = back; path = path; round = refl } }, rest.meters);
    }

pub some_advice : SomeAdviceLaw
some_advice g costs =
    let (chosen, advised) = some_choice g costs in
    let found = some_meters g costs chosen (streams_of chosen) advised (all_marked chosen) in
    (record { meter = found.list; total = cost_of costs chosen }, record { chosen = chosen; advised = advised; named = found.named; meters = found.meters; total = refl })
