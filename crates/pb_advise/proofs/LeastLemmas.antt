-- If each chosen stream can be replaced by streams that stay unmeasured and cost no less, no choice that suffices costs less.
use Rattle.std.proofs.Common.{◌≡◌, ◌≢◌, ◌∙◌, ℕ, zero, suc, ◌<◌, ◌≤◌, ℤ, pos, ◌+ℤ◌, ◌≤ℤ◌, int_le, Bool, true, false, not, ◌&&◌, List, [], ◌∷◌, length, All, Some, None, slice_get, get_or, ap, sym, refl, inl, inr, arith}
use Rattle.std.proofs.lemmas.Bool.{cases_Bool, cases_eq, cases_lt, and_parts, and_from, not_from_false}
use Rattle.std.proofs.lemmas.Int.{ints}
use Rattle.std.proofs.lemmas.List.{get_or-set_same, get_or-set_other, get_or_past, length-set}
use Rattle.std.proofs.lemmas.Option.{slice_get_within, slice_get-get_or}
use Rattle.pb_fixed.specs.Sums.{item}
use Rattle.pb_graph.specs.declared.records.Stream.{Stream}
use Rattle.pb_graph.specs.ProcessGraph.{ProcessGraph, IsProcessGraph, is_measured}
use Rattle.pb_graph.specs.Walk.{ends_of, unmeasured, Reaches}
use Rattle.pb_graph.specs.Path.{is_open}
use Rattle.pb_graph.proofs.WalkLemmas.{some_same}
use Rattle.pb_forest.specs.Laws.{IsAcyclic}
use Rattle.pb_advise.proofs.AcyclicLemmas.{acyclic_part}
use Rattle.pb_advise.specs.Choice.{IsCost, IsChoice, Suffices, AreCosts, cost_of, stays_unmeasured}
use Rattle.pb_advise.proofs.ExchangeLemmas.{less_at, swapped, exchange}
use Rattle.pb_advise.proofs.CostLemmas.{rest_of, cost_less, cost_more, cost_part, cost_both}
use Rattle.pb_advise.proofs.MeteredLemmas.{suffices_is}

pub cost_least : (costs : List ℤ) → All IsCost costs → (k : ℕ) → pos 0 ≤ℤ item costs k
cost_least costs within k = elim (cases_lt k (length costs)) [
  | inl lt ↦ (within k (pos 0) lt).0
  | inr past ↦ let none : item costs k ≡ pos 0 = get_or_past costs k (pos 0) (omega (arith, past)) in omega (arith, ints, none)
]

-- the streams that may replace stream j: those that stay unmeasured and cost no less
abbrev pub may_replace : List ℤ → List Bool → ℕ → ℕ → Stream → Bool
may_replace costs chosen j k stream = stays_unmeasured chosen k stream && int_le (item costs j) (item costs k)

-- the streams that may replace a chosen one join its ends
abbrev pub AreReplaceable : ProcessGraph → List ℤ → List Bool → Type 0
AreReplaceable g costs chosen =
    (j : ℕ) (s : Stream) → slice_get g.streams j ≡ Some s → get_or chosen j false ≡ true
    → Reaches (ends_of (may_replace costs chosen j) g.streams) s.from s.to

pub le_is : (a b : ℤ) → a ≤ℤ b → int_le a b ≡ true
le_is a b h = elim (cases_Bool (int_le a b)) [
  | inl on ↦ on
  | inr off ↦ absurd (omega (arith, ints, h, off))
]

is_le : (a b : ℤ) → int_le a b ≡ true → a ≤ℤ b
is_le a b h = omega (arith, ints, h)

-- ---- the streams that stay unmeasured, as marks
pub length_rest : (ss : List Stream) (marks : List Bool) → length (rest_of ss marks) ≡ length ss
length_rest [] marks = refl
length_rest (s ∷ ss) [] = let h = length_rest ss [] in omega (arith, h)
length_rest (s ∷ ss) (m ∷ ms) = let h = length_rest ss ms in omega (arith, h)

no_mark : (x : Bool) → x ≡ (x && not false)
no_mark true = refl
no_mark false = refl

pub rest_is : (ss : List Stream) (marks : List Bool) (k : ℕ) (s : Stream) → slice_get ss k ≡ Some s → get_or (rest_of ss marks) k false ≡ stays_unmeasured marks k s
rest_is [] marks k s at = cc at
rest_is (t ∷ ss) [] zero s at = ap (λ (u : Stream). not (is_measured u)) (some_same at) ∙ no_mark (not (is_measured s))
rest_is (t ∷ ss) (m ∷ ms) zero s at = ap (λ (u : Stream). not (is_measured u) && not m) (some_same at)
rest_is (t ∷ ss) [] (suc k) s at = rest_is ss [] k s at
rest_is (t ∷ ss) (m ∷ ms) (suc k) s at = rest_is ss ms k s at

-- a stream that is marked is there
pub marked_at : (ss : List Stream) (marks : List Bool) (k : ℕ) → length marks ≡ length ss → get_or marks k false ≡ true → (s : Stream) × (slice_get ss k ≡ Some s) × (k < length ss)
marked_at ss marks k size on =
    let d : Stream = record { from = 0; to = 0; meas = None } in
    elim (cases_lt k (length ss)) [
      | inl lt ↦ (get_or ss k d, slice_get-get_or ss k d lt, lt)
      | inr past ↦ cc (sym (get_or_past marks k false (omega (arith, past, size))) ∙ on)
    ]

-- an unmeasured stream stays so or is chosen
stays_or_chosen : (ss : List Stream) (chosen : List Bool) (k : ℕ) (s : Stream) → slice_get ss k ≡ Some s → unmeasured k s ≡ true
    → get_or (rest_of ss chosen) k false ≡ false → get_or chosen k false ≡ true
stays_or_chosen ss chosen k s at bare out = elim (cases_Bool (get_or chosen k false)) [
  | inl on ↦ on
  | inr off ↦
      let there : stays_unmeasured chosen k s ≡ true = and_from _ _ bare (not_from_false (get_or chosen k false) off) in
      cc (sym there ∙ sym (rest_is ss chosen k s at) ∙ out)
]

-- ---- by exchange, from the last place to the first
-- the marked streams are unmeasured
abbrev AreBare : List Stream → List Bool → Type 0
AreBare ss marks = (k : ℕ) (s : Stream) → slice_get ss k ≡ Some s → get_or marks k false ≡ true → unmeasured k s ≡ true

-- from this place on, what is marked stays unmeasured
abbrev StayFrom : List Bool → List Bool → ℕ → Type 0
StayFrom stay marks i = (j : ℕ) → i ≤ j → get_or marks j false ≡ true → get_or stay j false ≡ true

bounded : (g : ProcessGraph) (costs : List ℤ) (chosen : List Bool) → AreCosts g costs → AreReplaceable g costs chosen
    → (i : ℕ) (marks : List Bool) → length marks ≡ length g.streams → AreBare g.streams marks → IsAcyclic g.streams (is_open marks)
    → StayFrom (rest_of g.streams chosen) marks i → cost_of costs marks ≤ℤ cost_of costs (rest_of g.streams chosen)
bounded g costs chosen are replaceable zero marks size bare acyclic behind =
    cost_part costs marks (rest_of g.streams chosen) (cost_least costs are.within) (λ k on. behind k (omega arith) on)
bounded g costs chosen are replaceable (suc i) marks size bare acyclic behind =
    let ss = g.streams in
    let stay = rest_of ss chosen in
    let go_on : StayFrom stay marks i → cost_of costs marks ≤ℤ cost_of costs stay = λ earlier. bounded g costs chosen are replaceable i marks size bare acyclic earlier in
    elim (cases_Bool (get_or marks i false)) [
      | inr off ↦ go_on (λ j le on. elim (cases_eq j i) [
        | inl same ↦ cc (sym off ∙ ap (λ (k : ℕ). get_or marks k false) (sym same) ∙ on)
        | inr other ↦ behind j (omega (arith, le, other)) on
      ])
      | inl on_i ↦ elim (cases_Bool (get_or stay i false)) [
        | inl there ↦ go_on (λ j le on. elim (cases_eq j i) [
          | inl same ↦ ap (λ (k : ℕ). get_or stay k false) same ∙ there
          | inr other ↦ behind j (omega (arith, le, other)) on
        ])
        | inr out ↦
            let (s, at, lt) = marked_at ss marks i size on_i in
            let taken = stays_or_chosen ss chosen i s at (bare i s at on_i) out in
            let x = exchange ss marks (may_replace costs chosen i) i s at on_i acyclic (replaceable i s at taken) in
            let e = x.e in
            let parts = and_parts (stays_unmeasured chosen e x.stream) (int_le (item costs i) (item costs e)) x.ok in
            let less = less_at marks i in
            let more = swapped marks i e in
            let size_less : length less ≡ length ss = length-set marks i false ∙ size in
            let there : get_or stay e false ≡ true = rest_is ss chosen e x.stream x.at ∙ parts.0 in
            let no_cheaper : item costs i ≤ℤ item costs e = is_le (item costs i) (item costs e) parts.1 in
            let off : get_or less i false ≡ false = get_or-set_same marks i false false (omega (arith, lt, size)) in
            let was : (k : ℕ) → get_or more k false ≡ true → k ≢ e → (get_or marks k false ≡ true) × (k ≢ i) = λ k on ne.
            let still : get_or less k false ≡ true = sym (get_or-set_other less e k true false ne) ∙ on in
            elim (cases_eq k i) [
              | inl same ↦ cc (sym still ∙ ap (λ (n : ℕ). get_or less n false) same ∙ off)
              | inr other ↦ (sym (get_or-set_other marks i k false false other) ∙ still, other)
            ] in
            let better = bounded g costs chosen are replaceable i more (length-set less e true ∙ size_less)
            (λ k t at_t on. elim (cases_eq k e) [
              | inl same ↦
                  let is : x.stream ≡ t = some_same (sym x.at ∙ ap (λ (n : ℕ). slice_get ss n) (sym same) ∙ at_t) in
                  ap (λ (u : Stream). unmeasured e u) (sym is) ∙ (and_parts (unmeasured e x.stream) (not (get_or chosen e false)) parts.0).0
              | inr other ↦ bare k t at_t (was k on other).0
            ])
            x.acyclic
            (λ j le on. elim (cases_eq j e) [
              | inl same ↦ ap (λ (n : ℕ). get_or stay n false) same ∙ there
              | inr other ↦ let old = was j on other in behind j (omega (arith, le, old.1)) old.0
            ]) in
            let one = cost_less costs marks i on_i in
            let two = cost_more costs less e (omega (arith, slice_get_within ss e x.stream x.at, size_less)) x.new in
            omega (arith, ints, better, one, two, no_cheaper)
      ]
    ]

-- ---- the least cost
bare_at : (g : ProcessGraph) (chosen : List Bool) → IsChoice g chosen → (k : ℕ) (d : Stream) → get_or chosen k false ≡ true → is_measured (get_or g.streams k d) ≡ false
bare_at g chosen choice k d on =
    let (s, at, lt) = marked_at g.streams chosen k choice.each on in
    choice.bare k (get_or g.streams k d) (slice_get-get_or g.streams k d lt) on

-- what is chosen and what stays unmeasured cost as much as all unmeasured streams
both_cost : (g : ProcessGraph) (costs : List ℤ) (chosen : List Bool) → IsChoice g chosen
    → (cost_of costs chosen +ℤ cost_of costs (rest_of g.streams chosen)) ≡ cost_of costs (rest_of g.streams [])
both_cost g costs chosen choice = cost_both costs g.streams chosen choice.each (bare_at g chosen choice)

pub least_cost : (g : ProcessGraph) (costs : List ℤ) (chosen other : List Bool) → IsProcessGraph g → AreCosts g costs → IsChoice g chosen
    → AreReplaceable g costs chosen → IsChoice g other → Suffices g other → cost_of costs chosen ≤ℤ cost_of costs other
least_cost g costs chosen other is are choice replaceable other_choice suffices =
    let ss = g.streams in
    let acyclic = (suffices_is g other is other_choice).0 suffices in
    let stay = rest_of ss other in
    let open_stays : (k : ℕ) (s : Stream) → slice_get ss k ≡ Some s → get_or stay k false ≡ true → stays_unmeasured other k s ≡ true = λ k s at on. sym (rest_is ss other k s at) ∙ on in
    let best = bounded g costs chosen are replaceable (length ss) stay (length_rest ss other)
    (λ k s at on. (and_parts (unmeasured k s) (not (get_or other k false)) (open_stays k s at on)).0)
    (acyclic_part ss (is_open stay) (stays_unmeasured other) (λ k s at on. open_stays k s at on) acyclic)
    (λ j le on. cc (sym (get_or_past stay j false (omega (arith, le, length_rest ss other))) ∙ on)) in
    let mine = both_cost g costs chosen choice in
    let theirs = both_cost g costs other other_choice in
    omega (arith, ints, best, mine, theirs)
