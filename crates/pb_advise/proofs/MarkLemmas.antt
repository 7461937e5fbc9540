-- The marks that the labels of the parts decide, one stream after another, and that they are the advised choice.
use Rattle.std.proofs.Common.{◌≡◌, ◌≢◌, ◌∙◌, ℕ, zero, suc, ◌+◌, ◌<◌, ◌≤◌, ℤ, Bool, true, false, ◌==◌, ◌||◌, List, [], ◌∷◌, ◌++◌, length, take, Some, slice_get, get_or, ap, sym, refl, subst, inl, inr, arith}
use Rattle.std.specs.List.{list_any}
use Rattle.std.proofs.lemmas.Bool.{cases_Bool, cases_eq, cases_lt, or_cases, or_left, or_right, not-true, not_from_false, eq-eqb, eqb-true}
use Rattle.std.proofs.lemmas.List.{take_more}
use Rattle.std.proofs.lemmas.Option.{slice_get_within}
use Rattle.pb_graph.specs.declared.records.Stream.{Stream}
use Rattle.pb_graph.specs.ProcessGraph.{ProcessGraph, IsStream, is_measured}
use Rattle.pb_graph.specs.Walk.{ends_of, Reaches}
use Rattle.pb_graph.specs.Parts.{IsLabelling, IsOneMore, TakesNone, label_at}
use Rattle.pb_graph.proofs.WalkLemmas.{some_same, reach_more}
use Rattle.pb_graph.proofs.PartLemmas.{labels_tell}
use Rattle.pb_advise.specs.Advice.{precedes, IsAdvisedChoice}
use Rattle.pb_advise.specs.Order.{Candidate, taken_at, is_among, ArePlaces, IsMarked, IsOrder}
use Rattle.pb_advise.proofs.PrecedesLemmas.{precedes_says, precedes_not, precedes_both}

-- ---- what is taken
any_more : (k : ℕ) (xs : List Candidate) (c : Candidate) → list_any (λ (d : Candidate). d.1 == k) (xs ++ c ∷ []) ≡ (list_any (λ (d : Candidate). d.1 == k) xs || (c.1 == k))
any_more k [] c = or_none (c.1 == k)
  where
    or_none : (b : Bool) → (b || false) ≡ b
    or_none true = refl
    or_none false = refl
any_more k (x ∷ xs) c = ap (λ (b : Bool). (x.1 == k) || b) (any_more k xs c) ∙ or_next (x.1 == k) (list_any (λ (d : Candidate). d.1 == k) xs) (c.1 == k)
  where
    or_next : (a b c : Bool) → (a || (b || c)) ≡ ((a || b) || c)
    or_next true b c = refl
    or_next false b c = refl

taken_more : (list : List Candidate) (p k : ℕ) (s : Stream) → p < length list → is_among list (p + 1) k s ≡ (is_among list p k s || (taken_at list p == k))
taken_more list p k s lt = ap (λ (l : List Candidate). list_any (λ (d : Candidate). d.1 == k) l) (take_more list p (0, 0) lt) ∙ any_more k (take p list) (get_or list p (0, 0))

-- a stream is taken before the p-th exactly when it is an earlier one
pub taken_by : (list : List Candidate) (p q : ℕ) (s : Stream) → q < p → p ≤ length list → is_among list p (taken_at list q) s ≡ true
taken_by list zero q s less le = absurd (omega (arith, less))
taken_by list (suc p) q s less le =
    let next : p + 1 ≡ suc p = omega arith in
    let more = taken_more list p (taken_at list q) s (omega (arith, le)) in
    ap (λ (n : ℕ). is_among list n (taken_at list q) s) (sym next) ∙ more ∙ elim (cases_eq q p) [
      | inl same ↦ or_right (is_among list p (taken_at list q) s) (taken_at list p == taken_at list q) (eq-eqb (taken_at list p) (taken_at list q) (ap (λ (n : ℕ). taken_at list n) (sym same)))
      | inr other ↦ or_left (is_among list p (taken_at list q) s) (taken_at list p == taken_at list q) (taken_by list p q s (omega (arith, less, other)) (omega (arith, le)))
    ]

pub taken_is : (list : List Candidate) (p k : ℕ) (s : Stream) → p ≤ length list → is_among list p k s ≡ true → (q : ℕ) × (q < p) × (taken_at list q ≡ k)
taken_is list zero k s le on = cc on
taken_is list (suc p) k s le on =
    let next : p + 1 ≡ suc p = omega arith in
    let more = taken_more list p k s (omega (arith, le)) in
    elim (or_cases (is_among list p k s) (taken_at list p == k) (sym more ∙ ap (λ (n : ℕ). is_among list n k s) next ∙ on)) [
      | inl before ↦ let (q, lt, is) = taken_is list p k s (omega (arith, le)) before in (q, omega (arith, lt), is)
      | inr here ↦ (p, omega arith, eqb-true (taken_at list p) k here)
    ]

pub none_taken : (ss : List Stream) (list : List Candidate) → TakesNone ss (is_among list 0)
none_taken ss list k t at = refl

pub one_taken : (ss : List Stream) (list : List Candidate) (p : ℕ) (s : Stream) → p < length list → slice_get ss (taken_at list p) ≡ Some s
    → IsOneMore ss (is_among list p) (is_among list (p + 1)) (taken_at list p) s
one_taken ss list p s lt at = record {
  there = at;
  here = taken_by list (p + 1) p s (omega arith) (omega (arith, lt));
  before = λ k t here ok. taken_more list p k t lt ∙ or_left (is_among list p k t) (taken_at list p == k) ok;
  only = λ k t here ne ok. elim (or_cases (is_among list p k t) (taken_at list p == k) (sym (taken_more list p k t lt) ∙ ok)) [
    | inl before ↦ before
    | inr same ↦ absurd (ne (sym (eqb-true (taken_at list p) k same)))
  ];
}

-- ---- the labels decide the next stream
pub marked_by : (ss : List Stream) (nodes : ℕ) (list : List Candidate) (p : ℕ) (labels : List ℕ) (s : Stream) → slice_get ss (taken_at list p) ≡ Some s → IsStream nodes s
    → IsLabelling ss nodes (is_among list p) labels → IsMarked ss list p (label_at labels s.from == label_at labels s.to)
marked_by ss nodes list p labels s at stream l =
    let tell = labels_tell ss nodes (is_among list p) labels s.from s.to stream.from stream.to l in
    let a = label_at labels s.from in
    let b = label_at labels s.to in
    record {
      joined = λ t on here.
          let is : s ≡ t = some_same (sym at ∙ here) in
          subst (λ (v : Stream). Reaches (ends_of (is_among list p) ss) v.from v.to) is (tell.0 (eqb-true a b on));
      apart = λ t off here r.
          let is : s ≡ t = some_same (sym at ∙ here) in
          let joined = subst (λ (v : Stream). Reaches (ends_of (is_among list p) ss) v.from v.to) (sym is) r in
          cc (sym off ∙ eq-eqb a b (tell.1 joined));
    }

-- ---- the marks are the advised choice
pub places_of_order : (costs : List ℤ) (ss : List Stream) (list : List Candidate) → IsOrder costs ss list → ArePlaces ss list
places_of_order costs ss list order = record {
  there = λ p lt. let (s, at, bare) = order.each p lt in slice_get_within ss (taken_at list p) s at;
  differ = λ p q less lt same.
      let (s, at, bare) = order.each p (omega (arith, less, lt)) in
      let before = order.sorted p q s less lt at in
      precedes_not costs (taken_at list q) (taken_at list p) s same before;
}

-- what precedes the p-th stream of the order is what is taken before it
among_is : (costs : List ℤ) (ss : List Stream) (list : List Candidate) (p j k : ℕ) (s t : Stream) → IsOrder costs ss list → p < length list → taken_at list p ≡ j
    → slice_get ss j ≡ Some s → slice_get ss k ≡ Some t → precedes costs j k t ≡ true → is_among list p k t ≡ true
among_is costs ss list p j k s t order lt is at at_t before =
    let here : slice_get ss (taken_at list p) ≡ Some s = ap (λ (n : ℕ). slice_get ss n) is ∙ at in
    let (q, q_lt, q_is) = order.all k t at_t (precedes_says costs j k t before).0 in
    elim (cases_lt q p) [
      | inl earlier ↦ subst (λ (n : ℕ). is_among list p n t ≡ true) q_is (taken_by list p q t earlier (omega (arith, lt)))
      | inr later ↦ elim (cases_eq p q) [
        | inl same ↦ absurd (precedes_not costs j k t (sym q_is ∙ ap (λ (n : ℕ). taken_at list n) (sym same) ∙ is) before)
        | inr other ↦
            let back = order.sorted p q s (omega (arith, later, other)) q_lt here in
            let turned = subst (λ (n : ℕ). precedes costs k n s ≡ true) is (subst (λ (n : ℕ). precedes costs n (taken_at list p) s ≡ true) q_is back) in
            absurd (precedes_both costs j k s t turned before)
      ]
    ]

is_before : (costs : List ℤ) (ss : List Stream) (list : List Candidate) (p j k : ℕ) (t : Stream) → IsOrder costs ss list → p < length list → taken_at list p ≡ j
    → slice_get ss k ≡ Some t → is_among list p k t ≡ true → precedes costs j k t ≡ true
is_before costs ss list p j k t order lt is at_t among =
    let (q, less, q_is) = taken_is list p k t (omega (arith, lt)) among in
    let there : slice_get ss (taken_at list q) ≡ Some t = ap (λ (n : ℕ). slice_get ss n) q_is ∙ at_t in
    subst (λ (n : ℕ). precedes costs n k t ≡ true) is (subst (λ (n : ℕ). precedes costs (taken_at list p) n t ≡ true) q_is (order.sorted q p t less lt there))

pub choice_is : (g : ProcessGraph) (costs : List ℤ) (list : List Candidate) (chosen : List Bool) → IsOrder costs g.streams list → length chosen ≡ length g.streams
    → ((p : ℕ) → p < length list → IsMarked g.streams list p (get_or chosen (taken_at list p) false))
    → ((k : ℕ) → ((p : ℕ) → p < length list → taken_at list p ≢ k) → get_or chosen k false ≡ false) → IsAdvisedChoice g costs chosen
choice_is g costs list chosen order size marks others =
    let ss = g.streams in
    record {
      choice = record {
        each = size;
        bare = λ j s at on. elim (cases_Bool (is_measured s)) [
          | inr bare ↦ bare
          | inl measured ↦ cc (sym (others j (λ p lt same.
              let (t, here, bare) = order.each p lt in
              let is : t ≡ s = some_same (sym here ∙ ap (λ (k : ℕ). slice_get ss k) same ∙ at) in
              cc (sym (not-true (is_measured t) bare) ∙ ap is_measured is ∙ measured))) ∙ on)
        ];
      };
      decided = λ j s at bare.
          let (p, lt, is) = order.all j s at (not_from_false (is_measured s) bare) in
          let here : slice_get ss (taken_at list p) ≡ Some s = ap (λ (k : ℕ). slice_get ss k) is ∙ at in
          let mark = subst (λ (k : ℕ). IsMarked ss list p (get_or chosen k false)) is (marks p lt) in (
            (λ on. reach_more (is_among list p) (precedes costs j) ss s.from s.to
                (λ k t at_t among. is_before costs ss list p j k t order lt is at_t among) (mark.joined s on here)),
            (λ r. elim (cases_Bool (get_or chosen j false)) [
              | inl on ↦ on
              | inr off ↦ absurd (mark.apart s off here (reach_more (precedes costs j) (is_among list p) ss s.from s.to
                  (λ k t at_t before. among_is costs ss list p j k s t order lt is at at_t before) r))
            ]),
          );
    }
