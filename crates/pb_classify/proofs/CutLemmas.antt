-- The boundaries of trees, with one more stream.
use Rattle.std.proofs.Common.{◌≡◌, ◌≢◌, ◌∙◌, ℕ, ◌+◌, ◌<◌, ◌≤◌, pos, negsuc, Bool, true, false, ◌==◌, List, [], ◌∷◌, ◌++◌, length, Some, None, get_or, drop, replicate, refl, sym, ap, ap₂, subst, inl, inr, arith}
use Rattle.std.proofs.lemmas.Bool.{cases_Bool, cases_eq, eq-eqb, ne_eqb}
use Rattle.std.proofs.lemmas.List.{get_or-set_same, get_or-set_other, get_or-replicate, length-set, drop_all, append-nil}
use Rattle.std.proofs.lemmas.Option.{slice_get-get_or}
use Rattle.pb_graph.specs.declared.records.Stream.{Stream}
use Rattle.pb_graph.specs.declared.records.Member.{Member}
use Rattle.pb_graph.specs.ProcessGraph.{ProcessGraph, IsStream, some_stream}
use Rattle.pb_graph.specs.Walk.{is_in}
use Rattle.pb_graph.specs.Boundary.{sign_at, member_by, members_from, boundary_of}
use Rattle.pb_graph.proofs.BoundaryLemmas.{no_member_more, member_more}
use Rattle.pb_classify.specs.Points.{NodePoints, ArePoints}
use Rattle.pb_classify.specs.Cuts.{IsTreeOf, AreCuts}
use Rattle.pb_classify.specs.CutLists.{with_member, with_crossing, with_stream, HasFewLabels, HasLabel, AreCutsBefore}

-- ---- one more member
list_more : (lists : List (List Member)) (label : ℕ) (m : Member) → label < length lists → get_or (with_member lists label m) label [] ≡ get_or lists label [] ++ m ∷ []
list_more lists label m lt = get_or-set_same lists label (get_or lists label [] ++ m ∷ []) [] lt

list_kept : (lists : List (List Member)) (label other : ℕ) (m : Member) → other ≢ label → get_or (with_member lists label m) other [] ≡ get_or lists other []
list_kept lists label other m ne = get_or-set_other lists label other (get_or lists label [] ++ m ∷ []) [] ne

pub as_many_lists : (lists : List (List Member)) (label : ℕ) (m : Member) → length (with_member lists label m) ≡ length lists
as_many_lists lists label m = length-set lists label (get_or lists label [] ++ m ∷ [])

abbrev leaving : ℕ → Member
leaving j = record { stream = j; sign = negsuc 0 }

abbrev entering : ℕ → Member
entering j = record { stream = j; sign = pos 1 }

-- ---- one more stream
-- what a list and the streams left make together
abbrev IsSoFar : List Bool → List Stream → ℕ → List Member → Type 0
IsSoFar side ss j list = boundary_of side ss ≡ list ++ members_from side j (drop j ss)

no_sign : (b : Bool) → sign_at b b ≡ None
no_sign true = refl
no_sign false = refl

-- a stream within a tree, or outside it
stays : (side : List Bool) (ss : List Stream) (j : ℕ) (list : List Member) (b : Bool) → j < length ss
    → is_in side (get_or ss j some_stream).from ≡ b → is_in side (get_or ss j some_stream).to ≡ b → IsSoFar side ss j list → IsSoFar side ss (j + 1) list
stays side ss j list b lt from to so_far =
    no_member_more side ss list j some_stream lt (ap (member_by j) (ap₂ sign_at from to ∙ no_sign b)) so_far

leaves : (side : List Bool) (ss : List Stream) (j : ℕ) (list new : List Member) → j < length ss
    → is_in side (get_or ss j some_stream).from ≡ true → is_in side (get_or ss j some_stream).to ≡ false → new ≡ list ++ leaving j ∷ []
    → IsSoFar side ss j list → IsSoFar side ss (j + 1) new
leaves side ss j list new lt from to is so_far =
    subst (IsSoFar side ss (j + 1)) (sym is) (member_more side ss list j some_stream (leaving j) lt (ap (member_by j) (ap₂ sign_at from to)) so_far)

enters : (side : List Bool) (ss : List Stream) (j : ℕ) (list new : List Member) → j < length ss
    → is_in side (get_or ss j some_stream).from ≡ false → is_in side (get_or ss j some_stream).to ≡ true → new ≡ list ++ entering j ∷ []
    → IsSoFar side ss j list → IsSoFar side ss (j + 1) new
enters side ss j list new lt from to is so_far =
    subst (IsSoFar side ss (j + 1)) (sym is) (member_more side ss list j some_stream (entering j) lt (ap (member_by j) (ap₂ sign_at from to)) so_far)

-- the lists if the labels of a stream's ends are from and to
crossing_more : (side : List Bool) (ss : List Stream) (lists : List (List Member)) (j from to label : ℕ) → j < length ss → from < length lists → to < length lists → from ≢ to
    → is_in side (get_or ss j some_stream).from ≡ (from == label) → is_in side (get_or ss j some_stream).to ≡ (to == label)
    → IsSoFar side ss j (get_or lists label []) → IsSoFar side ss (j + 1) (get_or (with_crossing lists j from to) label [])
crossing_more side ss lists j from to label lt from_there to_there differ from_in to_in so_far =
    let once = with_member lists from (leaving j) in
    elim (cases_eq from label) [
      | inl from_here ↦
          let away : to ≢ label = λ e. differ (from_here ∙ sym e) in
          let list : get_or (with_crossing lists j from to) label [] ≡ get_or lists label [] ++ leaving j ∷ [] =
          list_kept once to label (entering j) (λ e. away (sym e))
          ∙ subst (λ (n : ℕ). get_or once n [] ≡ get_or lists n [] ++ leaving j ∷ []) from_here (list_more lists from (leaving j) from_there) in
          leaves side ss j (get_or lists label []) (get_or (with_crossing lists j from to) label []) lt (from_in ∙ eq-eqb from label from_here) (to_in ∙ ne_eqb to label away) list so_far
      | inr from_away ↦
          let first : get_or once label [] ≡ get_or lists label [] = list_kept lists from label (leaving j) (λ e. from_away (sym e)) in
          elim (cases_eq to label) [
            | inl to_here ↦
                let size = as_many_lists lists from (leaving j) in
                let list : get_or (with_crossing lists j from to) label [] ≡ get_or lists label [] ++ entering j ∷ [] =
                subst (λ (n : ℕ). get_or (with_crossing lists j from to) n [] ≡ get_or once n [] ++ entering j ∷ []) to_here (list_more once to (entering j) (omega (arith, size, to_there)))
                ∙ ap (λ (l : List Member). l ++ entering j ∷ []) first in
                enters side ss j (get_or lists label []) (get_or (with_crossing lists j from to) label []) lt (from_in ∙ ne_eqb from label from_away) (to_in ∙ eq-eqb to label to_here) list so_far
            | inr to_away ↦
                subst (IsSoFar side ss (j + 1)) (sym (list_kept once to label (entering j) (λ e. to_away (sym e)) ∙ first))
                (stays side ss j (get_or lists label []) false lt (from_in ∙ ne_eqb from label from_away) (to_in ∙ ne_eqb to label to_away) so_far)
          ]
    ]

pub stream_more : (points : NodePoints) (ss : List Stream) (lists : List (List Member)) (j : ℕ) → j < length ss → length lists ≡ points.nodes
    → IsStream points.nodes (get_or ss j some_stream) → HasFewLabels points
    → AreCutsBefore points ss j lists → AreCutsBefore points ss (j + 1) (with_stream points.label lists j (get_or ss j some_stream))
stream_more points ss lists j lt each is labels before = λ label side within has.
    let s = get_or ss j some_stream in
    let from = has s.from is.from in
    let to = has s.to is.to in
    let so_far = before label side within has in
    elim (cases_eq (points.label s.from) (points.label s.to)) [
      | inl same ↦
          rw (eq-eqb (points.label s.from) (points.label s.to) same)
          (stays side ss j (get_or lists label []) (points.label s.to == label) lt (from ∙ ap (λ (n : ℕ). n == label) same) to so_far)
      | inr differ ↦
          let from_within = labels s.from is.from in
          let to_within = labels s.to is.to in
          rw (ne_eqb (points.label s.from) (points.label s.to) differ)
          (crossing_more side ss lists j (points.label s.from) (points.label s.to) label lt (omega (arith, from_within, each)) (omega (arith, to_within, each)) differ from to so_far)
    ]

-- ---- before the first stream, and after the last
pub cuts_begin : (points : NodePoints) (ss : List Stream) (lists : List (List Member)) (nodes : ℕ) → lists ≡ replicate nodes [] → points.nodes ≡ nodes → AreCutsBefore points ss 0 lists
cuts_begin points ss lists nodes empty same = λ label side within has.
    let none : get_or lists label [] ≡ [] = ap (λ (l : List (List Member)). get_or l label []) empty ∙ get_or-replicate nodes label [] [] (omega (arith, within, same)) in
    rw none refl

-- the nodes of a tree are those with its label
tree_has_label : (g : ProcessGraph) (points : NodePoints) (n : ℕ) (side : List Bool) → ArePoints g points → n < g.nodes → IsTreeOf g n side → HasLabel points (points.label n) side
tree_has_label g points n side are lt tree = λ m within.
    let level = are.numbering.label n m lt (omega (arith, within, are.nodes)) in
    elim (cases_eq (points.label m) (points.label n)) [
      | inl same ↦ tree.whole m (level.0 (sym same)) ∙ sym (eq-eqb (points.label m) (points.label n) same)
      | inr differ ↦ elim (cases_Bool (is_in side m)) [
        | inl inside ↦ absurd (differ (sym (level.1 (tree.reached m inside))))
        | inr outside ↦ outside ∙ sym (ne_eqb (points.label m) (points.label n) differ)
      ]
    ]

pub cuts_end : (g : ProcessGraph) (points : NodePoints) (lists : List (List Member)) (j : ℕ) → ArePoints g points → length lists ≡ points.nodes
    → HasFewLabels points → length g.streams ≤ j → AreCutsBefore points g.streams j lists → AreCuts g points lists
cuts_end g points lists j are each labels le all = record {
  each = each ∙ are.nodes;
  boundary = λ n side lt tree.
      let within = labels n (omega (arith, lt, are.nodes)) in
      let label = points.label n in
      let whole : boundary_of side g.streams ≡ get_or lists label [] =
      all label side within (tree_has_label g points n side are lt tree)
      ∙ ap (λ (r : List Stream). get_or lists label [] ++ members_from side j r) (drop_all j g.streams le) ∙ append-nil (get_or lists label []) in
      slice_get-get_or lists label [] (omega (arith, within, each)) ∙ ap (λ (l : List Member). Some l) (sym whole);
}
