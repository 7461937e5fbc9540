-- The streams of a component graph, one more at a time, and the first of them that is over the limits.
use Rattle.std.specs.Prelude.{nat_lt, option_map, unwrap_or, position, All}
use Rattle.std.proofs.Common.{◌≡◌, ◌∙◌, ◌+◌, ◌<◌, ◌≤◌, ℕ, zero, suc, Bool, true, false, List, [], ◌∷◌, ◌++◌, length, drop, slice_get, get_or, Option, Some, None, Result, Ok, Err, inl, inr, refl, sym, ap, ap₂, append_assoc, arith, subst}
use Rattle.std.proofs.lemmas.Bool.{cases_Bool, ltb-false, ltb-true}
use Rattle.std.proofs.lemmas.List.{append-nil}
use Rattle.std.proofs.lemmas.List.Elements.{All-get_or}
use Rattle.std.proofs.lemmas.Option.{get_or_from_slice_get, slice_get_within}
use Rattle.std.specs.List.{position_or_len}
use Rattle.std.specs.Option.{option_map_or}
use Rattle.std.proofs.lemmas.List.Sums.{fails_before_first, position_or_len_is}
use Rattle.std.proofs.Math.ListN.{drop_of_length-le}
use Rattle.pb_graph.specs.declared.records.Stream.{Stream}
use Rattle.pb_study.specs.declared.results.StreamResult.{StreamResult}
use Rattle.pb_graph.specs.ProcessGraph.{IsStream, ProcessGraph}
use Rattle.pb_facts.specs.declared.grade.Grade.{Grade}
use Rattle.pb_grades.specs.declared.component.ComponentFault.{ComponentFault}
use Rattle.pb_grades.specs.declared.component.ComponentFault.TheVariants.{Over}
use Rattle.pb_grades.specs.Component.{component_stream, component_of, component_streams, is_component_over, component_overs}

pub some_is : {B : Type 0} (a b : B) → Some a ≡ Some b → a ≡ b
some_is a b is = ap (λ o. unwrap_or o a) is

-- the rest from a place on, with the stream at the place first
next : (ss : List Stream) (rs : List StreamResult) (gs : List (Option Grade)) (j : ℕ) (r : StreamResult) (g : Option Grade) (s : Stream)
    → Some s ≡ option_map (component_stream r g) (slice_get ss j) → slice_get rs j ≡ Some r → slice_get gs j ≡ Some g
    → component_streams (drop j ss) (drop j rs) (drop j gs) ≡ s ∷ component_streams (drop (j + 1) ss) (drop (j + 1) rs) (drop (j + 1) gs)
next [] rs gs j r g s is at_r at_g = cc is
next (t ∷ ss) [] gs j r g s is at_r at_g = cc at_r
next (t ∷ ss) (q ∷ rs) [] j r g s is at_r at_g = cc at_g
next (t ∷ ss) (q ∷ rs) (o ∷ gs) zero r g s is at_r at_g =
    let same : component_stream q o t ≡ s = ap₂ (λ (x : StreamResult) (y : Option Grade). component_stream x y t) (some_is q r at_r) (some_is o g at_g) ∙ sym (some_is s (component_stream r g t) is) in
    ap (λ (x : Stream). x ∷ component_streams ss rs gs) same
next (t ∷ ss) (q ∷ rs) (o ∷ gs) (suc j) r g s is at_r at_g =
    let later : suc (j + 1) ≡ suc j + 1 = omega arith in
    next ss rs gs j r g s is at_r at_g
    ∙ ap (λ (n : ℕ). s ∷ component_streams (drop n (t ∷ ss)) (drop n (q ∷ rs)) (drop n (o ∷ gs))) later

-- one more stream made
pub one_more : (ss : List Stream) (rs : List StreamResult) (gs : List (Option Grade)) (made : List Stream) (j : ℕ) (r : StreamResult) (g : Option Grade) (s : Stream)
    → Some s ≡ option_map (component_stream r g) (slice_get ss j) → slice_get rs j ≡ Some r → slice_get gs j ≡ Some g
    → component_streams ss rs gs ≡ made ++ component_streams (drop j ss) (drop j rs) (drop j gs)
    → component_streams ss rs gs ≡ (made ++ s ∷ []) ++ component_streams (drop (j + 1) ss) (drop (j + 1) rs) (drop (j + 1) gs)
one_more ss rs gs made j r g s is at_r at_g so_far =
    so_far ∙ ap (λ (rest : List Stream). made ++ rest) (next ss rs gs j r g s is at_r at_g)
    ∙ sym (append_assoc made (s ∷ []) (component_streams (drop (j + 1) ss) (drop (j + 1) rs) (drop (j + 1) gs)))

-- nothing is left after the last place
pub all_made : (ss : List Stream) (rs : List StreamResult) (gs : List (Option Grade)) (made : List Stream) (j : ℕ) → length ss ≤ j
    → component_streams ss rs gs ≡ made ++ component_streams (drop j ss) (drop j rs) (drop j gs) → component_streams ss rs gs ≡ made
all_made ss rs gs made j past so_far =
    so_far ∙ ap (λ (rest : List Stream). made ++ component_streams rest (drop j rs) (drop j gs)) (drop_of_length-le ss past) ∙ append-nil made

pub streams_each : (ss : List Stream) (rs : List StreamResult) (gs : List (Option Grade)) → length rs ≡ length ss → length gs ≡ length ss → length (component_streams ss rs gs) ≡ length ss
streams_each [] rs gs e f = refl
streams_each (s ∷ ss) [] gs e f = omega (arith, e)
streams_each (s ∷ ss) (r ∷ rs) [] e f = omega (arith, f)
streams_each (s ∷ ss) (r ∷ rs) (g ∷ gs) e f = let more = streams_each ss rs gs (omega (arith, e)) (omega (arith, f)) in omega (arith, more)

-- the graph of all these streams
abbrev pub made_graph : ProcessGraph → List StreamResult → List (Option Grade) → ProcessGraph
made_graph graph rs gs = record { nodes = graph.nodes; streams = component_streams graph.streams rs gs }

-- ---- the first stream that is over the limits

-- a graph, unless a stream is over the limits
abbrev pub unless_over : ProcessGraph → Option ℕ → Result ProcessGraph ComponentFault
unless_over graph found = option_map_or (λ stream. Err (Over stream)) found (Ok graph)

pub over_is : (rs : List StreamResult) (gs : List (Option Grade)) (j : ℕ) (r : StreamResult) (g : Option Grade) → slice_get rs j ≡ Some r → slice_get gs j ≡ Some g
    → get_or (component_overs rs gs) j false ≡ is_component_over r g
over_is [] gs j r g at_r at_g = cc at_r
over_is (q ∷ rs) [] j r g at_r at_g = cc at_g
over_is (q ∷ rs) (o ∷ gs) zero r g at_r at_g = ap₂ is_component_over (some_is q r at_r) (some_is o g at_g)
over_is (q ∷ rs) (o ∷ gs) (suc j) r g at_r at_g = over_is rs gs j r g at_r at_g

pub overs_each : (rs : List StreamResult) (gs : List (Option Grade)) → length gs ≡ length rs → length (component_overs rs gs) ≡ length rs
overs_each [] gs each = refl
overs_each (q ∷ rs) [] each = omega (arith, each)
overs_each (q ∷ rs) (o ∷ gs) each = let more = overs_each rs gs (omega (arith, each)) in omega (arith, more)

below : (a b : ℕ) → a < b → nat_lt a b ≡ true
below a b lt = elim (cases_Bool (nat_lt a b)) [ inl passes ↦ passes | inr fails ↦ absurd (omega (arith, ltb-false a b fails, lt)) ]

not_below : (a b : ℕ) → b ≤ a → nat_lt a b ≡ false
not_below a b le = elim (cases_Bool (nat_lt a b)) [ inl passes ↦ absurd (omega (arith, ltb-true a b passes, le)) | inr fails ↦ fails ]

position_at : (xs : List Bool) (i : ℕ) → i < length xs → ((k : ℕ) → k < i → get_or xs k false ≡ false) → get_or xs i false ≡ true → position (λ over. over) xs ≡ Some i
position_at xs i within before here = rw (position_or_len_is (λ over. over) xs i false (omega arith) before (λ _. here), below i (length xs) within) refl

position_none : (xs : List Bool) → ((k : ℕ) → k < length xs → get_or xs k false ≡ false) → position (λ over. over) xs ≡ None
position_none [] fails = refl
position_none (x ∷ xs) fails =
    let end = position_or_len_is (λ over. over) (x ∷ xs) (length (x ∷ xs)) false (omega arith) (λ k lt. fails k lt) (λ past. absurd (omega arith)) in
    rw (end, not_below (length (x ∷ xs)) (length (x ∷ xs)) (omega arith)) refl

-- the marks before a place, and the mark at it
pub one_below : (marks : List Bool) (j : ℕ) → ((k : ℕ) → k < j → get_or marks k false ≡ false) → get_or marks j false ≡ false → (k : ℕ) → k < j + 1 → get_or marks k false ≡ false
one_below marks j before here k lt = elim (cases_Bool (nat_lt k j)) [
  | inl passes ↦ before k (ltb-true k j passes)
  | inr fails ↦
      let same : j ≡ k = omega (arith, ltb-false k j fails, lt) in
      ap (λ (n : ℕ). get_or marks n false) (sym same) ∙ here
]

pub first_over : (graph : ProcessGraph) (rs : List StreamResult) (gs : List (Option Grade)) (j : ℕ) (r : StreamResult) (g : Option Grade) → j < length rs → length gs ≡ length rs
    → slice_get rs j ≡ Some r → slice_get gs j ≡ Some g → ((k : ℕ) → k < j → get_or (component_overs rs gs) k false ≡ false) → is_component_over r g ≡ true
    → Err (Over j) ≡ component_of graph rs gs
first_over graph rs gs j r g lt each at_r at_g before over =
    let long = overs_each rs gs each in
    sym (ap (unless_over (made_graph graph rs gs))
    (position_at (component_overs rs gs) j (omega (arith, long, lt)) before (over_is rs gs j r g at_r at_g ∙ over)))

pub finished : (graph whole : ProcessGraph) (rs : List StreamResult) (gs : List (Option Grade)) (j : ℕ) → length rs ≤ j → length gs ≡ length rs → whole.nodes ≡ graph.nodes
    → component_streams graph.streams rs gs ≡ whole.streams → ((k : ℕ) → k < j → get_or (component_overs rs gs) k false ≡ false) → Ok whole ≡ component_of graph rs gs
finished graph whole rs gs j past each nodes all before =
    let long = overs_each rs gs each in
    let none = position_none (component_overs rs gs) (λ k lt. before k (omega (arith, lt, long, past))) in
    let same = ap₂ (λ (n : ℕ) (streams : List Stream). let g : ProcessGraph = record { nodes = n; streams = streams } in g) nodes (sym all) in
    ap (λ (g : ProcessGraph). unless_over g None) same
    ∙ sym (ap (unless_over (made_graph graph rs gs)) none)

-- the ends of the stream at a place
pub ends_at : (nodes : ℕ) (ss : List Stream) (j : ℕ) (s : Stream) → All (IsStream nodes) ss → slice_get ss j ≡ Some s → IsStream nodes s
ends_at nodes ss j s ends at = subst (IsStream nodes) (get_or_from_slice_get ss j s s at) (All-get_or (IsStream nodes) ss j s (slice_get_within ss j s at) ends)

-- ---- a graph that is made has no stream over the limits

no_place : (marks : List Bool) → position (λ over. over) marks ≡ None → (k : ℕ) → k < length marks → get_or marks k false ≡ false
no_place marks is k lt = fails_before_first (λ over. over) marks k false (omega (arith, lt, past))
  where
    past : length marks ≤ position_or_len (λ (over : Bool). over) marks
    past = elim (cases_Bool (nat_lt (position_or_len (λ (over : Bool). over) marks) (length marks))) [
      | inl passes ↦ cc (rw passes at is)
      | inr fails ↦ omega (arith, ltb-false (position_or_len (λ (over : Bool). over) marks) (length marks) fails)
    ]

abbrev graph_in : ProcessGraph → Result ProcessGraph ComponentFault → ProcessGraph
graph_in other (Ok g) = g
graph_in other (Err e) = other

pub none_over : (graph component : ProcessGraph) (rs : List StreamResult) (gs : List (Option Grade)) → length gs ≡ length rs → component_of graph rs gs ≡ Ok component
    → (made_graph graph rs gs ≡ component) × ((k : ℕ) → k < length rs → get_or (component_overs rs gs) k false ≡ false)
none_over graph component rs gs each answer = by (position (λ over. over) (component_overs rs gs)) refl
  where
    by : (o : Option ℕ) → position (λ over. over) (component_overs rs gs) ≡ o
        → (made_graph graph rs gs ≡ component) × ((k : ℕ) → k < length rs → get_or (component_overs rs gs) k false ≡ false)
    by (Some j) at = cc (sym (ap (unless_over (made_graph graph rs gs)) at) ∙ answer)
    by None at =
        let long = overs_each rs gs each in (
          ap (graph_in (made_graph graph rs gs)) (sym (ap (unless_over (made_graph graph rs gs)) at) ∙ answer),
          λ k lt. no_place (component_overs rs gs) at k (omega (arith, lt, long)),
        )
