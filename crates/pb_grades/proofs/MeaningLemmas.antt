-- What the component graph is, stream by stream, and which stream is named as over the limits.
use Rattle.std.specs.Prelude.{position, option_map, IsSomeAnd}
use Rattle.std.specs.Option.{option_map_or}
use Rattle.std.proofs.Common.{◌≡◌, ◌≢◌, ◌∙◌, ◌<◌, ℕ, zero, suc, ℤ, true, false, List, [], ◌∷◌, length, slice_get, get_or, Option, Some, None, Err, refl, sym, ap, ap₂, subst}
use Rattle.std.proofs.lemmas.List.Quantifiers.{position-Some}
use Rattle.std.proofs.lemmas.Option.{slice_get_within}
use Rattle.pb_graph.specs.declared.records.Stream.{Stream}
use Rattle.pb_graph.specs.declared.records.Class.{Class}
use Rattle.pb_graph.specs.declared.records.Class.TheVariants.{Observable, Unobservable, Redundant, Nonredundant}
use Rattle.pb_study.specs.declared.results.StreamResult.{StreamResult}
use Rattle.pb_graph.specs.ProcessGraph.{ProcessGraph}
use Rattle.pb_facts.specs.declared.grade.Grade.{Grade}
use Rattle.pb_grades.specs.declared.component.ComponentFault.TheVariants.{Over}
use Rattle.pb_grades.specs.Grade.{IsCarried, carried, carries_too_much}
use Rattle.pb_grades.specs.Component.{IsComponentStream, IsOverAt, component_overs, component_stream, component_streams, counted_grade}
use Rattle.pb_grades.specs.Laws.{ComponentLaw, FirstOverLaw}
use Rattle.pb_grades.proofs.CarriedLemmas.{carried_is}
use Rattle.pb_grades.proofs.ComponentLemmas.{made_graph, none_over, over_is, some_is, streams_each, unless_over}

-- ---- the grade that counts

no_grade : (class : Class) → counted_grade class None ≡ None
no_grade Observable = refl
no_grade Unobservable = refl
no_grade Redundant = refl
no_grade Nonredundant = refl

own_grade : (class : Class) (o : Option Grade) → class ≢ Unobservable → counted_grade class o ≡ o
own_grade Observable o known = refl
own_grade Unobservable o known = absurd (known refl)
own_grade Redundant o known = refl
own_grade Nonredundant o known = refl

-- ---- one stream

stream_is : (r : StreamResult) (o : Option Grade) (s : Stream) → IsComponentStream r o s (component_stream r o s)
stream_is r o s = record {
  from = refl;
  to = refl;
  bare = λ none. ap (λ g. option_map (carried r.flow) g) (ap (counted_grade r.classified.class) none ∙ no_grade r.classified.class);
  unknown = λ free. ap (λ c. option_map (carried r.flow) (counted_grade c o)) free;
  measured = λ g is known. subst (λ (x : Option Grade). IsSomeAnd (option_map (carried r.flow) x) (IsCarried r.flow g))
      (sym (own_grade r.classified.class o known ∙ is)) (carried_is r.flow g);
}

-- the stream at a place, by those at the same place
stream_at : (ss : List Stream) (rs : List StreamResult) (gs : List (Option Grade)) (j : ℕ) (s t : Stream) (r : StreamResult) (o : Option Grade)
    → slice_get ss j ≡ Some s → slice_get rs j ≡ Some r → slice_get gs j ≡ Some o → slice_get (component_streams ss rs gs) j ≡ Some t → component_stream r o s ≡ t
stream_at [] rs gs j s t r o at_s at_r at_g at = cc at_s
stream_at (x ∷ ss) [] gs j s t r o at_s at_r at_g at = cc at_r
stream_at (x ∷ ss) (q ∷ rs) [] j s t r o at_s at_r at_g at = cc at_g
stream_at (x ∷ ss) (q ∷ rs) (p ∷ gs) zero s t r o at_s at_r at_g at =
    let front : component_stream q p x ≡ t = some_is (component_stream q p x) t at in
    let one : component_stream r o s ≡ component_stream q p s = ap₂ (λ (y : StreamResult) (z : Option Grade). component_stream y z s) (sym (some_is q r at_r)) (sym (some_is p o at_g)) in
    one ∙ ap (component_stream q p) (sym (some_is x s at_s)) ∙ front
stream_at (x ∷ ss) (q ∷ rs) (p ∷ gs) (suc j) s t r o at_s at_r at_g at = stream_at ss rs gs j s t r o at_s at_r at_g at

-- ---- over the limits

-- by the class and the grade
over_parts : (class : Class) (flow : ℤ) (o : Option Grade) → option_map_or (carries_too_much flow) (counted_grade class o) false ≡ true
    → (g : Grade) × (o ≡ Some g) × (class ≢ Unobservable) × (carries_too_much flow g ≡ true)
over_parts Observable flow None over = cc over
over_parts Observable flow (Some g) over = (g, refl, (λ same. cc same), over)
over_parts Unobservable flow o over = cc over
over_parts Redundant flow None over = cc over
over_parts Redundant flow (Some g) over = (g, refl, (λ same. cc same), over)
over_parts Nonredundant flow None over = cc over
over_parts Nonredundant flow (Some g) over = (g, refl, (λ same. cc same), over)

over_at : (rs : List StreamResult) (gs : List (Option Grade)) (j : ℕ) → get_or (component_overs rs gs) j false ≡ true → IsOverAt rs gs j
over_at [] gs j over = cc over
over_at (r ∷ rs) [] j over = cc over
over_at (r ∷ rs) (o ∷ gs) zero over =
    let parts = over_parts r.classified.class r.flow o over in
    record { result = r; grade = parts.0; there = refl; assayed = ap Some parts.1; known = parts.2; over = parts.3 }
over_at (r ∷ rs) (o ∷ gs) (suc j) over =
    let later = over_at rs gs j over in
    record { result = later.result; grade = later.grade; there = later.there; assayed = later.assayed; known = later.known; over = later.over }

marked : (rs : List StreamResult) (gs : List (Option Grade)) (j : ℕ) → IsOverAt rs gs j → get_or (component_overs rs gs) j false ≡ true
marked rs gs j is =
    over_is rs gs j is.result (Some is.grade) is.there is.assayed
    ∙ ap (λ (o : Option Grade). option_map_or (carries_too_much is.result.flow) o false) (own_grade is.result.classified.class (Some is.grade) is.known)
    ∙ is.over

-- ---- the laws

pub component_is : ComponentLaw
component_is graph component rs gs e f answer = record {
  nodes = ap (λ (g : ProcessGraph). g.nodes) (sym found.0);
  each = ap (λ (g : ProcessGraph). length g.streams) (sym found.0) ∙ streams_each graph.streams rs gs e f;
  streams = λ j s t r o at_s at_r at_g at.
      let here : slice_get (component_streams graph.streams rs gs) j ≡ Some t = ap (λ (g : ProcessGraph). slice_get g.streams j) found.0 ∙ at in
      subst (λ (x : Stream). IsComponentStream r o s x) (stream_at graph.streams rs gs j s t r o at_s at_r at_g here) (stream_is r o s);
  within = λ j is. cc (sym (marked rs gs j is) ∙ found.1 j (slice_get_within rs j is.result is.there));
}
  where
    found : (made_graph graph rs gs ≡ component) × ((k : ℕ) → k < length rs → get_or (component_overs rs gs) k false ≡ false)
    found = none_over graph component rs gs (f ∙ sym e) answer

pub first_is : FirstOverLaw
first_is graph rs gs j answer = record {
  over = over_at rs gs j parts.1;
  before = λ k lt is. cc (sym (marked rs gs k is) ∙ parts.2 k lt);
}
  where
    place : (o : Option ℕ) → unless_over (made_graph graph rs gs) o ≡ Err (Over j) → o ≡ Some j
    place None is = cc is
    place (Some i) is = cc is

    parts : (j < length (component_overs rs gs)) × (get_or (component_overs rs gs) j false ≡ true) × ((k : ℕ) → k < j → get_or (component_overs rs gs) k false ≡ false)
    parts = position-Some (λ over. over) (component_overs rs gs) j false (place (position (λ over. over) (component_overs rs gs)) answer)
