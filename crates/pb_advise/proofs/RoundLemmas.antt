-- The stream forward, and a path back over other unmeasured streams, is a cycle.
use Rattle.std.proofs.Common.{◌≡◌, ℕ, Bool, true, false, not, ◌==◌, List, ◌∷◌, Some, slice_get, sym, refl, subst, arith}
use Rattle.std.specs.List.{list_any}
use Rattle.std.proofs.lemmas.Bool.{and_from, or_left, not_from_false, eq-eqb}
use Rattle.pb_graph.specs.declared.records.Stream.{Stream}
use Rattle.pb_graph.specs.declared.records.Step.{Step}
use Rattle.pb_graph.specs.ProcessGraph.{ProcessGraph}
use Rattle.pb_graph.specs.Walk.{ends_of, any_stream, unmeasured_but, Walks}
use Rattle.pb_graph.specs.Cycle.{is_distinct, begin_of}
use Rattle.pb_graph.specs.Path.{IsPath}
use Rattle.pb_graph.specs.Certificates.{GoesRound}
use Rattle.pb_graph.proofs.WalkLemmas.{ends_is, walk_more}
use Rattle.pb_graph.proofs.BalanceLaws.{others_walk}
use Rattle.pb_forest.proofs.ForestLaws.{begin_is, streams_once}

abbrev pub round_of : ℕ → List Step → List Step
round_of j back = record { stream = j; forward = true } ∷ back

abbrev pub has_stream : ℕ → List Step → Bool
has_stream j steps = list_any (λ (step : Step). step.stream == j) steps

pub goes_round : (g : ProcessGraph) (j : ℕ) (s : Stream) (back : List Step) → slice_get g.streams j ≡ Some s
    → IsPath (ends_of (unmeasured_but j) g.streams) g.nodes g.streams s.to back s.from → GoesRound g j (round_of j back)
goes_round g j s back at path =
    let ss = g.streams in
    let first : Step = record { stream = j; forward = true } in
    let key = begin_of g.nodes ss in
    let e = ends_is any_stream ss j s true at refl in
    let begin : key first ≡ s.from = begin_is any_stream g.nodes ss first s.from s.to e in
    let facts = others_walk j s.to s.from ss back path.walk in
    let whole : Walks (ends_of any_stream ss) s.from (first ∷ back) s.from = (s.to, e, walk_more (unmeasured_but j) any_stream ss s.to s.from back (λ k u f h. refl) path.walk) in
    record {
      cycle = record {
        some = omega arith;
        back = subst (λ (n : ℕ). Walks (ends_of any_stream ss) n (first ∷ back) n) (sym begin) whole;
        each_stream = and_from (not (has_stream j back)) (is_distinct (λ (t : Step). t.stream) back) (not_from_false (has_stream j back) facts.0)
            (streams_once (unmeasured_but j) g.nodes ss s.to s.from back path);
        each_node = and_from (not (list_any (λ y. key y == key first) back)) (is_distinct key back)
            (not_from_false (list_any (λ y. key y == key first) back) (subst (λ (n : ℕ). list_any (λ y. key y == n) back ≡ false) (sym begin) path.last)) path.once;
      };
      has = or_left (j == j) (has_stream j back) (eq-eqb j j refl);
      others = ((λ ne u f. absurd (ne refl)), facts.1);
    }
