use Rattle.std.proofs.Common.{◌≡◌, ◌∷◌, List, Option, Some, None, true, ap, sym, subst, refl, ◌∙◌}
use Rattle.std.specs.Prelude.{IsSome, MatchOption}
use Rattle.std.proofs.lemmas.Result.{IfOk-weaker}
use Rattle.pb_graph.specs.declared.records.Step.{Step}
use Rattle.pb_graph.specs.ProcessGraph.{ProcessGraph}
use Rattle.pb_graph.specs.Walk.{ends_of, Reaches}
use Rattle.pb_graph.specs.Path.{IsPath, is_open}
use Rattle.pb_forest.specs.Forest.{held_ends}
use Rattle.pb_classify.specs.Certificate.{IsCycleOf}
use Rattle.pb_classify.proofs.cycles.cycle_of.Goals as goal

there : (P : Type 0) (Q : List Step → Type 0) (o : Option (List Step)) → MatchOption o (P → ⊥) Q → P → IsSome o
there P Q None apart joined = absurd (apart joined)
there P Q (Some steps) path joined = refl

-- held streams join the ends
pub unwrap-back-requires : goal.unwrap-back-requires
unwrap-back-requires c =
    let held = c.args.forest.now.held in
    let s = c.stream-stream.result in
    let h = c.args.forest.now.graph in
    there (Reaches (held_ends c.args.forest.now) s.to s.from) (λ back. IsPath (held_ends c.args.forest.now) h.nodes h.streams s.to back s.from) _
    c.in_ok-path.ensures.path (subst (λ (h : ProcessGraph). Reaches (ends_of (is_open held) h.streams) s.to s.from) (sym c.requires.forest.graph) (c.requires.joined s c.stream-stream.ensures))

pub returns : goal.returns
returns c =
    let g = c.args.graph.now in
    let held = c.args.forest.now.held in
    let s = c.stream-stream.result in
    let there = rw c.unwrap-back.ensures at c.in_ok-path.ensures in
    let path : IsPath (ends_of (is_open held) g.streams) g.nodes g.streams s.to c.unwrap-back.result s.from =
    subst (λ (h : ProcessGraph). IsPath (ends_of (is_open held) h.streams) h.nodes h.streams s.to c.unwrap-back.result s.from) c.requires.forest.graph there.path in
    let round : List Step → List Step = λ back. record { stream = c.args.j; forward = true } ∷ back in
    IfOk-weaker c.forward_then.result (λ steps. steps ≡ round c.as_slice.result.now) (IsCycleOf g held c.args.j) (λ steps e. record {
      s = s;
      at = c.stream-stream.ensures;
      outside = c.requires.outside;
      back = c.unwrap-back.result;
      path = path;
      round = e ∙ ap round c.as_slice.ensures;
    }) c.forward_then.ensures
