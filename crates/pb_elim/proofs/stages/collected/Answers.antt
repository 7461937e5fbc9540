use Rattle.std.proofs.Common.{◌∙◌, ℤ, Option, None, to_z, of_z, FitsSigned, refl, sym, ap, subst, rules}
use Rattle.std.specs.Int.{w128}
use Rattle.std.proofs.lemmas.Int.{to_z-of_z}
use Rattle.pb_study.specs.declared.results.Stage.{Stage}
use Rattle.pb_graph.specs.ProcessGraph.{ProcessGraph, IsProcessGraph}
use Rattle.pb_classify.specs.Classification.{IsClassification}
use Rattle.pb_gap.specs.State.{price_in}
use Rattle.pb_gap.specs.Solution.{IsSolution}
use Rattle.pb_elim.specs.Reconciled.{IsReconciled}
use Rattle.pb_elim.proofs.StageLemmas.{AreParts, stage_is, stage_formed}
use Rattle.pb_elim.proofs.stages.collected.Goals as goal

abbrev made : goal.After-dof → Stage
made c = record {
  graph = c.in_ok-copy.field-0;
  streams = c.in_ok-stream_results.field-0;
  prices = c.in_ok-node_prices.field-0;
  solved = c.args.solved;
  g = c.g.result;
  h = c.h.result;
  dof = c.dof.result;
  low = to_z w128 (of_z w128 c.statistic-low.result.0);
  high = c.statistic-low.result.1;
  tests = None;
}

parts : (c : goal.After-dof) → AreParts c.args.options.now c.args.solver.now c.args.classes (made c)
parts c =
    let s = c.args.solver.now in
    let options = c.args.options.now in
    let same = c.requires.graph in
    let fits : FitsSigned w128 c.statistic-low.result.0 = search rules in
    record {
      state = c.requires.state;
      graph = c.in_ok-copy.ensures ∙ sym same;
      classified = subst (λ (g : ProcessGraph). IsClassification g c.args.classes) (sym same) c.requires.classes;
      results = c.in_ok-stream_results.ensures;
      each = c.in_ok-node_prices.ensures.each ∙ c.nodes.ensures.value ∙ ap (λ (g : ProcessGraph). g.nodes) (sym same);
      price = c.in_ok-node_prices.ensures.value;
      solution = subst (λ (g : ProcessGraph). IsSolution g options.gap options.sweeps c.args.solved (price_in s) s.flows) (sym same) c.requires.solution;
      g = c.g.ensures.value;
      h = c.h.ensures.value;
      dof = c.dof.ensures.value;
      low = simp to_z-of_z (ap (λ (p : ℤ × Option ℤ). p.0) c.statistic-low.ensures.value);
      high = ap (λ (p : ℤ × Option ℤ). p.1) c.statistic-low.ensures.value;
    }

pub returns-clause-stage : goal.returns-clause-stage
returns-clause-stage c =
    subst (λ (g : ProcessGraph). IsReconciled g c.args.options.now (made c)) c.requires.graph (stage_is c.args.options.now c.args.solver.now c.args.classes (made c) (parts c))

pub returns-clause-graph : goal.returns-clause-graph
returns-clause-graph c = subst IsProcessGraph (c.requires.graph ∙ sym c.in_ok-copy.ensures) c.requires.state.limits

pub returns-clause-formed : goal.returns-clause-formed
returns-clause-formed c =
    let fits : FitsSigned w128 c.statistic-low.result.0 = search rules in
    stage_formed c.args.options.now c.args.solver.now c.args.classes (made c) c.requires.limits (parts c) (record {
      prices = c.in_ok-node_prices.ensures.within;
      g = c.g.ensures.most;
      h = c.h.ensures.most;
      low = simp to_z-of_z c.statistic-low.ensures.low_within;
      high = c.statistic-low.ensures.high_within;
      untested = refl;
    })
