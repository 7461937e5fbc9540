use Rattle.std.proofs.Common.{◌∙◌, subst}
use Rattle.pb_graph.specs.ProcessGraph.{ProcessGraph}
use Rattle.pb_gap.specs.State.{price_in}
use Rattle.pb_gap.specs.Solution.{IsSolution}
use Rattle.pb_stage.proofs.EndLemmas.{end_pair}
use Rattle.pb_stage.proofs.measures.solved_ends.Goals as goal

pub returns : goal.returns
returns c =
    let s = c.solve.new.self in
    let solution = subst (λ (g : ProcessGraph). IsSolution g c.args.gap c.args.sweeps c.solve.result (price_in s) s.flows) c.in_ok-solver.ensures.graph c.solve.ensures.solution in
    end_pair c.args.graph.now c.args.gap c.args.sweeps c.solve.result s c.statistic.result (c.solve.ensures.graph ∙ c.in_ok-solver.ensures.graph) solution
    c.statistic.ensures.value c.statistic.ensures.low_within c.statistic.ensures.high_within
