use Rattle.std.proofs.Common.{◌∙◌, ℤ, ap, subst, Option}
use Rattle.pb_graph.specs.ProcessGraph.{ProcessGraph}
use Rattle.pb_gap.specs.Gap.{gap_of}
use Rattle.pb_gap.specs.State.{price_in}
use Rattle.pb_gap.specs.Solution.{IsSolution}
use Rattle.pb_gap.specs.Statistic.{high_of, low_of}
use Rattle.number_tests.proofs.statistics.solved_ends.Goals as goal

pub returns : goal.returns
returns c =
    let s = c.solve-solved.new.self in
    let same = c.solve-solved.ensures.graph ∙ c.in_ok-solver.ensures.graph in
    let value = c.statistic.ensures.value in
    record {
      solved = c.solve-solved.result;
      price = price_in s;
      flows = s.flows;
      solution = subst (λ (g : ProcessGraph). IsSolution g 10 5000 c.solve-solved.result (price_in s) s.flows) c.in_ok-solver.ensures.graph c.solve-solved.ensures.solution;
      is_low = ap (λ (p : ℤ × Option ℤ). p.0) value ∙ ap (λ (h : ProcessGraph). low_of h.streams s.flows (gap_of (price_in s) h.streams s.flows)) same;
      is_high = ap (λ (p : ℤ × Option ℤ). p.1) value ∙ ap (λ (h : ProcessGraph). high_of h.streams s.flows) same;
    }
