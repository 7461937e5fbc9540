use Rattle.std.proofs.Common.{◌∙◌, ℤ, Option, subst, sym, ap, List, ap₂}
use Rattle.pb_graph.specs.ProcessGraph.{ProcessGraph}
use Rattle.std.specs.Prelude.{IfSome}
use Rattle.pb_graph.specs.Squares.{AreSquaresAtLeast, AreSquaresAtMost, whole_flows}
use Rattle.pb_gap.specs.Statistic.{statistic_of}
use Rattle.pb_gap.specs.State.{State, IsState, gap_in}
use Rattle.pb_gap.proofs.StateLaws.{state_high, state_low}
use Rattle.pb_gap.proofs.solver.Solver.statistic.Goals as goal

pub returns-clause-value : goal.returns-clause-value
returns-clause-value c =
    let s = c.self.inside.iterate in
    c.statistic.ensures.value
    ∙ ap₂ (λ (g : ProcessGraph) (flows : List ℤ). statistic_of g.streams flows c.self.inside.gap) c.pair.ensures.graph c.pair.ensures.flows
    ∙ ap (statistic_of s.graph.streams s.flows) c.self.invariant.measure.value
    ∙ ap (λ (s : State). statistic_of s.graph.streams s.flows (gap_in s)) c.self.view_is

pub returns-clause-low : goal.returns-clause-low
returns-clause-low c x balanced =
    subst (λ (r : ℤ × Option ℤ). AreSquaresAtLeast c.args.self.now.graph x r.0) (sym (returns-clause-value c))
    (state_low c.args.self.now x (subst IsState c.self.view_is c.self.invariant.is) balanced)

pub returns-clause-high : goal.returns-clause-high
returns-clause-high c =
    let g = c.args.self.now.graph in
    let flows = whole_flows c.args.self.now.flows in
    subst (λ (r : ℤ × Option ℤ). IfSome r.1 (AreSquaresAtMost g flows)) (sym (returns-clause-value c))
    (state_high c.args.self.now (subst IsState c.self.view_is c.self.invariant.is))
