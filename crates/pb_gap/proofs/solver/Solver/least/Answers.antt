use Rattle.std.proofs.Common.{List, ℤ, ◌∙◌, subst, sym, ap, ap₂}
use Rattle.pb_study.specs.declared.results.Bounds.{Bounds}
use Rattle.pb_graph.specs.ProcessGraph.{ProcessGraph}
use Rattle.pb_gap.specs.Gap.{Gap}
use Rattle.pb_gap.specs.Bounds.{AreSigned, IsWithin}
use Rattle.pb_gap.specs.LeastBounds.{least_bounds_of}
use Rattle.pb_gap.specs.State.{State, IsState, gap_in, price_in}
use Rattle.pb_gap.proofs.HypercircleLemmas.{state_least}
use Rattle.pb_gap.proofs.solver.Solver.least.Goals as goal

pub least-requires-clause-members : goal.least-requires-clause-members
least-requires-clause-members c =
    subst (λ (g : ProcessGraph). AreSigned g c.args.members.now) (sym (c.pair.ensures.graph ∙ ap (λ (s : State). s.graph) c.self.view_is)) c.requires

pub returns-clause-value : goal.returns-clause-value
returns-clause-value c =
    let s = c.self.inside.iterate in
    let ms = c.args.members.now in
    c.least.ensures.value (price_in s) c.pair.ensures.prices
    ∙ ap₂ (λ (g : ProcessGraph) (flows : List ℤ). least_bounds_of (price_in s) g.streams flows c.self.inside.gap ms) c.pair.ensures.graph c.pair.ensures.flows
    ∙ ap (λ (gap : Gap). least_bounds_of (price_in s) s.graph.streams s.flows gap ms) c.self.invariant.measure.value
    ∙ ap (λ (s : State). least_bounds_of (price_in s) s.graph.streams s.flows (gap_in s) ms) c.self.view_is

pub returns-clause-least : goal.returns-clause-least
returns-clause-least c x least =
    subst (λ (b : Bounds). IsWithin x c.args.members.now b) (sym (returns-clause-value c))
    (state_least c.args.self.now x c.args.members.now (subst IsState c.self.view_is c.self.invariant.is) least c.requires)
