use Rattle.std.proofs.Common.{◌∙◌, subst, sym, ap, ap₂}
use Rattle.pb_study.specs.declared.results.Bounds.{Bounds}
use Rattle.pb_graph.specs.ProcessGraph.{ProcessGraph}
use Rattle.pb_gap.specs.Gap.{Gap}
use Rattle.pb_gap.specs.Bounds.{AreSigned, IsWithin, bounds_of}
use Rattle.pb_gap.specs.State.{State, IsState, gap_in, price_in}
use Rattle.pb_gap.proofs.StateLaws.{state_enclosed}
use Rattle.pb_gap.proofs.solver.Solver.bounds.Goals as goal

pub bounds-requires-clause-members : goal.bounds-requires-clause-members
bounds-requires-clause-members c =
    subst (λ (g : ProcessGraph). AreSigned g c.args.members.now) (sym (c.pair.ensures.graph ∙ ap (λ (s : State). s.graph) c.self.view_is)) c.requires

pub returns-clause-value : goal.returns-clause-value
returns-clause-value c =
    let s = c.self.inside.iterate in
    let ms = c.args.members.now in
    c.bounds.ensures.value (price_in s) c.pair.ensures.prices
    ∙ ap₂ (λ (g : ProcessGraph) (gap : Gap). bounds_of (price_in s) g.streams gap ms) c.pair.ensures.graph c.self.invariant.measure.value
    ∙ ap (λ (s : State). bounds_of (price_in s) s.graph.streams (gap_in s) ms) c.self.view_is

pub returns-clause-enclosure : goal.returns-clause-enclosure
returns-clause-enclosure c x balanced no_worse =
    subst (λ (b : Bounds). IsWithin x c.args.members.now b) (sym (returns-clause-value c))
    (state_enclosed c.args.self.now x c.args.members.now (subst IsState c.self.view_is c.self.invariant.is) balanced no_worse c.requires)
