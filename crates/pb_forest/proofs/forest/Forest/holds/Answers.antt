use Rattle.std.proofs.Common.{◌∙◌, get_or, ap, subst}
use Rattle.pb_forest.specs.Forest.{SpanningForest, IsForest}
use Rattle.pb_forest.proofs.HoldsLemmas.{mark_is, held_exactly}
use Rattle.pb_forest.proofs.forest.Forest.holds.Goals as goal

pub returns-clause-held : goal.returns-clause-held
returns-clause-held c =
    let forest = subst (λ (f : SpanningForest). IsForest f.graph.streams f.held) c.self.view_is c.self.invariant.forest in
    let is = c.index.ensures ∙ ap (λ (f : SpanningForest). get_or f.held c.args.stream c.index.result.now) c.self.view_is in
    held_exactly c.args.self.now.graph.streams c.args.self.now.held c.args.stream c.index.result.now forest c.requires is

pub returns-clause-mark : goal.returns-clause-mark
returns-clause-mark c =
    let forest = subst (λ (f : SpanningForest). IsForest f.graph.streams f.held) c.self.view_is c.self.invariant.forest in
    let is = c.index.ensures ∙ ap (λ (f : SpanningForest). get_or f.held c.args.stream c.index.result.now) c.self.view_is in
    mark_is c.args.self.now.graph.streams c.args.self.now.held c.args.stream c.index.result.now forest c.requires is
