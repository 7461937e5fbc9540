use Rattle.std.proofs.Common.{◌≤◌, ℤ, List, unsigned_abs, sym, subst}
use Rattle.std.specs.Prelude.{All}
use Rattle.pb_dual.specs.DualValue.{most_dual_flow}
use Rattle.pb_dual.proofs.DualLaws.{kept_small}
use Rattle.pb_dual.proofs.dual.Dual.dual_flows.Goals as goal

pub returns-clause-within : goal.returns-clause-within
returns-clause-within c =
    let i = c.self.inside in
    let h = c.self.invariant in
    subst (λ (us : List ℤ). All (λ u. unsigned_abs u ≤ most_dual_flow) us) (sym c.as_slice.ensures.value)
    (kept_small (record { graph = i.graph.now; group = i.group.items; prices = i.prices.items }) i.flows.items h.priced h.kept)
