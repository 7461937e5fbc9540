use Rattle.std.proofs.Common.{arith}
use Rattle.pb_dual.specs.Priced.{Priced}
use Rattle.pb_graph.proofs.GroupLaws.{count_few}
use Rattle.pb_dual.proofs.dual.Dual.groups.Goals as goal

pub overflow_cast-result : goal.overflow_cast-result
overflow_cast-result c =
    let d : Priced = record { graph = c.self.inside.graph.now; group = c.self.inside.group.items; prices = c.self.inside.prices.items } in
    let h = c.self.invariant.priced in
    let few = count_few d.graph d.group h.groups in
    omega (arith, c.len.ensures, c.self.inside.prices.ok.0, h.each, few, h.limits.few_nodes)
