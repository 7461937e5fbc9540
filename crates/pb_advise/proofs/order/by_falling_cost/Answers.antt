use Rattle.pb_advise.proofs.OrderLemmas.{sorted_is}
use Rattle.pb_advise.proofs.order.by_falling_cost.Goals as goal

pub returns : goal.returns
returns c = sorted_is c.args.costs.now c.args.streams.now c.in_ok-list.list.items c.sort.new.self.items c.requires.each c.requires.costs c.in_ok-list.ensures c.sort.ensures.permutation c.in_ok-sort.ensures.sorted
