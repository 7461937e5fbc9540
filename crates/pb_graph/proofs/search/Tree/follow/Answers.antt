use Rattle.std.proofs.Common.{arith, rules}
use Rattle.pb_graph.proofs.SearchLemmas.{room_left}
use Rattle.pb_graph.proofs.search.Tree.follow.Goals as goal

-- if a node isn't found, the order has room
pub hang-requires-clause-order : goal.hang-requires-clause-order
hang-requires-clause-order c =
    let tree = c.requires.tree in
    let room = room_left c.args.self.now.place c.end_from-other.result (search rules) (search rules) in
    omega (arith, room, tree.room, tree.orders)
