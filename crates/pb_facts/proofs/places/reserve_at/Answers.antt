use Rattle.std.proofs.Common.{arith, sym}
use Rattle.pb_facts.proofs.TransferLemmas.{room_after, same_after}
use Rattle.pb_facts.proofs.places.reserve_at.Goals as goal

pub returns-clause-same : goal.returns-clause-same
returns-clause-same c =
    let updates = (c.get_mut.follows.holds c.reserve.new.self).3 c.requires in
    same_after c.args.transfers.now (c.get_mut.follows.lender c.reserve.new.self) c.args.key c.unwrap.result.now c.reserve.new.self (sym (rw c.unwrap.ensures at c.get_mut.ensures.value)) c.reserve.ensures.items updates.0

pub returns-clause-others : goal.returns-clause-others
returns-clause-others c =
    let updates = (c.get_mut.follows.holds c.reserve.new.self).3 c.requires in
    room_after c.args.transfers.now (c.get_mut.follows.lender c.reserve.new.self) c.args.key c.unwrap.result.now c.reserve.new.self (sym (rw c.unwrap.ensures at c.get_mut.ensures.value))
    (λ room. omega (arith, c.reserve.ensures.len, c.reserve.ensures.capacity, room)) updates.0
