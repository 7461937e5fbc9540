use Rattle.std.proofs.Common.{◌≡◌, length}
use Rattle.pb_facts.proofs.PlaceLemmas.{kept_more, kept_same, new_id, room_for}
use Rattle.pb_facts.proofs.facts.Facts.add.Goals as goal

pub push-requires-clause-room : goal.push-requires-clause-room
push-requires-clause-room c = room_for c.self.inside.shelf.facts c.args.fact (rw (← c.self.view_is) at c.requires.no_fault)

pub push-requires-clause-new : goal.push-requires-clause-new
push-requires-clause-new c = new_id c.self.inside.shelf.facts c.args.fact (rw (← c.self.view_is) at c.requires.no_fault)

pub invariant_of-self-in_err-number : goal.invariant_of-self-in_err-number
invariant_of-self-in_err-number c =
    rw c.in_err-number.ensures.unchanged (kept_same c.self.inside.shelf.facts c.self.inside.shelf.names c.self.inside.places c.reserve.new.self c.self.invariant c.in_ok-reserve.ensures.same)

pub invariant_of-self-2 : goal.invariant_of-self-2
invariant_of-self-2 c =
    let place : c.len-place.result ≡ length c.self.inside.shelf.facts = c.len-place.ensures.value in
    let fine = rw (← c.self.view_is) at c.requires.no_fault in
    rw c.in_ok-number.ensures.pushed
    (kept_more c.self.inside.shelf.facts c.self.inside.shelf.names c.push.new.self.names c.self.inside.places c.reserve.new.self c.note.new.self c.args.fact c.in_ok-number.number c.len-place.result
    c.self.invariant c.in_ok-reserve.ensures.same c.note.ensures c.in_ok-number.ensures.named c.in_ok-number.ensures.number fine c.requires.in_range place)
