use Rattle.std.proofs.Common.{◌∙◌, ◌<◌, arith, length}
use Rattle.std.proofs.lemmas.List.{length-map}
use Rattle.pb_limits.specs.Limits.{most_facts}
use Rattle.pb_facts.specs.Fact.{id_of}
use Rattle.pb_facts.specs.Shelf.{kept_of}
use Rattle.pb_facts.proofs.ShelfLemmas.{Tells, any_under, facts_more, shelf_more}
use Rattle.pb_facts.proofs.shelf.Shelf.push.Goals as goal

pub put_entry-requires-clause-new : goal.put_entry-requires-clause-new
put_entry-requires-clause-new c =
    rw (c.id.ensures, c.in_ok-reserve-2.ensures.entries) (any_under (id_of c.args.fact.now) c.self.inside.names.keys c.self.inside.entries.entries ∙ rw (← c.self.view_is) at c.requires.new)

pub invariant_of-self-2 : goal.invariant_of-self-2
invariant_of-self-2 c =
    let names = c.self.inside.names.keys in
    let entries = c.self.inside.entries.entries in
    let tells : Tells c.args.fact.now c.of.result c.name_number-name.result = record { told = c.of.ensures.told; name = c.of.ensures.name; live = c.of.ensures.live } in
    let at = rw (c.name_number-name.ensures.names, c.in_ok-reserve.ensures.keys, c.stream_or_tank.ensures) at c.name_number-name.ensures.number in
    let room : length entries < most_facts = let long = length-map entries (kept_of names) in let view = rw (← c.self.view_is) at c.requires.room in omega (arith, long, view) in
    rw (c.put_entry.ensures, c.in_ok-reserve-2.ensures.entries, c.id.ensures, c.name_number-name.ensures.names, c.in_ok-reserve.ensures.keys, c.stream_or_tank.ensures)
    (shelf_more names entries c.args.fact.now c.of.result c.name_number-name.result c.self.invariant tells at room)

pub returns-clause-pushed : goal.returns-clause-pushed
returns-clause-pushed c =
    let names = c.self.inside.names.keys in
    let entries = c.self.inside.entries.entries in
    let tells : Tells c.args.fact.now c.of.result c.name_number-name.result = record { told = c.of.ensures.told; name = c.of.ensures.name; live = c.of.ensures.live } in
    let at = rw (c.name_number-name.ensures.names, c.in_ok-reserve.ensures.keys, c.stream_or_tank.ensures) at c.name_number-name.ensures.number in
    rw (← c.self.view_is, c.put_entry.ensures, c.in_ok-reserve-2.ensures.entries, c.id.ensures, c.name_number-name.ensures.names, c.in_ok-reserve.ensures.keys, c.stream_or_tank.ensures)
    (facts_more names entries c.args.fact.now c.of.result c.name_number-name.result c.self.invariant tells at)
