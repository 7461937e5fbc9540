use Rattle.std.proofs.Common.{◌≡◌, Some, sym}
use Rattle.std.proofs.lemmas.Option.{get_or_from_slice_get}
use Rattle.pb_facts.specs.Facts.{live_place_of}
use Rattle.pb_facts.proofs.ChangeLemmas.{kept_struck_item, only_live, set_struck}
use Rattle.pb_facts.proofs.facts.Facts.strike.Goals as goal

pub invariant_of-self : goal.invariant_of-self
invariant_of-self c =
    let kept = c.self.inside.shelf.facts in
    let item = c.at-fact.result in
    let at : live_place_of c.args.id.now kept ≡ Some c.in-Some.place = rw (← c.self.view_is) at (sym c.in-Some.ensures.value) in
    let only = only_live c.args.id.now kept c.in-Some.place item c.self.invariant.no_repeats at in
    let is = sym (get_or_from_slice_get kept c.in-Some.place item item c.at-fact.ensures) in
    rw (c.strike.ensures.facts item, c.strike.ensures.names, set_struck c.args.id.now kept c.in-Some.place item only)
    (kept_struck_item c.args.id.now kept c.self.inside.shelf.names c.self.inside.places c.forget.new.self c.number_of-number.result c.in-Some.place item only is c.self.invariant c.forget.ensures
    (rw c.stream_or_tank.ensures at (sym c.number_of-number.ensures)))

pub returns-in-Some : goal.returns-in-Some
returns-in-Some c =
    let kept = c.self.inside.shelf.facts in
    let item = c.at-fact.result in
    let at : live_place_of c.args.id.now kept ≡ Some c.in-Some.place = rw (← c.self.view_is) at (sym c.in-Some.ensures.value) in
    let only = only_live c.args.id.now kept c.in-Some.place item c.self.invariant.no_repeats at in
    rw (← c.self.view_is, c.strike.ensures.facts item) (set_struck c.args.id.now kept c.in-Some.place item only)
