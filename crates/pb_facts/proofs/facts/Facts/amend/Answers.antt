use Rattle.std.proofs.Common.{◌≡◌, ◌∙◌, Some, sym}
use Rattle.pb_facts.specs.Facts.{live_place_of}
use Rattle.pb_facts.proofs.ChangeLemmas.{kept_amended, only_live, set_amended, unknown_id}
use Rattle.pb_facts.proofs.PlaceLemmas.{no_fact}
use Rattle.pb_facts.proofs.facts.Facts.amend.Goals as goal

pub invariant_of-self : goal.invariant_of-self
invariant_of-self c =
    let kept = c.self.inside.shelf.facts in
    let at : live_place_of c.args.id.now kept ≡ Some c.in-Some.place = rw (← c.self.view_is) at (sym c.in-Some.ensures.value) in
    let only = only_live c.args.id.now kept c.in-Some.place no_fact c.self.invariant.no_repeats at in
    rw (c.change.ensures.facts no_fact, c.change.ensures.names, set_amended c.args.id.now c.args.change kept c.in-Some.place no_fact only)
    (kept_amended c.args.id.now c.args.change kept c.self.inside.shelf.names c.self.inside.places c.requires.in_range c.self.invariant)

pub returns-in-Some : goal.returns-in-Some
returns-in-Some c =
    let kept = c.self.inside.shelf.facts in
    let at : live_place_of c.args.id.now kept ≡ Some c.in-Some.place = rw (← c.self.view_is) at (sym c.in-Some.ensures.value) in
    let only = only_live c.args.id.now kept c.in-Some.place no_fact c.self.invariant.no_repeats at in
    rw (← c.self.view_is, c.change.ensures.facts no_fact) (set_amended c.args.id.now c.args.change kept c.in-Some.place no_fact only)

pub returns-in_default : goal.returns-in_default
returns-in_default c = cc (sym (unknown_id c.args.id.now c.args.change c.args.self.now (sym c.find.ensures.value ∙ c.in_default.is)) ∙ c.requires.no_fault)
