use Rattle.std.proofs.Common.{◌≡◌, ◌∙◌, Some, sym}
use Rattle.std.proofs.lemmas.Option.{get_or_from_slice_get}
use Rattle.pb_facts.specs.Facts.{live_place_of}
use Rattle.pb_facts.proofs.ChangeLemmas.{fit_at, misfit_at, only_live, unknown_id}
use Rattle.pb_facts.proofs.facts.Facts.judge_amend.Goals as goal

pub returns-in-None : goal.returns-in-None
returns-in-None c = sym (unknown_id c.args.id.now c.args.change.now c.args.self.now (sym c.find.ensures.value ∙ c.in-None.is))

pub returns-then-fits : goal.returns-then-fits
returns-then-fits c =
    let kept = c.self.inside.shelf.facts in
    let item = c.at.result in
    let at : live_place_of c.args.id.now kept ≡ Some c.in-Some.place = rw (← c.self.view_is) at (sym c.in-Some.ensures.value) in
    let only = only_live c.args.id.now kept c.in-Some.place item c.self.invariant.no_repeats at in
    let is = sym (get_or_from_slice_get kept c.in-Some.place item item c.at.ensures) in
    rw (← c.self.view_is) (sym (fit_at c.args.id.now c.args.change.now kept c.in-Some.place item only is (sym c.fits.ensures ∙ c.if-fits.true)))

pub returns-else-fits : goal.returns-else-fits
returns-else-fits c =
    let kept = c.self.inside.shelf.facts in
    let item = c.at.result in
    let at : live_place_of c.args.id.now kept ≡ Some c.in-Some.place = rw (← c.self.view_is) at (sym c.in-Some.ensures.value) in
    let only = only_live c.args.id.now kept c.in-Some.place item c.self.invariant.no_repeats at in
    let is = sym (get_or_from_slice_get kept c.in-Some.place item item c.at.ensures) in
    rw (← c.self.view_is) (sym (misfit_at c.args.id.now c.args.change.now kept c.in-Some.place item only is (sym c.fits.ensures ∙ c.if-fits.false)))
