use Rattle.std.proofs.Common.{◌≡◌, ◌∙◌, ap}
use Rattle.pb_book.specs.Rows.{declared_of, periods_of}
use Rattle.pb_book.proofs.WindowPlantLemmas.{asked_names, asked_window_is, made_kept, named_kept}
use Rattle.pb_book.proofs.book.Book.window.Goals as goal

pub returns-in-Ok-clause-value : goal.returns-in-Ok-clause-value
returns-in-Ok-clause-value c =
    let rows = c.args.self.now in
    let site : c.self.inside.site ≡ declared_of rows = c.self.invariant.parts.site ∙ ap declared_of c.self.view_is in
    let periods : c.self.inside.periods ≡ periods_of rows = c.self.invariant.parts.spans ∙ ap periods_of c.self.view_is in
    let made = made_kept rows c.self.inside.site c.self.inside.periods c.deref.result.now c.in_ok-places.places.items c.in-Ok.window site periods c.deref.ensures.value
    (c.in-Ok.ensures.answer (λ is. cc is)) in
    asked_window_is rows c.args.first c.args.last c.requires c.in_ok-places.places.items c.in-Ok.window c.in_ok-places.ensures.value made

pub returns-in-Ok-clause-there : goal.returns-in-Ok-clause-there
returns-in-Ok-clause-there c =
    let rows = c.args.self.now in
    let site : c.self.inside.site ≡ declared_of rows = c.self.invariant.parts.site ∙ ap declared_of c.self.view_is in
    let periods : c.self.inside.periods ≡ periods_of rows = c.self.invariant.parts.spans ∙ ap periods_of c.self.view_is in
    asked_names rows c.args.first c.args.last c.in_ok-places.places.items c.in-Ok.window c.in_ok-places.ensures.value
    (named_kept rows c.self.inside.site c.self.inside.periods c.deref.result.now c.in_ok-places.places.items c.in-Ok.window site periods c.deref.ensures.value c.in-Ok.ensures.places)
