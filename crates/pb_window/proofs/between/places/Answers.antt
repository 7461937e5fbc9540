use Rattle.std.proofs.Common.{◌≡◌, List, ℕ, subst}
use Rattle.pb_plan.specs.declared.names.WindowPlace.{WindowPlace}
use Rattle.pb_plan.specs.Places.{window_places}
use Rattle.pb_site.specs.Site.{names_of}
use Rattle.pb_periods.specs.declared.period.Period.{Period}
use Rattle.pb_periods.specs.Windows.{names_of_periods}
use Rattle.pb_book.specs.Rows.{declared_of}
use Rattle.pb_book.specs.Windows.{OfEnds}
use Rattle.pb_period.specs.WindowGraph.{periods_at}
use Rattle.pb_window.specs.Between.{places_between}
use Rattle.pb_window.proofs.WindowedLemmas.{ok_so, places_are, window_at}
use Rattle.pb_window.proofs.between.places.Goals as goal

pub places_of-requires-clause-named : goal.places_of-requires-clause-named
places_of-requires-clause-named c =
    let at = window_at c.args.book.now c.args.first c.args.last c.in_ok-periods.periods.items c.in_ok-window.window c.requires c.in_ok-periods.ensures.value c.in_ok-periods.ensures.few
    c.in_ok-window.ensures.value c.in_ok-window.ensures.form c.in_ok-window.ensures.names c.in_ok-window.ensures.there in
    rw c.deref.ensures.value at.named

pub returns : goal.returns
returns c =
    let rows = c.args.book.now in
    let first = c.args.first in
    let last = c.args.last in
    let window = c.in_ok-window.window in
    let at = window_at rows first last c.in_ok-periods.periods.items window c.requires c.in_ok-periods.ensures.value c.in_ok-periods.ensures.few
    c.in_ok-window.ensures.value c.in_ok-window.ensures.form c.in_ok-window.ensures.names c.in_ok-window.ensures.there in
    ok_so c.places_of.result (λ (places : List WindowPlace). places ≡ window_places (names_of (declared_of rows)) (names_of_periods (periods_at rows c.deref.result.now)) window)
    (λ (places : List WindowPlace). OfEnds rows first last (λ (one other : Period). places ≡ places_between rows one other)) c.places_of.ensures
    (λ places is. places_are rows first last c.in_ok-periods.periods.items window places at
    (subst (λ (l : List ℕ). places ≡ window_places (names_of (declared_of rows)) (names_of_periods (periods_at rows l)) window) c.deref.ensures.value is))
