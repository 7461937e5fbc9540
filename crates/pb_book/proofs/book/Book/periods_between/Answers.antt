use Rattle.std.proofs.Common.{◌≡◌, ◌∙◌, ap}
use Rattle.pb_book.specs.Rows.{periods_of}
use Rattle.pb_periods.specs.Windows.{periods_between}
use Rattle.pb_book.proofs.WindowPlantLemmas.{contains_at, ends_kept, few_between, no_gap_kept}
use Rattle.pb_periods.proofs.WindowPlantLemmas.{within_of}
use Rattle.pb_book.proofs.book.Book.periods_between.Goals as goal

pub places_between-requires-clause-first : goal.places_between-requires-clause-first
places_between-requires-clause-first c = contains_at c.self.inside.periods c.args.first c.at-one.result c.at-one.ensures.value

pub places_between-requires-clause-last : goal.places_between-requires-clause-last
places_between-requires-clause-last c = contains_at c.self.inside.periods c.args.last c.at-other.result c.at-other.ensures.value

pub returns-in-Some-clause-value : goal.returns-in-Some-clause-value
returns-in-Some-clause-value c =
    let is : c.self.inside.periods ≡ periods_of c.args.self.now = c.self.invariant.parts.spans ∙ ap periods_of c.self.view_is in
    let found = rw c.in-Some.is at c.in_ok-places.ensures in
    ends_kept c.args.self.now c.self.inside.periods c.args.first c.args.last c.at-one.result c.at-other.result c.in-Some.places.items is c.at-one.ensures.value c.at-other.ensures.value found.they_are

pub returns-in-Some-clause-few : goal.returns-in-Some-clause-few
returns-in-Some-clause-few c =
    let is : c.self.inside.periods ≡ periods_of c.args.self.now = c.self.invariant.parts.spans ∙ ap periods_of c.self.view_is in
    let found = rw c.in-Some.is at c.in_ok-places.ensures in
    let are = ends_kept c.args.self.now c.self.inside.periods c.args.first c.args.last c.at-one.result c.at-other.result c.in-Some.places.items is c.at-one.ensures.value c.at-other.ensures.value
    found.they_are in
    few_between c.args.self.now c.args.first c.args.last c.requires c.in-Some.places.items (are c.requires.one c.requires.other c.requires.first_is c.requires.last_is)

pub returns-in-Some-clause-within : goal.returns-in-Some-clause-within
returns-in-Some-clause-within c =
    let is : c.self.inside.periods ≡ periods_of c.args.self.now = c.self.invariant.parts.spans ∙ ap periods_of c.self.view_is in
    let found = rw c.in-Some.is at c.in_ok-places.ensures in
    let are = ends_kept c.args.self.now c.self.inside.periods c.args.first c.args.last c.at-one.result c.at-other.result c.in-Some.places.items is c.at-one.ensures.value c.at-other.ensures.value
    found.they_are in
    within_of (periods_of c.args.self.now) c.in-Some.places.items (periods_between (periods_of c.args.self.now) c.requires.one c.requires.other)
    (are c.requires.one c.requires.other c.requires.first_is c.requires.last_is)

pub returns-in-None-clause-value : goal.returns-in-None-clause-value
returns-in-None-clause-value c =
    let is : c.self.inside.periods ≡ periods_of c.args.self.now = c.self.invariant.parts.spans ∙ ap periods_of c.self.view_is in
    let gap = rw c.in-None.is at c.in_ok-places.ensures in
    absurd (no_gap_kept c.args.self.now c.self.inside.periods c.args.first c.args.last c.at-one.result c.at-other.result c.requires is c.at-one.ensures.value c.at-other.ensures.value gap)
