use Rattle.std.proofs.Common.{◌≡◌, ◌∙◌, ℕ, List, IfOk, ap, subst}
use Rattle.pb_rows.specs.declared.name.Names.{Names}
use Rattle.pb_plan.specs.declared.names.WindowPlace.{WindowPlace}
use Rattle.pb_plan.specs.Places.{window_places}
use Rattle.pb_site.specs.Site.{names_of}
use Rattle.pb_book.specs.Rows.{declared_of}
use Rattle.pb_window.proofs.between.places_of.Goals as goal

pub returns : goal.returns
returns c =
    let plant_is : c.in_ok-plant.plant ≡ names_of (declared_of c.args.book.now) = c.in_ok-plant.ensures.ok ∙ ap names_of c.site.ensures.value in
    let places : Names → List (List ℕ) → Type 0 =
    λ plant periods. IfOk c.window_places.result (λ (places : List WindowPlace). places ≡ window_places plant periods c.args.window.now) in
    subst (places (names_of (declared_of c.args.book.now))) c.in_ok-periods.ensures (subst (λ (plant : Names). places plant c.in_ok-periods.periods) plant_is c.window_places.ensures)
