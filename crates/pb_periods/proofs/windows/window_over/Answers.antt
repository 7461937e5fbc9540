use Rattle.std.specs.Prelude.{filter_map, map, slice_get, IfOk}
use Rattle.std.proofs.Common.{◌∙◌, List, ap, ap₂, arith, length, subst}
use Rattle.std.proofs.lemmas.List.{length-map}
use Rattle.pb_plan.specs.declared.plant.Plant.{Plant}
use Rattle.pb_plan.specs.declared.plant.Span.{Span}
use Rattle.pb_plan.specs.Places.{IsNamedBy}
use Rattle.pb_plan.specs.Window.{window_of}
use Rattle.pb_periods.specs.Windows.{span_of_period}
use Rattle.pb_periods.proofs.WindowPlantLemmas.{as_many}
use Rattle.pb_periods.proofs.windows.window_over.Goals as goal

pub window_of-requires-clause-few : goal.window_of-requires-clause-few
window_of-requires-clause-few c =
    let periods = c.args.periods.now in
    let places = c.args.places.now in
    let spans = c.deref.ensures.value ∙ c.in_ok-spans.ensures.value in
    omega (arith, ap length spans, length-map (filter_map (slice_get periods) places) span_of_period, as_many periods places c.requires.there, c.requires.few)

pub returns-clause-answer : goal.returns-clause-answer
returns-clause-answer c = λ other. c.window_of.ensures.answer other ∙ ap₂ window_of c.in_ok-plant.ensures.value (c.deref.ensures.value ∙ c.in_ok-spans.ensures.value)

pub returns-clause-places : goal.returns-clause-places
returns-clause-places c =
    subst (λ (plant : Plant). IfOk c.window_of.result (IsNamedBy plant (map span_of_period (filter_map (slice_get c.args.periods.now) c.args.places.now)))) c.in_ok-plant.ensures.value
    (subst (λ (spans : List Span). IfOk c.window_of.result (IsNamedBy c.in_ok-plant.plant spans)) (c.deref.ensures.value ∙ c.in_ok-spans.ensures.value) c.window_of.ensures.places)
