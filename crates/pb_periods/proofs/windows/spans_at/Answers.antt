use Rattle.std.specs.Prelude.{All}
use Rattle.std.proofs.Common.{◌≡◌, ◌∙◌, ◌++◌, [], ◌∷◌, List, ap, subst, sym}
use Rattle.std.proofs.lemmas.List.Elements.{All-push}
use Rattle.pb_plan.specs.declared.plant.Span.{Span}
use Rattle.pb_plan.specs.Plant.{IsSpan}
use Rattle.pb_periods.specs.Windows.{span_of_period}
use Rattle.pb_periods.proofs.WindowPlantLemmas.{spans_next, spans_of}
use Rattle.pb_periods.proofs.windows.spans_at.Goals as goal

pub loop-place-preserved : goal.loop-place-preserved
loop-place-preserved c =
    let periods = c.args.periods.now in
    let places = c.args.places.now in
    let made = c.loop-place.spans.items in
    let period = c.at.result in
    let items : c.push.new.self.items ≡ made ++ span_of_period period ∷ [] = c.in_ok-push.ensures.items ∙ ap (λ (span : Span). made ++ span ∷ []) c.span_of_period.ensures in
    record {
      value = spans_next periods places c.loop-place.place-index period made c.push.new.self.items (spans_of periods places) c.loop-place-test.true c.at.ensures.value
          c.loop-place.invariant.value items;
      spans = subst (All IsSpan) (sym items) (All-push IsSpan made (span_of_period period) c.loop-place.invariant.spans c.at.ensures.days.begins);
    }
