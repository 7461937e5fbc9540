use Rattle.std.proofs.Common.{◌≡◌, ◌∙◌, ◌++◌, List, Ok, ap, sym}
use Rattle.pb_plan.specs.declared.plant.PlantArc.{PlantArc}
use Rattle.pb_plan.specs.declared.window.WindowNode.{WindowNode}
use Rattle.pb_plan.specs.declared.window.WindowStream.{WindowStream}
use Rattle.pb_plan.specs.Window.{window_contents, window_flows, window_of}
use Rattle.pb_plan.proofs.JoinLemmas.{form_is}
use Rattle.pb_plan.proofs.NameLemmas.{names_are}
use Rattle.pb_plan.proofs.PlaceLemmas.{places_are}
use Rattle.pb_plan.proofs.ShapeLemmas.{fits_is, made, shape_is}
use Rattle.pb_plan.proofs.window.window_of.Goals.{Else-is_too_great}
use Rattle.pb_plan.proofs.window.window_of.Goals as goal

-- what is returned is the window of the definition
answer_is : (c : Else-is_too_great) → window_of c.args.plant.now c.args.spans.now ≡ Ok (made c.from_vec.result c.from_vec-2.result)
answer_is c =
    let plant = c.args.plant.now in
    let spans = c.args.spans.now in
    let nodes = c.in_ok-nodes.nodes.items in
    let window = made c.from_vec.result c.from_vec-2.result in
    let flows =
    c.in_ok-push_flows.ensures.value
    ∙ ap (λ (l : List WindowStream). l ++ window_flows c.as_slice.result.now c.deref.result.now spans) c.new-streams.ensures.items
    ∙ ap (λ (l : List PlantArc). window_flows l c.deref.result.now spans) c.as_slice.ensures
    ∙ ap (λ (l : List WindowNode). window_flows plant.arcs l spans) c.deref.ensures.value in
    let contents =
    c.in_ok-push_contents.ensures
    ∙ ap (λ (l : List WindowStream). l ++ window_contents c.as_slice-2.result.now c.deref-2.result.now spans) flows
    ∙ ap (λ (l : List PlantArc). window_flows plant.arcs nodes spans ++ window_contents l c.deref-2.result.now spans) c.as_slice-2.ensures
    ∙ ap (λ (l : List WindowNode). window_flows plant.arcs nodes spans ++ window_contents plant.arcs l spans) c.deref-2.ensures.value in
    let own = sym c.from_vec.ensures in
    let streams = c.from_vec-2.ensures ∙ contents ∙ ap (λ (l : List WindowNode). window_flows plant.arcs l spans ++ window_contents plant.arcs l spans) own in
    let shape = shape_is plant spans c.from_vec.result c.from_vec-2.result (c.from_vec.ensures ∙ c.in_ok-nodes.ensures.value) streams in
    sym (fits_is plant spans window shape (sym c.is_too_great.ensures ∙ c.if-is_too_great.false))

pub returns-clause-form : goal.returns-clause-form
returns-clause-form c = form_is c.args.plant.now c.args.spans.now (made c.from_vec.result c.from_vec-2.result) c.requires.plant (answer_is c)

pub returns-clause-names : goal.returns-clause-names
returns-clause-names c = names_are c.args.plant.now c.args.spans.now (made c.from_vec.result c.from_vec-2.result) c.requires.plant c.requires.few (answer_is c)

pub returns-clause-places : goal.returns-clause-places
returns-clause-places c = λ names periods.
    places_are c.args.plant.now c.args.spans.now (made c.from_vec.result c.from_vec-2.result) names periods (answer_is c)
