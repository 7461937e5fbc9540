use Rattle.std.proofs.Common.{rules, ◌≡◌, ◌∙◌, Bool, true, false, List, ap, sym, subst, inl, inr}
use Rattle.std.proofs.lemmas.Bool.{cases_Bool}
use Rattle.pb_graph.specs.declared.records.Class.{Class}
use Rattle.pb_graph.specs.declared.records.Witness.TheVariants.{Cut}
use Rattle.pb_graph.specs.Walk.{is_in}
use Rattle.pb_graph.specs.Boundary.{boundary_of}
use Rattle.pb_classify.specs.Classification.{IsClassified}
use Rattle.pb_classify.proofs.ItemLemmas.{determined_item}
use Rattle.pb_classify.proofs.classes.classified.Goals as goal

pub free_stream-requires-clause-joined : goal.free_stream-requires-clause-joined
free_stream-requires-clause-joined c =
    let joined : c.is_apart.result ≡ false = search rules in
    c.is_apart.ensures.joined joined c.stream-stream.result c.stream-stream.ensures

pub returns : goal.returns
returns c =
    let g = c.args.graph.now in
    let s = c.stream-stream.result in
    let side = c.in_ok-side.side in
    let members = c.in_ok-members.members in
    let reach = c.in_ok-side.ensures s c.stream-stream.ensures in
    let cut : c.is_apart.result ≡ true = search rules in
    let apart = c.is_apart.ensures.apart cut s c.stream-stream.ensures in
    let out : is_in side s.to ≡ false = elim (cases_Bool (is_in side s.to)) [
      | inl inside ↦ absurd (apart (reach.reached s.to inside))
      | inr outside ↦ outside
    ] in
    let whole : members ≡ boundary_of side g.streams = c.in_ok-members.ensures ∙ ap (λ (b : List Bool). boundary_of b g.streams) c.as_slice.ensures in
    subst (λ (class : Class). IsClassified g c.args.j (record { class = class; witness = Cut side members })) (sym c.determined_class.ensures)
    (determined_item g c.args.forest.now.held c.args.j s side members c.requires.limits c.requires.forest.marks c.stream-stream.ensures reach out whole)
