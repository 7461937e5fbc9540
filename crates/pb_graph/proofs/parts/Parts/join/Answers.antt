use Rattle.std.proofs.Common.{◌≡◌, ◌∙◌, List, ℕ, length, drop, ap, sym, subst, arith}
use Rattle.std.proofs.lemmas.List.{take_at}
use Rattle.pb_graph.specs.Parts.{IsLabelling}
use Rattle.pb_graph.specs.Labels.{joined}
use Rattle.pb_graph.proofs.PartLemmas.{labels_joined}
use Rattle.pb_graph.proofs.parts.Parts.join.Goals as goal

-- the vector has what the slice over it has
pub returns-clause-joined : goal.returns-clause-joined
returns-clause-joined c = λ streams may more j one is.
    let labels = c.args.self.now in
    let s = c.args.stream.now in
    let new = c.join.new.labels in
    let was : c.as_mut_slice.result.now ≡ labels = c.as_mut_slice.ensures.value ∙ c.self.view_is in
    let made : new ≡ joined labels s.from s.to = c.join.ensures.labels ∙ ap (λ (l : List ℕ). joined l s.from s.to) was in
    let size : length new ≡ c.self.inside.labels.len = omega (arith, c.join.auto.labels, c.as_mut_slice.ensures.len) in
    let whole = take_at new (drop (length new) c.self.inside.labels.items) c.self.inside.labels.len size in
    rw whole (subst (λ (l : List ℕ). IsLabelling streams (length labels) more l) (sym made) (labels_joined streams (length labels) may more labels j s c.requires one is))
