use Rattle.std.proofs.Common.{◌≡◌, ◌∙◌, ℕ, ◌<◌, List, length, get_or, sym, ap, subst, arith}
use Rattle.std.proofs.lemmas.List.{get_or-map}
use Rattle.pb_classify.specs.Tables.{PointTable, tree_at, number_of}
use Rattle.pb_classify.proofs.points.Points.label.Goals as goal

-- a label is the number of an entry
pub returns-clause-within : goal.returns-clause-within
returns-clause-within c =
    let w = c.self.inside.walk in
    let n = c.args.node in
    let label = c.index.result.now in
    let lt : n < length w.numbers = subst (λ (t : PointTable). n < length t.walk.numbers) (sym c.self.view_is) c.requires in
    let few : tree_at w (number_of w n) < length w.numbers = c.self.invariant.few_labels n lt in
    let is : label ≡ tree_at w (number_of w n) =
    c.index.ensures ∙ ap (λ (l : List ℕ). get_or l n label) c.self.invariant.each_label ∙ get_or-map (tree_at w) w.numbers n 0 label lt in
    subst (λ (t : PointTable). label < length t.walk.numbers) c.self.view_is (omega (arith, is, few))
