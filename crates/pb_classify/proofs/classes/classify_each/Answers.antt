use Rattle.std.proofs.Common.{◌≡◌, ◌≢◌, ◌∙◌, ℕ, List, [], ◌∷◌, ◌++◌, length, None, slice_get, ap, sym, subst, arith, length-append}
use Rattle.std.proofs.lemmas.List.{get_or-set_other}
use Rattle.pb_graph.specs.declared.records.Classified.{Classified}
use Rattle.pb_classify.specs.Chords.{IsFirstBefore}
use Rattle.pb_classify.specs.Classification.{IsClassified}
use Rattle.pb_classify.proofs.ItemLemmas.{items_more}
use Rattle.pb_classify.proofs.classes.classify_each.Goals as goal

-- one more stream is classified, and no later one has lost its cycle
pub loop-j-preserved : goal.loop-j-preserved
loop-j-preserved c =
    let g = c.args.graph.now in
    let held = c.args.forest.now.held in
    let so_far = c.loop-j.invariant in
    let classes = c.loop-j.classes in
    let item = c.in_ok-classified.field-0 in
    let put : c.push.new.self ≡ classes ++ item ∷ [] = c.in_ok-push.ensures.ok in
    let here : IsClassified g (length classes) item = subst (λ (i : ℕ). IsClassified g i item) (sym so_far.each) c.in_ok-classified.ensures in
    record {
      each = omega (arith, ap length put, length-append classes (item ∷ []), so_far.each);
      right = λ k d at. items_more g classes item so_far.right here k d (ap (λ (xs : List Classified). slice_get xs k) (sym put) ∙ at);
      left = λ k le lt.
          let other : k ≢ c.loop-j.j = λ e. omega (arith, e, le) in
          subst (IsFirstBefore g held (length g.streams) k) (sym (get_or-set_other c.loop-j.cycles c.loop-j.j k c.take-first.new.self None other)) (so_far.left k (omega (arith, le)) lt);
    }
