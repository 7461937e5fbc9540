use Rattle.std.proofs.Common.{◌≡◌, ◌∙◌, ℕ, List, [], ◌∷◌, ◌++◌, length, Some, slice_get, append_assoc, sym, ap, subst, arith}
use Rattle.std.specs.Vec.Iter.{into_iter_items}
use Rattle.pb_graph.specs.declared.records.Classified.{Classified}
use Rattle.pb_graph.specs.ProcessGraph.{ProcessGraph}
use Rattle.pb_classify.specs.Classification.{IsClassified, IsClassification}
use Rattle.pb_elim.specs.Results.{IsResultOf, AreResultsOf}
use Rattle.pb_elim.proofs.StageLemmas.{at_end, results_more}
use Rattle.pb_elim.proofs.stages.stream_results.Goals as goal

class_at : (g : ProcessGraph) (classes before rest : List Classified) (x : Classified) (k : ℕ) → IsClassification g classes → before ++ x ∷ rest ≡ classes → length before ≡ k → IsClassified g k x
class_at g classes before rest x k is whole end =
    is.right k x (ap (λ (xs : List Classified). slice_get xs k) (sym whole) ∙ subst (λ (i : ℕ). slice_get (before ++ x ∷ rest) i ≡ Some x) end (at_end before x rest))

-- the stream at hand has the class at hand
pub stream_result-requires-clause-classified : goal.stream_result-requires-clause-classified
stream_result-requires-clause-classified c =
    let at = c.loop-classified in
    let x = c.in-Some.classified in
    let steps : into_iter_items at.classified-iterator ≡ x ∷ into_iter_items c.next.new.self = c.in-Some.ensures.steps.0 in
    let all = rw steps at at.invariant.whole in
    let whole : at.yielded ++ x ∷ into_iter_items c.next.new.self ≡ c.args.classes = all ∙ c.into_iter-classified-iterator.ensures.into_iter_gives.0 ∙ c.into_vec-classified-items.ensures in
    class_at c.args.solver.now.graph c.args.classes at.yielded (into_iter_items c.next.new.self) x c.len-stream.result c.requires.classes whole
    (sym at.invariant.so_far.each ∙ sym c.len-stream.ensures)

-- one more stream has its result
pub loop-classified-preserved : goal.loop-classified-preserved
loop-classified-preserved c =
    let at = c.loop-classified in
    let s = c.args.solver.now in
    let x = c.in-Some.classified in
    let r = c.in_ok-stream_result.field-0 in
    let steps : into_iter_items at.classified-iterator ≡ x ∷ into_iter_items c.next.new.self = c.in-Some.ensures.steps.0 in
    let here : IsResultOf s (length at.results) x r = subst (λ (k : ℕ). IsResultOf s k x r) c.len-stream.ensures c.in_ok-stream_result.ensures in
    record {
      whole = append_assoc at.yielded (x ∷ []) _ ∙ rw (← steps) at.invariant.whole;
      remaining =
          let was = at.invariant.remaining in
          let gone = c.in-Some.ensures.steps.1 in
          let short = ap length steps in
          omega arith;
      so_far = subst (AreResultsOf s (at.yielded ++ x ∷ [])) (sym c.in_ok-push.ensures.ok) (results_more s at.yielded at.results x r at.invariant.so_far here);
    }
