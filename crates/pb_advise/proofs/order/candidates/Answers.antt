use Rattle.std.proofs.Common.{◌≡◌, ◌∙◌, rules, ◌+◌, List, get_or, slice_get, Some, ap, not, subst, sym}
use Rattle.std.proofs.lemmas.Option.{slice_get-get_or}
use Rattle.pb_graph.specs.declared.records.Stream.{Stream}
use Rattle.pb_graph.specs.ProcessGraph.{some_stream}
use Rattle.pb_advise.specs.Order.{AreCandidates, Candidate}
use Rattle.pb_advise.proofs.OrderLemmas.{take_one, pass_one}
use Rattle.pb_advise.proofs.order.candidates.Goals.{then-is_none+in_ok-push, else-is_none}
use Rattle.pb_advise.proofs.order.candidates.Goals as goal

pub loop-j-preserved : goal.loop-j-preserved
loop-j-preserved c =
    let ss = c.args.streams.now in
    let costs = c.args.costs.now in
    let j = c.loop-j.j in
    let s : Stream = get_or ss j some_stream in
    let at : slice_get ss j ≡ Some s = slice_get-get_or ss j some_stream c.loop-j-test.true in
    elim c.if-is_none.branch [
      | then-is_none+in_ok-push w ↦
          rw w.list-is (subst (λ (l : List Candidate). AreCandidates costs ss (j + 1) l) (sym w.in_ok-push.ensures.items)
          (take_one costs ss j s c.loop-j.list.items w.abs_diff.result at (c.is_none.ensures ∙ ap not w.if-is_none.true) (search rules) c.loop-j.invariant))
      | else-is_none w ↦ rw w.list-is (pass_one costs ss j s c.loop-j.list.items at (c.is_none.ensures ∙ ap not w.if-is_none.false) c.loop-j.invariant)
    ]
