-- Each stream of a stage of a study has least bounds if it has bounds.
use Rattle.std.proofs.Common.{◌≡◌, ◌∙◌, List, take, Option, Some, None, get_or, refl, sym, ap}
use Rattle.std.specs.Prelude.{is_some, option_map}
use Rattle.std.proofs.lemmas.Option.{slice_get-get_or}
use Rattle.pb_graph.specs.declared.records.Member.{Member}
use Rattle.pb_study.specs.declared.results.Bounds.{Bounds}
use Rattle.pb_study.specs.declared.results.Stage.{Stage}
use Rattle.pb_study.specs.declared.results.Options.{Options}
use Rattle.pb_graph.specs.ProcessGraph.{ProcessGraph}
use Rattle.pb_gap.specs.Bounds.{bounds_of}
use Rattle.pb_gap.specs.StreamBounds.{sum_for}
use Rattle.pb_gap.specs.LeastBounds.{least_bounds_of}
use Rattle.pb_stage.specs.Printed.{printed_price, printed_flows, printed_gap}
use Rattle.pb_elim.specs.Reconciled.{IsReconciled}
use Rattle.pb_elim.specs.Study.{without_taken}
use Rattle.pb_stage.specs.Certified.{HasLeastThroughout}
use Rattle.pb_elim.specs.Laws.{LeastThroughoutLaw}
use Rattle.pb_elim.proofs.ReconciledLemmas.{parts_of}

both_or_none : (f g : List Member → Bounds) (o : Option (List Member)) → is_some (option_map f o) ≡ is_some (option_map g o)
both_or_none f g None = refl
both_or_none f g (Some members) = refl

stage_throughout : (g : ProcessGraph) (options : Options) (stage : Stage) → IsReconciled g options stage → HasLeastThroughout stage
stage_throughout g options stage is = λ j r at.
    let price = printed_price stage in
    let gap = printed_gap stage in
    let same = both_or_none (least_bounds_of price g.streams (printed_flows stage) gap) (bounds_of price g.streams gap) (sum_for j r.classified.class r.classified.witness) in
    ap (λ (o : Option Bounds). is_some o) (is.least j r at) ∙ same ∙ sym (ap (λ (o : Option Bounds). is_some o) (is.bounds j r at))

pub least_throughout : LeastThroughoutLaw
least_throughout graph options critical study is = λ k d lt.
    let stage = get_or study.stages k d in
    let g = without_taken graph (take k study.taken) in
    stage_throughout g options stage (parts_of g options stage (is.rounds.each k stage (slice_get-get_or study.stages k d lt)).reconciled)
