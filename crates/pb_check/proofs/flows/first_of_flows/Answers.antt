use Rattle.std.proofs.Common.{◌∙◌, ℤ, List, map, All, sym, ap, subst, arith}
use Rattle.pb_fixed.specs.Sums.{item}
use Rattle.pb_study.specs.declared.results.StreamResult.{StreamResult}
use Rattle.pb_graph.specs.Prices.{IsInBox}
use Rattle.pb_gap.specs.Gap.{standard_deviations_of}
use Rattle.pb_check.specs.declared.faults.Test.TheVariants.{Box}
use Rattle.pb_check.proofs.StateLemmas.{measured}
use Rattle.pb_check.proofs.flows.first_of_flows.Goals as goal

pub write_dual_flows-requires-clause-in_box : goal.write_dual_flows-requires-clause-in_box
write_dual_flows-requires-clause-in_box c =
    subst (λ (prices : List ℤ). All (IsInBox (item prices)) c.args.stage.now.graph.streams) (sym c.as_slice-2.ensures) (c.requires.earlier Box (omega arith))

pub new-pair-requires-clause-measured : goal.new-pair-requires-clause-measured
new-pair-requires-clause-measured c =
    let stage = c.args.stage.now in
    measured stage c.deref.result.now c.deref-3.result.now c.streams-streams.ensures.limits c.requires.formed
    (c.deref.ensures.value ∙ c.in_ok-roots.ensures ∙ ap standard_deviations_of c.streams-streams.ensures.value)
    (c.deref-3.ensures.value ∙ c.in_ok-flows.ensures ∙ ap (map (λ (r : StreamResult). r.flow)) c.as_slice.ensures)
