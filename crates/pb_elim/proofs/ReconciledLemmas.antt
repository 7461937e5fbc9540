-- The reconciliation of a graph by its numbers, and by the rule of each.
use Rattle.std.proofs.Common.{sym, subst}
use Rattle.pb_study.specs.declared.results.Stage.{Stage}
use Rattle.pb_study.specs.declared.results.Options.{Options}
use Rattle.pb_graph.specs.ProcessGraph.{ProcessGraph}
use Rattle.pb_gap.specs.Gap.{IsGap, deviations_of}
use Rattle.pb_gap.proofs.GapLaws.{gaps}
use Rattle.pb_stage.specs.Printed.{printed_flows, printed_gap, printed_price}
use Rattle.pb_elim.specs.Stage.{IsReconciliationOf}
use Rattle.pb_elim.specs.Reconciled.{IsReconciled}

pub parts_of : (g : ProcessGraph) (options : Options) (stage : Stage) → IsReconciliationOf g options stage → IsReconciled g options stage
parts_of g options stage is =
    let own = subst (λ (h : ProcessGraph). IsReconciliationOf h options stage) (sym is.graph_is) is in
    let deviations = deviations_of (printed_price stage) stage.graph.streams (printed_flows stage) in
    let parts : IsReconciled stage.graph options stage = record {
      graph_is = own.graph_is;
      classes = own.classes;
      priced = own.priced;
      solution = own.solution;
      gap = gaps.only deviations (printed_gap stage) own.numbers.deviation;
      bounds = own.numbers.bounded;
      least = own.least;
      freedom = own.numbers.freedom;
      low = own.numbers.from_below;
      high = own.numbers.from_above;
    } in
    subst (λ (h : ProcessGraph). IsReconciled h options stage) is.graph_is parts

pub whole_of : (g : ProcessGraph) (options : Options) (stage : Stage) → IsReconciled g options stage → IsReconciliationOf g options stage
whole_of g options stage is =
    let own = subst (λ (h : ProcessGraph). IsReconciled h options stage) (sym is.graph_is) is in
    let deviations = deviations_of (printed_price stage) stage.graph.streams (printed_flows stage) in
    let whole : IsReconciliationOf stage.graph options stage = record {
      graph_is = own.graph_is;
      classes = own.classes;
      priced = own.priced;
      solution = own.solution;
      numbers = record {
        deviation = subst (IsGap deviations) (sym own.gap) (gaps.is deviations);
        bounded = own.bounds;
        least_bounded = λ has. own.least;
        freedom = own.freedom;
        from_below = own.low;
        from_above = own.high;
      };
      least = own.least;
    } in
    subst (λ (h : ProcessGraph). IsReconciliationOf h options stage) is.graph_is whole
