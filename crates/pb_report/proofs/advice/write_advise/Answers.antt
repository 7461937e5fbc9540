use Rattle.std.specs.Prelude.{All}
use Rattle.std.proofs.Common.{◌<◌, ℕ, subst, sym}
use Rattle.std.proofs.lemmas.List.Elements.{All-weaker}
use Rattle.pb_rows.specs.declared.name.Names.{Names}
use Rattle.pb_graph.specs.declared.records.Step.{Step}
use Rattle.pb_graph.specs.ProcessGraph.{ProcessGraph}
use Rattle.pb_advise.specs.declared.advice.Meter.{Meter}
use Rattle.pb_advise.specs.Advice.{IsMeterWithin}
use Rattle.pb_report.specs.Given.{IsNamedMeter}
use Rattle.pb_report.specs.Names.{IsNamed}
use Rattle.pb_report.proofs.advice.write_advise.Goals as goal

-- a meter of the graph refers only to streams that have names
named_meter : (names : Names) (graph : ProcessGraph) (meter : Meter) → IsNamed names graph → IsMeterWithin graph meter → IsNamedMeter names meter
named_meter names graph meter named within = record {
  stream = subst (λ (n : ℕ). meter.stream < n) (sym named.streams) within.stream;
  steps = subst (λ (n : ℕ). All (λ (step : Step). step.stream < n) meter.steps) (sym named.streams) within.steps;
}

pub write_meters-requires : goal.write_meters-requires
write_meters-requires c =
    let names = c.args.names.now in
    let it = c.requires in
    subst (All (IsNamedMeter names)) (sym c.as_slice.ensures)
    (All-weaker (IsMeterWithin it.graph) (IsNamedMeter names) (λ meter. named_meter names it.graph meter it.named) c.args.advice.now.meter it.within.meters)
