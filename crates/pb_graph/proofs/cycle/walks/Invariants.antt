use Rattle.std.proofs.Common.{drop}
use Rattle.pb_graph.specs.Walk.{ends_of, any_stream, Walks}
use Rattle.pb_graph.proofs.cycle.walks.Given as goal

-- the whole is a walk exactly when the steps left are a walk from here
abbrev pub invariant-loop-step : goal.invariant-loop-step
invariant-loop-step l = record {
  there : Walks (ends_of any_stream l.streams) l.from l.steps l.to → Walks (ends_of any_stream l.streams) l.at (drop l.step-index l.steps) l.to;
  back : Walks (ends_of any_stream l.streams) l.at (drop l.step-index l.steps) l.to → Walks (ends_of any_stream l.streams) l.from l.steps l.to;
}
