use Rattle.std.specs.Prelude.{All}
use Rattle.std.proofs.Common.{◌≡◌, ◌++◌, drop}
use Rattle.pb_plan.specs.Plant.{IsSpan}
use Rattle.pb_periods.proofs.WindowPlantLemmas.{spans_of}
use Rattle.pb_periods.proofs.windows.spans_at.Given as goal

-- the spans so far and the remaining ones are all
abbrev pub invariant-loop-place : goal.invariant-loop-place
invariant-loop-place l = record {
  value : l.spans.items ++ spans_of l.periods (drop l.place-index l.places) ≡ spans_of l.periods l.places;
  spans : All IsSpan l.spans.items;
}
