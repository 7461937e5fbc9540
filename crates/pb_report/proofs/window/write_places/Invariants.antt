use Rattle.std.proofs.Common.{map, drop}
use Rattle.pb_report.specs.Output.{IsUnderWay}
use Rattle.pb_report.specs.Window.{place_row}
use Rattle.pb_report.proofs.window.write_places.Given as goal

abbrev pub invariant-loop-place : goal.invariant-loop-place
invariant-loop-place l = IsUnderWay l.fn.output l.output (map place_row l.places) (map place_row (drop l.place-index l.places))
