use Rattle.std.proofs.Common.{◌≡◌, map, take}
use Rattle.pb_study.specs.declared.results.StreamResult.{StreamResult}
use Rattle.pb_check.proofs.flows.printed_flows.Given as goal

-- the flows so far
abbrev pub invariant-loop-stream : goal.invariant-loop-stream
invariant-loop-stream l = l.flows.items ≡ map (λ (r : StreamResult). r.flow) (take l.stream-index l.streams)
