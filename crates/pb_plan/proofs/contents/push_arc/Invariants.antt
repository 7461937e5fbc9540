use Rattle.std.proofs.Common.{◌≡◌, ◌+◌, ◌-◌, ◌++◌, length}
use Rattle.std.specs.List.{filter_map, range_with_len}
use Rattle.pb_plan.specs.Window.{content_after}
use Rattle.pb_plan.proofs.contents.push_arc.Given as goal

-- the contents so far are at the end
abbrev pub invariant-loop-period : goal.invariant-loop-period
invariant-loop-period l =
    l.fn.streams.items ++ filter_map (content_after l.nodes l.spans (l.number, l.arc)) (range_with_len 0 (length l.spans + 1))
    ≡ l.streams.items ++ filter_map (content_after l.nodes l.spans (l.number, l.arc)) (range_with_len l.period (length l.spans + 1 - l.period))
