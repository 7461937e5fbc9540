use Rattle.std.proofs.Common.{◌≡◌, ◌++◌, drop}
use Rattle.std.specs.List.{enumerate_from, flat_map}
use Rattle.pb_plan.specs.Window.{contents_of_arc, window_contents}
use Rattle.pb_plan.proofs.contents.push_contents.Given as goal

-- the contents of the arcs so far are at the end
abbrev pub invariant-loop-j : goal.invariant-loop-j
invariant-loop-j l =
    l.fn.streams.items ++ window_contents l.arcs l.nodes l.spans
    ≡ l.streams.items ++ flat_map (contents_of_arc l.nodes l.spans) (enumerate_from l.j (drop l.j l.arcs))
