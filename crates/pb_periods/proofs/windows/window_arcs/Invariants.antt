use Rattle.std.proofs.Common.{◌≡◌, ◌++◌, drop, map}
use Rattle.pb_site.specs.Site.{arcs_of}
use Rattle.pb_periods.specs.Windows.{window_arc}
use Rattle.pb_periods.proofs.windows.window_arcs.Given as goal

-- the arcs so far and the remaining ones are all
abbrev pub invariant-loop-place : goal.invariant-loop-place
invariant-loop-place l = l.arcs.items ++ map (window_arc l.version) (drop l.place (arcs_of l.site)) ≡ map (window_arc l.version) (arcs_of l.site)
