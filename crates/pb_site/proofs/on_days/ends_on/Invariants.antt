use Rattle.std.proofs.Common.{filter, length, take}
use Rattle.pb_site.specs.Kept.{AreEnds}
use Rattle.pb_site.specs.OnDays.{is_arc_in_service}
use Rattle.pb_site.specs.Site.{arcs_of, node_names}
use Rattle.pb_site.proofs.on_days.ends_on.Given as goal

abbrev pub invariant-loop-place : goal.invariant-loop-place
invariant-loop-place l = AreEnds (length (node_names l.site)) (filter (is_arc_in_service l.first l.last) (take l.place (arcs_of l.site))) l.ends.items
