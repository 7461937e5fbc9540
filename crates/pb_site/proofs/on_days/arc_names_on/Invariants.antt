use Rattle.std.proofs.Common.{◌≡◌, filter, map, take}
use Rattle.pb_site.specs.declared.declared.Arc.{Arc}
use Rattle.pb_site.specs.OnDays.{is_arc_in_service}
use Rattle.pb_site.specs.Site.{arcs_of}
use Rattle.pb_site.proofs.on_days.arc_names_on.Given as goal

abbrev pub invariant-loop-place : goal.invariant-loop-place
invariant-loop-place l = l.names ≡ map (λ (arc : Arc). arc.name) (filter (is_arc_in_service l.first l.last) (take l.place (arcs_of l.site)))
