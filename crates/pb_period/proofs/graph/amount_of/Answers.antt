use Rattle.std.specs.Prelude.{option_and_then, if◌then◌else◌}
use Rattle.std.proofs.Common.{◌≡◌, ◌∙◌, ℕ, List, Option, Some, slice_get, unwrap_or, ap, None}
use Rattle.pb_strap.specs.declared.strap.Point.{Point}
use Rattle.pb_site.specs.declared.declared.Arc.{Arc}
use Rattle.pb_site.specs.declared.declared.ArcKind.TheVariants.{Tank}
use Rattle.pb_site.specs.declared.declared.Declared.{Declared}
use Rattle.pb_site.specs.Site.{arcs_of, points_of_tank, table_of_arc}
use Rattle.pb_book.specs.Rows.{declared_of}
use Rattle.pb_period.proofs.graph.amount_of.Goals as goal
use Rattle.pb_site.specs.Row.{is_inventory}
use Rattle.pb_site.specs.declared.declared.ArcKind.{ArcKind}

-- the table of a tank's arc is that of the tank
table_at : (declared : List Declared) (j : ℕ) (arc : Arc) → slice_get (arcs_of declared) j ≡ Some arc → arc.kind ≡ Tank
    → option_and_then (table_of_arc declared) (slice_get (arcs_of declared) j) ≡ Some (points_of_tank declared arc.name)
table_at declared j arc at tank = ap (option_and_then (table_of_arc declared)) at ∙ ap (λ (kind : ArcKind). if is_inventory kind then Some (points_of_tank declared arc.name) else None) tank

pub returns-in_err-strap-in-Tank-clause-value : goal.returns-in_err-strap-in-Tank-clause-value
returns-in_err-strap-in-Tank-clause-value c =
    let table = table_at (declared_of c.args.book.now) c.args.j c.args.arc.now c.requires.place c.in-Tank.is in
    let none = rw c.site.ensures.value at c.in_err-strap-in-Tank.ensures in
    absurd (cc (none, table))

pub returns-in_ok-strap-in-Tank-clause-value : goal.returns-in_ok-strap-in-Tank-clause-value
returns-in_ok-strap-in-Tank-clause-value c =
    let table = table_at (declared_of c.args.book.now) c.args.j c.args.arc.now c.requires.place c.in-Tank.is in
    let some = rw c.site.ensures.value at c.in_ok-strap-in-Tank.ensures in
    let points : c.in_ok-strap-in-Tank.field-0.now ≡ points_of_tank (declared_of c.args.book.now) c.args.arc.now.name = ap (λ (o : Option (List Point)). unwrap_or o c.in_ok-strap-in-Tank.field-0.now) (some ∙ table) in
    rw c.in-Tank.is (rw (c.facts-in-Tank.ensures.value, points) at c.change.ensures.value)
