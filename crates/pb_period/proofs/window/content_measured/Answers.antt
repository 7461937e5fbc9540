use Rattle.std.specs.Prelude.{option_and_then, if◌then◌else◌}
use Rattle.std.specs.Option.{option_map}
use Rattle.std.proofs.Common.{◌≡◌, ◌∙◌, ℕ, List, Option, Some, None, FitsSigned, slice_get, sym, ap, arith}
use mir.Syntax.{w32, w128}
use Rattle.std.proofs.lemmas.Int.{ints, to_z-of_z}
use Rattle.pb_graph.specs.declared.records.Meas.{Meas}
use Rattle.pb_limits.specs.Ranges.{IsBaseVariance}
use Rattle.pb_strap.specs.declared.strap.Point.{Point}
use Rattle.pb_site.specs.declared.declared.Arc.{Arc}
use Rattle.pb_site.specs.declared.declared.ArcKind.{ArcKind}
use Rattle.pb_site.specs.declared.declared.ArcKind.TheVariants.{Metered, Batch, Plain, Tank}
use Rattle.pb_site.specs.declared.declared.Declared.{Declared}
use Rattle.pb_site.specs.Row.{IsArcBase, is_inventory}
use Rattle.pb_site.specs.Site.{arcs_of, table_of_arc, points_of_tank}
use Rattle.pb_facts.specs.Facts.{live_facts}
use Rattle.pb_book.specs.Rows.{declared_of, facts_of}
use Rattle.pb_period.specs.declared.amount.Amount.{Amount}
use Rattle.pb_period.specs.Measurement.{measurement}
use Rattle.pb_period.specs.WindowGraph.{held_at}
use Rattle.pb_period.proofs.window.content_measured.Goals as goal

-- an arc with a table is a tank's, which has a base variance
tank_base : (declared : List Declared) (arc : Arc) (points : List Point) → table_of_arc declared arc ≡ Some points → IsArcBase arc.kind arc.base → IsBaseVariance arc.base
tank_base declared arc points is base = by arc.kind is base
  where
    by : (kind : ArcKind) → (if is_inventory kind then Some (points_of_tank declared arc.name) else None) ≡ Some points → IsArcBase kind arc.base → IsBaseVariance arc.base
    by Metered has base = base
    by Batch has base = base
    by Plain has base = cc has
    by Tank has base = base

-- the table of an arc is that of its place
table_at : (declared : List Declared) (j : ℕ) (arc : Arc) (found : Option (List Point)) → slice_get (arcs_of declared) j ≡ Some arc
    → found ≡ option_and_then (table_of_arc declared) (slice_get (arcs_of declared) j) → table_of_arc declared arc ≡ found
table_at declared j arc found at is = sym (is ∙ ap (option_and_then (table_of_arc declared)) at)

pub returns-in_err-strap-clause-value : goal.returns-in_err-strap-clause-value
returns-in_err-strap-clause-value c =
    let declared = declared_of c.args.book.now in
    let arc = c.args.arc.now in
    let found = rw c.site.ensures.value at c.in_err-strap.ensures in
    let none : table_of_arc declared arc ≡ None = table_at declared c.args.j arc None c.requires.place found in
    c.from_residual.ensures
    ∙ sym (ap (λ (o : Option (List Point)). option_map (measurement arc.base) (option_and_then (held_at (live_facts (facts_of c.args.book.now)) arc.name c.args.day) o)) none)

pub measured-requires-clause-base : goal.measured-requires-clause-base
measured-requires-clause-base c =
    let declared = declared_of c.args.book.now in
    let arc = c.args.arc.now in
    let found = rw c.site.ensures.value at c.in_ok-strap.ensures in
    let base = tank_base declared arc _ (table_at declared c.args.j arc _ c.requires.place found) c.requires.base in
    let base_fits : FitsSigned w128 arc.base = omega (arith, ints, base.0, base.1) in
    simp to_z-of_z base

pub returns-clause-value : goal.returns-clause-value
returns-clause-value c =
    let declared = declared_of c.args.book.now in
    let arc = c.args.arc.now in
    let fits : FitsSigned w32 c.args.day = c.ranges.day in
    let found = rw c.site.ensures.value at c.in_ok-strap.ensures in
    let some = table_at declared c.args.j arc _ c.requires.place found in
    let base = tank_base declared arc _ some c.requires.base in
    let base_fits : FitsSigned w128 arc.base = omega (arith, ints, base.0, base.1) in
    let is = simp to_z-of_z at c.measured.ensures.value in
    let holds = rw c.facts.ensures.value at (simp to_z-of_z at c.in_ok-held.ensures.value) in
    ap (λ (m : Meas). Some m) is
    ∙ ap (option_map (measurement arc.base)) (holds ∙ sym (ap (option_and_then (held_at (live_facts (facts_of c.args.book.now)) arc.name c.args.day)) some))
