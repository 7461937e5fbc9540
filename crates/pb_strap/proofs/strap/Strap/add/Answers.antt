use Rattle.std.specs.Prelude.{length}
use Rattle.std.proofs.Common.{◌≡◌, ◌<◌, List, FitsSigned, true, subst, sym, to_z, of_z, arith}
use mir.Syntax.{w64}
use Rattle.std.proofs.lemmas.Int.{ints, to_z-of_z}
use Rattle.pb_limits.specs.Limits.{most_points}
use Rattle.pb_strap.specs.declared.strap.Point.{Point}
use Rattle.pb_strap.specs.Table.{rises}
use Rattle.pb_strap.specs.Kept.{IsPoint, IsTable}
use Rattle.pb_strap.proofs.TableLemmas.{table-push}
use Rattle.pb_strap.proofs.strap.Strap.add.Goals as goal

pub invariant_of-self-2 : goal.invariant_of-self-2
invariant_of-self-2 c =
    let points = c.self.inside.points.items in
    let p : Point = record { mm = to_z w64 (of_z w64 c.args.mm); ml = to_z w64 (of_z w64 c.args.ml) } in
    let grown = rw c.in_ok-push.was at c.push.ensures.items in
    let fits_mm : FitsSigned w64 c.args.mm = c.ranges.mm in
    let fits_ml : FitsSigned w64 c.args.ml = c.ranges.ml in
    let fits : IsPoint p = record {
      level = (omega (arith, ints, c.requires.level.0, c.requires.level.1), omega (arith, ints, c.requires.level.0, c.requires.level.1));
      volume = (omega (arith, ints, c.requires.volume.0, c.requires.volume.1), omega (arith, ints, c.requires.volume.0, c.requires.volume.1));
    } in
    let few : length points < most_points = rw (← c.self.view_is) at c.requires.room in
    let above : rises points p.mm p.ml ≡ true = subst (λ (l : List Point). rises l p.mm p.ml ≡ true) (sym c.self.view_is) (simp to_z-of_z c.requires.rising) in
    subst IsTable (sym grown) (table-push points p c.self.invariant fits few above)
