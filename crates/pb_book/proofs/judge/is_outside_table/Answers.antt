use Rattle.std.specs.Prelude.{is_none, is_some, not, option_and_then}
use Rattle.std.proofs.Common.{◌≡◌, List, Option, Some, None, Bool, true, false, ℤ, FitsSigned, refl, rules}
use mir.Syntax.{w64}
use Rattle.std.proofs.lemmas.Int.{to_z-of_z}
use Rattle.pb_strap.specs.declared.strap.Point.{Point}
use Rattle.pb_strap.specs.Table.{volume_of}
use Rattle.pb_site.specs.Site.{table_of}
use Rattle.pb_book.proofs.judge.is_outside_table.Goals as goal

-- a table has no volume at a level iff the look-up gives none
outside : (table : List Point) (found : Option (List Point)) (mm : ℤ) (volume : Option ℤ) (none : Bool) → Some table ≡ found → volume ≡ volume_of table mm → is_some volume ≡ not none
    → none ≡ is_none (option_and_then (λ (points : List Point). volume_of points mm) found)
outside table found mm volume none there value is = rw (← there, ← value) (by volume none is)
  where
    by : (o : Option ℤ) (b : Bool) → is_some o ≡ not b → b ≡ is_none o
    by None true is = refl
    by None false is = cc is
    by (Some v) true is = cc is
    by (Some v) false is = refl

pub returns-in-Some : goal.returns-in-Some
returns-in-Some c =
    let fits : FitsSigned w64 c.in-Dip.mm = search rules in
    let value = simp to_z-of_z at c.volume.ensures.value in
    rw c.in-Dip.is (outside c.in-Some.table.now (table_of c.args.site.now c.in-Dip.tank) c.in-Dip.mm c.volume.result c.is_none.result c.in-Some.ensures value c.is_none.ensures)
