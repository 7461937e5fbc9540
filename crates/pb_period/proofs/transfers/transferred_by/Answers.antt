use Rattle.std.specs.Prelude.{not}
use Rattle.std.proofs.Common.{◌≡◌, Bool, true, false, FitsSigned, refl, rules, sym}
use mir.Syntax.{w32, w64, w128}
use Rattle.std.proofs.lemmas.Int.{to_z-of_z}
use Rattle.pb_rows.specs.Name.{same_name}
use Rattle.pb_period.proofs.transfers.transferred_by.Goals as goal

-- names that don't differ are the same
the_same : (differs same : Bool) → differs ≡ not same → differs ≡ false → same ≡ true
the_same differs true is none = refl
the_same differs false is none = cc (sym none, is)

pub returns-else-ne-clause-value : goal.returns-else-ne-clause-value
returns-else-ne-clause-value c =
    let first : FitsSigned w32 c.in-Transfer.first = search rules in
    let last : FitsSigned w32 c.in-Transfer.last = search rules in
    let grams : FitsSigned w64 c.in-Transfer.grams = search rules in
    let wide : FitsSigned w128 c.from.result = search rules in
    let variance : FitsSigned w128 c.in-Transfer.variance = search rules in
    let grams_is = simp to_z-of_z at c.from.ensures in
    let share = rw grams_is at (simp to_z-of_z at c.common_share.ensures.value) in
    let same : same_name c.in-Transfer.own c.args.stream.now ≡ true = the_same c.ne.result (same_name c.in-Transfer.own c.args.stream.now) c.ne.ensures c.if-ne.false in
    rw (c.in-Transfer.is, same) share
