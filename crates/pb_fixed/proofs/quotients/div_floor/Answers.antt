use Rattle.std.proofs.Common.{◌≡◌, ℤ, rules, subst, sym, to_z, of_z}
use mir.Syntax.{w128}
use Rattle.pb_fixed.specs.Quotients.{IsFloor, floor_div}
use Rattle.pb_fixed.proofs.QuotientLaws.{floor_is}
use Rattle.pb_fixed.proofs.quotients.div_floor.Goals as goal

pub returns-clause-floor : goal.returns-clause-floor
returns-clause-floor c =
    let value : to_z w128 (of_z w128 c.div_euclid.result) ≡ floor_div c.args.n c.args.d = search rules in
    subst (λ (q : ℤ). IsFloor c.args.n c.args.d q) (sym value) (floor_is c.args.n c.args.d c.requires)
