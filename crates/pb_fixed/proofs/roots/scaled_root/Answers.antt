use Rattle.std.proofs.Common.{◌≡◌, ℤ, pos, ◌<ℤ◌, ◌^◌, rules, sym, subst, to_z, of_z}
use mir.Syntax.{w128}
use Rattle.pb_fixed.specs.Roots.{scaled_root_of}
use Rattle.pb_fixed.proofs.RootLaws.{scaled_root_is, scaled_root_width}
use Rattle.pb_fixed.proofs.roots.scaled_root.Goals as goal

pub returns-clause-width : goal.returns-clause-width
returns-clause-width c less =
    let value : to_z w128 (of_z w128 c.from.result) ≡ scaled_root_of c.args.v = search rules in
    subst (λ (r : ℤ). r <ℤ pos (2 ^ 63)) (sym value) (scaled_root_width c.args.v (scaled_root_of c.args.v) (scaled_root_is c.args.v c.requires.least) less)
