use Rattle.std.specs.Prelude.{◌≡◌, ℤ, Option, is_some, IfSome}
use Rattle.std.proofs.Common.{subst, sym, rules, ap, ◌∙◌}
use Rattle.pb_limits.specs.Ranges.{IsVolume}
use Rattle.pb_strap.specs.Table.{IsExactAtPoints, IsLinear, volume_of}
use Rattle.pb_strap.specs.Kept.{IsTable}
use Rattle.pb_strap.proofs.TableLemmas.{is_exact_at_points, is_linear, none-outside, outside-none, volume_of-width}
use Rattle.pb_strap.proofs.strap.Strap.volume.Goals as goal

pub returns-clause-outside : goal.returns-clause-outside
returns-clause-outside c =
    let points = c.args.self.now in
    let table : IsTable points = subst IsTable c.self.view_is c.self.invariant in
    let value : c.volume_at.result ≡ volume_of points c.args.mm = search rules in
    (λ none. none-outside points c.args.mm table.rising (ap is_some (sym value) ∙ none), λ out. ap is_some value ∙ outside-none points c.args.mm table.rising out)

pub returns-clause-at_points : goal.returns-clause-at_points
returns-clause-at_points c =
    let points = c.args.self.now in
    let table : IsTable points = subst IsTable c.self.view_is c.self.invariant in
    let value : c.volume_at.result ≡ volume_of points c.args.mm = search rules in
    subst (IsExactAtPoints points c.args.mm) (sym value) (is_exact_at_points points c.args.mm table.rising)

pub returns-clause-linear : goal.returns-clause-linear
returns-clause-linear c =
    let points = c.args.self.now in
    let table : IsTable points = subst IsTable c.self.view_is c.self.invariant in
    let value : c.volume_at.result ≡ volume_of points c.args.mm = search rules in
    subst (IsLinear points c.args.mm) (sym value) (is_linear points c.args.mm table.rising)

pub returns-clause-within : goal.returns-clause-within
returns-clause-within c =
    let points = c.args.self.now in
    let table : IsTable points = subst IsTable c.self.view_is c.self.invariant in
    let value : c.volume_at.result ≡ volume_of points c.args.mm = search rules in
    subst (λ (o : Option ℤ). IfSome o IsVolume) (sym value) (volume_of-width points c.args.mm table)
