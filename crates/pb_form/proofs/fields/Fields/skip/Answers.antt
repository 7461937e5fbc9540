use Rattle.std.proofs.Common.{◌≡◌, ◌≤◌, take, drop, arith}
use Rattle.pb_form.proofs.ListLemmas.{length_part, part_skipped}
use Rattle.pb_form.proofs.fields.Fields.skip.Goals as goal

pub returns : goal.returns
returns c =
    let count = length_part c.self.inside.row.now c.self.inside.start c.self.inside.len c.self.invariant.0 in
    let fields : take c.self.inside.len (drop c.self.inside.start c.self.inside.row.now) ≡ c.args.self.now = c.self.view_is in
    let within : c.args.start ≤ c.self.inside.len = omega (arith, c.requires, rw fields at count) in
    rw (← fields) (part_skipped c.self.inside.row.now c.self.inside.start c.self.inside.len c.args.start within)
