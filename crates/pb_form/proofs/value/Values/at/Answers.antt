use Rattle.std.proofs.Common.{◌<◌, length, arith}
use Rattle.std.proofs.lemmas.Option.{slice_get_past}
use Rattle.pb_form.proofs.SaidLemmas.{count_said, said_at}
use Rattle.pb_form.proofs.value.Values.at.Goals as goal

pub returns-then-place-self : goal.returns-then-place-self
returns-then-place-self c =
    let has : c.args.place < length c.self.inside.fields = omega (arith, c.self.invariant, c.if-place-self.true) in
    rw (← c.self.view_is, c.at.ensures) (said_at c.self.inside.columns.now c.self.inside.fields c.args.place _ c.if-place-self.true has)

pub returns-else-place-self : goal.returns-else-place-self
returns-else-place-self c =
    let count = count_said c.self.inside.columns.now c.self.inside.fields c.self.invariant in
    rw (← c.self.view_is) (slice_get_past _ c.args.place (omega (arith, count, c.if-place-self.false)))
