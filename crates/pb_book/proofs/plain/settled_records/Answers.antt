use Rattle.std.specs.Prelude.{take}
use Rattle.std.proofs.Common.{◌≡◌, ◌+◌, List, suc, arith, subst, sym}
use Rattle.std.proofs.lemmas.List.{take_all}
use Rattle.pb_book.specs.declared.rows.Place.{Place}
use Rattle.pb_kinds.specs.declared.rows.Effect.{Effect}
use Rattle.pb_book.specs.Kept.{settled_at}
use Rattle.pb_book.specs.Written.{WriteRows}
use Rattle.pb_book.proofs.RecordLemmas.{adds, settled_more}
use Rattle.pb_book.proofs.plain.settled_records.Goals as goal

pub loop-i-preserved : goal.loop-i-preserved
loop-i-preserved c =
    let declared = c.args.declared.now in
    let periods = c.args.periods.now in
    let assays = c.args.assays.now in
    let places = c.args.places.now in
    let next : c.loop-i.i + 1 ≡ suc c.loop-i.i = omega arith in
    let more = adds c.loop-i.records c.push_settled.new.records (settled_at declared periods assays (take c.loop-i.i places)) _ c.loop-i.invariant c.in_ok-push_settled.ensures in
    rw next (subst (λ (rows : List Effect). WriteRows c.push_settled.new.records rows) (sym (settled_more declared periods assays places c.loop-i.i _ c.loop-i-test.true)) more)

pub returns : goal.returns
returns c =
    subst (λ (ps : List Place). WriteRows c.loop-i.records (settled_at c.args.declared.now c.args.periods.now c.args.assays.now ps))
    (take_all c.loop-i.i c.args.places.now c.loop-i-test.false) c.loop-i.invariant
