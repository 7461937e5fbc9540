use mir.Syntax.{w128}
use Rattle.std.proofs.lemmas.Int.{to_z-of_z}
use Rattle.pb_kinds.proofs.WrittenLemmas.{stream_is_given, written}
use Rattle.pb_kinds.proofs.writing.stream.Goals as goal

pub session_record-requires-clause-each : goal.session_record-requires-clause-each
session_record-requires-clause-each c =
    let it = stream_is_given c.args.kind c.name.result c.name-2.result c.name-3.result c.args.name.now c.args.from.now c.args.to.now c.args.base
    c.name.ensures.value c.name-2.ensures.value c.name-3.ensures.value c.name.ensures.form c.name-2.ensures.form c.name-3.ensures.form c.requires in
    rw c.stream_kind.ensures it.each

pub session_record-requires-clause-fit : goal.session_record-requires-clause-fit
session_record-requires-clause-fit c =
    let it = stream_is_given c.args.kind c.name.result c.name-2.result c.name-3.result c.args.name.now c.args.from.now c.args.to.now c.args.base
    c.name.ensures.value c.name-2.ensures.value c.name-3.ensures.value c.name.ensures.form c.name-2.ensures.form c.name-3.ensures.form c.requires in
    rw (to_z-of_z w128 c.args.base c.ranges.base, c.stream_kind.ensures) it.fit

pub returns : goal.returns
returns c =
    let it = stream_is_given c.args.kind c.name.result c.name-2.result c.name-3.result c.args.name.now c.args.from.now c.args.to.now c.args.base
    c.name.ensures.value c.name-2.ensures.value c.name-3.ensures.value c.name.ensures.form c.name-2.ensures.form c.name-3.ensures.form c.requires in
    written c.session_record.result c.stream_kind.result _ _ c.session_record.ensures.value c.session_record.ensures.kind (rw (to_z-of_z w128 c.args.base c.ranges.base, c.stream_kind.ensures) it.asks)
