use Rattle.std.proofs.Common.{FitsSigned, arith}
use mir.Syntax.{w32, w128}
use Rattle.std.proofs.lemmas.Int.{ints, to_z-of_z}
use Rattle.pb_kinds.proofs.WrittenLemmas.{served_stream_is_given, written}
use Rattle.pb_kinds.proofs.writing.stream_in_service.Goals as goal

pub session_record-requires-clause-each : goal.session_record-requires-clause-each
session_record-requires-clause-each c =
    let it = served_stream_is_given c.args.kind c.name.result c.name-2.result c.name-3.result c.args.name.now c.args.from.now c.args.to.now c.args.base c.args.service.now
    c.name.ensures.value c.name-2.ensures.value c.name-3.ensures.value c.name.ensures.form c.name-2.ensures.form c.name-3.ensures.form c.requires.base c.requires.service in
    rw c.served_stream_kind.ensures it.each

pub session_record-requires-clause-fit : goal.session_record-requires-clause-fit
session_record-requires-clause-fit c =
    let since_fits : FitsSigned w32 c.args.service.now.since = omega (arith, ints, c.requires.service.since) in
    let until_fits : FitsSigned w32 c.args.service.now.until = omega (arith, ints, c.requires.service.until) in
    let since = to_z-of_z w32 c.args.service.now.since since_fits in
    let until = to_z-of_z w32 c.args.service.now.until until_fits in
    let it = served_stream_is_given c.args.kind c.name.result c.name-2.result c.name-3.result c.args.name.now c.args.from.now c.args.to.now c.args.base c.args.service.now
    c.name.ensures.value c.name-2.ensures.value c.name-3.ensures.value c.name.ensures.form c.name-2.ensures.form c.name-3.ensures.form c.requires.base c.requires.service in
    rw (to_z-of_z w128 c.args.base c.ranges.base, since, until, c.served_stream_kind.ensures) it.fit

pub returns : goal.returns
returns c =
    let since_fits : FitsSigned w32 c.args.service.now.since = omega (arith, ints, c.requires.service.since) in
    let until_fits : FitsSigned w32 c.args.service.now.until = omega (arith, ints, c.requires.service.until) in
    let since = to_z-of_z w32 c.args.service.now.since since_fits in
    let until = to_z-of_z w32 c.args.service.now.until until_fits in
    let it = served_stream_is_given c.args.kind c.name.result c.name-2.result c.name-3.result c.args.name.now c.args.from.now c.args.to.now c.args.base c.args.service.now
    c.name.ensures.value c.name-2.ensures.value c.name-3.ensures.value c.name.ensures.form c.name-2.ensures.form c.name-3.ensures.form c.requires.base c.requires.service in
    written c.session_record.result c.served_stream_kind.result _ _ c.session_record.ensures.value c.session_record.ensures.kind
    (rw (to_z-of_z w128 c.args.base c.ranges.base, since, until, c.served_stream_kind.ensures) it.asks)
