use Rattle.std.proofs.Common.{FitsSigned}
use mir.Syntax.{w128}
use Rattle.std.proofs.Math.Facts.{to_z-of_z}
use Rattle.pb_graph.specs.Prices.{rise_of}
use Rattle.pb_gap.proofs.Widths.{deviation_is, rooted}
use Rattle.pb_gap.proofs.deviations.stream_deviation.Goals as goal

pub deviation-requires-clause-root_from : goal.deviation-requires-clause-root_from
deviation-requires-clause-root_from c =
    let fits_root : FitsSigned w128 c.args.root = c.ranges.root in
    let root = rooted c.args.stream.now.meas _ c.args.root c.requires.limits c.requires.root c.in-Some.is in
    simp to_z-of_z root.width.from

pub deviation-requires-clause-root_to : goal.deviation-requires-clause-root_to
deviation-requires-clause-root_to c =
    let fits_root : FitsSigned w128 c.args.root = c.ranges.root in
    let root = rooted c.args.stream.now.meas _ c.args.root c.requires.limits c.requires.root c.in-Some.is in
    simp to_z-of_z root.width.to

pub returns-in-Some-clause-value : goal.returns-in-Some-clause-value
returns-in-Some-clause-value c price of_price =
    let s = c.args.stream.now in
    let fits_root : FitsSigned w128 c.args.root = c.ranges.root in
    let fits_flow : FitsSigned w128 c.args.flow = c.ranges.flow in
    let fits_dual : FitsSigned w128 c.args.dual = c.ranges.dual in
    let fits : FitsSigned w128 c.deviation.result = record { sfits = c.deviation.type_inv } in
    let root = rooted s.meas _ c.args.root c.requires.limits c.requires.root c.in-Some.is in
    let value = simp to_z-of_z at c.deviation.ensures.value in
    simp to_z-of_z (deviation_is s.meas _ (rise_of price s) c.args.dual c.args.flow c.args.root c.deviation.result c.in-Some.is of_price root.is value)
