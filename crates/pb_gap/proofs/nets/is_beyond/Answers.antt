use Rattle.std.proofs.Common.{◌<◌, ℤ, FitsSigned, arith}
use mir.Syntax.{w128}
use Rattle.std.proofs.lemmas.Int.{ints}
use Rattle.std.proofs.Math.Facts.{to_z-of_z}
use Rattle.pb_fixed.specs.Sums.{item}
use Rattle.pb_graph.specs.Groups.{group_count}
use Rattle.pb_dual.specs.Priced.{price_of}
use Rattle.pb_gap.proofs.NetLemmas.{beyond}
use Rattle.pb_gap.proofs.nets.is_beyond.Goals as goal

pub allowed-requires-clause-root : goal.allowed-requires-clause-root
allowed-requires-clause-root c =
    let k = c.loop-k.k in
    let lt : k < group_count c.args.dual.now.group = omega (arith, c.loop-k-test.true, c.groups-k-end.ensures.value) in
    let small = c.requires.small k lt in
    let fits : FitsSigned w128 (item c.args.roots.now k) = omega (arith, ints, small.from, small.to) in
    simp to_z-of_z small

pub returns-then-is_far : goal.returns-then-is_far
returns-then-is_far c told flows even met =
    let d = c.args.dual.now in
    let k = c.loop-k.k in
    let h = c.groups-k-end.ensures.priced in
    let lt : k < group_count d.group = omega (arith, c.loop-k-test.true, c.groups-k-end.ensures.value) in
    let root : ℤ = item c.args.roots.now k in
    let small = c.requires.small k lt in
    let fits_root : FitsSigned w128 root = omega (arith, ints, small.from, small.to) in
    let fits_net : FitsSigned w128 c.net_flow.result = record { sfits = c.net_flow.type_inv } in
    let fits_most : FitsSigned w128 c.most_deviation-most.result = record { sfits = c.most_deviation-most.type_inv } in
    let fits_allowed : FitsSigned w128 c.allowed.result = record { sfits = c.allowed.type_inv } in
    let far = simp to_z-of_z at (c.is_far.ensures.0 c.if-is_far.true) in
    let allowed = simp to_z-of_z at c.allowed.ensures.value in
    beyond d.graph d.group (price_of d) flows k c.args.thousandths c.net_flow.result c.most_deviation-most.result root c.allowed.result h.limits h.groups h.fit even
    c.net_flow.ensures.value c.most_deviation-most.ensures (c.requires.are k lt) allowed far met
