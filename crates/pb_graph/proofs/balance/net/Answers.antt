use Rattle.std.proofs.Common.{◌≡◌, ◌+◌, ◌*◌, ◌^◌, ◌<◌, ◌≤◌, ℤ, pos, ◌+ℤ◌, None, unsigned_abs, FitsSigned, to_z, get_or, drop, arith}
use mir.Syntax.{w128}
use Rattle.std.proofs.lemmas.Int.{ints}
use Rattle.std.proofs.Math.Facts.{to_z-of_z}
use Rattle.pb_graph.specs.declared.records.Stream.{Stream}
use Rattle.pb_graph.specs.Balance.{brought_to, net_of}
use Rattle.pb_graph.proofs.BalanceLemmas.{net_more, total_more}
use Rattle.pb_graph.proofs.balance.net.Goals as goal

abbrev some_stream : Stream
some_stream = record { from = 0; to = 0; meas = None }

-- the share of one more stream joins the total
pub loop-j-preserved : goal.loop-j-preserved
loop-j-preserved c =
    let inv = c.loop-j.invariant in
    let total = to_z w128 c.loop-j.total-bits in
    let part : ℤ = c.brought_to-total.result in
    let n = c.args.node in
    let j = c.loop-j.j in
    let ss = c.args.streams.now in
    let xs = c.args.flows.now in
    let share : ℤ = brought_to n (get_or ss j some_stream) (get_or xs j (pos 0)) in
    let next = net_more n j ss xs some_stream (pos 0) c.loop-j-test.true c.requires.each in
    let within : unsigned_abs (total +ℤ part) ≤ (j + 1) * 2 ^ 101 = omega (arith, ints, inv.small, c.brought_to-total.ensures.within) in
    let fits_part : FitsSigned w128 part = omega (arith, ints, c.brought_to-total.ensures.within) in
    let fits_sum : FitsSigned w128 (total +ℤ part) = omega (arith, ints, within, c.loop-j-test.true, c.requires.few) in
    let small_x : unsigned_abs (get_or xs j (pos 0)) < 2 ^ 100 = c.requires.within j (pos 0) (omega (arith, c.loop-j-test.true, c.requires.each)) in
    let fits_x : FitsSigned w128 (get_or xs j (pos 0)) = omega (arith, ints, small_x) in
    let is : part ≡ share = simp to_z-of_z at c.brought_to-total.ensures.value in
    let sum = total_more total part (net_of n (drop j ss) (drop j xs)) (net_of n (drop (j + 1) ss) (drop (j + 1) xs)) (net_of n ss xs) share inv.so_far next is in
    simp to_z-of_z (record { so_far = sum; small = within })
