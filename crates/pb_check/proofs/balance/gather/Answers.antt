use Rattle.std.proofs.Common.{◌≡◌, ◌∙◌, ℕ, ◌+◌, ◌+ℤ◌, drop, FitsSigned, arith}
use mir.Syntax.{w128}
use Rattle.std.proofs.lemmas.Int.{ints}
use Rattle.std.proofs.Math.Facts.{to_z-of_z}
use Rattle.pb_fixed.specs.Sums.{item}
use Rattle.pb_graph.specs.Balance.{brought_to, net_of}
use Rattle.pb_graph.specs.WellFormed.{IsFlow}
use Rattle.pb_stage.specs.Printed.{printed_flows}
use Rattle.pb_check.proofs.NetLemmas.{net_next, gathered, brought_small, sum_small, flow_small}
use Rattle.pb_check.proofs.balance.gather.Goals as goal

pub loop-j-preserved : goal.loop-j-preserved
loop-j-preserved c =
    let stage = c.args.stage.now in
    let ss = stage.graph.streams in
    let flows = printed_flows stage in
    let j = c.loop-j.j in
    let s = c.stream.result in
    let r = c.at.result.now in
    let inv = c.loop-j.invariant in
    let small : IsFlow r.flow = flow_small stage j r c.requires.formed c.at.ensures in
    let fits : FitsSigned w128 r.flow = omega (arith, ints, small) in
    let value : (n : ℕ) → item c.bring.new.nets n ≡ item c.loop-j.nets n +ℤ brought_to n s r.flow = λ n. simp to_z-of_z at (c.bring.ensures.value n) in
    record {
      each = c.bring.ensures.each ∙ inv.each;
      so_far = λ n.
          gathered (item c.loop-j.nets n) (item c.bring.new.nets n) (net_of n (drop j ss) (drop j flows)) (net_of n ss flows) (brought_to n s r.flow)
          (net_of n (drop (j + 1) ss) (drop (j + 1) flows)) (inv.so_far n) (value n) (net_next stage n j s r c.stream.ensures c.at.ensures);
      small = λ n. sum_small (item c.loop-j.nets n) (brought_to n s r.flow) (item c.bring.new.nets n) j (value n) (inv.small n) (brought_small n s r.flow small);
    }
