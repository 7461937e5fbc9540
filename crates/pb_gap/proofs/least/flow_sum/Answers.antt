use Rattle.std.proofs.Common.{◌≡◌, ◌∙◌, ◌+◌, ◌*◌, ◌^◌, ◌<◌, ◌≤◌, ℤ, pos, ◌+ℤ◌, ◌*ℤ◌, FitsSigned, to_z, length, get_or, inl, inr, ap₂, sym, unsigned_abs, arith}
use mir.Syntax.{w8, w128}
use Rattle.std.proofs.lemmas.Int.{ints}
use Rattle.std.proofs.Math.Facts.{to_z-of_z}
use Rattle.pb_limits.specs.Limits.{most_streams}
use Rattle.pb_fixed.specs.Sums.{item}
use Rattle.pb_fixed.proofs.Sums.{sum_over-take_more}
use Rattle.pb_graph.specs.declared.records.Member.{Member}
use Rattle.pb_gap.specs.Members.{IsMemberOf}
use Rattle.pb_gap.proofs.MemberLists.{some_member}
use Rattle.pb_gap.proofs.SmallFlowLemmas.{turned}
use Rattle.pb_gap.proofs.least.flow_sum.Goals as goal

-- the flow of one more member joins the total
pub loop-member-preserved : goal.loop-member-preserved
loop-member-preserved c =
    let ms = c.args.members.now in
    let i = c.loop-member.member-index in
    let inv = c.loop-member.invariant in
    let here : i < length ms = c.loop-member-test.true in
    let few : length ms ≤ most_streams = c.requires.few in
    let m : Member = get_or ms i some_member in
    let is : IsMemberOf c.args.streams.now m = c.requires.members i some_member here in
    let flow : ℤ = item c.args.flows.now m.stream in
    let part : ℤ = c.signed-total.result in
    let total = to_z w128 c.loop-member.total-bits in
    let flow_small : unsigned_abs flow < 2 ^ 68 = c.requires.small m.stream (pos 0) (omega (arith, is.there, c.requires.each)) in
    let fits_flow : FitsSigned w128 flow = omega (arith, ints, flow_small) in
    let fits_part : FitsSigned w128 part = omega (arith, ints, c.signed-total.ensures.within) in
    let fits_sign : FitsSigned w8 m.sign = elim is.sign [ inl one ↦ omega (arith, ints, one) | inr minus_one ↦ omega (arith, ints, minus_one) ] in
    let own : part ≡ m.sign *ℤ flow = simp to_z-of_z at c.signed-total.ensures.value in
    let part_small : unsigned_abs (m.sign *ℤ flow) ≤ 2 ^ 68 = turned m.sign flow (2 ^ 68) is.sign (omega (arith, flow_small)) in
    let small : unsigned_abs (total +ℤ part) ≤ (i + 1) * 2 ^ 68 = omega (arith, ints, inv.small, part_small, own) in
    let fits_sum : FitsSigned w128 (total +ℤ part) = omega (arith, ints, small, here, few) in
    simp to_z-of_z (record {
      so_far = ap₂ (λ (x y : ℤ). x +ℤ y) inv.so_far own ∙ sym (sum_over-take_more (λ (m : Member). m.sign *ℤ item c.args.flows.now m.stream) ms i some_member here);
      small = small;
    })
