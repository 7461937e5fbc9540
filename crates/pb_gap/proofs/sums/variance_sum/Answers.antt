use Rattle.std.proofs.Common.{◌≡◌, ◌∙◌, ◌<◌, ◌≤◌, ℤ, ◌+ℤ◌, FitsSigned, to_z, length, get_or, ap₂, ap, sym, arith}
use mir.Syntax.{w128}
use Rattle.std.proofs.lemmas.Int.{ints}
use Rattle.std.proofs.lemmas.Option.{slice_get-get_or}
use Rattle.std.proofs.Math.Facts.{to_z-of_z}
use Rattle.std.specs.Prelude.{slice_get}
use Rattle.pb_limits.specs.Limits.{most_streams}
use Rattle.pb_fixed.proofs.Sums.{sum_over-take_more}
use Rattle.pb_graph.specs.declared.records.Member.{Member}
use Rattle.pb_graph.specs.ProcessGraph.{some_stream}
use Rattle.pb_gap.proofs.MemberLists.{some_member}
use Rattle.pb_gap.proofs.sums.variance_sum.Goals as goal
use Rattle.pb_gap.proofs.Found.{variance_in}

-- the variance of one more member joins the total
pub loop-member-preserved : goal.loop-member-preserved
loop-member-preserved c =
    let ss = c.args.streams.now in
    let ms = c.args.members.now in
    let i = c.loop-member.member-index in
    let inv = c.loop-member.invariant in
    let here : i < length ms = c.loop-member-test.true in
    let few : length ms ≤ most_streams = c.requires.few in
    let m : Member = get_or ms i some_member in
    let there : m.stream < length ss = (c.requires.members i some_member here).there in
    let part : ℤ = c.variance-total.result in
    let total = to_z w128 c.loop-member.total-bits in
    let fits_part : FitsSigned w128 part = record { sfits = c.variance-total.type_inv } in
    let fits_sum : FitsSigned w128 (total +ℤ part) = omega (arith, ints, inv.nonneg, inv.small, c.variance-total.ensures.nonneg, c.variance-total.ensures.within, here, few) in
    let value : part ≡ variance_in (slice_get ss m.stream) = c.variance-total.ensures.value ∙ sym (ap variance_in (slice_get-get_or ss m.stream some_stream there)) in
    let next = sum_over-take_more (λ (m : Member). variance_in (slice_get ss m.stream)) ms i some_member here in
    simp to_z-of_z (record {
      so_far = ap₂ (λ (x y : ℤ). x +ℤ y) inv.so_far value ∙ sym next;
      nonneg = omega (arith, ints, inv.nonneg, c.variance-total.ensures.nonneg);
      small = omega (arith, ints, inv.small, c.variance-total.ensures.within);
    })
