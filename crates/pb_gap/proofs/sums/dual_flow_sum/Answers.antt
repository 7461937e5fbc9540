use Rattle.std.proofs.Common.{◌≡◌, ◌∙◌, ◌+◌, ◌*◌, ◌<◌, ◌≤◌, ℕ, ℤ, pos, ◌+ℤ◌, ◌*ℤ◌, FitsSigned, to_z, take, length, get_or, inl, inr, ap₂, ap, sym, unsigned_abs, arith}
use mir.Syntax.{w8, w128}
use Rattle.std.proofs.lemmas.Int.{ints}
use Rattle.std.proofs.lemmas.Option.{slice_get-get_or}
use Rattle.std.proofs.Math.Facts.{to_z-of_z}
use Rattle.std.specs.Prelude.{slice_get}
use Rattle.pb_limits.specs.Limits.{most_streams}
use Rattle.pb_fixed.specs.Sums.{item}
use Rattle.pb_fixed.proofs.Sums.{sum_over-take_more}
use Rattle.pb_graph.specs.declared.records.Member.{Member}
use Rattle.pb_graph.specs.ProcessGraph.{some_stream}
use Rattle.pb_dual.specs.DualValue.{dual_flows_of, most_dual_flow}
use Rattle.pb_gap.specs.Bounds.{dual_flow_sum}
use Rattle.pb_gap.specs.Members.{IsMemberOf}
use Rattle.pb_gap.proofs.Columns.{dual_item}
use Rattle.pb_gap.proofs.MemberLists.{some_member}
use Rattle.pb_gap.proofs.sums.dual_flow_sum.Goals as goal
use Rattle.pb_gap.proofs.Found.{dual_flow_in}

-- the dual flow of one more member joins the total
pub loop-member-preserved : goal.loop-member-preserved
loop-member-preserved c =
    let ss = c.args.streams.now in
    let us = c.args.dual_flows.now in
    let ms = c.args.members.now in
    let i = c.loop-member.member-index in
    let inv = c.loop-member.invariant in
    let here : i < length ms = c.loop-member-test.true in
    let few : length ms ≤ most_streams = c.requires.few in
    let m : Member = get_or ms i some_member in
    let is : IsMemberOf ss m = c.requires.members i some_member here in
    let part : ℤ = c.signed-total.result in
    let total = to_z w128 c.loop-member.total-bits in
    let dual_small = c.requires.duals.small m.stream (pos 0) (omega (arith, is.there, c.requires.duals.each)) in
    let fits_flow : FitsSigned w128 (item us m.stream) = omega (arith, ints, dual_small) in
    let fits_part : FitsSigned w128 part = omega (arith, ints, c.signed-total.ensures.within) in
    let small : unsigned_abs (total +ℤ part) ≤ (i + 1) * most_dual_flow = omega (arith, ints, inv.small, c.signed-total.ensures.within) in
    let fits_sum : FitsSigned w128 (total +ℤ part) = omega (arith, ints, small, here, few) in
    let fits_sign : FitsSigned w8 m.sign = elim is.sign [ inl one ↦ omega (arith, ints, one) | inr minus_one ↦ omega (arith, ints, minus_one) ] in
    let own : part ≡ m.sign *ℤ item us m.stream = simp to_z-of_z at c.signed-total.ensures.value in
    let value : (price : ℕ → ℤ) → us ≡ dual_flows_of price ss → part ≡ m.sign *ℤ dual_flow_in price (slice_get ss m.stream) =
    λ price of_price. own
    ∙ ap (λ (u : ℤ). m.sign *ℤ u) (dual_item price ss us m.stream some_stream of_price is.there ∙ sym (ap (dual_flow_in price) (slice_get-get_or ss m.stream some_stream is.there))) in
    let so_far : (price : ℕ → ℤ) → us ≡ dual_flows_of price ss → total +ℤ part ≡ dual_flow_sum price ss (take (i + 1) ms) =
    λ price of_price. ap₂ (λ (x y : ℤ). x +ℤ y) (inv.so_far price of_price) (value price of_price)
    ∙ sym (sum_over-take_more (λ (m : Member). m.sign *ℤ dual_flow_in price (slice_get ss m.stream)) ms i some_member here) in
    simp to_z-of_z (record { so_far = so_far; small = small })
