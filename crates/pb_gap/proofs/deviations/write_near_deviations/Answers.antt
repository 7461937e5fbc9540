use Rattle.std.proofs.Common.{◌≡◌, ◌∙◌, ◌+◌, ◌<◌, ℕ, ℤ, pos, ◌+ℤ◌, ◌-ℤ◌, ◌*ℤ◌, ◌≤ℤ◌, ◌<ℤ◌, FitsSigned, to_z, length, take, ap, sym, inl, inr, arith, rules}
use mir.Syntax.{w128}
use Rattle.std.proofs.lemmas.Int.{ints}
use Rattle.std.proofs.lemmas.Bool.{cases_eq}
use Rattle.std.proofs.Math.Facts.{to_z-of_z}
use Rattle.pb_fixed.specs.Sums.{item, sum_over}
use Rattle.pb_fixed.proofs.Sums.{sum_over-take_more}
use Rattle.pb_fixed.specs.Blocks.{IsBlockItem}
use Rattle.pb_graph.specs.ProcessGraph.{some_stream}
use Rattle.pb_dual.specs.DualValue.{dual_flows_of}
use Rattle.pb_gap.specs.Gap.{deviations_of}
use Rattle.pb_gap.proofs.Columns.{all_put, deviation_item, dual_item, length-deviations, put_fact, put_value, whole}
use Rattle.pb_gap.proofs.deviations.write_near_deviations.Goals.{After-square_up_to-left}
use Rattle.pb_gap.proofs.deviations.write_near_deviations.Goals as goal

-- the deviation of one more stream
own : (c : After-square_up_to-left) (price : ℕ → ℤ) → c.args.dual_flows.now ≡ dual_flows_of price c.args.streams.now
    → c.stream_deviation-deviation.result ≡ item (deviations_of price c.args.streams.now c.args.flows.now) c.loop-j.j
own c price of_price =
    let ss = c.args.streams.now in
    let ps = c.args.flows.now in
    let j = c.loop-j.j in
    let x = c.stream_deviation-deviation.result in
    let there : j < length ss = c.loop-j-test.true in
    let fits : FitsSigned w128 x = omega (arith, ints, c.stream_deviation-deviation.ensures.within) in
    let small = c.requires.measured.small j (pos 0) (omega (arith, there, c.requires.measured.each)) in
    let fits_flow : FitsSigned w128 (item ps j) = omega (arith, ints, small) in
    let dual_small = c.requires.duals.small j (pos 0) (omega (arith, there, c.requires.duals.each)) in
    let fits_dual : FitsSigned w128 (item c.args.dual_flows.now j) = omega (arith, ints, dual_small) in
    let value = simp to_z-of_z at c.stream_deviation-deviation.ensures.value in
    value price (dual_item price ss c.args.dual_flows.now j some_stream of_price there) ∙ sym (deviation_item price ss ps j some_stream c.requires.measured.each there)

-- the rest of the limit's square after it
rest : (c : After-square_up_to-left) (price : ℕ → ℤ) → c.args.dual_flows.now ≡ dual_flows_of price c.args.streams.now
    → (c.args.limit *ℤ c.args.limit) ≤ℤ ((to_z w128 c.loop-j.left-bits -ℤ c.square_up_to-left.result) +ℤ sum_over (λ a. a *ℤ a) (take (c.loop-j.j + 1) (deviations_of price c.args.streams.now c.args.flows.now)))
rest c price of_price =
    let ss = c.args.streams.now in
    let ps = c.args.flows.now in
    let ds = deviations_of price ss ps in
    let j = c.loop-j.j in
    let x = c.stream_deviation-deviation.result in
    let part = c.square_up_to-left.result in
    let there : j < length ss = c.loop-j-test.true in
    let within : j < length ds = omega (arith, there, length-deviations price ss ps c.requires.measured.each) in
    let fits : FitsSigned w128 x = omega (arith, ints, c.stream_deviation-deviation.ensures.within) in
    let below : part ≤ℤ (x *ℤ x) = simp to_z-of_z at c.square_up_to-left.ensures.below in
    let square : x *ℤ x ≡ item ds j *ℤ item ds j = ap (λ (y : ℤ). y *ℤ y) (own c price of_price) in
    let next = sum_over-take_more (λ a. a *ℤ a) ds j (pos 0) within in
    let left = to_z w128 c.loop-j.left-bits in
    let fits_limit : FitsSigned w128 c.args.limit = c.ranges.limit in
    let before : (c.args.limit *ℤ c.args.limit) ≤ℤ (left +ℤ sum_over (λ a. a *ℤ a) (take j ds)) = simp to_z-of_z at (c.loop-j.invariant.rest price of_price) in
    less (c.args.limit *ℤ c.args.limit) left part (x *ℤ x) (item ds j *ℤ item ds j) (sum_over (λ a. a *ℤ a) (take j ds)) (sum_over (λ a. a *ℤ a) (take (j + 1) ds)) before below square next
  where
    less : (l a p x y s t : ℤ) → l ≤ℤ (a +ℤ s) → p ≤ℤ x → x ≡ y → t ≡ s +ℤ y → l ≤ℤ ((a -ℤ p) +ℤ t)
    less l a p x y s t before below square next = omega (arith, ints, before, below, square, next)

pub returns-then-left-lt0-clause-far : goal.returns-then-left-lt0-clause-far
returns-then-left-lt0-clause-far c _ price of_price =
    let front = (goal.at.returns-then-left-lt0-clause-far c).After-square_up_to-left in
    let ds = deviations_of price c.args.streams.now c.args.flows.now in
    let inv = c.loop-j.invariant in
    let j = c.loop-j.j in
    let x = c.stream_deviation-deviation.result in
    let part = c.square_up_to-left.result in
    let left = to_z w128 c.loop-j.left-bits in
    let fits_limit : FitsSigned w128 c.args.limit = c.ranges.limit in
    let fits_part : FitsSigned w128 part = record { sfits = c.square_up_to-left.type_inv } in
    let fits_left : FitsSigned w128 (left -ℤ part) = omega (arith, ints, inv.left, c.loop-j.auto.left-fits, c.square_up_to-left.ensures.nonneg, c.square_up_to-left.ensures.within) in
    let told = simp to_z-of_z at c.if-left-lt0.true in
    let below : (left -ℤ part) <ℤ pos 0 = omega (arith, ints, told) in
    let more = rest front price of_price in
    record {
      count = j + 1;
      nonneg = λ k lt. elim (cases_eq k j) [
        | inl same ↦
            let is : x ≡ item ds k = own front price of_price ∙ ap (item ds) (sym same) in
            let at : IsBlockItem x = c.stream_deviation-deviation.ensures.within in
            omega (arith, ints, is, at.0)
        | inr other ↦
            let before : k < j = omega (arith, lt, other) in
            let is = inv.value price of_price k before in
            let at : IsBlockItem (item c.loop-j.out k) = inv.within k before in
            omega (arith, ints, is, at.0)
      ];
      above = omega (arith, ints, more, below);
    }

pub loop-j-preserved : goal.loop-j-preserved
loop-j-preserved c =
    let front = (goal.at.loop-j-preserved c).After-square_up_to-left in
    let ss = c.args.streams.now in
    let ps = c.args.flows.now in
    let j = c.loop-j.j in
    let x = c.stream_deviation-deviation.result in
    let inv = c.loop-j.invariant in
    let there : j < length ss = c.loop-j-test.true in
    let lt : j < length c.loop-j.out = omega (arith, there, inv.room) in
    let part = c.square_up_to-left.result in
    let left = to_z w128 c.loop-j.left-bits in
    let fits : FitsSigned w128 x = omega (arith, ints, c.stream_deviation-deviation.ensures.within) in
    let fits_limit : FitsSigned w128 c.args.limit = c.ranges.limit in
    let fits_part : FitsSigned w128 part = record { sfits = c.square_up_to-left.type_inv } in
    let fits_left : FitsSigned w128 (left -ℤ part) = omega (arith, ints, inv.left, c.loop-j.auto.left-fits, c.square_up_to-left.ensures.nonneg, c.square_up_to-left.ensures.within) in
    let told = simp to_z-of_z at c.if-left-lt0.false in
    let more : (price : ℕ → ℤ) → c.args.dual_flows.now ≡ dual_flows_of price ss → (c.args.limit *ℤ c.args.limit) ≤ℤ ((left -ℤ part) +ℤ sum_over (λ a. a *ℤ a) (take (j + 1) (deviations_of price ss ps))) = rest front in
    simp to_z-of_z (record {
      room = search rules;
      value = λ price of_price. put_value c.loop-j.out (deviations_of price ss ps) j x lt (own front price of_price) (inv.value price of_price);
      left = omega (arith, ints, told);
      rest = more;
      within = put_fact IsBlockItem c.loop-j.out j x lt c.stream_deviation-deviation.ensures.within inv.within;
    })

pub returns-clause-value : goal.returns-clause-value
returns-clause-value c _ price of_price =
    let ss = c.args.streams.now in
    let inv = c.loop-j.invariant in
    whole c.loop-j.out (deviations_of price ss c.args.flows.now) (length ss) c.loop-j.j inv.room (length-deviations price ss c.args.flows.now c.requires.measured.each) (omega (arith, c.loop-j-test.false)) (inv.value price of_price)

pub returns-clause-within : goal.returns-clause-within
returns-clause-within c _ =
    let inv = c.loop-j.invariant in
    all_put IsBlockItem c.loop-j.out (λ k lt. inv.within k (omega (arith, c.loop-j-test.false, lt, inv.room)))
