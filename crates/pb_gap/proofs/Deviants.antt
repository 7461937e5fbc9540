-- A gap that is met has no deviations whose squares add up to more than the square of the gap.
use Rattle.std.proofs.Common.{◌≡◌, ℕ, zero, suc, ◌*◌, ◌/◌, ◌^◌, ◌<◌, ◌≤◌, ℤ, pos, ◌+ℤ◌, ◌*ℤ◌, ◌≤ℤ◌, Bool, false, List, [], ◌∷◌, take, refl, subst, arith, ◌∙◌, ap, sym}
use Rattle.std.proofs.lemmas.Int.{ints}
use Rattle.pb_fixed.proofs.Lists.{AllByRecursion-every}
use Rattle.pb_fixed.specs.Sums.{item, sum_over}
use Rattle.pb_fixed.proofs.Order.{add_mono, le_by_eq, le_trans, mul_mono, mul_mono_left, mul_nonneg, square_pos}
use Rattle.pb_fixed.proofs.Ring.{var, plus, times, ring}
use Rattle.pb_fixed.proofs.Sums.{sum_over-nonneg}
use Rattle.pb_fixed.specs.Blocks.{block_squares_of, blocks_of}
use Rattle.pb_fixed.proofs.QuotientLaws.{ceiling_is}
use Rattle.pb_graph.specs.declared.records.Stream.{Stream}
use Rattle.pb_graph.specs.ProcessGraph.{ProcessGraph}
use Rattle.pb_dual.specs.DualValue.{dual_flows_of}
use Rattle.pb_gap.specs.Gap.{Gap, MeetsGap, deviations_of, gap_from, gap_of, gap_size}
use Rattle.pb_gap.specs.FlowPair.{AreOfPrices, PairedFlows}
use Rattle.pb_gap.specs.Iterate.{AreFar}
use Rattle.pb_gap.proofs.Enclosure.{power_positive}
use Rattle.pb_gap.proofs.Gaps.{gaps}

-- a square is at most the square of its blocks
one_in_blocks : (a r p : ℤ) → pos 0 ≤ℤ a → pos 0 ≤ℤ p → a ≤ℤ (r *ℤ p) → (a *ℤ a) ≤ℤ ((p *ℤ p) *ℤ (r *ℤ r))
one_in_blocks a r p a_pos p_pos le =
    let first = mul_mono a (r *ℤ p) a le a_pos in
    let second = mul_mono_left a (r *ℤ p) (r *ℤ p) le (le_trans (pos 0) a (r *ℤ p) a_pos le) in
    let same : (r *ℤ p) *ℤ (r *ℤ p) ≡ (p *ℤ p) *ℤ (r *ℤ r) = ring (r ∷ p ∷ []) (times (times (var 0) (var 1)) (times (var 0) (var 1))) (times (times (var 1) (var 1)) (times (var 0) (var 0))) refl in
    le_trans (a *ℤ a) ((r *ℤ p) *ℤ a) ((p *ℤ p) *ℤ (r *ℤ r)) first (le_by_eq ((r *ℤ p) *ℤ a) ((p *ℤ p) *ℤ (r *ℤ r)) ((r *ℤ p) *ℤ a) ((r *ℤ p) *ℤ (r *ℤ p)) refl (sym same) second)

block_squares_nonneg : (h : ℕ) (xs : List ℤ) → pos 0 ≤ℤ block_squares_of xs h
block_squares_nonneg h xs =
    sum_over-nonneg (λ a. blocks_of h a *ℤ blocks_of h a) xs (AllByRecursion-every (λ a. pos 0 ≤ℤ (blocks_of h a *ℤ blocks_of h a)) xs (λ a. square_pos (blocks_of h a)))

-- the squares of the first items are at most those of all blocks
squares_in_blocks : (h : ℕ) (p : ℤ) (xs : List ℤ) (n : ℕ) → p ≡ pos (2 ^ h) → ((k : ℕ) → k < n → pos 0 ≤ℤ item xs k)
    → sum_over (λ a. a *ℤ a) (take n xs) ≤ℤ ((p *ℤ p) *ℤ block_squares_of xs h)
squares_in_blocks h p xs zero is nonneg = mul_nonneg (p *ℤ p) (block_squares_of xs h) (square_pos p) (block_squares_nonneg h xs)
squares_in_blocks h p [] (suc n) is nonneg = mul_nonneg (p *ℤ p) (pos 0) (square_pos p) (omega (arith, ints))
squares_in_blocks h p (x ∷ xs) (suc n) is nonneg =
    let r = blocks_of h x in
    let power = power_positive h in
    let blocks : x ≤ℤ (r *ℤ p) = subst (λ (q : ℤ). x ≤ℤ (r *ℤ q)) (sym is) (ceiling_is x (pos (2 ^ h)) power).above in
    let p_pos : pos 0 ≤ℤ p = omega (arith, ints, is) in
    let own = one_in_blocks x r p (nonneg 0 (omega arith)) p_pos blocks in
    let rest = squares_in_blocks h p xs n is (λ k lt. nonneg (suc k) (omega (arith, lt))) in
    let both = add_mono (x *ℤ x) ((p *ℤ p) *ℤ (r *ℤ r)) (sum_over (λ a. a *ℤ a) (take n xs)) ((p *ℤ p) *ℤ block_squares_of xs h) own rest in
    let same : (p *ℤ p) *ℤ ((r *ℤ r) +ℤ block_squares_of xs h) ≡ ((p *ℤ p) *ℤ (r *ℤ r)) +ℤ ((p *ℤ p) *ℤ block_squares_of xs h) =
    ring (p ∷ r ∷ block_squares_of xs h ∷ []) (times (times (var 0) (var 0)) (plus (times (var 1) (var 1)) (var 2)))
    (plus (times (times (var 0) (var 0)) (times (var 1) (var 1))) (times (times (var 0) (var 0)) (var 2))) refl in
    le_by_eq _ _ _ _ refl same both

-- the squares of the first items are at most the square of the gap
squares_within : (xs : List ℤ) (n : ℕ) → ((k : ℕ) → k < n → pos 0 ≤ℤ item xs k)
    → sum_over (λ a. a *ℤ a) (take n xs) ≤ℤ (pos (gap_size (gap_from xs)) *ℤ pos (gap_size (gap_from xs)))
squares_within xs n nonneg =
    let gap = gap_from xs in
    let p : ℤ = pos (2 ^ gap.h) in
    let g : ℤ = pos gap.g in
    let blocks = squares_in_blocks gap.h p xs n refl nonneg in
    let above : block_squares_of xs gap.h ≤ℤ (g *ℤ g) = (gaps.is xs).above in
    let more = mul_mono_left (block_squares_of xs gap.h) (g *ℤ g) (p *ℤ p) above (square_pos p) in
    let same : (p *ℤ p) *ℤ (g *ℤ g) ≡ (g *ℤ p) *ℤ (g *ℤ p) = ring (p ∷ g ∷ []) (times (times (var 0) (var 0)) (times (var 1) (var 1))) (times (times (var 1) (var 0)) (times (var 1) (var 0))) refl in
    le_trans (sum_over (λ a. a *ℤ a) (take n xs)) ((p *ℤ p) *ℤ block_squares_of xs gap.h) ((g *ℤ p) *ℤ (g *ℤ p)) blocks
    (le_by_eq ((p *ℤ p) *ℤ block_squares_of xs gap.h) ((g *ℤ p) *ℤ (g *ℤ p)) ((p *ℤ p) *ℤ block_squares_of xs gap.h) ((p *ℤ p) *ℤ (g *ℤ g)) refl (sym same) more)

-- a gap isn't met if deviations are far
pub none_far : (xs : List ℤ) (thousandths : ℕ) (limit : ℤ) → limit ≡ pos (thousandths * 2 ^ 20 / 1000) → AreFar limit xs
    → MeetsGap thousandths (gap_from xs) → ⊥
none_far xs thousandths limit is far met =
    let size = gap_size (gap_from xs) in
    let le : pos size ≤ℤ limit = at_most size (thousandths * 2 ^ 20) limit met is in
    let size_pos : pos 0 ≤ℤ pos size = omega (arith, ints) in
    let first = mul_mono (pos size) limit (pos size) le size_pos in
    let second = mul_mono_left (pos size) limit limit le (le_trans (pos 0) (pos size) limit size_pos le) in
    let within = squares_within xs far.count far.nonneg in
    let more = far.above in
    omega (arith, ints, first, second, within, more)
  where
    at_most : (size n : ℕ) (limit : ℤ) → size * 1000 ≤ n → limit ≡ pos (n / 1000) → pos size ≤ℤ limit
    at_most size n limit met is = omega (arith, ints, met, is)

-- a gap isn't met if the deviations of a pair are far
pub not_near : (p : PairedFlows) (g : ProcessGraph) (us xs : List ℤ) (ss : List Stream) (thousandths : ℕ) (near : Bool) (limit : ℤ) (price : ℕ → ℤ)
    → record { graph = g; dual_flows = us; flows = xs } ≡ p → ss ≡ g.streams → limit ≡ pos (thousandths * 2 ^ 20 / 1000) → near ≡ false
    → (near ≡ false → (price : ℕ → ℤ) → us ≡ dual_flows_of price ss → AreFar limit (deviations_of price ss xs))
    → AreOfPrices price p → MeetsGap thousandths (gap_of price p.graph.streams p.flows) → ⊥
not_near p g us xs ss thousandths near limit price view streams is fails far of_price =
    subst (λ (p : PairedFlows). AreOfPrices price p → MeetsGap thousandths (gap_of price p.graph.streams p.flows) → ⊥) view
    (λ (here : us ≡ dual_flows_of price g.streams) (met : MeetsGap thousandths (gap_of price g.streams xs)).
    none_far (deviations_of price ss xs) thousandths limit is (far fails price (here ∙ ap (dual_flows_of price) (sym streams)))
    (subst (λ (ss : List Stream). MeetsGap thousandths (gap_from (deviations_of price ss xs))) (sym streams) met))
    of_price

-- the gap of the deviations that are written
pub gap_written : (p : PairedFlows) (g : ProcessGraph) (us xs out : List ℤ) (ss : List Stream) (gap : Gap) (price : ℕ → ℤ)
    → record { graph = g; dual_flows = us; flows = xs } ≡ p → ss ≡ g.streams → ((price : ℕ → ℤ) → us ≡ dual_flows_of price ss → out ≡ deviations_of price ss xs)
    → gap ≡ gap_from out → AreOfPrices price p → gap ≡ gap_of price p.graph.streams p.flows
gap_written p g us xs out ss gap price view streams written is of_price =
    subst (λ (p : PairedFlows). AreOfPrices price p → gap ≡ gap_of price p.graph.streams p.flows) view
    (λ (here : us ≡ dual_flows_of price g.streams).
    is ∙ ap gap_from (written price (here ∙ ap (dual_flows_of price) (sym streams)) ∙ ap (λ (ss : List Stream). deviations_of price ss xs) streams))
    of_price
