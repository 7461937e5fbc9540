-- Two sums of flows that are within gaps of one vector.
use Rattle.std.proofs.Common.{◌≡◌, ◌∙◌, ◌^◌, ℕ, ◌+◌, zero, suc, ℤ, pos, neg_ℤ, ◌+ℤ◌, ◌-ℤ◌, ◌*ℤ◌, ◌≤ℤ◌, ◌<ℤ◌, List, [], ◌∷◌, length, All, Option, Some, None, refl, sym, ap, ap₂, subst, arith}
use Rattle.std.specs.Prelude.{IfSome}
use Rattle.std.proofs.lemmas.Int.{ints}
use Rattle.pb_fixed.specs.Sums.{item}
use Rattle.pb_fixed.proofs.Order.{le_by_eq, le_trans, mul_cancel, mul_mono, mul_mono_both, mul_mono_left, mul_nonneg, mul_positive, root_mono, square_pos}
use Rattle.pb_fixed.proofs.Ring.{var, lit, plus, times, less, minus, square, ring}
use Rattle.pb_fixed.proofs.RingLaws.{mul_assoc}
use Rattle.pb_graph.specs.declared.records.Member.{Member}
use Rattle.pb_graph.specs.Balance.{IsBalanced}
use Rattle.pb_graph.specs.declared.records.Meas.{Meas}
use Rattle.pb_graph.specs.declared.records.Stream.{Stream}
use Rattle.pb_graph.specs.PricedSums.{signed_sum}
use Rattle.pb_graph.specs.ProcessGraph.{IsProcessGraph, ProcessGraph}
use Rattle.pb_graph.specs.Squares.{Fractional, IsLeast, squares_unit, variance_product, whole_flows}
use Rattle.pb_study.specs.declared.results.Stage.{Stage}
use Rattle.pb_study.specs.declared.results.StreamResult.{StreamResult}
use Rattle.pb_gap.proofs.GapLaws.{have_weights}
use Rattle.pb_gap.specs.Bounds.{AreSigned, variance_sum}
use Rattle.pb_gap.specs.declared.gap.Gap.{Gap}
use Rattle.pb_gap.specs.Gap.{gap_size}
use Rattle.pb_gap.specs.Laws.{SignedSchwarzLaw, StreamSumLaw, SumsTo}
use Rattle.pb_gap.specs.Least.{AreWithinGap, combination, difference_of, squared_distance}
use Rattle.pb_gap.specs.StreamBounds.{sum_for}
use Rattle.pb_least.specs.Laws.{SomeLeastLaw}
use Rattle.pb_stage.specs.Certified.{IsCertifiedStage}
use Rattle.pb_stage.specs.Printed.{printed_flows, printed_gap}
use Rattle.pb_laws.specs.Agreement.{AreGapsApart, AreOfOneGraph, AreStreamsOf, FlowsMeetLaw}
use Rattle.pb_laws.proofs.FlowLemmas.{flow_at}
use Rattle.pb_laws.proofs.NestedLemmas.{variances}

-- ---- the signed sum of a combination
combined_item : (a b : ℤ) (xs ys : List ℤ) (j : ℕ) → length xs ≡ length ys → item (combination a b xs ys) j ≡ (a *ℤ item xs j) +ℤ (b *ℤ item ys j)
combined_item a b [] [] j h = ring (a ∷ b ∷ []) (lit (pos 0)) (plus (times (var 0) (lit (pos 0))) (times (var 1) (lit (pos 0)))) refl
combined_item a b [] (y ∷ ys) j h = absurd (omega (arith, h))
combined_item a b (x ∷ xs) [] j h = absurd (omega (arith, h))
combined_item a b (x ∷ xs) (y ∷ ys) zero h = refl
combined_item a b (x ∷ xs) (y ∷ ys) (suc j) h = combined_item a b xs ys j (omega (arith, h))

combined_length : (a b : ℤ) (xs ys : List ℤ) → length xs ≡ length ys → length (combination a b xs ys) ≡ length xs
combined_length a b [] ys h = refl
combined_length a b (x ∷ xs) [] h = absurd (omega (arith, h))
combined_length a b (x ∷ xs) (y ∷ ys) h = ap suc (combined_length a b xs ys (omega (arith, h)))

combined_sum : (a b : ℤ) (ms : List Member) (xs ys : List ℤ) → length xs ≡ length ys → signed_sum ms (combination a b xs ys) ≡ (a *ℤ signed_sum ms xs) +ℤ (b *ℤ signed_sum ms ys)
combined_sum a b [] xs ys h = ring (a ∷ b ∷ []) (lit (pos 0)) (plus (times (var 0) (lit (pos 0))) (times (var 1) (lit (pos 0)))) refl
combined_sum a b (m ∷ ms) xs ys h =
    let x = item xs m.stream in
    let y = item ys m.stream in
    ap (λ (z : ℤ). (m.sign *ℤ z) +ℤ signed_sum ms (combination a b xs ys)) (combined_item a b xs ys m.stream h)
    ∙ ap (λ (z : ℤ). (m.sign *ℤ ((a *ℤ x) +ℤ (b *ℤ y))) +ℤ z) (combined_sum a b ms xs ys h)
    ∙ ring (a ∷ b ∷ m.sign ∷ x ∷ y ∷ signed_sum ms xs ∷ signed_sum ms ys ∷ [])
    (plus (times (var 2) (plus (times (var 0) (var 3)) (times (var 1) (var 4)))) (plus (times (var 0) (var 5)) (times (var 1) (var 6))))
    (plus (times (var 0) (plus (times (var 2) (var 3)) (var 5))) (times (var 1) (plus (times (var 2) (var 4)) (var 6)))) refl

-- ---- the error of a sum, by the gap of the flows
sum_near : (l v d e g q : ℤ) → pos 1 ≤ℤ l → pos 0 ≤ℤ v → (l *ℤ (e *ℤ e)) ≤ℤ (v *ℤ d) → (d *ℤ pos (2 ^ 40)) ≤ℤ ((g *ℤ g) *ℤ (((pos 1 *ℤ q) *ℤ (pos 1 *ℤ q)) *ℤ l))
    → ((e *ℤ pos (2 ^ 20)) *ℤ (e *ℤ pos (2 ^ 20))) ≤ℤ ((v *ℤ (q *ℤ q)) *ℤ (g *ℤ g))
sum_near l v d e g q l_pos v_pos schwarz near =
    let one = mul_mono (l *ℤ (e *ℤ e)) (v *ℤ d) (pos (2 ^ 40)) schwarz (omega (arith, ints)) in
    let two = mul_mono_left (d *ℤ pos (2 ^ 40)) ((g *ℤ g) *ℤ (((pos 1 *ℤ q) *ℤ (pos 1 *ℤ q)) *ℤ l)) v near v_pos in
    let left : ((e *ℤ pos (2 ^ 20)) *ℤ (e *ℤ pos (2 ^ 20))) *ℤ l ≡ (l *ℤ (e *ℤ e)) *ℤ pos (2 ^ 40) =
    ring (e ∷ l ∷ []) (times (square (times (var 0) (lit (pos (2 ^ 20))))) (var 1)) (times (times (var 1) (square (var 0))) (lit (pos (2 ^ 40)))) refl in
    let right : ((v *ℤ (q *ℤ q)) *ℤ (g *ℤ g)) *ℤ l ≡ v *ℤ ((g *ℤ g) *ℤ (((pos 1 *ℤ q) *ℤ (pos 1 *ℤ q)) *ℤ l)) =
    ring (v ∷ q ∷ g ∷ l ∷ []) (times (times (times (var 0) (square (var 1))) (square (var 2))) (var 3))
    (times (var 0) (times (square (var 2)) (times (square (times (lit (pos 1)) (var 1))) (var 3)))) refl in
    mul_cancel ((e *ℤ pos (2 ^ 20)) *ℤ (e *ℤ pos (2 ^ 20))) ((v *ℤ (q *ℤ q)) *ℤ (g *ℤ g)) l
    (le_by_eq _ _ _ _ left right (le_trans _ _ _ one (le_by_eq _ _ _ _ (mul_assoc v d (pos (2 ^ 40))) refl two))) (omega (arith, ints, l_pos))

-- ---- two errors
squares_apart : (k g h a b : ℤ) → pos 0 ≤ℤ k → pos 0 ≤ℤ g → pos 0 ≤ℤ h → (a *ℤ a) ≤ℤ (k *ℤ (g *ℤ g)) → (b *ℤ b) ≤ℤ (k *ℤ (h *ℤ h))
    → ((a -ℤ b) *ℤ (a -ℤ b)) ≤ℤ (k *ℤ ((g +ℤ h) *ℤ (g +ℤ h)))
squares_apart k g h a b k_pos g_pos h_pos one two =
    let both = mul_mono_both (a *ℤ a) (k *ℤ (g *ℤ g)) (b *ℤ b) (k *ℤ (h *ℤ h)) one two (square_pos b) (mul_nonneg k (g *ℤ g) k_pos (square_pos g)) in
    let left : neg_ℤ (a *ℤ b) *ℤ neg_ℤ (a *ℤ b) ≡ (a *ℤ a) *ℤ (b *ℤ b) = ring (a ∷ b ∷ []) (square (minus (times (var 0) (var 1)))) (times (square (var 0)) (square (var 1))) refl in
    let right : (k *ℤ (g *ℤ h)) *ℤ (k *ℤ (g *ℤ h)) ≡ (k *ℤ (g *ℤ g)) *ℤ (k *ℤ (h *ℤ h)) =
    ring (k ∷ g ∷ h ∷ []) (square (times (var 0) (times (var 1) (var 2)))) (times (times (var 0) (square (var 1))) (times (var 0) (square (var 2)))) refl in
    let cross = root_mono (neg_ℤ (a *ℤ b)) (k *ℤ (g *ℤ h)) (mul_nonneg k (g *ℤ h) k_pos (mul_nonneg g h g_pos h_pos)) (le_by_eq _ _ _ _ left right both) in
    let apart : (a -ℤ b) *ℤ (a -ℤ b) ≡ ((a *ℤ a) +ℤ (b *ℤ b)) +ℤ (pos 2 *ℤ neg_ℤ (a *ℤ b)) =
    ring (a ∷ b ∷ []) (square (less (var 0) (var 1))) (plus (plus (square (var 0)) (square (var 1))) (times (lit (pos 2)) (minus (times (var 0) (var 1))))) refl in
    let whole : k *ℤ ((g +ℤ h) *ℤ (g +ℤ h)) ≡ ((k *ℤ (g *ℤ g)) +ℤ (k *ℤ (h *ℤ h))) +ℤ (pos 2 *ℤ (k *ℤ (g *ℤ h))) =
    ring (k ∷ g ∷ h ∷ []) (times (var 0) (square (plus (var 1) (var 2))))
    (plus (plus (times (var 0) (square (var 1))) (times (var 0) (square (var 2)))) (times (lit (pos 2)) (times (var 0) (times (var 1) (var 2))))) refl in
    glue _ _ _ _ _ _ _ _ apart whole one two cross
  where
    glue : (x y aa bb ab kg kh kgh : ℤ) → x ≡ (aa +ℤ bb) +ℤ (pos 2 *ℤ ab) → y ≡ (kg +ℤ kh) +ℤ (pos 2 *ℤ kgh) → aa ≤ℤ kg → bb ≤ℤ kh → ab ≤ℤ kgh → x ≤ℤ y
    glue x y aa bb ab kg kh kgh left right one two three = omega (arith, ints, left, right, one, two, three)

-- the errors q·a - x and q·b - x of two sums a and b
sums_apart : (v q x a b : ℤ) (g h : ℕ) → pos 0 ≤ℤ v → pos 1 ≤ℤ q
    → ((((q *ℤ a) -ℤ x) *ℤ pos (2 ^ 20)) *ℤ (((q *ℤ a) -ℤ x) *ℤ pos (2 ^ 20))) ≤ℤ ((v *ℤ (q *ℤ q)) *ℤ (pos g *ℤ pos g))
    → ((((q *ℤ b) -ℤ x) *ℤ pos (2 ^ 20)) *ℤ (((q *ℤ b) -ℤ x) *ℤ pos (2 ^ 20))) ≤ℤ ((v *ℤ (q *ℤ q)) *ℤ (pos h *ℤ pos h))
    → (((a -ℤ b) *ℤ (a -ℤ b)) *ℤ pos (2 ^ 40)) ≤ℤ (v *ℤ (pos (g + h) *ℤ pos (g + h)))
sums_apart v q x a b g h v_pos q_pos one two =
    let both = squares_apart (v *ℤ (q *ℤ q)) (pos g) (pos h) (((q *ℤ a) -ℤ x) *ℤ pos (2 ^ 20)) (((q *ℤ b) -ℤ x) *ℤ pos (2 ^ 20)) (mul_nonneg v (q *ℤ q) v_pos (square_pos q))
    (omega (arith, ints)) (omega (arith, ints)) one two in
    let left : (((a -ℤ b) *ℤ (a -ℤ b)) *ℤ pos (2 ^ 40)) *ℤ (q *ℤ q)
    ≡ ((((q *ℤ a) -ℤ x) *ℤ pos (2 ^ 20)) -ℤ (((q *ℤ b) -ℤ x) *ℤ pos (2 ^ 20))) *ℤ ((((q *ℤ a) -ℤ x) *ℤ pos (2 ^ 20)) -ℤ (((q *ℤ b) -ℤ x) *ℤ pos (2 ^ 20))) =
    ring (q ∷ x ∷ a ∷ b ∷ []) (times (times (square (less (var 2) (var 3))) (lit (pos (2 ^ 40)))) (square (var 0)))
    (square (less (times (less (times (var 0) (var 2)) (var 1)) (lit (pos (2 ^ 20)))) (times (less (times (var 0) (var 3)) (var 1)) (lit (pos (2 ^ 20)))))) refl in
    let sum : pos (g + h) ≡ pos g +ℤ pos h = omega (arith, ints) in
    let right : (v *ℤ (pos (g + h) *ℤ pos (g + h))) *ℤ (q *ℤ q) ≡ (v *ℤ (q *ℤ q)) *ℤ ((pos g +ℤ pos h) *ℤ (pos g +ℤ pos h)) =
    ap (λ (z : ℤ). (v *ℤ (z *ℤ z)) *ℤ (q *ℤ q)) sum
    ∙ ring (v ∷ q ∷ pos g ∷ pos h ∷ []) (times (times (var 0) (square (plus (var 2) (var 3)))) (square (var 1))) (times (times (var 0) (square (var 1))) (square (plus (var 2) (var 3)))) refl in
    mul_cancel (((a -ℤ b) *ℤ (a -ℤ b)) *ℤ pos (2 ^ 40)) (v *ℤ (pos (g + h) *ℤ pos (g + h))) (q *ℤ q) (le_by_eq _ _ _ _ left right both)
    (mul_positive q q (omega (arith, ints, q_pos)) (omega (arith, ints, q_pos)))

-- ---- flows within a gap of a least vector
error_near : SignedSchwarzLaw → (g : ProcessGraph) (gap : Gap) (flows : List ℤ) (x : Fractional) (ms : List Member) → IsProcessGraph g → IsBalanced g flows → IsBalanced g x.numerators
    → AreSigned g ms → AreWithinGap g gap (whole_flows flows) x
    → ((((x.denominator *ℤ signed_sum ms flows) -ℤ signed_sum ms x.numerators) *ℤ pos (2 ^ 20)) *ℤ (((x.denominator *ℤ signed_sum ms flows) -ℤ signed_sum ms x.numerators) *ℤ pos (2 ^ 20)))
    ≤ℤ ((variance_sum g.streams ms *ℤ (x.denominator *ℤ x.denominator)) *ℤ (pos (gap_size gap) *ℤ pos (gap_size gap)))
error_near schwarz g gap flows x ms limits even balanced signed near =
    let q = x.denominator in
    let v = variance_sum g.streams ms in
    let errors = (difference_of (whole_flows flows) x).numerators in
    let same : length flows ≡ length x.numerators = even.each ∙ sym balanced.each in
    let e_is : signed_sum ms errors ≡ (q *ℤ signed_sum ms flows) -ℤ signed_sum ms x.numerators =
    combined_sum q (neg_ℤ (pos 1)) ms flows x.numerators same
    ∙ ring (q ∷ signed_sum ms flows ∷ signed_sum ms x.numerators ∷ []) (plus (times (var 0) (var 1)) (times (minus (lit (pos 1))) (var 2))) (less (times (var 0) (var 1)) (var 2)) refl in
    let own = schwarz g errors ms limits (combined_length q (neg_ℤ (pos 1)) flows x.numerators same ∙ even.each) signed in
    subst (λ (e : ℤ). ((e *ℤ pos (2 ^ 20)) *ℤ (e *ℤ pos (2 ^ 20))) ≤ℤ ((v *ℤ (q *ℤ q)) *ℤ (pos (gap_size gap) *ℤ pos (gap_size gap)))) e_is
    (sum_near (variance_product g.streams) v (squared_distance g (whole_flows flows) x) (signed_sum ms errors) (pos (gap_size gap)) q (have_weights g limits).positive
    (variances g ms limits signed.each) own near)

pub flows_meet : SomeLeastLaw → SignedSchwarzLaw → StreamSumLaw → FlowsMeetLaw
flows_meet some schwarz sums one other j r s are results = by (sum_for j r.classified.class r.classified.witness) refl
  where
    by : (o : Option (List Member)) → sum_for j r.classified.class r.classified.witness ≡ o
        → IfSome o (λ (members : List Member). AreGapsApart one.graph.streams members (printed_gap one) (printed_gap other) r.flow s.flow)
    by None is = tt
    by (Some members) is =
        let g = one.graph in
        let limits = are.first.shown.limits in
        let (x, least) = some g limits in
        let sums_to : SumsTo g j members =
        subst (λ (o : Option (List Member)). IfSome o (SumsTo g j)) is (sums g j r.classified limits (are.first.shown.shown j r results.first)) in
        let there : IsLeast other.graph x = subst (λ (h : ProcessGraph). IsLeast h x) (sym are.graph) least in
        let even : IsBalanced g (printed_flows other) = subst (λ (h : ProcessGraph). IsBalanced h (printed_flows other)) are.graph are.second.shown.balanced in
        let near : AreWithinGap g (printed_gap other) (whole_flows (printed_flows other)) x =
        subst (λ (h : ProcessGraph). AreWithinGap h (printed_gap other) (whole_flows (printed_flows other)) x) are.graph (are.second.near x there) in
        let first = error_near schwarz g (printed_gap one) (printed_flows one) x members limits are.first.shown.balanced least.0.balanced sums_to.signed (are.first.near x least) in
        let second = error_near schwarz g (printed_gap other) (printed_flows other) x members limits even least.0.balanced sums_to.signed near in
        let a_is : signed_sum members (printed_flows one) ≡ r.flow = sums_to.sum (printed_flows one) are.first.shown.balanced ∙ flow_at one j r results.first in
        let b_is : signed_sum members (printed_flows other) ≡ s.flow = sums_to.sum (printed_flows other) even ∙ flow_at other j s results.second in
        subst (λ (a : ℤ). AreGapsApart g.streams members (printed_gap one) (printed_gap other) a s.flow) a_is
        (subst (λ (b : ℤ). AreGapsApart g.streams members (printed_gap one) (printed_gap other) (signed_sum members (printed_flows one)) b) b_is
        (sums_apart (variance_sum g.streams members) x.denominator (signed_sum members x.numerators) (signed_sum members (printed_flows one)) (signed_sum members (printed_flows other))
        (gap_size (printed_gap one)) (gap_size (printed_gap other)) (variances g members limits sums_to.signed.each) least.0.positive first second))
