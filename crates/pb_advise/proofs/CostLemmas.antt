-- What marked streams cost.
use Rattle.std.proofs.Common.{◌≡◌, ℕ, zero, suc, ◌<◌, ℤ, pos, ◌+ℤ◌, ◌≤ℤ◌, Bool, true, false, not, ◌&&◌, List, [], ◌∷◌, length, get_or, set, refl, arith, if◌then◌else◌}
use Rattle.std.proofs.lemmas.Int.{ints}
use Rattle.pb_fixed.specs.Sums.{item}
use Rattle.pb_graph.specs.declared.records.Stream.{Stream}
use Rattle.pb_graph.specs.ProcessGraph.{is_measured}
use Rattle.pb_advise.specs.Choice.{cost_of}

-- the unmeasured streams that aren't marked, as marks: of a choice, the streams that stay unmeasured
abbrev pub rest_of : List Stream → List Bool → List Bool
rest_of [] chosen = []
rest_of (stream ∷ streams) [] = not (is_measured stream) ∷ rest_of streams []
rest_of (stream ∷ streams) (mark ∷ chosen) = (not (is_measured stream) && not mark) ∷ rest_of streams chosen

-- without one that was marked
pub cost_less : (costs : List ℤ) (marks : List Bool) (f : ℕ) → get_or marks f false ≡ true
    → (cost_of costs (set marks f false) +ℤ item costs f) ≡ cost_of costs marks
cost_less costs [] f on = cc on
cost_less [] (m ∷ ms) zero on = refl
cost_less [] (m ∷ ms) (suc f) on = refl
cost_less (c ∷ costs) (true ∷ ms) zero on = omega (arith, ints)
cost_less (c ∷ costs) (false ∷ ms) zero on = cc on
cost_less (c ∷ costs) (m ∷ ms) (suc f) on = let h = cost_less costs ms f on in omega (arith, ints, h)

-- with one more
pub cost_more : (costs : List ℤ) (marks : List Bool) (e : ℕ) → e < length marks → get_or marks e false ≡ false
    → cost_of costs (set marks e true) ≡ (cost_of costs marks +ℤ item costs e)
cost_more costs [] e lt off = absurd (omega (arith, lt))
cost_more [] (m ∷ ms) zero lt off = refl
cost_more [] (m ∷ ms) (suc e) lt off = refl
cost_more (c ∷ costs) (true ∷ ms) zero lt off = cc off
cost_more (c ∷ costs) (false ∷ ms) zero lt off = omega (arith, ints)
cost_more (c ∷ costs) (m ∷ ms) (suc e) lt off = let h = cost_more costs ms e (omega (arith, lt)) off in omega (arith, ints, h)

pub cost_none : (costs : List ℤ) → cost_of costs [] ≡ pos 0
cost_none [] = refl
cost_none (c ∷ costs) = refl

-- the cost of some of the marked streams
pub cost_part : (costs : List ℤ) (some marks : List Bool) → ((k : ℕ) → pos 0 ≤ℤ item costs k) → ((k : ℕ) → get_or some k false ≡ true → get_or marks k false ≡ true)
    → cost_of costs some ≤ℤ cost_of costs marks
cost_part [] some marks least part = omega (arith, ints)
cost_part (c ∷ costs) [] [] least part = omega (arith, ints)
cost_part (c ∷ costs) [] (true ∷ ms) least part =
    let here = least 0 in
    let h = cost_part costs [] ms (λ k. least (suc k)) (λ k on. cc on) in
    let none = cost_none costs in
    omega (arith, ints, here, h, none)
cost_part (c ∷ costs) [] (false ∷ ms) least part =
    let h = cost_part costs [] ms (λ k. least (suc k)) (λ k on. cc on) in
    let none = cost_none costs in
    omega (arith, ints, h, none)
cost_part (c ∷ costs) (true ∷ ss) [] least part = cc (part 0 refl)
cost_part (c ∷ costs) (false ∷ ss) [] least part =
    let h = cost_part costs ss [] (λ k. least (suc k)) (λ k on. part (suc k) on) in
    let none = cost_none costs in
    omega (arith, ints, h, none)
cost_part (c ∷ costs) (true ∷ ss) (true ∷ ms) least part =
    let h = cost_part costs ss ms (λ k. least (suc k)) (λ k on. part (suc k) on) in omega (arith, ints, h)
cost_part (c ∷ costs) (true ∷ ss) (false ∷ ms) least part = cc (part 0 refl)
cost_part (c ∷ costs) (false ∷ ss) (true ∷ ms) least part =
    let here = least 0 in
    let h = cost_part costs ss ms (λ k. least (suc k)) (λ k on. part (suc k) on) in omega (arith, ints, here, h)
cost_part (c ∷ costs) (false ∷ ss) (false ∷ ms) least part =
    let h = cost_part costs ss ms (λ k. least (suc k)) (λ k on. part (suc k) on) in omega (arith, ints, h)

-- what is chosen and what stays unmeasured
pub cost_both : (costs : List ℤ) (ss : List Stream) (chosen : List Bool) → length chosen ≡ length ss
    → ((k : ℕ) (d : Stream) → get_or chosen k false ≡ true → is_measured (get_or ss k d) ≡ false)
    → (cost_of costs chosen +ℤ cost_of costs (rest_of ss chosen)) ≡ cost_of costs (rest_of ss [])
cost_both costs [] [] size bare = cost_twice costs
  where
    cost_twice : (costs : List ℤ) → (cost_of costs [] +ℤ cost_of costs []) ≡ cost_of costs []
    cost_twice [] = refl
    cost_twice (c ∷ costs) = refl
cost_both costs [] (m ∷ ms) size bare = absurd (omega (arith, size))
cost_both costs (s ∷ ss) [] size bare = absurd (omega (arith, size))
cost_both [] (s ∷ ss) (m ∷ ms) size bare = refl
cost_both (c ∷ costs) (s ∷ ss) (true ∷ ms) size bare =
    let h = cost_both costs ss ms (omega (arith, size)) (λ k d on. bare (suc k) d on) in
    rw (bare 0 s refl) (omega (arith, ints, h))
cost_both (c ∷ costs) (s ∷ ss) (false ∷ ms) size bare =
    let h = cost_both costs ss ms (omega (arith, size)) (λ k d on. bare (suc k) d on) in
    elim (is_measured s) as (λ b. (pos 0 +ℤ cost_of costs ms) +ℤ ((if not b && true then c else pos 0) +ℤ cost_of costs (rest_of ss ms)) ≡ (if not b then c else pos 0) +ℤ cost_of costs (rest_of ss [])) [
      | true ↦ omega (arith, ints, h)
      | false ↦ omega (arith, ints, h)
    ]
