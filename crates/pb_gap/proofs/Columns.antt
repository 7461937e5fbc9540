-- Lists that have one number for each stream, by place.
use Rattle.std.proofs.Common.{◌≡◌, ◌∙◌, ◌+◌, ◌<◌, ◌≤◌, ℕ, zero, suc, ℤ, pos, List, [], ◌∷◌, length, map, get_or, set, Option, refl, ap, inl, inr, sym, subst, arith}
use Rattle.std.specs.Prelude.{All}
use Rattle.std.proofs.lemmas.Bool.{cases_eq}
use Rattle.std.proofs.lemmas.List.{ext_get_or, get_or_default, get_or-set_other, get_or-set_same}
use Rattle.pb_fixed.specs.Sums.{item}
use Rattle.pb_graph.specs.declared.records.Meas.{Meas}
use Rattle.pb_graph.specs.declared.records.Stream.{Stream}
use Rattle.pb_graph.specs.Prices.{rise_of}
use Rattle.pb_dual.specs.DualValue.{dual_flow, dual_flows_of}
use Rattle.pb_gap.specs.Gap.{deviation_at, deviations_of}
use Rattle.pb_gap.specs.Statistic.{adjustments_by}

pub length-deviations : (price : ℕ → ℤ) (ss : List Stream) (ps : List ℤ) → length ps ≡ length ss → length (deviations_of price ss ps) ≡ length ss
length-deviations price [] ps each = refl
length-deviations price (s ∷ ss) [] each = absurd (omega (arith, each))
length-deviations price (s ∷ ss) (p ∷ ps) each = ap suc (length-deviations price ss ps (omega (arith, each)))

pub deviation_item : (price : ℕ → ℤ) (ss : List Stream) (ps : List ℤ) (j : ℕ) (d : Stream) → length ps ≡ length ss → j < length ss
    → item (deviations_of price ss ps) j ≡ deviation_at (get_or ss j d).meas (rise_of price (get_or ss j d)) (item ps j)
deviation_item price [] ps j d each lt = absurd (omega (arith, lt))
deviation_item price (s ∷ ss) [] j d each lt = absurd (omega (arith, each))
deviation_item price (s ∷ ss) (p ∷ ps) zero d each lt = refl
deviation_item price (s ∷ ss) (p ∷ ps) (suc j) d each lt = deviation_item price ss ps j d (omega (arith, each)) (omega (arith, lt))

pub length-adjustments : (r : Option Meas → ℤ → ℤ) (ss : List Stream) (ps : List ℤ) → length ps ≡ length ss → length (adjustments_by r ss ps) ≡ length ss
length-adjustments r [] ps each = refl
length-adjustments r (s ∷ ss) [] each = absurd (omega (arith, each))
length-adjustments r (s ∷ ss) (p ∷ ps) each = ap suc (length-adjustments r ss ps (omega (arith, each)))

pub adjustment_item : (r : Option Meas → ℤ → ℤ) (ss : List Stream) (ps : List ℤ) (j : ℕ) (d : Stream) → length ps ≡ length ss → j < length ss
    → item (adjustments_by r ss ps) j ≡ r (get_or ss j d).meas (item ps j)
adjustment_item r [] ps j d each lt = absurd (omega (arith, lt))
adjustment_item r (s ∷ ss) [] j d each lt = absurd (omega (arith, each))
adjustment_item r (s ∷ ss) (p ∷ ps) zero d each lt = refl
adjustment_item r (s ∷ ss) (p ∷ ps) (suc j) d each lt = adjustment_item r ss ps j d (omega (arith, each)) (omega (arith, lt))

pub map_item : {A : Type 0} (f : A → ℤ) (ss : List A) (j : ℕ) (d : A) → j < length ss → item (map f ss) j ≡ f (get_or ss j d)
map_item f [] j d lt = absurd (omega (arith, lt))
map_item f (s ∷ ss) zero d lt = refl
map_item f (s ∷ ss) (suc j) d lt = map_item f ss j d (omega (arith, lt))

-- the dual flow of a stream
pub dual_item : (price : ℕ → ℤ) (ss : List Stream) (us : List ℤ) (j : ℕ) (d : Stream) → us ≡ dual_flows_of price ss → j < length ss
    → item us j ≡ dual_flow price (get_or ss j d)
dual_item price ss us j d is lt = ap (λ (us : List ℤ). item us j) is ∙ map_item (dual_flow price) ss j d lt

-- one more number is written
pub put_value : (out target : List ℤ) (j : ℕ) (x : ℤ) → j < length out → x ≡ item target j → ((k : ℕ) → k < j → item out k ≡ item target k)
    → (k : ℕ) → k < j + 1 → item (set out j x) k ≡ item target k
put_value out target j x lt is before k below = elim (cases_eq k j) [
  | inl same ↦ subst (λ (n : ℕ). item (set out j x) n ≡ item target n) (sym same) (get_or-set_same out j x (pos 0) lt ∙ is)
  | inr other ↦ get_or-set_other out j k x (pos 0) other ∙ before k (omega (arith, below, other))
]

pub put_fact : (P : ℤ → Type 0) (out : List ℤ) (j : ℕ) (x : ℤ) → j < length out → P x → ((k : ℕ) → k < j → P (item out k))
    → (k : ℕ) → k < j + 1 → P (item (set out j x) k)
put_fact P out j x lt is before k below = elim (cases_eq k j) [
  | inl same ↦ subst (λ (n : ℕ). P (item (set out j x) n)) (sym same) (subst P (sym (get_or-set_same out j x (pos 0) lt)) is)
  | inr other ↦ subst P (sym (get_or-set_other out j k x (pos 0) other)) (before k (omega (arith, below, other)))
]

-- all numbers are written
pub all_put : (P : ℤ → Type 0) (out : List ℤ) → ((k : ℕ) → k < length out → P (item out k)) → All P out
all_put P out each k d lt = subst P (sym (get_or_default out k d (pos 0) lt)) (each k lt)

pub whole : (out target : List ℤ) (n j : ℕ) → length out ≡ n → length target ≡ n → n ≤ j → ((k : ℕ) → k < j → item out k ≡ item target k) → out ≡ target
whole out target n j each wanted end is = ext_get_or (pos 0) out target (each ∙ sym wanted) (λ k lt. is k (omega (arith, lt, each, end)))
