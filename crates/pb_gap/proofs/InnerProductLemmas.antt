-- Inner products of errors, with one error for each stream.
use Rattle.std.proofs.Common.{◌≡◌, ℕ, zero, suc, ℤ, pos, ◌-ℤ◌, ◌*ℤ◌, ◌≤ℤ◌, List, [], ◌∷◌, length, Option, Some, None, slice_get, refl, ap, arith}
use Rattle.std.specs.Int.{int_div_euclid}
use Rattle.std.specs.List.{AllByRecursion}
use Rattle.std.proofs.lemmas.Int.{ints}
use Rattle.pb_fixed.specs.Sums.{item}
use Rattle.pb_fixed.proofs.Order.{mul_nonneg, square_pos}
use Rattle.pb_graph.specs.declared.records.Meas.{Meas}
use Rattle.pb_graph.specs.declared.records.Stream.{Stream}
use Rattle.pb_graph.specs.Squares.{weighted_product, weighted_sum_of_squares, by_stream, value_or_zero, error_of}
use Rattle.pb_graph.proofs.WalkLemmas.{some_same}
use Rattle.pb_dual.specs.DualValue.{scale, flow_at}
use Rattle.pb_gap.specs.Residuals.{residual_of}
use Rattle.pb_gap.proofs.Weights.{MayWeigh}

-- ---- one number for each stream
pub by_stream_length : (f : Stream → ℤ → ℤ) (ss : List Stream) (ys : List ℤ) → length ys ≡ length ss → length (by_stream f ss ys) ≡ length ss
by_stream_length f [] ys each = refl
by_stream_length f (s ∷ ss) [] each = absurd (omega (arith, each))
by_stream_length f (s ∷ ss) (y ∷ ys) each = ap suc (by_stream_length f ss ys (omega (arith, each)))

pub by_stream_at : (f : Stream → ℤ → ℤ) (ss : List Stream) (ys : List ℤ) (j : ℕ) (s : Stream) → length ys ≡ length ss → slice_get ss j ≡ Some s
    → item (by_stream f ss ys) j ≡ f s (item ys j)
by_stream_at f [] ys j s each at = absurd cc
by_stream_at f (t ∷ ss) [] j s each at = absurd (omega arith)
by_stream_at f (t ∷ ss) (y ∷ ys) zero s each at = ap (λ (s : Stream). f s y) (some_same at)
by_stream_at f (t ∷ ss) (y ∷ ys) (suc j) s each at = by_stream_at f ss ys j s (omega arith) at

-- ---- the square of one stream, and of all
abbrev pub square_at : ℤ → ℤ → Option Meas → ℤ → ℤ
square_at l q o y = weighted_product l o (y -ℤ (q *ℤ value_or_zero o)) (y -ℤ (q *ℤ value_or_zero o))

abbrev pub squares_from : ℤ → ℤ → List Stream → List ℤ → ℤ
squares_from l q ss ys = weighted_sum_of_squares l ss (by_stream (error_of q) ss ys)

abbrev pub residual_at : ℤ → Option Meas → ℤ → ℤ → ℤ
residual_at q o d y = (y *ℤ scale) -ℤ (q *ℤ flow_at o d)

abbrev pub residual_square_at : ℤ → ℤ → Option Meas → ℤ → ℤ → ℤ
residual_square_at l q o d y = weighted_product l o (residual_at q o d y) (residual_at q o d y)

abbrev pub residuals_from : ℤ → ℤ → (ℕ → ℤ) → List Stream → List ℤ → ℤ
residuals_from l q price ss ys = weighted_sum_of_squares l ss (by_stream (residual_of q price) ss ys)

-- ---- no square is negative
pub square_nonneg : (l : ℤ) (o : Option Meas) (e : ℤ) → MayWeigh l o → pos 0 ≤ℤ weighted_product l o e e
square_nonneg l None e h = omega (arith, ints)
square_nonneg l (Some m) e h = mul_nonneg (int_div_euclid l m.variance) _ h.nonneg (square_pos e)

pub squares_nonneg : (l : ℤ) (ss : List Stream) (es : List ℤ) → AllByRecursion (λ s. MayWeigh l s.meas) ss → pos 0 ≤ℤ weighted_sum_of_squares l ss es
squares_nonneg l [] es h = omega (arith, ints)
squares_nonneg l (s ∷ ss) [] h = omega (arith, ints)
squares_nonneg l (s ∷ ss) (e ∷ es) h =
    let first = square_nonneg l s.meas e h.0 in
    let rest = squares_nonneg l ss es h.1 in
    omega (arith, ints, first, rest)
