-- Statement. Weighted squares of flow vectors, and least vectors.
use Rattle.std.specs.Prelude.{ℤ, pos, ◌-ℤ◌, ◌+ℤ◌, ◌*ℤ◌, ◌≤ℤ◌, List, [], ◌∷◌, Option, Some, None}
use Rattle.std.specs.Int.{int_div_euclid}
use Rattle.std.specs.Option.{option_map_or}
use Rattle.pb_graph.specs.declared.records.Meas.{Meas}
use Rattle.pb_graph.specs.declared.records.Stream.{Stream}
use Rattle.pb_graph.specs.ProcessGraph.{ProcessGraph}
use Rattle.pb_graph.specs.Balance.{IsBalanced}

-- flows in fractions of a gram: one numerator for each stream over one denominator
pub record Fractional : Type 0 where
  pub numerators : List ℤ
  pub denominator : ℤ

-- a balanced vector of fractional flows
pub record IsBalancedFractional (graph : ProcessGraph) (x : Fractional) : Type 0 where
  pub positive : pos 1 ≤ℤ x.denominator
  pub balanced : IsBalanced graph x.numerators

-- whole flows are fractional ones over 1
abbrev pub whole_flows : List ℤ → Fractional
whole_flows flows = record { numerators = flows; denominator = pos 1 }

-- the product of the variances of the measured streams, or 1 if there are none
abbrev pub variance_product : List Stream → ℤ
variance_product [] = pos 1
variance_product (s ∷ streams) = option_map_or (λ (m : Meas). m.variance) s.meas (pos 1) *ℤ variance_product streams

-- the product of two errors of a measurement over its variance, in units of 1 / product, of which the variance is a
-- factor; 0 if there is no measurement
abbrev pub weighted_product : ℤ → Option Meas → ℤ → ℤ → ℤ
weighted_product product None a b = pos 0
weighted_product product (Some m) a b = int_div_euclid product m.variance *ℤ (a *ℤ b)

-- The inner product of two lists of errors, with one error for each stream: the sum over measured streams of the product of the
-- two errors over the variance.
abbrev pub inner_product : ℤ → List Stream → List ℤ → List ℤ → ℤ
inner_product product [] errors others = pos 0
inner_product product (s ∷ streams) [] others = pos 0
inner_product product (s ∷ streams) (a ∷ errors) [] = pos 0
inner_product product (s ∷ streams) (a ∷ errors) (b ∷ others) =
    weighted_product product s.meas a b +ℤ inner_product product streams errors others

-- The weighted sum of squares of a list of errors: the sum over measured streams of error² / variance.
abbrev pub weighted_sum_of_squares : ℤ → List Stream → List ℤ → ℤ
weighted_sum_of_squares product streams errors = inner_product product streams errors errors

-- f of each stream and its flow, in order
abbrev pub by_stream : (Stream → ℤ → ℤ) → List Stream → List ℤ → List ℤ
by_stream f [] flows = []
by_stream f (s ∷ streams) [] = []
by_stream f (s ∷ streams) (y ∷ flows) = f s y ∷ by_stream f streams flows

-- a measured value, or 0 if there is no measurement
abbrev pub value_or_zero : Option Meas → ℤ
value_or_zero meas = option_map_or (λ (m : Meas). m.value) meas (pos 0)

-- how far the flow y/q of a stream is from its measured value, in units of 1/q gram
abbrev pub error_of : ℤ → Stream → ℤ → ℤ
error_of q s y = y -ℤ (q *ℤ value_or_zero s.meas)

-- the errors of a flow vector
abbrev pub errors_of : List Stream → Fractional → List ℤ
errors_of streams x = by_stream (error_of x.denominator) streams x.numerators

-- The weighted squares of a flow vector, the sum over measured streams of (flow - value)² / variance, as a fraction
-- (Narasimhan and Jordache, weighted least squares).
abbrev pub weighted_squares : ProcessGraph → Fractional → ℤ
weighted_squares graph x =
    weighted_sum_of_squares (variance_product graph.streams) graph.streams (errors_of graph.streams x)

-- the denominator of that fraction
abbrev pub squares_unit : ProcessGraph → Fractional → ℤ
squares_unit graph x = (x.denominator *ℤ x.denominator) *ℤ variance_product graph.streams

-- the weighted squares of x are at most those of p, by cross products
abbrev pub IsNoWorse : ProcessGraph → Fractional → Fractional → Type 0
IsNoWorse graph x p = (weighted_squares graph x *ℤ squares_unit graph p) ≤ℤ (weighted_squares graph p *ℤ squares_unit graph x)

-- a least vector is balanced and no worse than any balanced one
abbrev pub IsLeast : ProcessGraph → Fractional → Type 0
IsLeast graph x = IsBalancedFractional graph x × ((y : Fractional) → IsBalancedFractional graph y → IsNoWorse graph x y)

-- the weighted squares of x are at least, and at most, this many thousandths
abbrev pub AreSquaresAtLeast : ProcessGraph → Fractional → ℤ → Type 0
AreSquaresAtLeast graph x low = (low *ℤ squares_unit graph x) ≤ℤ (pos 1000 *ℤ weighted_squares graph x)

abbrev pub AreSquaresAtMost : ProcessGraph → Fractional → ℤ → Type 0
AreSquaresAtMost graph x high = (pos 1000 *ℤ weighted_squares graph x) ≤ℤ (high *ℤ squares_unit graph x)
