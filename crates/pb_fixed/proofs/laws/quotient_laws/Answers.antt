use Rattle.pb_fixed.specs.Quotients.{nearest_div}
use Rattle.pb_fixed.proofs.QuotientLaws.{ceiling_from, ceiling_is, ceiling_mono, ceiling_multiple, ceiling_only, ceiling_shift, ceiling_to, ceiling_to_floor, floor_from, floor_is, floor_mono, floor_multiple, floor_only, floor_shift, floor_to, floor_to_nearest, nearest_error_above, nearest_error_below, nearest_even, nearest_from, nearest_is, nearest_mono, nearest_multiple, nearest_only, nearest_power, nearest_shift, nearest_to, nearest_to_ceiling}
use Rattle.pb_fixed.proofs.laws.quotient_laws.Goals as goal

pub returns-clause-floor : goal.returns-clause-floor
returns-clause-floor c = record { multiple = floor_multiple; mono = floor_mono; from = floor_from; to = floor_to; shift = floor_shift }

pub returns-clause-ceiling : goal.returns-clause-ceiling
returns-clause-ceiling c = record { multiple = ceiling_multiple; mono = ceiling_mono; from = ceiling_from; to = ceiling_to; shift = ceiling_shift }

pub returns-clause-nearest : goal.returns-clause-nearest
returns-clause-nearest c = record { multiple = nearest_multiple; mono = nearest_mono; from = nearest_from; to = nearest_to; shift = nearest_shift }

pub returns-clause-directed : goal.returns-clause-directed
returns-clause-directed c = record {
  floor = floor_is;
  floor_only = floor_only;
  ceiling = ceiling_is;
  ceiling_only = ceiling_only;
  nearest = nearest_is;
  nearest_only = nearest_only;
  floor_to_nearest = floor_to_nearest;
  nearest_to_ceiling = nearest_to_ceiling;
  ceiling_to_floor = ceiling_to_floor;
  nearest_even = nearest_even;
  nearest_power = nearest_power;
  error_below = λ n d d_pos. nearest_error_below n d (nearest_div n d) (nearest_is n d d_pos);
  error_above = λ n d d_pos. nearest_error_above n d (nearest_div n d) (nearest_is n d d_pos);
}
