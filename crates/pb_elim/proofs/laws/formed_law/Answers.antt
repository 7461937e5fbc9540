use Rattle.pb_elim.proofs.WithinLemmas.{formed_by}
use Rattle.pb_elim.proofs.laws.formed_law.Goals as goal

pub returns : goal.returns
returns c = formed_by (record {
  ascent = c.ascent_law.ensures;
  range = c.range_law.ensures;
  least_range = c.least_bounds_law.ensures.range;
  sums = c.stream_law.ensures.sum;
  free = c.free_groups_law.ensures;
  nodal = c.nodal_range_law.ensures;
})
