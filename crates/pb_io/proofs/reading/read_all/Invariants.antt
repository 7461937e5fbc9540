use Rattle.std.proofs.Common.{◌≡◌, ◌≤◌, ◌+◌, ◌-◌, length, vec_len}
use Rattle.pb_io.specs.Counts.{counted}
use Rattle.pb_io.specs.Source.{Takes}
use Rattle.pb_io.proofs.reading.read_all.Given as goal

-- the bytes so far were taken, at most the limit, and at least one in each turn
abbrev pub invariant-turns : goal.invariant-turns
invariant-turns g l = record {
  takes : Takes (g.S.Source.seen l.fn.source) (g.S.Source.seen l.source) l.all.items;
  within : vec_len l.all ≤ l.limit;
  turns : (g.S.Source.seen l.source).calls ≤ counted (g.S.Source.seen l.fn.source).calls (length l.all.items);
  idle : (g.S.Source.seen l.source).idle ≡ (g.S.Source.seen l.fn.source).idle;
  faults : (g.S.Source.seen l.source).faults ≡ (g.S.Source.seen l.fn.source).faults;
}

-- each turn except the last takes at least one byte
abbrev pub decreases-turns : goal.decreases-turns
decreases-turns g l = l.limit + 1 - vec_len l.all
