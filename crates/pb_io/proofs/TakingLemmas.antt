-- Bytes taken from a source one piece after the other.
use Rattle.std.proofs.Common.{◌≡◌, ℕ, ◌≤◌, List, [], ◌++◌, length, arith, length-append}
use Rattle.std.proofs.KnownBytes.{Consumes-nil, Consumes-trans}
use Rattle.pb_io.specs.Counts.{counted}
use Rattle.pb_io.specs.Source.{SourceSeen, Takes, TakesInTurns}

-- at first none were taken
pub takes_none : (a : SourceSeen) → Takes a a []
takes_none a = record { front = Consumes-nil a.remaining; count = omega arith }

-- and then one more piece
pub takes_more : (a b c : SourceSeen) (xs ys : List ℕ) → Takes a b xs → Takes b c ys → Takes a c (xs ++ ys)
takes_more a b c xs ys first second = record {
  front = Consumes-trans a.remaining b.remaining c.remaining xs ys first.front second.front;
  count = omega (arith, first.count, second.count, length-append xs ys);
}

-- one more turn, after turns each of which took at least one byte
pub one_turn_more : (a b c : SourceSeen) (xs ys : List ℕ) → Takes a b xs → b.calls ≤ counted a.calls (length xs) → b.idle ≡ a.idle
    → Takes b c ys → c.calls ≡ counted b.calls 1 → c.idle ≤ counted b.idle 1 → TakesInTurns a c (xs ++ ys)
one_turn_more a b c xs ys first turns idle second called idle_now = record {
  takes = takes_more a b c xs ys first second;
  idle = omega (arith, idle, idle_now);
  turns = omega (arith, turns, called, length-append xs ys);
}
