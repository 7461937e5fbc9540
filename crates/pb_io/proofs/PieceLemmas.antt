-- Bytes put into a sink one piece after the other.
use Rattle.std.proofs.Common.{◌≡◌, ◌∙◌, ℕ, ◌+◌, List, [], ◌++◌, take, drop, arith, subst, sym, length-append}
use Rattle.std.proofs.Math.Seq.{take-add}
use Rattle.std.proofs.KnownBytes.{Appends-nil, Appends-trans}
use Rattle.pb_io.specs.Sink.{SinkSeen, Puts, StopsAtFault}

-- at first none were put
pub puts_none : (a : SinkSeen) → Puts a a []
puts_none a = record { behind = Appends-nil a.contents; count = omega arith }

-- and then one more piece
pub puts_more : (a b c : SinkSeen) (xs ys : List ℕ) → Puts a b xs → Puts b c ys → Puts a c (xs ++ ys)
puts_more a b c xs ys first second = record {
  behind = Appends-trans a.contents b.contents c.contents xs ys first.behind second.behind;
  count = omega (arith, first.count, second.count, length-append xs ys);
}

-- what was put is a longer front of the bytes
pub front_more : (a b c : SinkSeen) (done n : ℕ) (xs : List ℕ) → Puts a b (take done xs) → Puts b c (take n (drop done xs)) → Puts a c (take (done + n) xs)
front_more a b c done n xs first second =
    subst (λ (front : List ℕ). Puts a c front) (sym (take-add done n xs)) (puts_more a b c _ _ first second)

-- none was put after a fault in two steps, the first of which counted none
pub stops_behind : (a b c : SinkSeen) → StopsAtFault a b → b.faults ≡ a.faults → StopsAtFault b c → StopsAtFault a c
stops_behind a b c first same second = λ none. second (same ∙ none) ∙ first none
