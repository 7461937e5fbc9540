use Rattle.std.specs.List.{AllPairs}
use Rattle.std.proofs.Common.{◌≡◌, ◌<◌, ℕ, List, length, ltb, true, rules, sym, subst, arith}
use Rattle.std.proofs.lemmas.Bool.{ltb-false, ltb-true}
use Rattle.std.proofs.lemmas.List.Kept.{AllPairs-from_increasing}
use Rattle.std.proofs.lemmas.List.Sorted.{IsPartitionPoint-from_clause, IsPartitionedBy-ltb}
use Rattle.pb_site.specs.OnDays.{has_place, place_among}
use Rattle.pb_site.proofs.DaysLemmas.{not_falling, place_found}
use Rattle.pb_site.proofs.on_days.OnDays.place.Goals as goal

found : (c : goal.After-partition_point) → (c.partition_point.result ≡ place_among c.args.self.now c.args.node) × (c.partition_point.result < length c.args.self.now)
found c =
    let nodes = c.deref.result.now in
    let node = c.args.node in
    let i = c.partition_point.result in
    let same = sym c.deref.ensures.value in
    let rises : AllPairs (λ (a b : ℕ). a < b) nodes = subst (AllPairs (λ (a b : ℕ). a < b)) same (AllPairs-from_increasing c.self.inside.nodes.items c.self.invariant.order) in
    let there : has_place nodes node ≡ true = subst (λ (ns : List ℕ). has_place ns node ≡ true) same (rw (← c.self.view_is) at c.requires) in
    let parted = IsPartitionedBy-ltb (λ n. n) nodes node (not_falling nodes rises) in
    let point = IsPartitionPoint-from_clause (λ n. ltb n node) nodes i c.partition_point.ensures.partitioned parted (λ a r q k. search rules) in
    let at = place_found nodes node i rises c.partition_point.ensures.bound (λ k lt. ltb-true _ _ (point.0 k 0 (omega arith) lt)) (λ k le lt. ltb-false _ _ (point.1 k 0 le lt)) there in
    rw (← c.self.view_is) (subst (λ (ns : List ℕ). (i ≡ place_among ns node) × (i < length ns)) c.deref.ensures.value at)

pub returns-clause-value : goal.returns-clause-value
returns-clause-value c = (found c).0

pub returns-clause-within : goal.returns-clause-within
returns-clause-within c = (found c).1
