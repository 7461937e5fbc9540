-- Signed lists of measured streams.
use Rattle.std.proofs.Common.{◌≡◌, ℕ, zero, suc, ◌<◌, ◌≤◌, ℤ, pos, ◌≤ℤ◌, List, [], ◌∷◌, length, replicate, refl, arith}
use Rattle.std.specs.Prelude.{All}
use Rattle.std.specs.List.{AllByRecursion}
use Rattle.std.proofs.lemmas.Int.{ints}
use Rattle.std.proofs.lemmas.Option.{slice_get_within}
use Rattle.pb_fixed.specs.Sums.{item, sum_over, total}
use Rattle.pb_fixed.proofs.Lists.{All-from_recursion, AllByRecursion-map}
use Rattle.pb_fixed.proofs.PartialSums.{partial_sum}
use Rattle.pb_graph.specs.declared.records.Member.{Member}
use Rattle.pb_graph.specs.ProcessGraph.{ProcessGraph}
use Rattle.pb_gap.specs.Bounds.{AreSigned, IsSigned}
use Rattle.pb_gap.specs.Members.{AreMembers, IsMemberOf}

abbrev pub some_member : Member
some_member = record { stream = 0; sign = pos 0 }

-- each member is a stream
pub members_within : (g : ProcessGraph) (ms : List Member) → AreSigned g ms → All (λ (m : Member). m.stream < length g.streams) ms
members_within g ms h =
    All-from_recursion (λ (m : Member). m.stream < length g.streams) ms
    (AllByRecursion-map (IsSigned g) (λ (m : Member). m.stream < length g.streams) ms (λ m is. slice_get_within g.streams m.stream is.stream is.is) h.each)

pub are_members : (g : ProcessGraph) (ms : List Member) → AreSigned g ms → AreMembers g.streams ms
are_members g ms h =
    All-from_recursion (IsMemberOf g.streams) ms
    (AllByRecursion-map (IsSigned g) (IsMemberOf g.streams) ms (λ m is. record { there = slice_get_within g.streams m.stream is.stream is.is; sign = is.sign }) h.each)

-- as many ones as streams
ones_nonneg : (n : ℕ) → AllByRecursion (λ (x : ℤ). pos 0 ≤ℤ x) (replicate n (pos 1))
ones_nonneg zero = tt
ones_nonneg (suc n) = (omega (arith, ints), ones_nonneg n)

ones_total : (n : ℕ) → total (replicate n (pos 1)) ≡ pos n
ones_total zero = refl
ones_total (suc n) = let rest = ones_total n in omega (arith, ints, rest)

one_at : (n j : ℕ) → j < n → item (replicate n (pos 1)) j ≡ pos 1
one_at zero j lt = absurd (omega (arith, lt))
one_at (suc n) zero lt = refl
one_at (suc n) (suc j) lt = one_at n j (omega (arith, lt))

count_ones : (n : ℕ) (ms : List Member) → AllByRecursion (λ (m : Member). m.stream < n) ms → sum_over (λ (m : Member). item (replicate n (pos 1)) m.stream) ms ≡ pos (length ms)
count_ones n [] h = refl
count_ones n (m ∷ ms) h = let one = one_at n m.stream h.0 in let rest = count_ones n ms h.1 in omega (arith, ints, one, rest)

-- there are no more members than streams
pub members_few : (g : ProcessGraph) (ms : List Member) → AreSigned g ms → length ms ≤ length g.streams
members_few g ms h =
    let n = length g.streams in
    let each = AllByRecursion-map (IsSigned g) (λ (m : Member). m.stream < n) ms (λ m is. slice_get_within g.streams m.stream is.stream is.is) h.each in
    let sum = partial_sum (λ (m : Member). m.stream) (replicate n (pos 1)) ms (ones_nonneg n) h.distinct in
    let left = count_ones n ms each in
    let right = ones_total n in
    omega (arith, ints, sum, left, right)
