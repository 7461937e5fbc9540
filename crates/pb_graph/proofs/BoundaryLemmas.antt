-- The boundary of a side, member by member.
use Rattle.std.proofs.Common.{◌≡◌, ◌∙◌, ℕ, ◌+◌, ◌<◌, ◌≤◌, Bool, List, [], ◌∷◌, ◌++◌, length, get_or, take, drop, Some, None, slice_get, ap, sym, arith, append_assoc, length-append}
use Rattle.std.proofs.lemmas.List.{take_more, take_all, length-take-le, drop_all, append-nil, get_or-append-add}
use Rattle.std.proofs.lemmas.Option.{slice_get-get_or, get_or_from_slice_get}
use Rattle.pb_graph.specs.declared.records.Stream.{Stream}
use Rattle.pb_graph.specs.declared.records.Member.{Member}
use Rattle.pb_graph.specs.Boundary.{member_at, with_first, members_from, boundary_of}
use Rattle.pb_fixed.proofs.Lists.{drop_next}

members_next : (side : List Bool) (ss : List Stream) (j : ℕ) (s : Stream) → j < length ss
    → members_from side j (drop j ss) ≡ with_first (member_at side j (get_or ss j s)) (members_from side (j + 1) (drop (j + 1) ss))
members_next side ss j s lt = ap (members_from side j) (drop_next ss j s lt)

-- a stream that isn't a member leaves the members so far as they are
pub no_member : (side : List Bool) (ss : List Stream) (whole front : List Member) (j : ℕ) (s : Stream) → j < length ss
    → member_at side j (get_or ss j s) ≡ None
    → whole ≡ front ++ members_from side j (drop j ss) → whole ≡ front ++ members_from side (j + 1) (drop (j + 1) ss)
no_member side ss whole front j s lt none so_far =
    so_far ∙ ap (λ r. front ++ r) (members_next side ss j s lt ∙ ap (λ o. with_first o (members_from side (j + 1) (drop (j + 1) ss))) none)

-- a member comes next
pub next_member : (side : List Bool) (ss : List Stream) (whole front : List Member) (j : ℕ) (s : Stream) (m : Member) → j < length ss
    → member_at side j (get_or ss j s) ≡ Some m
    → whole ≡ front ++ members_from side j (drop j ss) → whole ≡ front ++ m ∷ members_from side (j + 1) (drop (j + 1) ss)
next_member side ss whole front j s m lt some so_far =
    so_far ∙ ap (λ r. front ++ r) (members_next side ss j s lt ∙ ap (λ o. with_first o (members_from side (j + 1) (drop (j + 1) ss))) some)

-- a member that is in the list at its place joins those so far
pub member_taken : (whole ms rest : List Member) (at : ℕ) (m : Member) → at < length ms → slice_get ms at ≡ Some m
    → whole ≡ take at ms ++ m ∷ rest → whole ≡ take (at + 1) ms ++ rest
member_taken whole ms rest at m lt is so_far =
    let here : get_or ms at m ≡ m = get_or_from_slice_get ms at m m is in
    so_far ∙ sym (append_assoc (take at ms) (m ∷ []) rest) ∙ ap (λ (f : List Member). f ++ rest) (sym (take_more ms at m lt ∙ ap (λ (x : Member). take at ms ++ x ∷ []) here))

-- a list that differs at a member's place is not the boundary
pub member_missing : (whole ms rest : List Member) (at : ℕ) (m : Member) → at ≤ length ms → (slice_get ms at ≡ Some m → ⊥)
    → whole ≡ take at ms ++ m ∷ rest → ms ≡ whole → ⊥
member_missing whole ms rest at m le other so_far is =
    let all : ms ≡ take at ms ++ m ∷ rest = is ∙ so_far in
    let size : length ms ≡ length (take at ms) + length (m ∷ rest) = ap length all ∙ length-append (take at ms) (m ∷ rest) in
    let front = length-take-le at ms le in
    let lt : at < length ms = omega (arith, size, front) in
    let here : get_or ms at m ≡ m =
    ap (λ (l : List Member). get_or l at m) all ∙ ap (λ (n : ℕ). get_or (take at ms ++ m ∷ rest) n m) (sym (omega (arith, front))) ∙ get_or-append-add (take at ms) (m ∷ rest) 0 m in
    other (slice_get-get_or ms at m lt ∙ ap (λ (x : Member). Some x) here)

-- at the end the list is the boundary if all of it was compared
pub members_end : (side : List Bool) (ss : List Stream) (whole ms : List Member) (at j : ℕ) → length ss ≤ j → at ≤ length ms
    → whole ≡ take at ms ++ members_from side j (drop j ss) → (at ≡ length ms → ms ≡ whole) × (ms ≡ whole → at ≡ length ms)
members_end side ss whole ms at j le within so_far =
    let is : whole ≡ take at ms = so_far ∙ ap (λ (r : List Stream). take at ms ++ members_from side j r) (drop_all j ss le) ∙ append-nil (take at ms) in
    ((λ e. sym (is ∙ take_all at ms (omega (arith, e)))), (λ e. omega (arith, ap length (e ∙ is), length-take-le at ms within)))

-- what is made so far, if a stream isn't a member
pub no_member_more : (side : List Bool) (ss : List Stream) (members : List Member) (j : ℕ) (s : Stream) → j < length ss → member_at side j (get_or ss j s) ≡ None
    → boundary_of side ss ≡ members ++ members_from side j (drop j ss) → boundary_of side ss ≡ members ++ members_from side (j + 1) (drop (j + 1) ss)
no_member_more side ss members j s lt none so_far = no_member side ss (boundary_of side ss) members j s lt none so_far

-- what is made so far, with one more member
pub member_more : (side : List Bool) (ss : List Stream) (members : List Member) (j : ℕ) (s : Stream) (m : Member) → j < length ss → member_at side j (get_or ss j s) ≡ Some m
    → boundary_of side ss ≡ members ++ members_from side j (drop j ss) → boundary_of side ss ≡ (members ++ m ∷ []) ++ members_from side (j + 1) (drop (j + 1) ss)
member_more side ss members j s m lt some so_far =
    next_member side ss (boundary_of side ss) members j s m lt some so_far ∙ sym (append_assoc members (m ∷ []) (members_from side (j + 1) (drop (j + 1) ss)))
