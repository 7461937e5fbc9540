-- Chords and branches as they are kept: what they bring and settle is what the trees say.
use Rattle.std.proofs.Common.{◌≡◌, ◌∙◌, ℕ, zero, suc, ◌+◌, ◌*◌, ◌<◌, ◌≤◌, ℤ, pos, neg_ℤ, unsigned_abs, Bool, true, false, cond, ◌==◌, List, [], ◌∷◌, ◌++◌, length, All, Option, None, Some, get_or, refl, sym, ap, subst, inl, inr, arith}
use Rattle.std.proofs.lemmas.Bool.{cases_Bool}
use Rattle.std.proofs.lemmas.Int.{ints}
use Rattle.std.proofs.lemmas.List.{append-nil, get_or-map, length-append, length-map}
use Rattle.std.proofs.lemmas.List.Elements.{All-append}
use Rattle.pb_fixed.specs.Sums.{item}
use Rattle.pb_fixed.proofs.Lists.{All-from_recursion, some_same}
use Rattle.pb_graph.specs.declared.records.Stream.{Stream}
use Rattle.pb_graph.specs.ProcessGraph.{some_stream}
use Rattle.pb_graph.specs.Groups.{entering}
use Rattle.pb_forest.specs.Flows.{most_given_flow}
use Rattle.pb_forest.specs.Trees.{RootedTrees, AreWhole, node_at, up_of, end_from}
use Rattle.pb_forest.specs.Balancing.{Chord, Branch, IsChordWithin, IsBranchWithin, AreNets, added_at, branch_from, branches_of, brought, chord_at, chord_flow, chords_of, gathered, settled, settled_by}
use Rattle.pb_forest.proofs.FlowLemmas.{chord_held, chord_other}
use Rattle.pb_forest.proofs.NetLemmas.{added_small, length_added, nets_more, up_within}

-- ---- the chords
pub chords_held : (ss : List Stream) (held : List Bool) (t : RootedTrees) (n : ℕ) → get_or held n false ≡ true → chords_of ss held t (suc n) ≡ chords_of ss held t n
chords_held ss held t n h = ap (λ (b : Bool). chords_of ss held t n ++ cond b [] (chord_at ss t n ∷ [])) h ∙ append-nil (chords_of ss held t n)

pub chords_more : (ss : List Stream) (held : List Bool) (t : RootedTrees) (n : ℕ) → get_or held n false ≡ false
    → chords_of ss held t (suc n) ≡ chords_of ss held t n ++ chord_at ss t n ∷ []
chords_more ss held t n h = ap (λ (b : Bool). chords_of ss held t n ++ cond b [] (chord_at ss t n ∷ [])) h

pub few_chords : (ss : List Stream) (held : List Bool) (t : RootedTrees) (n : ℕ) → length (chords_of ss held t n) ≤ n
few_chords ss held t zero = omega arith
few_chords ss held t (suc n) =
    let rest = few_chords ss held t n in
    elim (cases_Bool (get_or held n false)) [
      | inl h ↦ rw (chords_held ss held t n h) (omega (arith, rest))
      | inr h ↦ rw (chords_more ss held t n h, length-append (chords_of ss held t n) (chord_at ss t n ∷ [])) (omega (arith, rest))
    ]

chord_within : (nodes : ℕ) (ss : List Stream) (held : List Bool) (t : RootedTrees) (n : ℕ) → AreWhole nodes ss held t → n < length ss → IsChordWithin (length ss) (chord_at ss t n)
chord_within nodes ss held t n whole lt = record {
  stream = lt;
  from = λ k up. up_within nodes ss held t (get_or ss n some_stream).from k whole up;
  to = λ k up. up_within nodes ss held t (get_or ss n some_stream).to k whole up;
}

pub chords_within : (nodes : ℕ) (ss : List Stream) (held : List Bool) (t : RootedTrees) (n : ℕ) → AreWhole nodes ss held t → n ≤ length ss
    → All (IsChordWithin (length ss)) (chords_of ss held t n)
chords_within nodes ss held t zero whole le = λ k d lt. absurd (omega (arith, lt))
chords_within nodes ss held t (suc n) whole le =
    let rest = chords_within nodes ss held t n whole (omega (arith, le)) in
    elim (cases_Bool (get_or held n false)) [
      | inl h ↦ rw (chords_held ss held t n h) rest
      | inr h ↦
          let own : All (IsChordWithin (length ss)) (chord_at ss t n ∷ []) = All-from_recursion (IsChordWithin (length ss)) (chord_at ss t n ∷ []) (chord_within nodes ss held t n whole le, tt) in
          rw (chords_more ss held t n h) (All-append (IsChordWithin (length ss)) (chords_of ss held t n) (chord_at ss t n ∷ []) rest own)
    ]

-- ---- what chords bring
pub gathered-append : (cs ds : List Chord) (off out : List ℤ) → gathered (cs ++ ds) off out ≡ gathered ds off (gathered cs off out)
gathered-append [] ds off out = refl
gathered-append (c ∷ cs) ds off out = gathered-append cs ds off (brought c (item off c.stream) out)

pub length_brought : (c : Chord) (x : ℤ) (out : List ℤ) → length (brought c x out) ≡ length out
length_brought c x out = length_added c.to x (added_at c.from (neg_ℤ x) out) ∙ length_added c.from (neg_ℤ x) out

pub brought_small : (c : Chord) (x : ℤ) (out : List ℤ) (b : ℕ) → ((k : ℕ) → unsigned_abs (item out k) ≤ b) → unsigned_abs x ≤ most_given_flow
    → (k : ℕ) → unsigned_abs (item (brought c x out) k) ≤ b + 2 * most_given_flow
brought_small c x out b small le k =
    let turned : unsigned_abs (neg_ℤ x) ≤ most_given_flow = omega (arith, ints, le) in
    let first = added_small c.from (neg_ℤ x) out b most_given_flow small turned in
    let second = added_small c.to x (added_at c.from (neg_ℤ x) out) (b + most_given_flow) most_given_flow first le k in
    omega (arith, second)

-- a held stream brings nothing
enters_nothing : (a b : Bool) → entering a b (pos 0) ≡ pos 0
enters_nothing true true = refl
enters_nothing true false = refl
enters_nothing false true = refl
enters_nothing false false = refl

nets_held : (ss : List Stream) (held : List Bool) (off : List ℤ) (t : RootedTrees) (j : ℕ) (out : List ℤ) → get_or held j false ≡ true
    → AreNets ss held off t j out → AreNets ss held off t (suc j) out
nets_held ss held off t j out h nets = record {
  each = nets.each;
  net = λ n e up.
      let s : Stream = get_or ss j some_stream in
      let none : entering (s.from == n) (s.to == n) (chord_flow held off j) ≡ pos 0 =
      ap (entering (s.from == n) (s.to == n)) (chord_held held off j h) ∙ enters_nothing (s.from == n) (s.to == n) in
      let was = nets.net n e up in
      omega (arith, ints, was, none);
  rest = nets.rest;
}

pub nets_all : (nodes : ℕ) (ss : List Stream) (held : List Bool) (off : List ℤ) (t : RootedTrees) (n : ℕ) (out : List ℤ) → AreWhole nodes ss held t
    → AreNets ss held off t 0 out → AreNets ss held off t n (gathered (chords_of ss held t n) off out)
nets_all nodes ss held off t zero out whole nets = nets
nets_all nodes ss held off t (suc n) out whole nets =
    let so_far : List ℤ = gathered (chords_of ss held t n) off out in
    let before = nets_all nodes ss held off t n out whole nets in
    let next : n + 1 ≡ suc n = omega arith in
    elim (cases_Bool (get_or held n false)) [
      | inl h ↦ rw (chords_held ss held t n h) (nets_held ss held off t n so_far h before)
      | inr h ↦
          let more : AreNets ss held off t (suc n) (brought (chord_at ss t n) (chord_flow held off n) so_far) =
          subst (λ (j : ℕ). AreNets ss held off t j (brought (chord_at ss t n) (chord_flow held off n) so_far)) next (nets_more nodes ss held off t n so_far whole before) in
          let here : AreNets ss held off t (suc n) (brought (chord_at ss t n) (item off n) so_far) =
          subst (λ (x : ℤ). AreNets ss held off t (suc n) (brought (chord_at ss t n) x so_far)) (chord_other held off n h) more in
          rw (chords_more ss held t n h, gathered-append (chords_of ss held t n) (chord_at ss t n ∷ []) off out) here
    ]

-- ---- the branches
pub settled_is : (ss : List Stream) (t : RootedTrees) (n : ℕ) (o : Option ℕ) (out : List ℤ) → settled_by (branch_from ss t n o) out ≡ settled ss t n o out
settled_is ss t n None out = refl
settled_is ss t n (Some k) out = refl

pub length_branches : (ss : List Stream) (t : RootedTrees) → length (branches_of ss t) ≡ length t.order
length_branches ss t = length-map t.order (λ (n : ℕ). branch_from ss t n (up_of t n))

pub branch_at : (ss : List Stream) (t : RootedTrees) (i : ℕ) → i < length t.order
    → get_or (branches_of ss t) i None ≡ branch_from ss t (node_at t i) (up_of t (node_at t i))
branch_at ss t i lt = get_or-map (λ n. branch_from ss t n (up_of t n)) t.order i 0 None lt

branch_within : (nodes : ℕ) (ss : List Stream) (held : List Bool) (t : RootedTrees) (n : ℕ) (o : Option ℕ) (b : Branch) → AreWhole nodes ss held t → up_of t n ≡ o
    → branch_from ss t n o ≡ Some b → IsBranchWithin (length ss) b
branch_within nodes ss held t n None b whole up is = cc is
branch_within nodes ss held t n (Some k) b whole up is =
    let s : Branch = record { stream = k; enters = (get_or ss k some_stream).to == n; parent = up_of t (end_from ss n k) } in
    let here : IsBranchWithin (length ss) s = record {
      stream = up_within nodes ss held t n k whole up;
      parent = λ e up_e. up_within nodes ss held t (end_from ss n k) e whole up_e;
    } in
    subst (λ (x : Branch). IsBranchWithin (length ss) x) (some_same is) here

pub branches_within : (nodes : ℕ) (ss : List Stream) (held : List Bool) (t : RootedTrees) (i : ℕ) (b : Branch) → AreWhole nodes ss held t → i < length t.order
    → get_or (branches_of ss t) i None ≡ Some b → IsBranchWithin (length ss) b
branches_within nodes ss held t i b whole lt is =
    branch_within nodes ss held t (node_at t i) (up_of t (node_at t i)) b whole refl (sym (branch_at ss t i lt) ∙ is)
