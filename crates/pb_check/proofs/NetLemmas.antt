-- Net flows at all nodes, gathered stream by stream.
use Rattle.std.proofs.Common.{◌≡◌, ◌∙◌, ℕ, ◌+◌, ◌*◌, ◌^◌, ◌<◌, ◌≤◌, ℤ, pos, neg_ℤ, ◌+ℤ◌, ◌-ℤ◌, List, ◌∷◌, length, drop, set, Some, slice_get, unsigned_abs, refl, sym, ap, ap₂, inl, inr, arith}
use Rattle.std.specs.Prelude.{◌==◌, Bool, true, false, option_map, if◌then◌else◌}
use Rattle.std.proofs.lemmas.Bool.{cases_eq, eq-eqb, ne_eqb}
use Rattle.std.proofs.lemmas.Int.{ints}
use Rattle.std.proofs.lemmas.List.{get_or-set_same, get_or-set_other, length-set}
use Rattle.std.proofs.lemmas.Option.{slice_get_within, get_or_from_slice_get, slice_get-map}
use Rattle.pb_fixed.specs.Sums.{item}
use Rattle.pb_fixed.proofs.Lists.{drop_next, all_each}
use Rattle.pb_graph.specs.declared.records.Stream.{Stream}
use Rattle.pb_study.specs.declared.results.StreamResult.{StreamResult}
use Rattle.pb_study.specs.declared.results.Stage.{Stage}
use Rattle.pb_graph.specs.ProcessGraph.{IsStream}
use Rattle.pb_graph.specs.WellFormed.{IsFlow}
use Rattle.pb_study.specs.WellFormed.{IsResultWithin, IsWellFormed}
use Rattle.pb_graph.specs.Balance.{brought_to, net_of}
use Rattle.pb_stage.specs.Printed.{printed_flows}

-- the rest of a list from a place on
next_at : {A : Type 0} (xs : List A) (j : ℕ) (x : A) → slice_get xs j ≡ Some x → drop j xs ≡ x ∷ drop (j + 1) xs
next_at xs j x at = drop_next xs j x (slice_get_within xs j x at) ∙ ap (λ y. y ∷ drop (j + 1) xs) (get_or_from_slice_get xs j x x at)

-- the net flow from a place on is the share there and the net flow after it
pub net_next : (stage : Stage) (n j : ℕ) (stream : Stream) (result : StreamResult) → slice_get stage.graph.streams j ≡ Some stream → slice_get stage.streams j ≡ Some result
    → net_of n (drop j stage.graph.streams) (drop j (printed_flows stage))
    ≡ brought_to n stream result.flow +ℤ net_of n (drop (j + 1) stage.graph.streams) (drop (j + 1) (printed_flows stage))
net_next stage n j stream result here there =
    let at : slice_get (printed_flows stage) j ≡ Some result.flow = slice_get-map (λ (r : StreamResult). r.flow) stage.streams j ∙ ap (option_map (λ (r : StreamResult). r.flow)) there in
    ap₂ (net_of n) (next_at stage.graph.streams j stream here) (next_at (printed_flows stage) j result.flow at)

-- an amount added at one node
pub set_more : (nets : List ℤ) (node n : ℕ) (amount : ℤ) → node < length nets
    → item (set nets node (item nets node +ℤ amount)) n ≡ item nets n +ℤ (if node == n then amount else pos 0)
set_more nets node n amount lt = elim (cases_eq n node) [
  | inl e ↦
      let here : item (set nets node (item nets node +ℤ amount)) n ≡ item nets n +ℤ amount =
      ap (item (set nets node (item nets node +ℤ amount))) e ∙ get_or-set_same nets node (item nets node +ℤ amount) (pos 0) lt ∙ ap (λ (m : ℕ). item nets m +ℤ amount) (sym e) in
      here ∙ ap (λ (b : Bool). item nets n +ℤ (if b then amount else pos 0)) (sym (eq-eqb node n (sym e)))
  | inr ne ↦
      get_or-set_other nets node n (item nets node +ℤ amount) (pos 0) ne
      ∙ more (item nets n)
      ∙ ap (λ (b : Bool). item nets n +ℤ (if b then amount else pos 0)) (sym (ne_eqb node n (λ e. ne (sym e))))
]
  where
    more : (x : ℤ) → x ≡ x +ℤ pos 0
    more x = omega (arith, ints)

turned : (b : Bool) (flow : ℤ) → (if b then neg_ℤ flow else pos 0) ≡ neg_ℤ (if b then flow else pos 0)
turned true flow = refl
turned false flow = refl

-- a flow at both ends of its stream
pub bring_both : (stream : Stream) (flow back : ℤ) (nets once twice : List ℤ) → IsStream (length nets) stream → back ≡ neg_ℤ flow
    → once ≡ set nets stream.to (item nets stream.to +ℤ flow) → twice ≡ set once stream.from (item once stream.from +ℤ back)
    → (n : ℕ) → item twice n ≡ item nets n +ℤ brought_to n stream flow
bring_both stream flow back nets once twice ends turn first second n =
    let same : length once ≡ length nets = ap length first ∙ length-set nets stream.to (item nets stream.to +ℤ flow) in
    let to : item once n ≡ item nets n +ℤ (if stream.to == n then flow else pos 0) = ap (λ xs. item xs n) first ∙ set_more nets stream.to n flow ends.to in
    let from : item twice n ≡ item once n +ℤ (if stream.from == n then back else pos 0) =
    ap (λ xs. item xs n) second ∙ set_more once stream.from n back (omega (arith, ends.from, same)) in
    let back_is : (if stream.from == n then back else pos 0) ≡ neg_ℤ (if stream.from == n then flow else pos 0) =
    ap (λ (z : ℤ). if stream.from == n then z else pos 0) turn ∙ turned (stream.from == n) flow in
    omega (arith, ints, to, from, back_is)

-- one more stream is gathered
pub gathered : (sum more rest whole part next : ℤ) → sum +ℤ rest ≡ whole → more ≡ sum +ℤ part → rest ≡ part +ℤ next → more +ℤ next ≡ whole
gathered sum more rest whole part next so_far is step = omega (arith, ints, so_far, is, step)

-- what a flow brings to a node is small
brought_by : (b c : Bool) (f : ℤ) → IsFlow f → unsigned_abs ((if b then f else pos 0) -ℤ (if c then f else pos 0)) ≤ 2 ^ 69
brought_by true true f small = omega (arith, ints, small)
brought_by true false f small = omega (arith, ints, small)
brought_by false true f small = omega (arith, ints, small)
brought_by false false f small = omega (arith, ints, small)

pub brought_small : (n : ℕ) (stream : Stream) (flow : ℤ) → IsFlow flow → unsigned_abs (brought_to n stream flow) ≤ 2 ^ 69
brought_small n stream flow small = brought_by (stream.to == n) (stream.from == n) flow small

pub sum_small : (sum part more : ℤ) (j : ℕ) → more ≡ sum +ℤ part → unsigned_abs sum ≤ j * 2 ^ 69 → unsigned_abs part ≤ 2 ^ 69 → unsigned_abs more ≤ (j + 1) * 2 ^ 69
sum_small sum part more j is so_far small = omega (arith, ints, is, so_far, small)

-- the flow of a well-formed result is small
pub flow_small : (stage : Stage) (j : ℕ) (result : StreamResult) → IsWellFormed stage → slice_get stage.streams j ≡ Some result → IsFlow result.flow
flow_small stage j result formed here = (all_each (IsResultWithin stage.graph) stage.streams formed.results j result here).flow
