-- The graph with meters on the chosen streams, and that a choice suffices exactly when the streams that stay unmeasured have no cycle.
use Rattle.std.proofs.Common.{◌≡◌, ◌∙◌, ℕ, zero, suc, ◌+◌, ◌<◌, ◌≤◌, Bool, true, false, not, ◌==◌, List, [], ◌∷◌, ◌++◌, length, take, All, Some, None, slice_get, get_or, ap, ap₂, sym, refl, subst, inl, inr, arith}
use Rattle.std.proofs.lemmas.Bool.{cases_Bool, and_parts, and_from, not-true, not_from_false}
use Rattle.std.proofs.lemmas.List.{take_more}
use Rattle.std.proofs.lemmas.Option.{slice_get_within, slice_get-get_or, get_or_from_slice_get}
use Rattle.pb_graph.specs.declared.records.Stream.{Stream}
use Rattle.pb_graph.specs.declared.records.Step.{Step}
use Rattle.pb_graph.specs.ProcessGraph.{ProcessGraph, IsProcessGraph, IsStream, IsWithinLimits, Fits, is_measured}
use Rattle.pb_graph.specs.Walk.{along, ends_at, ends_of, any_stream, unmeasured, unmeasured_but, is_in, IsReach, Walks, Reaches}
use Rattle.pb_graph.proofs.WalkLemmas.{some_same, ends_is, stream_of}
use Rattle.pb_graph.proofs.ReachLemmas.{some_reach}
use Rattle.pb_graph.specs.BalanceLaws.{IsDecidedBy}
use Rattle.pb_graph.proofs.BalanceLaws.{reach_decides, no_meas}
use Rattle.pb_forest.specs.Laws.{except}
use Rattle.pb_advise.specs.Choice.{metered, with_meters, metered_graph, stays_unmeasured}
use Rattle.pb_advise.specs.Laws.{SufficesLaw}

-- ---- the streams once the chosen ones have meters
pub length_metered : (chosen : List Bool) (ss : List Stream) → length (with_meters chosen ss) ≡ length ss
length_metered chosen [] = refl
length_metered [] (s ∷ ss) = refl
length_metered (m ∷ ms) (s ∷ ss) = let h = length_metered ms ss in omega (arith, h)

pub metered_there : (chosen : List Bool) (ss : List Stream) (k : ℕ) (s : Stream) → slice_get ss k ≡ Some s
    → slice_get (with_meters chosen ss) k ≡ Some (metered (get_or chosen k false) s)
metered_there chosen [] k s at = cc at
metered_there [] (t ∷ ss) k s at = at
metered_there (m ∷ ms) (t ∷ ss) zero s at = ap (λ (u : Stream). Some (metered m u)) (some_same at)
metered_there (m ∷ ms) (t ∷ ss) (suc k) s at = metered_there ms ss k s at

-- a stream of the metered graph is one of the graph
record IsMeteredFrom (chosen : List Bool) (ss : List Stream) (k : ℕ) (t : Stream) : Type 0 where
  s : Stream
  at : slice_get ss k ≡ Some s
  is : t ≡ metered (get_or chosen k false) s

metered_from : (chosen : List Bool) (ss : List Stream) (k : ℕ) (t : Stream) → slice_get (with_meters chosen ss) k ≡ Some t → IsMeteredFrom chosen ss k t
metered_from chosen ss k t at =
    let lt : k < length ss = omega (arith, slice_get_within (with_meters chosen ss) k t at, length_metered chosen ss) in
    let d : Stream = record { from = 0; to = 0; meas = None } in
    let there = slice_get-get_or ss k d lt in
    record { s = get_or ss k d; at = there; is = some_same (sym at ∙ metered_there chosen ss k (get_or ss k d) there) }

pub metered_along : (m forward : Bool) (s : Stream) → along forward (metered m s) ≡ along forward s
metered_along true true s = refl
metered_along true false s = refl
metered_along false true s = refl
metered_along false false s = refl

pub metered_bare : (m : Bool) (s : Stream) → is_measured (metered m s) ≡ false → (is_measured s ≡ false) × (m ≡ false)
metered_bare true s e = cc e
metered_bare false s e = (e, refl)

-- a stream that stays unmeasured is the same in the metered graph, and is unmeasured there
pub stays_same : (chosen : List Bool) (k : ℕ) (s : Stream) → stays_unmeasured chosen k s ≡ true → metered (get_or chosen k false) s ≡ s
stays_same chosen k s ok =
    let parts = and_parts (unmeasured k s) (not (get_or chosen k false)) ok in
    rw (not-true (get_or chosen k false) parts.1) refl

pub stays_from : (chosen : List Bool) (k : ℕ) (s : Stream) → unmeasured k (metered (get_or chosen k false) s) ≡ true → stays_unmeasured chosen k s ≡ true
stays_from chosen k s bare =
    let both = metered_bare (get_or chosen k false) s (not-true (is_measured (metered (get_or chosen k false) s)) bare) in
    and_from (unmeasured k s) (not (get_or chosen k false)) (not_from_false (is_measured s) both.0) (not_from_false (get_or chosen k false) both.1)

pub stays_bare : (chosen : List Bool) (k : ℕ) (s : Stream) → stays_unmeasured chosen k s ≡ true → unmeasured k (metered (get_or chosen k false) s) ≡ true
stays_bare chosen k s ok =
    ap (λ (u : Stream). unmeasured k u) (stays_same chosen k s ok) ∙ (and_parts (unmeasured k s) (not (get_or chosen k false)) ok).0

-- ---- walks in the metered graph and in the graph
-- a step has the same ends
pub metered_ends_of : (chosen : List Bool) (ss : List Stream) (t : Step) → ends_of any_stream (with_meters chosen ss) t ≡ ends_of any_stream ss t
metered_ends_of chosen ss t = by_index chosen ss t.stream
  where
    by_index : (chosen : List Bool) (ss : List Stream) (k : ℕ)
        → ends_at any_stream t.stream t.forward (slice_get (with_meters chosen ss) k) ≡ ends_at any_stream t.stream t.forward (slice_get ss k)
    by_index chosen [] k = refl
    by_index [] (s ∷ ss) k = refl
    by_index (m ∷ ms) (s ∷ ss) zero = ap (λ (q : ℕ × ℕ). Some q) (metered_along m t.forward s)
    by_index (m ∷ ms) (s ∷ ss) (suc k) = by_index ms ss k

pub walk_down : (may more : ℕ → Stream → Bool) (chosen : List Bool) (ss : List Stream) (a b : ℕ) (steps : List Step)
    → ((k : ℕ) (s : Stream) → may k (metered (get_or chosen k false) s) ≡ true → more k s ≡ true)
    → Walks (ends_of may (with_meters chosen ss)) a steps b → Walks (ends_of more ss) a steps b
walk_down may more chosen ss a b [] pass w = w
walk_down may more chosen ss a b (t ∷ rest) pass (c, e, w) =
    let (u, at, ok, goes) = stream_of may (with_meters chosen ss) t (a, c) e in
    let here = metered_from chosen ss t.stream u at in
    let mark = get_or chosen t.stream false in
    let passes = pass t.stream here.s (ap (λ (v : Stream). may t.stream v) (sym here.is) ∙ ok) in
    let same = sym (metered_along mark t.forward here.s) ∙ ap (along t.forward) (sym here.is) ∙ goes in
    (c, ends_is more ss t.stream here.s t.forward here.at passes ∙ ap (λ (q : ℕ × ℕ). Some q) same, walk_down may more chosen ss c b rest pass w)

pub walk_up : (may more : ℕ → Stream → Bool) (chosen : List Bool) (ss : List Stream) (a b : ℕ) (steps : List Step)
    → ((k : ℕ) (s : Stream) → may k s ≡ true → more k (metered (get_or chosen k false) s) ≡ true)
    → Walks (ends_of may ss) a steps b → Walks (ends_of more (with_meters chosen ss)) a steps b
walk_up may more chosen ss a b [] pass w = w
walk_up may more chosen ss a b (t ∷ rest) pass (c, e, w) =
    let (s, at, ok, goes) = stream_of may ss t (a, c) e in
    let mark = get_or chosen t.stream false in
    let there = metered_there chosen ss t.stream s at in (
      c,
      ends_is more (with_meters chosen ss) t.stream (metered mark s) t.forward there (pass t.stream s ok)
          ∙ ap (λ (q : ℕ × ℕ). Some q) (metered_along mark t.forward s ∙ goes),
      walk_up may more chosen ss c b rest pass w,
    )

-- ---- the metered graph is within the limits
metered_ends : (nodes : ℕ) (m : Bool) (s : Stream) → IsStream nodes s → IsStream nodes (metered m s)
metered_ends nodes true s is = record { from = is.from; to = is.to; apart = is.apart }
metered_ends nodes false s is = is

metered_limits : (m : Bool) (s : Stream) → IsWithinLimits s → IsWithinLimits (metered m s)
metered_limits true s is = record { value = omega arith; least = omega arith; greatest = omega arith }
metered_limits false s is = is

all_metered : (P : Stream → Type 0) (chosen : List Bool) (ss : List Stream) → ((m : Bool) (s : Stream) → P s → P (metered m s)) → All P ss → All P (with_meters chosen ss)
all_metered P chosen ss keep all = λ k d lt.
    let within : k < length ss = omega (arith, lt, length_metered chosen ss) in
    let there = metered_there chosen ss k (get_or ss k d) (slice_get-get_or ss k d within) in
    subst P (sym (get_or_from_slice_get (with_meters chosen ss) k (metered (get_or chosen k false) (get_or ss k d)) d there)) (keep (get_or chosen k false) (get_or ss k d) (all k d within))

pub metered_is : (g : ProcessGraph) (chosen : List Bool) → IsProcessGraph g → IsProcessGraph (metered_graph g chosen)
metered_is g chosen is = record {
  env = is.env;
  few_nodes = is.few_nodes;
  few_streams = omega (arith, is.few_streams, length_metered chosen g.streams);
  joins = all_metered (IsStream g.nodes) chosen g.streams (λ m s p. metered_ends g.nodes m s p) is.joins;
  limits = all_metered IsWithinLimits chosen g.streams (λ m s p. metered_limits m s p) is.limits;
}

-- ---- the graph copied stream by stream
push_metered : (chosen : List Bool) (ss : List Stream) (m : Bool) (s : Stream) → length chosen ≡ length ss
    → with_meters (chosen ++ m ∷ []) (ss ++ s ∷ []) ≡ with_meters chosen ss ++ metered m s ∷ []
push_metered [] [] m s size = refl
push_metered [] (t ∷ ss) m s size = absurd (omega (arith, size))
push_metered (n ∷ ms) [] m s size = absurd (omega (arith, size))
push_metered (n ∷ ms) (t ∷ ss) m s size = ap (λ (l : List Stream). metered n t ∷ l) (push_metered ms ss m s (omega (arith, size)))

pub take_metered : (chosen : List Bool) (ss : List Stream) (j : ℕ) (d : Stream) → length chosen ≡ length ss → j < length ss
    → with_meters (take (j + 1) chosen) (take (j + 1) ss) ≡ with_meters (take j chosen) (take j ss) ++ metered (get_or chosen j false) (get_or ss j d) ∷ []
take_metered chosen ss j d size lt =
    ap₂ (λ (ms : List Bool) (l : List Stream). with_meters ms l) (take_more chosen j false (omega (arith, lt, size))) (take_more ss j d lt)
    ∙ push_metered (take j chosen) (take j ss) (get_or chosen j false) (get_or ss j d) (length-take-less chosen j (omega (arith, lt, size)) ∙ sym (length-take-less ss j lt))
  where
    length-take-less : {X : Type 0} (xs : List X) (n : ℕ) → n < length xs → length (take n xs) ≡ n
    length-take-less xs zero lt = refl
    length-take-less [] (suc n) lt = absurd (omega (arith, lt))
    length-take-less (x ∷ xs) (suc n) lt = let h = length-take-less xs n (omega (arith, lt)) in omega (arith, h)

pub metered_fits : (g : ProcessGraph) (chosen : List Bool) (j : ℕ) (d : Stream) → IsProcessGraph g → j < length g.streams
    → Fits (record { nodes = g.nodes; streams = with_meters (take j chosen) (take j g.streams) }) (metered (get_or chosen j false) (get_or g.streams j d))
metered_fits g chosen j d is lt = record {
  room = let a = length_metered (take j chosen) (take j g.streams) in let b = take_short j g.streams in omega (arith, a, b, lt, is.few_streams);
  joins = metered_ends g.nodes (get_or chosen j false) (get_or g.streams j d) (is.joins j d lt);
  limits = metered_limits (get_or chosen j false) (get_or g.streams j d) (is.limits j d lt);
}
  where
    take_short : (n : ℕ) (xs : List Stream) → length (take n xs) ≤ n
    take_short zero xs = omega arith
    take_short (suc n) [] = omega arith
    take_short (suc n) (x ∷ xs) = let h = take_short n xs in omega (arith, h)

-- ---- a stream that stays unmeasured
pub stream_is : (g : ProcessGraph) (k : ℕ) (s : Stream) → IsProcessGraph g → slice_get g.streams k ≡ Some s → IsStream g.nodes s
stream_is g k s is at = subst (IsStream g.nodes) (get_or_from_slice_get g.streams k s s at) (is.joins k s (slice_get_within g.streams k s at))

decided : (g : ProcessGraph) (chosen : List Bool) (j : ℕ) (t : Stream) → IsProcessGraph g → slice_get (with_meters chosen g.streams) j ≡ Some t
    → (side : List Bool) × IsReach (ends_of (unmeasured_but j) (with_meters chosen g.streams)) g.nodes t.from side
    × IsDecidedBy (metered_graph g chosen) j t side
decided g chosen j t is at =
    let whole = metered_is g chosen is in
    let (side, reach) = some_reach (with_meters chosen g.streams) g.nodes (unmeasured_but j) t.from (stream_is (metered_graph g chosen) j t whole at).from
    (λ k u here. stream_is (metered_graph g chosen) k u whole here) in
    (side, reach, reach_decides (metered_graph g chosen) j t side whole at reach)

-- the others that stay unmeasured
but_down : (chosen : List Bool) (j k : ℕ) (s : Stream) → unmeasured_but j k (metered (get_or chosen k false) s) ≡ true → except j (stays_unmeasured chosen) k s ≡ true
but_down chosen j k s ok =
    let parts = and_parts (unmeasured k (metered (get_or chosen k false) s)) (not (k == j)) ok in
    and_from (stays_unmeasured chosen k s) (not (k == j)) (stays_from chosen k s parts.0) parts.1

but_up : (chosen : List Bool) (j k : ℕ) (s : Stream) → except j (stays_unmeasured chosen) k s ≡ true → unmeasured_but j k (metered (get_or chosen k false) s) ≡ true
but_up chosen j k s ok =
    let parts = and_parts (stays_unmeasured chosen k s) (not (k == j)) ok in
    and_from (unmeasured k (metered (get_or chosen k false) s)) (not (k == j)) (stays_bare chosen k s parts.0) parts.1

pub suffices_is : SufficesLaw
suffices_is g chosen is choice = (
  (λ suffices j s at ok (steps, w).
      let same = stays_same chosen j s ok in
      let there : slice_get (with_meters chosen g.streams) j ≡ Some s = metered_there chosen g.streams j s at ∙ ap (λ (u : Stream). Some u) same in
      let (side, reach, by) = decided g chosen j s is there in
      let class = suffices j s there (not-true (is_measured s) (and_parts (unmeasured j s) (not (get_or chosen j false)) ok).0) in
      let out = by.determined.0 class.2.1 in
      let inside = reach.whole s.to (steps, walk_up (except j (stays_unmeasured chosen)) (unmeasured_but j) chosen g.streams s.from s.to steps (but_up chosen j) w) in
      cc (sym out ∙ inside)),
  (λ acyclic j t at bare.
      let (side, reach, by) = decided g chosen j t is at in
      let from = metered_from chosen g.streams j t at in
      let out : is_in side t.to ≡ false = elim (cases_Bool (is_in side t.to)) [
        | inr off ↦ off
        | inl on ↦
            let r = reach.reached t.to on in
            let ok = stays_from chosen j from.s (ap (λ (u : Stream). unmeasured j u) (sym from.is) ∙ not_from_false (is_measured t) bare) in
            let same : t ≡ from.s = from.is ∙ stays_same chosen j from.s ok in
            let w : Reaches (ends_of (except j (stays_unmeasured chosen)) g.streams) t.from t.to =
            (r.0, walk_down (unmeasured_but j) (except j (stays_unmeasured chosen)) chosen g.streams t.from t.to r.0 (but_down chosen j) r.1) in
            absurd (acyclic j from.s from.at ok (subst (λ (u : Stream). Reaches (ends_of (except j (stays_unmeasured chosen)) g.streams) u.from u.to) same w))
      ] in
      (t, at, (no_meas t bare, by.determined.1 out))),
)
