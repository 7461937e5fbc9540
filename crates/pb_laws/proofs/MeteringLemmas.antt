-- More meters leave what is determined determined.
use Rattle.std.proofs.Common.{◌≡◌, ◌≢◌, ◌∙◌, ◌<◌, ◌≤◌, ℕ, zero, suc, ℤ, pos, ◌+ℤ◌, ◌≤ℤ◌, Bool, true, false, true≢false, List, [], ◌∷◌, length, Option, Some, None, slice_get, refl, sym, ap, ap₂, subst, inl, inr, arith}
use Rattle.std.specs.Prelude.{IsSome, get_or, is_some, replicate, zip, if◌then◌else◌}
use Rattle.std.proofs.lemmas.Int.{ints}
use Rattle.pb_fixed.specs.Sums.{item, sum_over}
use Rattle.pb_fixed.proofs.Lists.{some_same}
use Rattle.pb_graph.specs.declared.records.Class.{Class}
use Rattle.pb_graph.specs.declared.records.Class.TheVariants.{Observable, Unobservable, Redundant, Nonredundant}
use Rattle.pb_graph.specs.declared.records.Meas.{Meas}
use Rattle.pb_graph.specs.declared.records.Stream.{Stream}
use Rattle.pb_graph.specs.ProcessGraph.{IsProcessGraph, ProcessGraph, is_measured}
use Rattle.pb_graph.specs.Balance.{IsBalanced, brought_to, net_of}
use Rattle.pb_graph.specs.Classes.{AgreeBut, IsClassOf, IsDetermined, IsFree}
use Rattle.pb_advise.specs.declared.advice.Advice.{Advice}
use Rattle.pb_advise.specs.Advice.{IsCheapest}
use Rattle.pb_advise.specs.Choice.{AreCosts, IsChoice, Suffices, cost_of, metered_graph, with_meters}
use Rattle.pb_advise.specs.Laws.{AdviceFormLaw, CheapestLaw}
use Rattle.pb_laws.specs.Metering.{AddsMeters, IsDeterminedClass, KeepMeters, KeepsMeter, MeteredAdviceLaw, MeteredDesignLaw, MoreMetersLaw}

-- ---- the same balances
same_length : (ss ts : List Stream) → KeepMeters ss ts → length ts ≡ length ss
same_length [] [] keep = refl
same_length [] (t ∷ ts) keep = absurd keep
same_length (s ∷ ss) [] keep = absurd keep
same_length (s ∷ ss) (t ∷ ts) keep = ap suc (same_length ss ts keep.1)

same_net : (node : ℕ) (ss ts : List Stream) (flows : List ℤ) → KeepMeters ss ts → net_of node ts flows ≡ net_of node ss flows
same_net node [] [] flows keep = refl
same_net node [] (t ∷ ts) flows keep = absurd keep
same_net node (s ∷ ss) [] flows keep = absurd keep
same_net node (s ∷ ss) (t ∷ ts) [] keep = refl
same_net node (s ∷ ss) (t ∷ ts) (flow ∷ flows) keep =
    ap₂ (λ (a b : ℤ). a +ℤ b)
    (ap₂ (λ (to from : ℕ). brought_to node (let u : Stream = record { from = from; to = to; meas = None } in u) flow) keep.0.to keep.0.from)
    (same_net node ss ts flows keep.1)

pub balanced_before : (graph more : ProcessGraph) (flows : List ℤ) → AddsMeters graph more → IsBalanced more flows → IsBalanced graph flows
balanced_before graph more flows adds even = record {
  each = even.each ∙ same_length graph.streams more.streams adds.streams;
  even = λ n lt.
      sym (same_net n graph.streams more.streams flows adds.streams) ∙ even.even n (subst (λ (m : ℕ). n < m) (sym adds.nodes) lt);
}

-- a stream at a place, with more meters
kept_at : (ss ts : List Stream) (k : ℕ) (s : Stream) → KeepMeters ss ts → slice_get ss k ≡ Some s → (t : Stream) × (slice_get ts k ≡ Some t) × KeepsMeter s t
kept_at [] ts k s keep at = cc at
kept_at (s ∷ ss) [] k one keep at = absurd keep
kept_at (s ∷ ss) (t ∷ ts) zero one keep at = (t, refl, subst (λ (u : Stream). KeepsMeter u t) (some_same at) keep.0)
kept_at (s ∷ ss) (t ∷ ts) (suc k) one keep at = kept_at ss ts k one keep.1 at

back_at : (ss ts : List Stream) (k : ℕ) (t : Stream) → KeepMeters ss ts → slice_get ts k ≡ Some t → (s : Stream) × (slice_get ss k ≡ Some s) × KeepsMeter s t
back_at [] [] k t keep at = cc at
back_at [] (u ∷ ts) k t keep at = absurd keep
back_at (s ∷ ss) [] k t keep at = cc at
back_at (s ∷ ss) (u ∷ ts) zero t keep at = (s, refl, subst (λ (v : Stream). KeepsMeter s v) (some_same at) keep.0)
back_at (s ∷ ss) (u ∷ ts) (suc k) t keep at = back_at ss ts k t keep.1 at

-- ---- determined streams
stays_determined : (graph more : ProcessGraph) (j : ℕ) → AddsMeters graph more → IsDetermined graph j → IsDetermined more j
stays_determined graph more j adds determined xs ys one other agree =
    determined xs ys (balanced_before graph more xs adds one) (balanced_before graph more ys adds other)
    (λ k s at apart measured.
    let (t, there, keeps) = kept_at graph.streams more.streams k s adds.streams at in
    agree k t there apart (keeps.meter measured))

not_free : (graph : ProcessGraph) (j : ℕ) → IsDetermined graph j → IsFree graph j → ⊥
not_free graph j determined (xs, ys, apart) = apart.differ (determined xs ys apart.one apart.other apart.agree)

is_determined : (graph : ProcessGraph) (j : ℕ) (class : Class) → IsClassOf graph j class → IsDeterminedClass class → IsDetermined graph j
is_determined graph j Observable of class = of.2.1
is_determined graph j Redundant of class = of.2.1
is_determined graph j Unobservable of class = absurd class
is_determined graph j Nonredundant of class = absurd class

of_determined : (graph : ProcessGraph) (j : ℕ) (class : Class) → IsClassOf graph j class → IsDetermined graph j → IsDeterminedClass class
of_determined graph j Observable of determined = tt
of_determined graph j Redundant of determined = tt
of_determined graph j Unobservable of determined = not_free graph j determined of.2.1
of_determined graph j Nonredundant of determined = not_free graph j determined of.2.1

pub more_meters : MoreMetersLaw
more_meters graph more j class other adds of determined of_more =
    of_determined more j other of_more (stays_determined graph more j adds (is_determined graph j class of determined))

-- ---- after the advised metering
bare_before : (before after : Stream) → KeepsMeter before after → after.meas ≡ None → is_measured before ≡ false
bare_before before after keeps bare = by (is_some before.meas) refl
  where
    by : (b : Bool) → is_some before.meas ≡ b → is_some before.meas ≡ false
    by true is = absurd (true≢false (sym (keeps.meter is) ∙ ap is_some bare))
    by false is = is

-- a stream without meter is observable
observable_after : (graph more : ProcessGraph) (costs : List ℤ) (advice : Advice) (j : ℕ) (stream : Stream) → (cheapest : IsCheapest graph costs advice)
    → AddsMeters (metered_graph graph cheapest.chosen) more → slice_get more.streams j ≡ Some stream → stream.meas ≡ None → IsDetermined more j
observable_after graph more costs advice j stream cheapest adds at bare =
    let metered = metered_graph graph cheapest.chosen in
    let (before, there, keeps) = back_at metered.streams more.streams j stream adds.streams at in
    let of = cheapest.suffices j before there (bare_before before stream keeps bare) in
    stays_determined metered more j adds (is_determined metered j Observable of tt)

pub metered_design : MeteredDesignLaw
metered_design graph more costs advice j class cheapest adds of is =
    let (stream, at, (bare, free)) = subst (IsClassOf more j) is of in
    not_free more j (observable_after graph more costs advice j stream cheapest adds at bare) free

-- ---- the choice of nothing
abbrev nothing : List Stream → List Bool
nothing [] = []
nothing (s ∷ ss) = false ∷ nothing ss

nothing_long : (ss : List Stream) → length (nothing ss) ≡ length ss
nothing_long [] = refl
nothing_long (s ∷ ss) = ap suc (nothing_long ss)

nothing_at : (ss : List Stream) (k : ℕ) → get_or (nothing ss) k false ≡ false
nothing_at [] k = refl
nothing_at (s ∷ ss) zero = refl
nothing_at (s ∷ ss) (suc k) = nothing_at ss k

nothing_metered : (ss : List Stream) → with_meters (nothing ss) ss ≡ ss
nothing_metered [] = refl
nothing_metered (s ∷ ss) = ap (λ (ts : List Stream). s ∷ ts) (nothing_metered ss)

nothing_costs : (costs : List ℤ) (ss : List Stream) → cost_of costs (nothing ss) ≡ pos 0
nothing_costs [] ss = refl
nothing_costs (c ∷ costs) [] = refl
nothing_costs (c ∷ costs) (s ∷ ss) = let rest = nothing_costs costs ss in omega (arith, ints, rest)

no_choice : (graph : ProcessGraph) → IsChoice graph (nothing graph.streams)
no_choice graph = record {
  each = nothing_long graph.streams;
  bare = λ k stream at chosen. absurd (true≢false (sym chosen ∙ nothing_at graph.streams k));
}

no_meas : (o : Option Meas) → is_some o ≡ false → o ≡ None
no_meas None is = refl
no_meas (Some m) is = cc is

nothing_suffices : (graph more : ProcessGraph) (costs : List ℤ) (advice : Advice) → (cheapest : IsCheapest graph costs advice) → AddsMeters (metered_graph graph cheapest.chosen) more
    → Suffices more (nothing more.streams)
nothing_suffices graph more costs advice cheapest adds =
    subst (λ (ss : List Stream). let g : ProcessGraph = record { nodes = more.nodes; streams = ss } in
    (j : ℕ) (stream : Stream) → slice_get g.streams j ≡ Some stream → is_measured stream ≡ false → IsClassOf g j Observable)
    (sym (nothing_metered more.streams))
    (λ j stream at bare.
    let none = no_meas stream.meas bare in
    (stream, at, (none, observable_after graph more costs advice j stream cheapest adds at none)))

pub metered_advice : CheapestLaw → AdviceFormLaw → MeteredAdviceLaw
metered_advice cheapest_of form graph more costs other advice further cheapest adds limits each is =
    let most = (cheapest_of more other further limits each is).least (nothing more.streams) (no_choice more) (nothing_suffices graph more costs advice cheapest adds) in
    let least = (form more other further limits each is).least in
    let none = nothing_costs other more.streams in
    omega (arith, ints, most, least, none)
