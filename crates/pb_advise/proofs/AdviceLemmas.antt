-- The advice is the cheapest metering, and there is one.
use Rattle.std.proofs.Common.{◌≡◌, ◌≢◌, ◌∙◌, ℕ, suc, ◌+◌, ℤ, ◌≤ℤ◌, Bool, true, false, not, ◌==◌, List, [], ◌∷◌, map, slice_get, get_or, drop, ap, ap₂, sym, refl, subst, arith}
use Rattle.std.specs.List.{AllByRecursion}
use Rattle.std.proofs.lemmas.Bool.{and_parts, and_from, not_from_false, ne_eqb}
use Rattle.pb_fixed.specs.Sums.{item}
use Rattle.pb_graph.specs.declared.records.Stream.{Stream}
use Rattle.pb_graph.specs.declared.records.Step.{Step}
use Rattle.pb_graph.specs.ProcessGraph.{ProcessGraph}
use Rattle.pb_graph.specs.Walk.{ends_of, unmeasured, unmeasured_but, Walks}
use Rattle.pb_graph.specs.Path.{IsPath}
use Rattle.pb_graph.specs.Certificates.{GoesRound}
use Rattle.pb_graph.proofs.WalkLemmas.{some_same, stream_of, reach_back, walk_more}
use Rattle.pb_forest.specs.Laws.{IsAcyclic}
use Rattle.pb_forest.proofs.ForestLaws.{part_law, unique_law}
use Rattle.pb_advise.specs.declared.advice.Meter.{Meter}
use Rattle.pb_advise.specs.Choice.{stays_unmeasured, cost_of}
use Rattle.pb_advise.specs.Advice.{precedes, IsAdvisedChoice, streams_of, metered_streams, IsMeter, IsShown, ShowsChoice}
use Rattle.pb_advise.specs.Order.{marked_from}
use Rattle.pb_advise.specs.Laws.{CheapestLaw, OneAdviceLaw}
use Rattle.pb_advise.proofs.CycleLemmas.{both_all, cycles_is}
use Rattle.pb_advise.proofs.MeteredLemmas.{suffices_is}
use Rattle.pb_advise.proofs.PrecedesLemmas.{stays_before, stays_says, chosen_joined, stays_acyclic, one_choice, precedes_costs}
use Rattle.pb_advise.proofs.RoundLemmas.{goes_round, round_of}

-- ---- the cycle of a meter
walk_shows : (costs : List ℤ) (ss : List Stream) (chosen : List Bool) (j : ℕ) (a b : ℕ) (steps : List Step) → Walks (ends_of (stays_before costs chosen j) ss) a steps b
    → AllByRecursion (λ (t : Step). get_or chosen t.stream false ≡ false) steps × AllByRecursion (λ (t : Step). item costs j ≤ℤ item costs t.stream) steps
walk_shows costs ss chosen j a b [] w = (tt, tt)
walk_shows costs ss chosen j a b (t ∷ rest) (c, e, w) =
    let (s, at, ok, goes) = stream_of (stays_before costs chosen j) ss t (a, c) e in
    let parts = and_parts (stays_unmeasured chosen t.stream s) (precedes costs j t.stream s) ok in
    let more = walk_shows costs ss chosen j c b rest w in
    (((stays_says chosen t.stream s parts.0).1, more.0), (precedes_costs costs j t.stream s parts.1, more.1))

weaker : {A : Type 0} (P Q : A → Type 0) (xs : List A) → ((x : A) → P x → Q x) → AllByRecursion P xs → AllByRecursion Q xs
weaker P Q [] f all = tt
weaker P Q (x ∷ xs) f all = (f x all.0, weaker P Q xs f all.1)

-- streams that stay unmeasured and precede a chosen one are other unmeasured streams
other_bare : (costs : List ℤ) (chosen : List Bool) (j k : ℕ) (t : Stream) → get_or chosen j false ≡ true → stays_before costs chosen j k t ≡ true → unmeasured_but j k t ≡ true
other_bare costs chosen j k t on both =
    let mine = stays_says chosen k t (and_parts (stays_unmeasured chosen k t) (precedes costs j k t) both).0 in
    let other : k ≢ j = λ z. cc (sym mine.1 ∙ ap (λ (i : ℕ). get_or chosen i false) z ∙ on) in
    and_from (unmeasured k t) (not (k == j)) mine.0 (not_from_false (k == j) (ne_eqb k j other))

pub shows : (g : ProcessGraph) (costs : List ℤ) (chosen : List Bool) (meter : Meter) → IsAdvisedChoice g costs chosen
    → get_or chosen meter.stream false ≡ true → IsMeter g costs chosen meter → IsShown g costs chosen meter
shows g costs chosen meter advised on is =
    let ss = g.streams in
    let j = meter.stream in
    let cycle = is.cycle in
    let s = cycle.s in
    let before = stays_before costs chosen j in
    let joined = reach_back before ss s.from s.to (chosen_joined g costs chosen j s advised cycle.at on) in
    let part = part_law ss (stays_unmeasured chosen) before g.nodes s.to s.from cycle.back (stays_acyclic g costs chosen advised)
    (λ k t at both. (and_parts (stays_unmeasured chosen k t) (precedes costs j k t) both).0) cycle.path joined in
    let bare : IsPath (ends_of (unmeasured_but j) ss) g.nodes ss s.to cycle.back s.from = record {
      walk = walk_more before (unmeasured_but j) ss s.to s.from cycle.back (λ k t at both. other_bare costs chosen j k t on both) part.walk;
      once = part.once;
      last = part.last;
    } in
    let facts = walk_shows costs ss chosen j s.to s.from cycle.back part.walk in
    let Stays : Step → Type 0 = λ t. t.stream ≢ j → get_or chosen t.stream false ≡ false in
    let Dear : Step → Type 0 = λ t. t.stream ≢ j → meter.cost ≤ℤ item costs t.stream in
    let stay : AllByRecursion Stays (round_of j cycle.back) =
    ((λ ne. absurd (ne refl)), weaker (λ (t : Step). get_or chosen t.stream false ≡ false) Stays cycle.back (λ t h ne. h) facts.0) in
    let dear : AllByRecursion Dear (round_of j cycle.back) = (
      (λ ne. absurd (ne refl)),
      weaker (λ (t : Step). item costs j ≤ℤ item costs t.stream) Dear cycle.back (λ t h ne. subst (λ (z : ℤ). z ≤ℤ item costs t.stream) (sym is.cost) h) facts.1,
    ) in
    record {
      cost = is.cost;
      round = subst (λ (steps : List Step). GoesRound g j steps) (sym cycle.round) (goes_round g j s cycle.back cycle.at bare);
      stay = subst (λ (steps : List Step). AllByRecursion Stays steps) (sym cycle.round) stay;
      dear = subst (λ (steps : List Step). AllByRecursion Dear steps) (sym cycle.round) dear;
    }

-- ---- the meters are of chosen streams
pub listed_marked : (i : ℕ) (marks whole : List Bool) → ((k : ℕ) → get_or whole (i + k) false ≡ get_or marks k false)
    → AllByRecursion (λ (j : ℕ). get_or whole j false ≡ true) (marked_from i marks)
listed_marked i [] whole same = tt
listed_marked i (true ∷ marks) whole same =
    (ap (λ (n : ℕ). get_or whole n false) (omega arith) ∙ same 0, listed_marked (i + 1) marks whole (λ k. ap (λ (n : ℕ). get_or whole n false) (omega arith) ∙ same (suc k)))
listed_marked i (false ∷ marks) whole same = listed_marked (i + 1) marks whole (λ k. ap (λ (n : ℕ). get_or whole n false) (omega arith) ∙ same (suc k))

of_mapped : {A B : Type 0} (f : A → B) (P : B → Type 0) (xs : List A) → AllByRecursion P (map f xs) → AllByRecursion (λ x. P (f x)) xs
of_mapped f P [] all = tt
of_mapped f P (x ∷ xs) all = (all.0, of_mapped f P xs all.1)

pub all_marked : (chosen : List Bool) → AllByRecursion (λ (j : ℕ). get_or chosen j false ≡ true) (streams_of chosen)
all_marked chosen = listed_marked 0 chosen chosen (λ k. ap (λ (n : ℕ). get_or chosen n false) (omega arith))

-- each meter is of a chosen stream
pub of_chosen : (chosen : List Bool) (meters : List Meter) → metered_streams meters ≡ streams_of chosen
    → AllByRecursion (λ (m : Meter). get_or chosen m.stream false ≡ true) meters
of_chosen chosen meters named =
    of_mapped (λ (m : Meter). m.stream) (λ (j : ℕ). get_or chosen j false ≡ true) meters
    (subst (λ (l : List ℕ). AllByRecursion (λ (j : ℕ). get_or chosen j false ≡ true) l) (sym named) (all_marked chosen))

pub cheapest_is : CheapestLaw
cheapest_is g costs advice is are advice_is =
    let chosen = advice_is.chosen in
    let advised = advice_is.advised in
    let marked = of_chosen chosen advice.meter advice_is.named in
    let shown : ShowsChoice g costs chosen advice = record {
      choice = advised.choice;
      named = advice_is.named;
      total = advice_is.total;
      shown = both_all (λ (m : Meter). get_or chosen m.stream false ≡ true) (IsMeter g costs chosen) (IsShown g costs chosen) advice.meter
          (λ m on meter. shows g costs chosen m advised on meter) marked advice_is.meters;
    } in
    record {
      chosen = chosen;
      shows = shown;
      suffices = (suffices_is g chosen is advised.choice).1 (stays_acyclic g costs chosen advised);
      least = λ other choice enough. cycles_is g costs chosen other advice is are shown choice enough;
    }

-- ---- there is one
meter_same : (g : ProcessGraph) (costs : List ℤ) (chosen : List Bool) (x y : Meter) → IsAcyclic g.streams (stays_unmeasured chosen) → x.stream ≡ y.stream
    → IsMeter g costs chosen x → IsMeter g costs chosen y → x ≡ y
meter_same g costs chosen x y acyclic same a b =
    let r = a.cycle in
    let q = b.cycle in
    let ends = ends_of (stays_unmeasured chosen) g.streams in
    let is : r.s ≡ q.s = some_same (sym r.at ∙ ap (λ (k : ℕ). slice_get g.streams k) same ∙ q.at) in
    let path : IsPath ends g.nodes g.streams r.s.to q.back r.s.from = subst (λ (s : Stream). IsPath ends g.nodes g.streams s.to q.back s.from) (sym is) q.path in
    let back : r.back ≡ q.back = unique_law g.streams (stays_unmeasured chosen) g.nodes r.s.to r.s.from r.back q.back acyclic r.path path in
    let cost : x.cost ≡ y.cost = a.cost ∙ ap (λ (k : ℕ). item costs k) same ∙ sym b.cost in
    let steps : x.steps ≡ y.steps = r.round ∙ ap₂ round_of same back ∙ sym q.round in
    λ i. record { stream = same i; cost = cost i; steps = steps i }

meters_same : (g : ProcessGraph) (costs : List ℤ) (chosen : List Bool) (xs ys : List Meter) → IsAcyclic g.streams (stays_unmeasured chosen)
    → metered_streams xs ≡ metered_streams ys → AllByRecursion (IsMeter g costs chosen) xs → AllByRecursion (IsMeter g costs chosen) ys → xs ≡ ys
meters_same g costs chosen [] [] acyclic same a b = refl
meters_same g costs chosen [] (y ∷ ys) acyclic same a b = cc same
meters_same g costs chosen (x ∷ xs) [] acyclic same a b = cc same
meters_same g costs chosen (x ∷ xs) (y ∷ ys) acyclic same a b =
    let first : x.stream ≡ y.stream = ap (λ (l : List ℕ). get_or l 0 0) same in
    let rest : metered_streams xs ≡ metered_streams ys = ap (λ (l : List ℕ). drop 1 l) same in
    ap₂ (λ (m : Meter) (l : List Meter). m ∷ l) (meter_same g costs chosen x y acyclic first a.0 b.0) (meters_same g costs chosen xs ys acyclic rest a.1 b.1)

pub one_advice : OneAdviceLaw
one_advice g costs one other x y =
    let chosen = one_choice g costs x.chosen y.chosen x.advised y.advised in
    let named : metered_streams one.meter ≡ metered_streams other.meter = x.named ∙ ap streams_of chosen ∙ sym y.named in
    let total : one.total ≡ other.total = x.total ∙ ap (cost_of costs) chosen ∙ sym y.total in
    let theirs : AllByRecursion (IsMeter g costs x.chosen) other.meter = subst (λ (l : List Bool). AllByRecursion (IsMeter g costs l) other.meter) (sym chosen) y.meters in
    let meters = meters_same g costs x.chosen one.meter other.meter (stays_acyclic g costs x.chosen x.advised) named x.meters theirs in
    λ i. record { meter = meters i; total = total i }
