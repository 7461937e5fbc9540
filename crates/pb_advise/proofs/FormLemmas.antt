-- An advice refers only to streams of its graph, and its numbers are within their ranges.
use Rattle.std.proofs.Common.{◌≡◌, suc, ◌*◌, ◌<◌, ℤ, pos, ◌≤ℤ◌, Bool, true, false, List, [], ◌∷◌, length, All, get_or, subst, sym, arith}
use Rattle.std.proofs.lemmas.Int.{ints}
use Rattle.std.proofs.lemmas.List.Elements.{All-from_recursion}
use Rattle.std.proofs.lemmas.Option.{slice_get_within}
use Rattle.pb_graph.specs.declared.records.Class.TheVariants.{Unobservable}
use Rattle.pb_graph.specs.declared.records.Witness.TheVariants.{Cycle}
use Rattle.pb_graph.specs.ProcessGraph.{ProcessGraph}
use Rattle.pb_graph.proofs.CertificateLemmas.{witness_within}
use Rattle.pb_graph.proofs.BalanceLaws.{no_meas}
use Rattle.pb_advise.specs.declared.advice.Meter.{Meter}
use Rattle.pb_advise.specs.Choice.{AreCosts, IsCost, cost_of, most_cost}
use Rattle.pb_advise.specs.Advice.{IsAdvisedChoice, IsMeter, IsMeterWithin}
use Rattle.pb_advise.specs.Laws.{AdviceFormLaw}
use Rattle.pb_advise.proofs.AdviceLemmas.{of_chosen, shows}
use Rattle.pb_advise.proofs.CycleLemmas.{both_all}

-- the cost of a choice
cost_within : (costs : List ℤ) (chosen : List Bool) → All IsCost costs → (pos 0 ≤ℤ cost_of costs chosen) × (cost_of costs chosen ≤ℤ pos (length costs * most_cost))
cost_within [] chosen within = (omega (arith, ints), omega (arith, ints))
cost_within (c ∷ costs) [] within = (omega (arith, ints), omega (arith, ints))
cost_within (c ∷ costs) (true ∷ chosen) within =
    let here = within 0 c (omega arith) in
    let low = here.0 in
    let high = here.1 in
    let rest = cost_within costs chosen (λ k d lt. within (suc k) d (omega (arith, lt))) in
    let least = rest.0 in
    let most = rest.1 in
    (omega (arith, ints, low, least), omega (arith, ints, high, most))
cost_within (c ∷ costs) (false ∷ chosen) within =
    let rest = cost_within costs chosen (λ k d lt. within (suc k) d (omega (arith, lt))) in
    let least = rest.0 in
    let most = rest.1 in
    (omega (arith, ints, least), omega (arith, ints, most))

-- a meter of the advised choice
meter_within : (g : ProcessGraph) (costs : List ℤ) (chosen : List Bool) (meter : Meter) → AreCosts g costs → IsAdvisedChoice g costs chosen
    → get_or chosen meter.stream false ≡ true → IsMeter g costs chosen meter → IsMeterWithin g meter
meter_within g costs chosen meter are advised on is =
    let cycle = is.cycle in
    let shown = shows g costs chosen meter advised on is in
    let bare = no_meas cycle.s (advised.choice.bare meter.stream cycle.s cycle.at on) in
    let there : meter.stream < length g.streams = slice_get_within g.streams meter.stream cycle.s cycle.at in
    let many = are.each in
    record {
      stream = there;
      cost = subst IsCost (sym is.cost) (are.within meter.stream (pos 0) (omega (arith, there, many)));
      steps = witness_within g meter.stream (record { class = Unobservable; witness = Cycle meter.steps }) (cycle.s, cycle.at, (bare, shown.round));
    }

pub form_is : AdviceFormLaw
form_is g costs advice is are advice_is =
    let chosen = advice_is.chosen in
    let cost = cost_within costs chosen are.within in
    let least = cost.0 in
    let most = cost.1 in
    let total = advice_is.total in
    let many = are.each in
    let few = is.few_streams in
    record {
      meters = All-from_recursion (IsMeterWithin g) advice.meter
          (both_all (λ (m : Meter). get_or chosen m.stream false ≡ true) (IsMeter g costs chosen) (IsMeterWithin g) advice.meter
          (λ m on meter. meter_within g costs chosen m are advice_is.advised on meter) (of_chosen chosen advice.meter advice_is.named) advice_is.meters);
      least = omega (arith, ints, least, total);
      most = omega (arith, ints, most, total, many, few);
    }
